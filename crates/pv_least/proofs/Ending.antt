-- What a search that is over tells of the members.
use Rattle.std.proofs.Common.{◌≡◌, ℕ, List, [], length, sym, ◌∙◌, ap, subst}
use Rattle.std.specs.Prelude.{IfSome}
use Rattle.pv_interval.specs.Bounds.{Bounds}
use Rattle.pv_interval.specs.Points.{Point}
use Rattle.pv_box.specs.Boxes.{IsBox}
use Rattle.pv_expr.specs.Terms.{Term}
use Rattle.pv_expr.specs.Systems.{IsOver}
use Rattle.pv_tree.specs.Trees.{leaf, Paves}
use Rattle.pv_tree.specs.Stages.{Rule, full_of}
use Rattle.pv_tree.specs.Sets.{IsSound}
use Rattle.pv_tree.specs.Laws.{IsLawful}
use Rattle.pv_tree.specs.Holes.{Growing}
use Rattle.pv_tree.proofs.StageLaws.{grows_paves, full_of_paves, stage_sound}
use Rattle.pv_least.specs.declared.found.Least.{Least}
use Rattle.pv_least.specs.Searches.{lower_of}
use Rattle.pv_least.specs.Running.{IsSearch}
use Rattle.pv_least.specs.Promises.{NoneIsBelow, IsWitness}
use Rattle.pv_least.proofs.Searching.{best_now, last_tree, last_lower}
use Rattle.pv_least.proofs.Members.{none_below, best_witness}

module _ (rule : Rule) (depth dims : ℕ) (inside : Point → Type 0) (laws : IsLawful rule depth dims inside) (t : Term) (n : ℕ) (over : IsOver n t) (root : List Bounds) (is_box : IsBox root)
    (size : length root ≡ dims) (places : length root ≡ n) (budget : ℕ) (g : Growing) (l : Least) (h : IsSearch rule depth t root budget g l) where
  paves : Paves root g.tree
  paves = grows_paves root g.tree (full_of rule depth root leaf 0) h.stage.grows (full_of_paves rule depth dims inside laws root leaf 0 is_box size tt)

  sound : IsSound inside root g.tree
  sound = stage_sound rule depth dims inside laws root leaf g.tree is_box size tt tt h.stage

  pub lower_holds : g.holes ≡ [] → NoneIsBelow inside t root l.lower
  lower_holds none =
      subst (NoneIsBelow inside t root) (sym (last_lower rule depth t root budget g l h none ∙ ap (lower_of t root) (sym (last_tree rule depth t root budget g l h none))))
      (none_below inside n t over root g.tree paves sound)

  pub witness_holds : IfSome l.best (IsWitness inside t root)
  witness_holds =
      subst (λ o. IfSome o (IsWitness inside t root)) (best_now rule depth t root budget g l h)
      (best_witness inside n t over root g.tree places paves sound)
