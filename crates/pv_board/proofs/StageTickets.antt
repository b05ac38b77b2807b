-- What a shared board says of a stage that is settled.
use Rattle.std.proofs.Common.{◌≡◌, ℕ, zero, suc, Bool, Some, List, length, refl, sym, ap, ◌∙◌, arith, subst}
use Rattle.std.specs.Prelude.{IsSome, IsTrue}
use Rattle.pv_interval.specs.Bounds.{Bounds}
use Rattle.pv_tree.specs.Trees.{Tree, leaf, subtree, box_of}
use Rattle.pv_tree.specs.Stages.{Rule, full_of}
use Rattle.pv_board.specs.declared.mark.Mark.{Mark}
use Rattle.pv_board.specs.Marks.{holds, marked}
use Rattle.pv_board.specs.Core.{Core, IsCore, IsOpening}
use Rattle.pv_board.specs.Children.{AreHandedOut}
use Rattle.pv_board.specs.declared.ticket.Handed.{Handed}
use Rattle.pv_board.specs.declared.ticket.Handed.TheVariants.{Taken, Stale, Short}
use Rattle.pv_board.specs.Events.{is_current, free_units, left_over, IsHandedIn}
use Rattle.pv_board.proofs.Fulls.{full_at, grows_box}
use Rattle.pv_board.proofs.Marked.{unmarked}
use Rattle.pv_board.proofs.Settling.{is_equal}

pub handed_children : (old new : Core) (t : Mark) (s : Tree) (children : List Mark) (r : Handed) → IsHandedIn old new t s children r → AreHandedOut t.path s children r
handed_children old new t s children Taken h = record { count = free_units old.stopped (left_over old t s); are = h.2.first }
handed_children old new t s children Stale h = h.2
handed_children old new t s children Short h = h.3

-- a current ticket's path is an open leaf
held_open : (rule : Rule) (depth : ℕ) (root : List Bounds) (opening : Tree) (budget limit : ℕ) (c : Core) (p : List Bool) (n : ℕ) → IsCore rule depth root opening budget limit c → holds c.marks p ≡ suc n → subtree c.tree p ≡ Some leaf
held_open rule depth root opening budget limit c p n h e = by_marked (marked c.marks p) refl
  where
    by_marked : (k : ℕ) → marked c.marks p ≡ k → subtree c.tree p ≡ Some leaf
    by_marked zero z = let w = unmarked c.marks p z in absurd (omega (arith, w, e))
    by_marked (suc k) z = h.are_open p (omega (arith, z))

-- a stage is taken where its ticket is current
taken_current : (old new : Core) (t : Mark) (s : Tree) (children : List Mark) (r : Handed) → IsHandedIn old new t s children r → r ≡ Taken → IsTrue (is_current old t)
taken_current old new t s children Taken h e = h.0
taken_current old new t s children Stale h e = cc
taken_current old new t s children Short h e = cc

-- and the full tree has there the full tree of the leaf
pub current_full : (rule : Rule) (depth dims : ℕ) (root : List Bounds) (opening : Tree) (budget limit : ℕ) (c new : Core) (t : Mark) (b : List Bounds) (s : Tree) (children : List Mark) (r : Handed)
    → IsOpening rule depth dims root opening → IsCore rule depth root opening budget limit c → IsHandedIn c new t s children r → r ≡ Taken → b ≡ box_of root (full_of rule depth root opening 0) t.path
    → subtree (full_of rule depth root opening 0) t.path ≡ Some (full_of rule depth b leaf (length t.path))
current_full rule depth dims root opening budget limit c new t b s children r o h handed taken at_root =
    let full = full_of rule depth root opening 0 in
    let is : holds c.marks t.path ≡ suc t.grant = is_equal (holds c.marks t.path) (suc t.grant) (sym (taken_current c new t s children r handed taken)) in
    let open_leaf : subtree c.tree t.path ≡ Some leaf = held_open rule depth root opening budget limit c t.path t.grant h is in
    let there : IsSome (subtree c.tree t.path) = subst IsSome (sym open_leaf) refl in
    let same : box_of root c.tree t.path ≡ b = grows_box root c.tree full t.path h.stage.grows there ∙ sym at_root in
    full_at rule depth dims o.rule_fits t.path opening c.tree root 0 (length t.path) o.box o.places o.paves h.stage.grown h.stage.grows open_leaf (omega arith)
    ∙ ap (λ (x : List Bounds). Some (full_of rule depth x leaf (length t.path))) same
