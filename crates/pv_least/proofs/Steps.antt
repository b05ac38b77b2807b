-- One step of a search: what it asks of the leaf that comes next, and that it brings the end nearer.
use Rattle.std.proofs.Common.{◌≡◌, ℕ, ◌+◌, ◌-◌, ◌<◌, ◌≤◌, Bool, IsTrue, List, length, refl, sym, ◌∙◌, ap, subst, arith}
use Rattle.std.specs.Prelude.{Option}
use Rattle.pv_num.specs.Extended.{Extended}
use Rattle.pv_interval.specs.Bounds.{Bounds}
use Rattle.pv_interval.specs.Points.{Point}
use Rattle.pv_box.specs.Boxes.{IsBox}
use Rattle.pv_expr.specs.Terms.{Term}
use Rattle.pv_tree.specs.Trees.{leaf, Fits, CutsAbove}
use Rattle.pv_tree.specs.Stages.{Rule}
use Rattle.pv_tree.specs.Laws.{IsLawful}
use Rattle.pv_tree.specs.Holes.{Growing, settle_next, pass_next, Takes, IsNext, IsFirstBox}
use Rattle.pv_tree.specs.declared.outcome.Outcome.{Outcome}
use Rattle.pv_tree.specs.declared.outcome.Outcome.TheVariants.{Removed, Inner, Small, Cut}
use Rattle.pv_tree.proofs.Wholes.{within_length}
use Rattle.pv_tree.proofs.StageLaws.{depth_from, step_stage}
use Rattle.pv_tree.proofs.KnownLeaves.{next_box, next_takes, next_is_leaf}
use Rattle.pv_least.specs.declared.found.Least.{Least}
use Rattle.pv_least.specs.Objectives.{low_of, admits}
use Rattle.pv_least.specs.Searches.{upper_of}
use Rattle.pv_least.specs.Running.{HasDims, IsSearch, passed_by, settled_by}
use Rattle.pv_least.proofs.Searching.{search_passes, search_settles}

-- a path from the root of all has its own steps
pub from_root : (rule : Rule) (depth : ℕ) (b : List Bounds) (p : List Bool) → rule b (depth - (0 + length p)) (0 + length p) ≡ rule b (depth - length p) (length p)
from_root rule depth b p = let same : 0 + length p ≡ length p = omega arith in ap (λ n. rule b (depth - n) n) same

fits_dims : (n : ℕ) (b : List Bounds) (o : Outcome) → Fits b o → length b ≡ n → HasDims n o
fits_dims n b Removed h e = tt
fits_dims n b (Inner to) h e = within_length to b h ∙ e
fits_dims n b (Small to) h e = within_length to b h ∙ e
fits_dims n b (Cut to v a) h e = within_length to b h.0 ∙ e

module _ (rule : Rule) (depth dims : ℕ) (inside : Point → Type 0) (laws : IsLawful rule depth dims inside) (g : Growing) (p : List Bool) (n : IsNext g p)
    (root_box : IsBox g.root) (size : length g.root ≡ dims) (b : List Bounds) (first : IsFirstBox g.holes b) where
  same : b ≡ n.hole.box
  same = next_box g p b n first

  box_size : length b ≡ dims
  box_size = ap length same ∙ n.dims ∙ size

  is_box : IsBox b
  is_box = subst IsBox (sym same) n.is_box

  module _ (o : Outcome) (is : o ≡ rule b (depth - length p) (length p)) where
    fits : Fits b o
    fits = subst (Fits b) (sym is) (laws.fits b (depth - length p) (length p) is_box box_size)

    pub has_dims : (k : ℕ) → dims ≡ k → HasDims k o
    has_dims k e = fits_dims k b o fits (box_size ∙ e)

    pub takes : Takes g.holes o
    takes =
        let few : depth ≤ 200 = laws.deep in
        next_takes g p b o n first fits
        (depth_from p o depth (depth - length p) few refl (subst (λ x. CutsAbove (depth - length p) x) (sym is) (laws.ends b (depth - length p) (length p) is_box box_size)))

  module _ (t : Term) (budget : ℕ) (l : Least) (h : IsSearch rule depth t g.root budget g l) (low : Option Extended) (low_is : low ≡ low_of t b) where
    low_there : low ≡ low_of t n.hole.box
    low_there = low_is ∙ ap (low_of t) same

    pub passes : (is_next : Bool) → is_next ≡ admits low (upper_of l.best) → (IsTrue is_next → budget ≤ l.settled) → IsSearch rule depth t g.root budget (pass_next g) (passed_by l low is_next)
    passes is_next e k =
        subst (λ x. IsSearch rule depth t g.root budget (pass_next g) (passed_by l x is_next)) (sym low_there)
        (search_passes rule depth t g.root budget g l h p n is_next (ap (λ x. admits x (upper_of l.best)) (sym low_there) ∙ sym e)
        (λ s. let w : budget ≤ l.settled = k s in let v : l.settled ≤ budget = h.within in omega arith))

    pub settles : (o : Outcome) → o ≡ rule b (depth - length p) (length p) → IsTrue (admits low (upper_of l.best)) → l.settled < budget
        → IsSearch rule depth t g.root budget (settle_next g o) (settled_by t l o)
    settles o is admitted more =
        search_settles rule depth t g.root budget g l h p n more (ap (λ x. admits x (upper_of l.best)) (sym low_there) ∙ admitted) o
        (is ∙ ap (λ x. rule x (depth - length p) (length p)) same)
        (step_stage rule depth dims inside laws leaf g.tree g.root p root_box size tt h.stage (next_is_leaf g p n))
