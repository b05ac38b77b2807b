-- What a contractor program leaves of a box. Chabert and Jaulin, "Contractor Programming" (2009).
use Rattle.std.specs.Prelude.{ℕ, zero, suc, Option, Some, None, List, [], ◌∷◌, map, slice_index_or}
use Rattle.pv_interval.specs.Bounds.{Bounds}
use Rattle.pv_box.specs.Boxes.{hull_boxes}
use Rattle.pv_box.specs.QHull.{q_hull_of}
use Rattle.pv_expr.specs.Terms.{place}
use Rattle.pv_expr.specs.declared.constraint.Relation.TheVariants.{Eq}
use Rattle.pv_hc4.specs.Chain.{chain}
use Rattle.pv_hc4.specs.Graphs.{sides_of}
use Rattle.pv_hc4.specs.Revise.{Sides, revised}
use Rattle.pv_ctc.specs.GraphLists.{GraphList}
use Rattle.pv_ctc.specs.Plans.{Plan, Plans, hc4, compose, union, qinter, fix, prop, no_plan, plan_and}

-- the constraints that the graphs stand for
abbrev pub sides_in : GraphList → List Sides
sides_in g = map sides_of g.graphs

-- constraint i of a list
abbrev pub side_at : List Sides → ℕ → Sides
side_at ss i = slice_index_or ss i (record { left = place 0; relation = Eq; right = place 0 })

-- what is left of a box by one contractor; None where nothing is
abbrev pub Effect : Type 0
Effect = List Bounds → Option (List Bounds)

-- one after another; empty where one of them is
abbrev pub in_order : List Effect → Effect
in_order [] b = Some b
in_order (f ∷ fs) b = chain (f b) (in_order fs)

-- one contractor, n times. A turn that changes nothing is the last one that matters: every further one would leave the
-- same box (`turns_stay` in proofs/Turns), so this is also "at most n turns, which end after one that changes nothing"
abbrev pub turns_of : ℕ → Effect → Effect
turns_of zero f b = Some b
turns_of (suc n) f b = chain (f b) (turns_of n f)

abbrev pub with_result : Option (List Bounds) → List (List Bounds) → List (List Bounds)
with_result None bs = bs
with_result (Some b) bs = b ∷ bs

-- what each contractor leaves of the same box, of those that leave something
abbrev pub results : List Effect → List Bounds → List (List Bounds)
results [] b = []
results (f ∷ fs) b = with_result (f b) (results fs b)

-- the hull of a box and others
abbrev pub hull_with : List Bounds → List (List Bounds) → List Bounds
hull_with b [] = b
hull_with b (c ∷ cs) = hull_with (hull_boxes b c) cs

-- the hull of boxes; None where there are none
abbrev pub hull_all : List (List Bounds) → Option (List Bounds)
hull_all [] = None
hull_all (b ∷ bs) = Some (hull_with b bs)

-- the q-hull of boxes; None where there are none, or some place has no end that lies in at least q of them
abbrev pub q_hull_all : ℕ → List (List Bounds) → Option (List Bounds)
q_hull_all q [] = None
q_hull_all q (b ∷ bs) = q_hull_of q (b ∷ bs)

-- all constraints, one after another
abbrev pub all_revised : List Sides → Effect
all_revised ss = in_order (map revised ss)

abbrev mutual
  pub contract_of : List Sides → Plan → List Bounds → Option (List Bounds)
  contract_of ss (hc4 i) b = revised (side_at ss i) b
  contract_of ss (compose ps) b = in_order (effects ss ps) b
  contract_of ss (union ps) b = hull_all (results (effects ss ps) b)
  contract_of ss (qinter q ps) b = q_hull_all q (results (effects ss ps) b)
  contract_of ss (fix n p) b = turns_of n (contract_of ss p) b
  contract_of ss (prop n) b = turns_of n (all_revised ss) b

  -- the contractor of each part
  pub effects : List Sides → Plans → List Effect
  effects ss no_plan = []
  effects ss (plan_and p ps) = contract_of ss p ∷ effects ss ps
