-- How what is known goes on from leaf to leaf.
use Rattle.std.specs.Prelude.{◌≡◌, ℕ, ◌+◌, ◌-◌, ◌*◌, ◌≤◌, Bool, true, false, not, ◌&&◌, List, [], ◌∷◌, ◌++◌, length, Option, Some, None}
use Rattle.pv_num.specs.Extended.{Extended, PosInf}
use Rattle.pv_num.specs.Order.{lt, lesser}
use Rattle.pv_interval.specs.Bounds.{Bounds}
use Rattle.pv_expr.specs.Terms.{Term}
use Rattle.pv_tree.specs.Trees.{leaf, counts_of, settled_of}
use Rattle.pv_tree.specs.Stages.{Rule, IsStage}
use Rattle.pv_tree.specs.Holes.{Hole, Growing}
use Rattle.pv_tree.specs.declared.outcome.Outcome.{Outcome}
use Rattle.pv_tree.specs.declared.outcome.Outcome.TheVariants.{Removed, Inner, Small, Cut}
use Rattle.pv_least.specs.declared.candidate.Candidate.{Candidate}
use Rattle.pv_least.specs.declared.candidate.Candidate.TheVariants.{Low, Centre, High}
use Rattle.pv_least.specs.declared.found.BestPoint.{BestPoint}
use Rattle.pv_least.specs.declared.found.Least.{Least}
use Rattle.pv_least.specs.Objectives.{low_of}
use Rattle.pv_least.specs.Searches.{Leaf, open_leaf, leaves_of, lows, points, least_of, first_least, better, candidate, upper_of, first_admitted, searched}

abbrev pub nothing_found : Least
nothing_found = record { lower = PosInf; best = None; settled = 0; done = true }

abbrev pub lowered : Extended → Option Extended → Extended
lowered lower None = lower
lowered lower (Some low) = lesser lower low

-- a bound is less than that of the best point, or there is none
abbrev pub beats : Extended → Option BestPoint → Bool
beats u None = true
beats u (Some p) = lt u p.upper

abbrev pub tried_at : Term → List Bounds → Candidate → Option BestPoint → Option BestPoint
tried_at t to c best = better best (candidate t to c)

abbrev pub tried : Term → List Bounds → Option BestPoint → Option BestPoint
tried t to best = tried_at t to High (tried_at t to Centre (tried_at t to Low best))

-- after a leaf that stays open
abbrev pub passed_by : Least → Option Extended → Bool → Least
passed_by l low is_next = record { lower = lowered l.lower low; best = l.best; settled = l.settled; done = l.done && not is_next }

-- after a leaf that was settled
abbrev pub settled_by : Term → Least → Outcome → Least
settled_by t l Removed = record { lower = l.lower; best = l.best; settled = l.settled + 1; done = l.done }
settled_by t l (Inner to) = record { lower = lowered l.lower (low_of t to); best = tried t to l.best; settled = l.settled + 1; done = l.done }
settled_by t l (Small to) = record { lower = lowered l.lower (low_of t to); best = l.best; settled = l.settled + 1; done = l.done }
settled_by t l (Cut to var at) = record { lower = l.lower; best = l.best; settled = l.settled + 1; done = l.done }

-- what an outcome kept has so many places
abbrev pub HasDims : ℕ → Outcome → Type 0
HasDims n Removed = Unit {0}
HasDims n (Inner to) = length to ≡ n
HasDims n (Small to) = length to ≡ n
HasDims n (Cut to var at) = length to ≡ n

-- ---- the leaves so far, and those that are still to come

abbrev pub open_leaves : List Hole → List Leaf
open_leaves [] = []
open_leaves (hole ∷ holes) = open_leaf hole.path hole.box ∷ open_leaves holes

-- what is known is what some leaves tell
pub record IsKnown (t : Term) (ls : List Leaf) (l : Least) : Type 0 where
  pub lower : l.lower ≡ least_of (lows t ls)
  pub best : l.best ≡ first_least (points t ls)

-- Done says that the bound admits none of the leaves that were passed. Where it admits one, the budget is spent.
abbrev pub IsDone : Term → Extended → List Leaf → ℕ → ℕ → Bool → Type 0
IsDone t u passed settled budget true = first_admitted t u passed ≡ None
IsDone t u passed settled budget false = (first_admitted t u passed ≡ None → ⊥) × (settled ≡ budget)

-- A search so far: its paving is the definition's after as many settlings, its leaves are those that were passed, in
-- preorder, and then those to come, and what is known is what the former tell.
pub record IsSearch (rule : Rule) (depth : ℕ) (t : Term) (root : List Bounds) (budget : ℕ) (g : Growing) (l : Least) : Type 0 where
  pub passed : List Leaf
  pub over : g.root ≡ root
  pub leaves : leaves_of root g.tree ≡ passed ++ open_leaves g.holes
  pub known : IsKnown t passed l
  pub tree : g.tree ≡ searched rule depth t root l.settled
  pub stage : IsStage rule depth root leaf g.tree
  pub count : settled_of (counts_of g.tree) ≡ l.settled
  pub within : l.settled ≤ budget
  pub done : IsDone t (upper_of l.best) passed l.settled budget l.done

-- how many steps are left at most
abbrev pub steps_left : ℕ → Growing → Least → ℕ
steps_left budget g l = 2 * (budget - l.settled) + length g.holes

-- A search that has no leaf to come.
pub record IsEnded (rule : Rule) (depth : ℕ) (t : Term) (b : List Bounds) (budget : ℕ) (l : Least) : Type 0 where
  pub growth : Growing
  pub search : IsSearch rule depth t b budget growth l
  pub none : growth.holes ≡ []
