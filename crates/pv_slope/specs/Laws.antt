-- The settler with centered forms meets the laws of settlers.
use Rattle.std.proofs.Common.{◌≡◌, ℕ, ◌<◌, List, length, refl, sym, ◌∙◌, subst}
use Rattle.std.specs.Prelude.{Option, Some, None, IsTrue}
use Rattle.pv_num.specs.Extended.{Extended}
use Rattle.pv_interval.specs.Bounds.{Bounds}
use Rattle.pv_interval.specs.Points.{Point}
use Rattle.pv_box.specs.Boxes.{IsBox, PointIn}
use Rattle.pv_box.specs.Members.{PointInSome}
use Rattle.pv_ctc.specs.Contracting.{sides_in, contract_of}
use Rattle.pv_ctc.specs.Members.{AllOver}
use Rattle.pv_ctc.specs.Plans.{plan_of, IsFor}
use Rattle.pv_ctc.proofs.Shrinking.{within_length}
use Rattle.pv_ctc.proofs.Keeping.{contract-keeps}
use Rattle.pv_tree.specs.declared.outcome.Outcome.{Outcome}
use Rattle.pv_tree.specs.declared.outcome.Outcome.TheVariants.{Removed, Inner, Small, Cut}
use Rattle.pv_tree.specs.Trees.{IsStrictlyInside, Fits, KeepsBox, CutsAbove}
use Rattle.pv_tree.specs.Sets.{IsSoundOutcome}
use Rattle.pv_settle.specs.Laws.{as_within, by_test, by_unsure, part_of, left_none}
use Rattle.pv_settle.specs.Rules.{SettlerParts, dims_of}
use Rattle.pv_settle.specs.Settling.{settle_unsure, is_member}
use Rattle.pv_slope.specs.Programs.{program_none, program_sure}
use Rattle.pv_slope.specs.Settling.{settle_left, settle_contracted, settle_centered}
use Rattle.pv_slope.specs.Centered.{CenteredEncloses}
use Rattle.pv_slope.specs.Excluding.{none-excludes, sure-members}

-- what holds of each outcome that the tests can give holds of the outcome
by_left : (P : Outcome → Type 0) (r : SettlerParts) (to : List Bounds) (d k : ℕ) → (IsTrue (program_none (sides_in r.graphs) (plan_of r.program) to) → P Removed)
    → (IsTrue (program_sure (sides_in r.graphs) (plan_of r.program) to) → P (Inner to)) → P (Small to)
    → ((v : ℕ) (a : Extended) → 0 < d → IsStrictlyInside a v to → P (Cut to v a)) → P (settle_left r to d k)
by_left P r to d k n i s c =
    by_test P (program_none (sides_in r.graphs) (plan_of r.program) to) Removed _ n
    (λ _. by_test P (program_sure (sides_in r.graphs) (plan_of r.program) to) (Inner to) (settle_unsure r to d k) i
    (λ _. by_unsure P r to d k s c))

by_contracted : (P : Outcome → Type 0) (r : SettlerParts) (o : Option (List Bounds)) (d k : ℕ) → (o ≡ None → P Removed) → ((to : List Bounds) → o ≡ Some to → P (settle_left r to d k)) → P (settle_contracted r o d k)
by_contracted P r None d k n s = n refl
by_contracted P r (Some to) d k n s = s to refl

pub centered_fits : (r : SettlerParts) → AllOver r.graphs.dims (sides_in r.graphs) → IsFor (length (sides_in r.graphs)) (plan_of r.program) → (b : List Bounds) (d k : ℕ) → IsBox b → Fits b (settle_centered r b d k)
unfolding settle_centered
centered_fits r o f b d k i =
    by_contracted (Fits b) r (contract_of (sides_in r.graphs) (plan_of r.program) b) d k (λ _. tt)
    (λ to e. let w = as_within to b (part_of r o f b to i e).within in by_left (Fits b) r to d k (λ _. tt) (λ _. w) w (λ v a _ h. (w, h)))

pub centered_keeps_box : (r : SettlerParts) → AllOver r.graphs.dims (sides_in r.graphs) → IsFor (length (sides_in r.graphs)) (plan_of r.program) → (b : List Bounds) (d k : ℕ) → IsBox b → KeepsBox (settle_centered r b d k)
unfolding settle_centered
centered_keeps_box r o f b d k i =
    by_contracted KeepsBox r (contract_of (sides_in r.graphs) (plan_of r.program) b) d k (λ _. tt)
    (λ to e. let w = (part_of r o f b to i e).box in by_left KeepsBox r to d k (λ _. tt) (λ _. w) w (λ v a _ h. w))

pub centered_ends : (r : SettlerParts) (b : List Bounds) (d k : ℕ) → CutsAbove d (settle_centered r b d k)
unfolding settle_centered
centered_ends r b d k =
    by_contracted (CutsAbove d) r (contract_of (sides_in r.graphs) (plan_of r.program) b) d k (λ _. tt)
    (λ to e. by_left (CutsAbove d) r to d k (λ _. tt) (λ _. tt) tt (λ v a l h. l))

pub centered_sound : CenteredEncloses → (r : SettlerParts) → AllOver r.graphs.dims (sides_in r.graphs) → r.graphs.dims ≡ dims_of r → IsFor (length (sides_in r.graphs)) (plan_of r.program) → (b : List Bounds) (d k : ℕ) → IsBox b → length b ≡ dims_of r → IsSoundOutcome (is_member r) b (settle_centered r b d k)
unfolding settle_centered
centered_sound enc r o s f b d k i l =
    let keeps = λ (x : Point) (p : PointIn x b) (m : is_member r x). contract-keeps r.graphs.dims (sides_in r.graphs) (plan_of r.program) b x o f i p m in
    by_contracted (IsSoundOutcome (is_member r) b) r (contract_of (sides_in r.graphs) (plan_of r.program) b) d k
    (λ e x p m. subst (PointInSome x) e (keeps x p m))
    (λ to e.
    let n = left_none r b to keeps e in
    let part = part_of r o f b to i e in
    let same : r.graphs.dims ≡ length to = s ∙ sym l ∙ sym (within_length to b part.within) in
    let over = subst (λ m. AllOver m (sides_in r.graphs)) same o in
    by_left (IsSoundOutcome (is_member r) b) r to d k
    (λ t x p m. none-excludes enc (sides_in r.graphs) (plan_of r.program) to x over f part.box (subst (PointInSome x) e (keeps x p m)) t m)
    (λ t. (n, λ x p. sure-members enc (sides_in r.graphs) (plan_of r.program) to x over f part.box p t))
    n (λ v a _ h. n))
