-- The settler of a system meets the laws of settlers.
use Rattle.std.proofs.Common.{◌≡◌, ℕ, ◌<◌, List, [], ◌∷◌, length, refl, sym, ◌∙◌, subst, arith}
use Rattle.std.specs.Prelude.{Option, Some, None, Bool, true, false, cond, IsTrue, nat_eq, ◌||◌}
use Rattle.std.proofs.lemmas.Bool.Decides.{nat_tests}
use Rattle.pv_num.specs.Extended.{Extended}
use Rattle.pv_interval.specs.Bounds.{Bounds}
use Rattle.pv_interval.specs.Points.{Point}
use Rattle.pv_box.specs.Boxes.{IsBox, PointIn}
use Rattle.pv_box.specs.Members.{PointInSome}
use Rattle.pv_box.specs.Choice.{choose_of, is_small_of}
use Rattle.pv_hc4.specs.Members.{AreWithin}
use Rattle.pv_ctc.specs.Contracting.{sides_in, contract_of}
use Rattle.pv_ctc.specs.Members.{AllOver}
use Rattle.pv_ctc.specs.Plans.{plan_of, IsFor}
use Rattle.pv_ctc.specs.Sureness.{program_sure}
use Rattle.pv_ctc.proofs.Shrinking.{IsPart, contract_part, within_length}
use Rattle.pv_ctc.proofs.Keeping.{contract-keeps, sure-members}
use Rattle.pv_tree.specs.declared.outcome.Outcome.{Outcome}
use Rattle.pv_tree.specs.declared.outcome.Outcome.TheVariants.{Removed, Inner, Small, Cut}
use Rattle.pv_tree.specs.Trees.{IsWithin, IsStrictlyInside, Fits, KeepsBox, CutsAbove}
use Rattle.pv_tree.specs.Sets.{LosesNone, IsSoundOutcome}
use Rattle.pv_settle.specs.Rules.{SettlerParts, dims_of}
use Rattle.pv_settle.specs.Settling.{cut_or_small, settle_unsure, settle_left, settle_contracted, settle_by, is_member}
use Rattle.pv_settle.specs.Choosing.{chosen_inside}

pub as_within : (c b : List Bounds) → AreWithin c b → IsWithin c b
as_within [] [] h = tt
as_within [] (y ∷ b) h = absurd h
as_within (x ∷ c) [] h = absurd h
as_within (x ∷ c) (y ∷ b) h = (h.0, h.1, as_within c b h.2)

pub by_test : (P : Outcome → Type 0) (t : Bool) (a b : Outcome) → (t ≡ true → P a) → (t ≡ false → P b) → P (cond t a b)
by_test P true a b f g = f refl
by_test P false a b f g = g refl

by_cut : (P : Outcome → Type 0) (to : List Bounds) (o : Option (ℕ × Extended)) → P (Small to) → ((v : ℕ) (a : Extended) → o ≡ Some (v, a) → P (Cut to v a)) → P (cut_or_small to o)
by_cut P to None s c = s
by_cut P to (Some k) s c = c k.0 k.1 refl

-- what holds of each outcome that the last two tests can give holds of the outcome
pub by_unsure : (P : Outcome → Type 0) (r : SettlerParts) (to : List Bounds) (d k : ℕ) → P (Small to) → ((v : ℕ) (a : Extended) → 0 < d → IsStrictlyInside a v to → P (Cut to v a)) → P (settle_unsure r to d k)
by_unsure P r to d k s c =
    by_test P (nat_eq d 0 || is_small_of r.eps to) (Small to) (cut_or_small to (choose_of r.bisector k to)) (λ _. s)
    (λ e. by_cut P to (choose_of r.bisector k to) s (λ v a f. c v a (some_left (nat_eq d 0) (is_small_of r.eps to) d refl e) (chosen_inside r.bisector k to v a f)))
  where
    some_left : (t u : Bool) (d : ℕ) → nat_eq d 0 ≡ t → (t || u) ≡ false → 0 < d
    some_left true u d e h = absurd (cc)
    some_left false u d e h = grind (arith, nat_tests)

-- what holds of each outcome that the tests can give holds of the outcome
by_left : (P : Outcome → Type 0) (r : SettlerParts) (to : List Bounds) (d k : ℕ) → (IsTrue (program_sure (sides_in r.graphs) (plan_of r.program) to) → P (Inner to)) → P (Small to) → ((v : ℕ) (a : Extended) → 0 < d → IsStrictlyInside a v to → P (Cut to v a)) → P (settle_left r to d k)
by_left P r to d k i s c =
    by_test P (program_sure (sides_in r.graphs) (plan_of r.program) to) (Inner to) (settle_unsure r to d k) i
    (λ _. by_unsure P r to d k s c)

by_contracted : (P : Outcome → Type 0) (r : SettlerParts) (o : Option (List Bounds)) (d k : ℕ) → (o ≡ None → P Removed) → ((to : List Bounds) → o ≡ Some to → P (settle_left r to d k)) → P (settle_contracted r o d k)
by_contracted P r None d k n s = n refl
by_contracted P r (Some to) d k n s = s to refl

pub part_of : (r : SettlerParts) → AllOver r.graphs.dims (sides_in r.graphs) → IsFor (length (sides_in r.graphs)) (plan_of r.program) → (b c : List Bounds) → IsBox b → contract_of (sides_in r.graphs) (plan_of r.program) b ≡ Some c → IsPart c b
part_of r o f b c i e = contract_part r.graphs.dims (sides_in r.graphs) o (plan_of r.program) f b c i e

pub settle_fits : (r : SettlerParts) → AllOver r.graphs.dims (sides_in r.graphs) → IsFor (length (sides_in r.graphs)) (plan_of r.program) → (b : List Bounds) (d k : ℕ) → IsBox b → Fits b (settle_by r b d k)
unfolding settle_by
settle_fits r o f b d k i =
    by_contracted (Fits b) r (contract_of (sides_in r.graphs) (plan_of r.program) b) d k (λ _. tt)
    (λ to e. let w = as_within to b (part_of r o f b to i e).within in by_left (Fits b) r to d k (λ _. w) w (λ v a _ h. (w, h)))

pub settle_keeps_box : (r : SettlerParts) → AllOver r.graphs.dims (sides_in r.graphs) → IsFor (length (sides_in r.graphs)) (plan_of r.program) → (b : List Bounds) (d k : ℕ) → IsBox b → KeepsBox (settle_by r b d k)
unfolding settle_by
settle_keeps_box r o f b d k i =
    by_contracted KeepsBox r (contract_of (sides_in r.graphs) (plan_of r.program) b) d k (λ _. tt)
    (λ to e. let w = (part_of r o f b to i e).box in by_left KeepsBox r to d k (λ _. w) w (λ v a _ h. w))

pub settle_ends : (r : SettlerParts) (b : List Bounds) (d k : ℕ) → CutsAbove d (settle_by r b d k)
unfolding settle_by
settle_ends r b d k =
    by_contracted (CutsAbove d) r (contract_of (sides_in r.graphs) (plan_of r.program) b) d k (λ _. tt)
    (λ to e. by_left (CutsAbove d) r to d k (λ _. tt) tt (λ v a l h. l))

pub left_none : (r : SettlerParts) (b to : List Bounds) → ((x : Point) → PointIn x b → is_member r x → PointInSome x (contract_of (sides_in r.graphs) (plan_of r.program) b)) → contract_of (sides_in r.graphs) (plan_of r.program) b ≡ Some to → LosesNone (is_member r) b to
left_none r b to h e = λ x i out m. out (subst (PointInSome x) e (h x i m))

pub settle_sound : (r : SettlerParts) → AllOver r.graphs.dims (sides_in r.graphs) → r.graphs.dims ≡ dims_of r → IsFor (length (sides_in r.graphs)) (plan_of r.program) → (b : List Bounds) (d k : ℕ) → IsBox b → length b ≡ dims_of r → IsSoundOutcome (is_member r) b (settle_by r b d k)
unfolding settle_by
settle_sound r o s f b d k i l =
    let keeps = λ (x : Point) (p : PointIn x b) (m : is_member r x). contract-keeps r.graphs.dims (sides_in r.graphs) (plan_of r.program) b x o f i p m in
    by_contracted (IsSoundOutcome (is_member r) b) r (contract_of (sides_in r.graphs) (plan_of r.program) b) d k
    (λ e x p m. subst (PointInSome x) e (keeps x p m))
    (λ to e.
    let n = left_none r b to keeps e in
    let same : r.graphs.dims ≡ length to = s ∙ sym l ∙ sym (within_length to b (part_of r o f b to i e).within) in
    by_left (IsSoundOutcome (is_member r) b) r to d k
    (λ t. (n, λ x p. sure-members (sides_in r.graphs) (plan_of r.program) to x (subst (λ m. AllOver m (sides_in r.graphs)) same o) f p t))
    n (λ v a _ h. n))
