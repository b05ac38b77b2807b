-- The rule keeps to what a settler owes.
use Rattle.std.specs.Prelude.{◌≡◌, ℕ, zero, suc, ◌<◌, Bool, true, false, ◌&&◌, cond, Option, Some, None, IsTrue, List, [], ◌∷◌, ℤ}
use Rattle.std.proofs.Common.{refl, arith, rules}
use Rattle.pv_num.specs.Extended.{Extended, NegInf, Fin, PosInf}
use Rattle.pv_num.specs.Order.{le, lt}
use Rattle.pv_interval.specs.Bounds.{Bounds}
use Rattle.pv_interval.specs.Points.{Point}
use Rattle.pv_interval.proofs.Values.{across, below_le}
use Rattle.pv_box.specs.Boxes.{IsBox, PointIn}
use Rattle.pv_box.specs.Choice.{choose_of}
use Rattle.pv_box.specs.declared.choice.Bisector.TheVariants.{Round}
use Rattle.pv_tree.specs.declared.outcome.Outcome.{Outcome}
use Rattle.pv_tree.specs.declared.outcome.Outcome.TheVariants.{Removed, Inner, Small, Cut}
use Rattle.pv_tree.specs.Trees.{Fits, KeepsBox, CutsAbove, IsWithin, IsBetween, IsStrictlyInside}
use Rattle.pv_tree.specs.Sets.{IsSoundOutcome, LosesNone}
use Rattle.test_sample.specs.Rule.{reaches, is_above, cuts_at, cut_if, cut_at, turn_of, cut_below, settle_by, IsAtLeast}

le_self : (a : Extended) → IsTrue (le a a)
le_self NegInf = refl
le_self (Fin n) = search rules
le_self PosInf = refl

within_self : (b : List Bounds) → IsWithin b b
within_self [] = tt
within_self (x ∷ b) = (le_self x.lo, le_self x.hi, within_self b)

left_true : (s t : Bool) → (s && t) ≡ true → s ≡ true
left_true true t e = refl
left_true false t e = e

right_true : (s t : Bool) → (s && t) ≡ true → t ≡ true
right_true true t e = e
right_true false t e = let w : false ≡ true = e in cc

between : (a : Extended) (x : Bounds) → IsTrue (lt x.lo a) → IsTrue (lt a x.hi) → IsBetween a x
between NegInf x h k = below_all x.lo h
  where
    below_all : (l : Extended) → lt l NegInf ≡ true → ⊥
    below_all NegInf e = cc
    below_all (Fin n) e = cc
    below_all PosInf e = cc
between (Fin n) x h k = (h, k)
between PosInf x h k = above_all x.hi k
  where
    above_all : (l : Extended) → lt PosInf l ≡ true → ⊥
    above_all NegInf e = cc
    above_all (Fin n) e = cc
    above_all PosInf e = cc

pub cuts_inside : (a : Extended) (v : ℕ) (b : List Bounds) → cuts_at a v b ≡ true → IsStrictlyInside a v b
cuts_inside a v [] e = cc
cuts_inside a zero (x ∷ b) e = between a x (left_true (lt x.lo a) (lt a x.hi) e) (right_true (lt x.lo a) (lt a x.hi) e)
cuts_inside a (suc v) (x ∷ b) e = cuts_inside a v b e

-- what holds of each answer holds of the rule
module _ (P : Outcome → Type 0) where
  cut_keeps : (test : Bool) (b : List Bounds) (v : ℕ) (a : Extended) → P (Small b) → (test ≡ true → P (Cut b v a)) → P (cut_if test b v a)
  cut_keeps true b v a small cut = cut refl
  cut_keeps false b v a small cut = small

  at_keeps : (b : List Bounds) (o : Option (ℕ × Extended)) → P (Small b) → ((v : ℕ) (a : Extended) → cuts_at a v b ≡ true → P (Cut b v a)) → P (cut_at b o)
  at_keeps b None small cut = small
  at_keeps b (Some c) small cut = cut_keeps (cuts_at c.1 c.0 b) b c.0 c.1 small (cut c.0 c.1)

  below_keeps : (wide d : ℕ) (b : List Bounds) (k : ℕ) → P (Small b) → ((v : ℕ) (a : Extended) → 0 < d → cuts_at a v b ≡ true → P (Cut b v a)) → P (cut_below wide d b k)
  below_keeps wide zero b k small cut = small
  below_keeps wide (suc d) b k small cut = at_keeps b (choose_of Round (turn_of wide k) b) small (λ v a e. cut v a (omega arith) e)

  either_keeps : (t : Bool) (x y : Outcome) → (t ≡ true → P x) → (t ≡ false → P y) → P (cond t x y)
  either_keeps true x y h k = h refl
  either_keeps false x y h k = k refl

  pub rule_keeps_all : (limit : Extended) (wide : ℕ) (b : List Bounds) (d k : ℕ) → (reaches limit b ≡ false → P Removed) → (is_above limit b ≡ true → P (Inner b)) → P (Small b) → ((v : ℕ) (a : Extended) → 0 < d → cuts_at a v b ≡ true → P (Cut b v a)) → P (settle_by limit wide b d k)
  rule_keeps_all limit wide b d k none all small cut =
      either_keeps (reaches limit b) (cond (is_above limit b) (Inner b) (cut_below wide d b k)) Removed
      (λ _. either_keeps (is_above limit b) (Inner b) (cut_below wide d b k) all (λ _. below_keeps wide d b k small cut)) none

pub rule_fits : (limit : Extended) (wide : ℕ) (b : List Bounds) (d k : ℕ) → Fits b (settle_by limit wide b d k)
rule_fits limit wide b d k = rule_keeps_all (Fits b) limit wide b d k (λ _. tt) (λ _. within_self b) (within_self b) (λ v a _ e. (within_self b, cuts_inside a v b e))

pub rule_keeps : (limit : Extended) (wide : ℕ) (b : List Bounds) (d k : ℕ) → IsBox b → KeepsBox (settle_by limit wide b d k)
rule_keeps limit wide b d k h = rule_keeps_all KeepsBox limit wide b d k (λ _. tt) (λ _. h) h (λ v a _ e. h)

pub rule_ends : (limit : Extended) (wide : ℕ) (b : List Bounds) (d k : ℕ) → CutsAbove d (settle_by limit wide b d k)
rule_ends limit wide b d k = rule_keeps_all (CutsAbove d) limit wide b d k (λ _. tt) (λ _. tt) tt (λ v a some e. some)

-- no point is lost where the whole box is kept
none_lost : (inside : Point → Type 0) (b : List Bounds) → LosesNone inside b b
none_lost inside b x here gone h = gone here

first_out : (limit : Extended) (b : List Bounds) (ns : List ℤ) (d : ℕ) → reaches limit b ≡ false → PointIn (record { places = ns; under = d }) b → IsAtLeast limit (record { places = ns; under = d }) → ⊥
first_out limit [] [] d e h k = k
first_out limit (x ∷ b) [] d e h k = k
first_out limit [] (n ∷ ns) d e h k = h
first_out limit (x ∷ b) (n ∷ ns) d e h k = let w : le limit x.hi ≡ true = across limit x.hi n d h.0.some k h.0.high in cc

first_in : (limit : Extended) (b : List Bounds) (ns : List ℤ) (d : ℕ) → is_above limit b ≡ true → PointIn (record { places = ns; under = d }) b → IsAtLeast limit (record { places = ns; under = d })
first_in limit [] [] d e h = cc
first_in limit (x ∷ b) [] d e h = absurd h
first_in limit [] (n ∷ ns) d e h = cc
first_in limit (x ∷ b) (n ∷ ns) d e h = below_le limit x.lo n d e h.0.low

pub rule_sound : (limit : Extended) (wide : ℕ) (b : List Bounds) (d k : ℕ) → IsSoundOutcome (IsAtLeast limit) b (settle_by limit wide b d k)
rule_sound limit wide b d k =
    rule_keeps_all (IsSoundOutcome (IsAtLeast limit) b) limit wide b d k
    (λ e x h i. first_out limit b x.places x.under e h i)
    (λ e. (none_lost (IsAtLeast limit) b, λ x h. first_in limit b x.places x.under e h))
    (none_lost (IsAtLeast limit) b)
    (λ v a _ e. none_lost (IsAtLeast limit) b)
