-- What an interval has in common with two ends.
use Rattle.std.proofs.Common.{◌≡◌, ◌≢◌, refl, ◌∙◌, ap, cond}
use Rattle.std.specs.Prelude.{Bool, true, false, ◌&&◌, Some, None}
use Rattle.pv_num.specs.Extended.{Extended, NegInf, Fin, PosInf}
use Rattle.pv_num.specs.Order.{le, lt, lesser, greater}
use Rattle.pv_num.specs.Arithmetic.{neg_of}
use Rattle.pv_interval.specs.Bounds.{Bounds, IsInterval, between, interval_from}
use Rattle.pv_interval.specs.Tables.{meet_of, negated}
use Rattle.pv_interval.proofs.Choices.{lesser_either, greater_either}

pub lt_pos : (e : Extended) → e ≢ PosInf → lt e PosInf ≡ true
lt_pos NegInf h = refl
lt_pos (Fin e) h = refl
lt_pos PosInf h = absurd (h refl)

pub lt_neg : (e : Extended) → e ≢ NegInf → lt NegInf e ≡ true
lt_neg NegInf h = absurd (h refl)
lt_neg (Fin e) h = refl
lt_neg PosInf h = refl

with_true : (s t u : Bool) → t ≡ true → u ≡ true → s && (t && u) ≡ s
with_true true t u h k = ap (λ w. w && u) h ∙ k
with_true false t u h k = refl

pub meet_from : (x : Bounds) (lo hi : Extended) → IsInterval x → lo ≢ PosInf → hi ≢ NegInf
    → interval_from (greater x.lo lo) (lesser x.hi hi) ≡ meet_of x (between lo hi)
unfolding meet_of
meet_from x lo hi i h k =
    let a = greater x.lo lo in let b = lesser x.hi hi in
    let p : a ≢ PosInf = greater_either (λ e. e ≢ PosInf) x.lo lo i.lo_open h in
    let q : b ≢ NegInf = lesser_either (λ e. e ≢ NegInf) x.hi hi i.hi_open k in
    ap (λ t. cond t (Some (between a b)) None) (with_true (le a b) (lt a PosInf) (lt NegInf b) (lt_pos a p) (lt_neg b q))

pub negated_between : (lo hi : Extended) → between (neg_of hi) (neg_of lo) ≡ negated (between lo hi)
unfolding negated
negated_between lo hi = refl
