-- The rule's answer where a box is cut.
use Rattle.std.proofs.Common.{◌≡◌, ℕ, zero, suc, ◌<◌, Bool, true, false, Some, List, [], ◌∷◌, length, get_or, sym, ◌∙◌, ap, arith, cond}
use Rattle.pv_num.specs.Extended.{Extended}
use Rattle.pv_num.specs.Order.{le, lt}
use Rattle.pv_interval.specs.Bounds.{Bounds}
use Rattle.pv_box.specs.Boxes.{IsInside}
use Rattle.pv_box.specs.Choice.{choose_of}
use Rattle.pv_box.specs.declared.choice.Bisector.TheVariants.{Round}
use Rattle.pv_tree.specs.declared.outcome.Outcome.TheVariants.{Removed, Inner, Cut}
use Rattle.test_sample.specs.Rule.{reaches, is_above, cuts_at, cut_if, cut_at, turn_of, cut_below, settle_by}
use Rattle.std.proofs.lemmas.Bool.{and_from}

pub cuts_there : (a : Extended) (v : ℕ) (b : List Bounds) (d : Bounds) → v < length b → IsInside a (get_or b v d) → cuts_at a v b ≡ true
cuts_there a v [] d l h = absurd (omega arith)
cuts_there a zero (x ∷ b) d l h = and_from (lt x.lo a) (lt a x.hi) h.above h.below
cuts_there a (suc v) (x ∷ b) d l h = cuts_there a v b d (omega arith) h

pub first_reaches : (limit : Extended) (b : List Bounds) (x : Bounds) → 0 < length b → x ≡ get_or b 0 x → reaches limit b ≡ le limit x.hi
first_reaches limit [] x l e = absurd (omega arith)
first_reaches limit (y ∷ b) x l e = ap (λ (z : Bounds). le limit z.hi) (sym e)

pub first_above : (limit : Extended) (b : List Bounds) (x : Bounds) → 0 < length b → x ≡ get_or b 0 x → is_above limit b ≡ le limit x.lo
first_above limit [] x l e = absurd (omega arith)
first_above limit (y ∷ b) x l e = ap (λ (z : Bounds). le limit z.lo) (sym e)

below_is : (wide d : ℕ) (b : List Bounds) (k v : ℕ) (a : Extended) → 0 < d → choose_of Round (turn_of wide k) b ≡ Some (v, a) → cuts_at a v b ≡ true → cut_below wide d b k ≡ Cut b v a
below_is wide zero b k v a l e h = absurd (omega arith)
below_is wide (suc d) b k v a l e h = ap (cut_at b) e ∙ ap (λ (t : Bool). cut_if t b v a) h

pub cut_is : (limit : Extended) (wide : ℕ) (b : List Bounds) (d k v : ℕ) (a : Extended) → reaches limit b ≡ true → is_above limit b ≡ false → 0 < d → choose_of Round (turn_of wide k) b ≡ Some (v, a) → cuts_at a v b ≡ true → Cut b v a ≡ settle_by limit wide b d k
cut_is limit wide b d k v a r i l e h = sym (
    ap (λ (t : Bool). cond t (cond (is_above limit b) (Inner b) (cut_below wide d b k)) Removed) r
    ∙ ap (λ (t : Bool). cond t (Inner b) (cut_below wide d b k)) i ∙ below_is wide d b k v a l e h)
