-- The lesser and the greater of two ends.
use Rattle.std.proofs.Common.{◌≡◌, refl, sym, ap, subst, cond}
use Rattle.std.specs.Prelude.{IsTrue, Bool, true, false}
use Rattle.pv_num.specs.Extended.{Extended}
use Rattle.pv_num.specs.Order.{le, lesser, greater}
use Rattle.pv_interval.specs.Tables.{least_of_four, greatest_of_four}
use Rattle.pv_interval.proofs.Ends.{le_refl, le_trans, le_antisym, le_of_false}

-- either a is at most b, or b is at most a
pub by_le : {P : Type 0} (a b : Extended) → (IsTrue (le a b) → P) → (IsTrue (le b a) → P) → P
by_le a b f g = by_test (le a b) refl f g
  where
    by_test : {P : Type 0} (t : Bool) → le a b ≡ t → (IsTrue (le a b) → P) → (IsTrue (le b a) → P) → P
    by_test true e f g = f e
    by_test false e f g = g (le_of_false a b e)

pub lesser_first : (a b : Extended) → IsTrue (le a b) → lesser a b ≡ a
lesser_first a b h = ap (λ t. cond t a b) h

pub greater_second : (a b : Extended) → IsTrue (le a b) → greater a b ≡ b
greater_second a b h = ap (λ t. cond t b a) h

lesser_by : (a b : Extended) (t : Bool) → le a b ≡ t → IsTrue (le b a) → cond t a b ≡ b
lesser_by a b true e h = le_antisym a b e h
lesser_by a b false e h = refl

pub lesser_second : (a b : Extended) → IsTrue (le b a) → lesser a b ≡ b
lesser_second a b h = lesser_by a b (le a b) refl h

greater_by : (a b : Extended) (t : Bool) → le a b ≡ t → IsTrue (le b a) → cond t b a ≡ a
greater_by a b true e h = sym (le_antisym a b e h)
greater_by a b false e h = refl

pub greater_first : (a b : Extended) → IsTrue (le b a) → greater a b ≡ a
greater_first a b h = greater_by a b (le a b) refl h

pub lesser_left : (a b : Extended) → IsTrue (le (lesser a b) a)
lesser_left a b = by_le a b
    (λ h. subst (λ e. IsTrue (le e a)) (sym (lesser_first a b h)) (le_refl a))
    (λ h. subst (λ e. IsTrue (le e a)) (sym (lesser_second a b h)) h)

pub lesser_right : (a b : Extended) → IsTrue (le (lesser a b) b)
lesser_right a b = by_le a b
    (λ h. subst (λ e. IsTrue (le e b)) (sym (lesser_first a b h)) h)
    (λ h. subst (λ e. IsTrue (le e b)) (sym (lesser_second a b h)) (le_refl b))

pub greater_left : (a b : Extended) → IsTrue (le a (greater a b))
greater_left a b = by_le a b
    (λ h. subst (λ e. IsTrue (le a e)) (sym (greater_second a b h)) h)
    (λ h. subst (λ e. IsTrue (le a e)) (sym (greater_first a b h)) (le_refl a))

pub greater_right : (a b : Extended) → IsTrue (le b (greater a b))
greater_right a b = by_le a b
    (λ h. subst (λ e. IsTrue (le b e)) (sym (greater_second a b h)) (le_refl b))
    (λ h. subst (λ e. IsTrue (le b e)) (sym (greater_first a b h)) h)

-- what holds of both holds of the lesser and of the greater
pub lesser_either : (P : Extended → Type 0) (a b : Extended) → P a → P b → P (lesser a b)
lesser_either P a b p q = by_le a b (λ h. subst P (sym (lesser_first a b h)) p) (λ h. subst P (sym (lesser_second a b h)) q)

pub greater_either : (P : Extended → Type 0) (a b : Extended) → P a → P b → P (greater a b)
greater_either P a b p q = by_le a b (λ h. subst P (sym (greater_second a b h)) q) (λ h. subst P (sym (greater_first a b h)) p)

-- ---- the least and the greatest of four

pub least_1 : (p q r s : Extended) → IsTrue (le (least_of_four p q r s) p)
least_1 p q r s = le_trans (least_of_four p q r s) (lesser p q) p (lesser_left (lesser p q) (lesser r s)) (lesser_left p q)

pub least_2 : (p q r s : Extended) → IsTrue (le (least_of_four p q r s) q)
least_2 p q r s = le_trans (least_of_four p q r s) (lesser p q) q (lesser_left (lesser p q) (lesser r s)) (lesser_right p q)

pub least_3 : (p q r s : Extended) → IsTrue (le (least_of_four p q r s) r)
least_3 p q r s = le_trans (least_of_four p q r s) (lesser r s) r (lesser_right (lesser p q) (lesser r s)) (lesser_left r s)

pub least_4 : (p q r s : Extended) → IsTrue (le (least_of_four p q r s) s)
least_4 p q r s = le_trans (least_of_four p q r s) (lesser r s) s (lesser_right (lesser p q) (lesser r s)) (lesser_right r s)

pub greatest_1 : (p q r s : Extended) → IsTrue (le p (greatest_of_four p q r s))
greatest_1 p q r s = le_trans p (greater p q) (greatest_of_four p q r s) (greater_left p q) (greater_left (greater p q) (greater r s))

pub greatest_2 : (p q r s : Extended) → IsTrue (le q (greatest_of_four p q r s))
greatest_2 p q r s = le_trans q (greater p q) (greatest_of_four p q r s) (greater_right p q) (greater_left (greater p q) (greater r s))

pub greatest_3 : (p q r s : Extended) → IsTrue (le r (greatest_of_four p q r s))
greatest_3 p q r s = le_trans r (greater r s) (greatest_of_four p q r s) (greater_left r s) (greater_right (greater p q) (greater r s))

pub greatest_4 : (p q r s : Extended) → IsTrue (le s (greatest_of_four p q r s))
greatest_4 p q r s = le_trans s (greater r s) (greatest_of_four p q r s) (greater_right r s) (greater_right (greater p q) (greater r s))

-- a lower bound of four that is one of them is their least
pub least_is : (p q r s m : Extended) → IsTrue (le m p) → IsTrue (le m q) → IsTrue (le m r) → IsTrue (le m s)
    → IsTrue (le (least_of_four p q r s) m) → least_of_four p q r s ≡ m
least_is p q r s m a b c d h =
    le_antisym (least_of_four p q r s) m h (lesser_either (λ e. IsTrue (le m e)) (lesser p q) (lesser r s)
    (lesser_either (λ e. IsTrue (le m e)) p q a b) (lesser_either (λ e. IsTrue (le m e)) r s c d))

pub greatest_is : (p q r s m : Extended) → IsTrue (le p m) → IsTrue (le q m) → IsTrue (le r m) → IsTrue (le s m)
    → IsTrue (le m (greatest_of_four p q r s)) → greatest_of_four p q r s ≡ m
greatest_is p q r s m a b c d h =
    le_antisym (greatest_of_four p q r s) m (greater_either (λ e. IsTrue (le e m)) (greater p q) (greater r s)
    (greater_either (λ e. IsTrue (le e m)) p q a b) (greater_either (λ e. IsTrue (le e m)) r s c d)) h
