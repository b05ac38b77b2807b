use Rattle.std.proofs.Common.{◌≡◌, ℕ, zero, suc, ◌*◌, ◌<◌, ◌≤◌, IsTrue, arith, refl, ap, sym, subst, ◌∙◌, zero-mul, ℤ, pos, negsuc, neg_ℤ, ◌*ℤ◌, ◌≤ℤ◌, ◌<ℤ◌}
use Rattle.std.proofs.lemmas.Int.{ints}
use Rattle.std.proofs.lemmas.Bool.{true≢false}
use Rattle.std.proofs.Math.Nat.{mul-le-mul, mul-pos, mul-zero, le_of_mul-le-mul_right}
use Rattle.std.proofs.Math.IntN.{negsuc-*ℤ-pos}
use Rattle.pv_num.specs.Extended.{Extended, NegInf, Fin, PosInf}
use Rattle.pv_num.specs.Grid.{IsGrid, unit}
use Rattle.pv_num.specs.Order.{le}
use Rattle.pv_num.specs.Rounding.{IsDown, IsUp, rounded}
use Rattle.pv_num.specs.Arithmetic.{mul_of, pow_of}
use Rattle.pv_num.specs.declared.num.End.{End}
use Rattle.pv_num.specs.declared.num.End.TheVariants.{Down, Up}
use Rattle.pv_num.proofs.Signs.{pos_le, le_pos, zero_grid}
use Rattle.pv_num.proofs.Scales.{unit_pos}
use Rattle.pv_num.proofs.Rounding.{rounded-is, rounded-unique}
use Rattle.pv_num.proofs.Orders.{le-Fin, Fin-le, le-refl, NegInf-le, le-PosInf}

-- ---- Rounding is monotone

down_monotone : (a c : ℤ) (b : ℕ) (r s : Extended) → a ≤ℤ c → IsDown a b r → IsDown c b s → IsTrue (le r s)
down_monotone a c b NegInf s l h k = NegInf-le s
down_monotone a c b (Fin n) NegInf l h k =
    let x : c <ℤ (n *ℤ pos b) = k n h.grid in
    let y : (n *ℤ pos b) ≤ℤ a = h.below in
    absurd (omega (arith, ints, x, y, l))
down_monotone a c b (Fin n) (Fin m) l h k =
    let y : (n *ℤ pos b) ≤ℤ a = h.below in
    let z : (n *ℤ pos b) ≤ℤ c = omega (arith, ints, y, l) in
    Fin-le n m (k.greatest n h.grid z)
down_monotone a c b (Fin n) PosInf l h k = absurd k
down_monotone a c b PosInf s l h k = absurd h

up_monotone : (a c : ℤ) (b : ℕ) (r s : Extended) → a ≤ℤ c → IsUp a b r → IsUp c b s → IsTrue (le r s)
up_monotone a c b NegInf s l h k = absurd h
up_monotone a c b (Fin n) NegInf l h k = absurd k
up_monotone a c b (Fin n) (Fin m) l h k =
    let y : c ≤ℤ (m *ℤ pos b) = k.above in
    let z : a ≤ℤ (m *ℤ pos b) = omega (arith, ints, y, l) in
    Fin-le n m (h.least m k.grid z)
up_monotone a c b (Fin n) PosInf l h k = refl
up_monotone a c b PosInf NegInf l h k = absurd k
up_monotone a c b PosInf (Fin m) l h k =
    let x : (m *ℤ pos b) <ℤ a = h m k.grid in
    let y : c ≤ℤ (m *ℤ pos b) = k.above in
    absurd (omega (arith, ints, x, y, l))
up_monotone a c b PosInf PosInf l h k = refl

pub rounded-monotone : (side : End) (a c : ℤ) (b : ℕ) → 0 < b → a ≤ℤ c → IsTrue (le (rounded side a b) (rounded side c b))
rounded-monotone Down a c b p l = down_monotone a c b _ _ l (rounded-is Down a b p) (rounded-is Down c b p)
rounded-monotone Up a c b p l = up_monotone a c b _ _ l (rounded-is Up a b p) (rounded-is Up c b p)

-- ---- A format number stays

pub ≤ℤ_same : (a b : ℤ) → a ≡ b → a ≤ℤ b
≤ℤ_same a b e = omega (arith, ints)

cancel_pos : (m n b : ℕ) → 0 < b → m * b ≤ n * b → m ≤ n
cancel_pos m n b p h = le_of_mul-le-mul_right h p

pub cancel : (f n : ℤ) (b : ℕ) → 0 < b → (f *ℤ pos b) ≤ℤ (n *ℤ pos b) → f ≤ℤ n
cancel (pos m) (pos n) b p h = pos_le m n (cancel_pos m n b p (le_pos (m * b) (n * b) h))
cancel (pos m) (negsuc n) b p h =
    let k : 0 < suc n * b = mul-pos (omega arith) p in
    let h' : pos (m * b) ≤ℤ neg_ℤ (pos (suc n * b)) = subst (λ x. pos (m * b) ≤ℤ x) (negsuc-*ℤ-pos n b) h in
    absurd (omega (arith, ints, h', k))
cancel (negsuc m) (pos n) b p h = omega (arith, ints)
cancel (negsuc m) (negsuc n) b p h =
    let h' : neg_ℤ (pos (suc m * b)) ≤ℤ neg_ℤ (pos (suc n * b)) = subst (λ x. x ≤ℤ neg_ℤ (pos (suc n * b))) (negsuc-*ℤ-pos m b) (subst (λ x. (negsuc m *ℤ pos b) ≤ℤ x) (negsuc-*ℤ-pos n b) h) in
    let k : suc n * b ≤ suc m * b = omega (arith, ints, h') in
    let l : suc n ≤ suc m = cancel_pos (suc n) (suc m) b p k in
    omega (arith, ints, l)

pub rounded-grid : (side : End) (n : ℤ) (b : ℕ) → 0 < b → IsGrid n → rounded side (n *ℤ pos b) b ≡ Fin n
rounded-grid Down n b p g = sym (rounded-unique Down (n *ℤ pos b) b (Fin n) p (record { grid = g; below = ≤ℤ_same (n *ℤ pos b) (n *ℤ pos b) refl; greatest = λ f _ l. cancel f n b p l }))
rounded-grid Up n b p g = sym (rounded-unique Up (n *ℤ pos b) b (Fin n) p (record { grid = g; above = ≤ℤ_same (n *ℤ pos b) (n *ℤ pos b) refl; least = λ f _ l. cancel n f b p l }))

pub rounded-zero : (side : End) (b : ℕ) → 0 < b → rounded side (pos 0) b ≡ Fin (pos 0)
rounded-zero side b p = ap (λ x. rounded side x b) (ap pos (sym (zero-mul b))) ∙ rounded-grid side (pos 0) b p zero_grid

-- ---- Down is at most the value, up at least

abbrev pub IsAtMost : Extended → ℤ → ℕ → Type 0
IsAtMost NegInf a b = Unit {0}
IsAtMost (Fin r) a b = (r *ℤ pos b) ≤ℤ a
IsAtMost PosInf a b = ⊥

abbrev pub IsAtLeast : Extended → ℤ → ℕ → Type 0
IsAtLeast NegInf a b = ⊥
IsAtLeast (Fin r) a b = a ≤ℤ (r *ℤ pos b)
IsAtLeast PosInf a b = Unit {0}

down_at_most : (a : ℤ) (b : ℕ) (r : Extended) → IsDown a b r → IsAtMost r a b
down_at_most a b NegInf h = tt
down_at_most a b (Fin n) h = h.below
down_at_most a b PosInf h = h

up_at_least : (a : ℤ) (b : ℕ) (r : Extended) → IsUp a b r → IsAtLeast r a b
up_at_least a b NegInf h = h
up_at_least a b (Fin n) h = h.above
up_at_least a b PosInf h = tt

pub rounded-at_most : (a : ℤ) (b : ℕ) → 0 < b → IsAtMost (rounded Down a b) a b
rounded-at_most a b p = down_at_most a b (rounded Down a b) (rounded-is Down a b p)

pub rounded-at_least : (a : ℤ) (b : ℕ) → 0 < b → IsAtLeast (rounded Up a b) a b
rounded-at_least a b p = up_at_least a b (rounded Up a b) (rounded-is Up a b p)

-- ---- Products and powers of numbers from 0 on are monotone

abbrev zero_end : Extended
zero_end = Fin (pos 0)

not_below_zero : (n : ℕ) → IsTrue (le zero_end (Fin (negsuc n))) → ⊥
not_below_zero n h = let l : pos 0 ≤ℤ negsuc n = le-Fin (pos 0) (negsuc n) h in omega (arith, ints, l)

pub product-from_zero : (side : End) (x : Extended) (f : ℕ) → IsTrue (le zero_end x) → IsTrue (le zero_end (mul_of side x (Fin (pos f))))
product-from_zero side NegInf f h = absurd (true≢false (sym h))
product-from_zero side (Fin (pos a)) f h =
    subst (λ z. IsTrue (le z (rounded side (pos (a * f)) unit))) (rounded-zero side unit unit_pos)
    (rounded-monotone side (pos 0) (pos (a * f)) unit unit_pos (pos_le 0 (a * f) (omega arith)))
product-from_zero side (Fin (negsuc a)) f h = absurd (not_below_zero a h)
product-from_zero side PosInf zero h = le-refl zero_end
product-from_zero side PosInf (suc f) h = refl

pub product-monotone : (side : End) (x y : Extended) (f g : ℕ) → IsTrue (le zero_end x) → IsTrue (le x y) → f ≤ g → IsTrue (le (mul_of side x (Fin (pos f))) (mul_of side y (Fin (pos g))))
product-monotone side NegInf y f g h l k = absurd (true≢false (sym h))
product-monotone side (Fin (negsuc a)) y f g h l k = absurd (not_below_zero a h)
product-monotone side (Fin (pos a)) NegInf f g h l k = absurd (true≢false (sym l))
product-monotone side (Fin (pos a)) (Fin (negsuc c)) f g h l k = let m : pos a ≤ℤ negsuc c = le-Fin (pos a) (negsuc c) l in absurd (omega (arith, ints, m))
product-monotone side (Fin (pos a)) (Fin (pos c)) f g h l k =
    let m : a ≤ c = le_pos a c (le-Fin (pos a) (pos c) l) in
    rounded-monotone side (pos (a * f)) (pos (c * g)) unit unit_pos (pos_le (a * f) (c * g) (mul-le-mul m k))
product-monotone side (Fin (pos a)) PosInf f zero h l k =
    let z : f ≡ 0 = omega arith in
    let e : rounded side (pos (a * f)) unit ≡ Fin (pos 0) = ap (λ x. rounded side (pos (a * x)) unit) z ∙ ap (λ x. rounded side (pos x) unit) (mul-zero a) ∙ rounded-zero side unit unit_pos in
    subst (λ x. IsTrue (le x zero_end)) (sym e) (le-refl zero_end)
product-monotone side (Fin (pos a)) PosInf f (suc g) h l k = le-PosInf (rounded side (pos (a * f)) unit)
product-monotone side PosInf NegInf f g h l k = absurd (true≢false (sym l))
product-monotone side PosInf (Fin c) f g h l k = absurd (true≢false (sym l))
product-monotone side PosInf PosInf zero zero h l k = le-refl zero_end
product-monotone side PosInf PosInf zero (suc g) h l k = refl
product-monotone side PosInf PosInf (suc f) zero h l k = absurd (omega arith)
product-monotone side PosInf PosInf (suc f) (suc g) h l k = refl

pub power-from_zero : (side : End) (f n : ℕ) → IsTrue (le zero_end (pow_of side (Fin (pos f)) n))
power-from_zero side f zero = Fin-le (pos 0) (pos unit) (pos_le 0 unit (omega arith))
power-from_zero side f (suc zero) = Fin-le (pos 0) (pos f) (pos_le 0 f (omega arith))
power-from_zero side f (suc (suc n)) = product-from_zero side (pow_of side (Fin (pos f)) (suc n)) f (power-from_zero side f (suc n))

pub power-monotone : (side : End) (f g n : ℕ) → f ≤ g → IsTrue (le (pow_of side (Fin (pos f)) n) (pow_of side (Fin (pos g)) n))
power-monotone side f g zero h = le-refl (Fin (pos unit))
power-monotone side f g (suc zero) h = Fin-le (pos f) (pos g) (pos_le f g h)
power-monotone side f g (suc (suc n)) h =
    product-monotone side (pow_of side (Fin (pos f)) (suc n)) (pow_of side (Fin (pos g)) (suc n)) f g
    (power-from_zero side f (suc n)) (power-monotone side f g (suc n) h) h
