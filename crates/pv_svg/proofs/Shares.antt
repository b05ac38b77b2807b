-- The steps to a pixel on whole numbers: none gives too much.
use Rattle.std.proofs.Common.{◌≡◌, ◌⊎◌, inl, inr, ℕ, ◌+◌, ◌*◌, ◌/◌, ◌%◌, ◌<◌, ◌≤◌, Option, Some, None, arith, refl, ◌∙◌, ap, subst, pos}
use Rattle.std.proofs.lemmas.Nat.{div-add-mod', div_below}
use Rattle.std.proofs.Math.Nat.{mul-le-mul, le_of_mul-le-mul_right}
use Rattle.pv_num.specs.Extended.{Extended, Fin, PosInf}
use Rattle.pv_num.specs.Grid.{unit}
use Rattle.pv_num.specs.Rounding.{rounded, at_least_plus, IsDown, IsUp}
use Rattle.pv_num.specs.Arithmetic.{div_of, mul_of}
use Rattle.pv_num.specs.declared.num.End.TheVariants.{Down, Up}
use Rattle.pv_num.proofs.Signs.{le_pos}
use Rattle.pv_num.proofs.Scales.{unit_pos}
use Rattle.pv_num.proofs.Rounding.{rounded-is}
use Rattle.pv_svg.specs.Pixels.{thousand}

-- n / b rounded down
record IsDownNat (n b r : ℕ) : Type 0 where
  pub is : rounded Down (pos n) b ≡ Fin (pos r)
  pub below : r * b ≤ n

down_from : (n b r : ℕ) → 0 < b → rounded Down (pos n) b ≡ Fin (pos r) → IsDownNat n b r
down_from n b r p e = record { is = e; below = le_pos (r * b) n (subst (λ (x : Extended). IsDown (pos n) b x) e (rounded-is Down (pos n) b p)).below }

down_nat : (n b : ℕ) → 0 < b → (r : ℕ) × IsDownNat n b r
unfolding rounded
down_nat n b p = (_, down_from n b _ p refl)

-- rounded up, where it isn't too great
plus_cases : (o : Option ℕ) → (at_least_plus o ≡ PosInf) ⊎ ((k : ℕ) × (at_least_plus o ≡ Fin (pos k)))
plus_cases None = inl refl
plus_cases (Some k) = inr (k, refl)

up_cases : (n b : ℕ) → (rounded Up (pos n) b ≡ PosInf) ⊎ ((k : ℕ) × (rounded Up (pos n) b ≡ Fin (pos k)))
unfolding rounded
up_cases n b = plus_cases _

pub up_above : (n b k : ℕ) → 0 < b → rounded Up (pos n) b ≡ Fin (pos k) → n ≤ k * b
up_above n b k p e = le_pos n (k * b) (subst (λ (x : Extended). IsUp (pos n) b x) e (rounded-is Up (pos n) b p)).above

-- The share of a length q that p is.
abbrev pub share_nat : ℕ → ℕ → Extended
share_nat p q = div_of Down (rounded Down (pos p) 1) (rounded Up (pos q) 1)

pub record IsShare (p q s : ℕ) : Type 0 where
  pub is : share_nat p q ≡ Fin (pos s)
  pub low : s * q ≤ p * unit

-- a quotient of less over more is less
less_share : (a p w q s : ℕ) → a ≤ p → q ≤ w → s * w ≤ a * unit → s * q ≤ p * unit
less_share a p w q s l m h =
    let more : s * q ≤ s * w = mul-le-mul (omega arith) m in
    let less : a * unit ≤ p * unit = mul-le-mul l (omega arith) in
    omega (arith, more, less, h)

pub share_there : (p q : ℕ) → 0 < q → (s : ℕ) × IsShare p q s
share_there p q z =
    let a = down_nat p 1 (omega arith) in
    elim (up_cases q 1) [
      | inl e ↦ (0, record { is = ap (λ x. div_of Down x (rounded Up (pos q) 1)) a.1.is ∙ ap (λ x. div_of Down (Fin (pos a.0)) x) e; low = omega arith })
      | inr k ↦
          let w : q ≤ k.0 * 1 = up_above q 1 k.0 (omega arith) k.1 in
          let below : a.0 * 1 ≤ p = a.1.below in
          let s = down_nat (a.0 * unit) k.0 (omega arith) in (
            s.0,
            record {
              is = ap (λ x. div_of Down x (rounded Up (pos q) 1)) a.1.is ∙ ap (λ x. div_of Down (Fin (pos a.0)) x) k.1 ∙ s.1.is;
              low = less_share a.0 p k.0 q s.0 (omega arith) (omega arith) s.1.below;
            },
          )
    ]

-- 1000 times that share.
abbrev pub scaled_nat : ℕ → ℕ → Extended
scaled_nat p q = mul_of Down (share_nat p q) thousand

pub record IsScaled (p q t : ℕ) : Type 0 where
  pub is : scaled_nat p q ≡ Fin (pos t)
  pub low : t * q ≤ 1000 * p * unit

thousandfold : (s t : ℕ) → t * unit ≤ s * (1000 * unit) → t ≤ 1000 * s
thousandfold s t h =
    let e : s * (1000 * unit) ≡ 1000 * s * unit = grind arith in
    let n : t * unit ≤ 1000 * s * unit = omega (arith, e, h) in
    le_of_mul-le-mul_right n unit_pos

less_scaled : (p q s t : ℕ) → s * q ≤ p * unit → t ≤ 1000 * s → t * q ≤ 1000 * p * unit
less_scaled p q s t h l =
    let m : t * q ≤ 1000 * s * q = mul-le-mul l (omega arith) in
    let e : 1000 * s * q ≡ 1000 * (s * q) = grind arith in
    let f : 1000 * p * unit ≡ 1000 * (p * unit) = grind arith in
    omega (arith, m, e, f, h)

pub scaled_there : (p q : ℕ) → 0 < q → (t : ℕ) × IsScaled p q t
scaled_there p q z =
    let s = share_there p q z in
    let t = down_nat (s.0 * (1000 * unit)) unit unit_pos in
    (t.0, record { is = ap (λ x. mul_of Down x thousand) s.1.is ∙ t.1.is; low = less_scaled p q s.0 t.0 s.1.low (thousandfold s.0 t.0 t.1.below) })

pub scaled_few : (p q t : ℕ) → p ≤ q → 0 < q → t * q ≤ 1000 * p * unit → t ≤ 1000 * unit
scaled_few p q t l z h =
    let m : 1000 * p * unit ≤ 1000 * q * unit = mul-le-mul (omega (arith, l)) (omega arith) in
    let e : 1000 * q * unit ≡ 1000 * unit * q = grind arith in
    let n : t * q ≤ 1000 * unit * q = omega (arith, m, e, h) in
    le_of_mul-le-mul_right n z

-- Whole parts.
pub part_few : (t : ℕ) → t ≤ 1000 * unit → t / unit ≤ 1000
part_few t l =
    let u : 0 < unit = unit_pos in
    let m : t < 1001 * unit = omega arith in
    let n : t / unit < 1001 = div_below t unit 1001 u m in
    omega arith

pub part_low : (p q t : ℕ) → t * q ≤ 1000 * p * unit → (t / unit) * q ≤ 1000 * p
part_low p q t h =
    let e : t / unit * unit + t % unit ≡ t = div-add-mod' t unit in
    let k : t / unit * unit ≤ t = omega (arith, e) in
    let m : t / unit * unit * q ≤ t * q = mul-le-mul k (omega arith) in
    let f : t / unit * unit * q ≡ t / unit * q * unit = grind arith in
    let n : t / unit * q * unit ≤ 1000 * p * unit = omega (arith, m, f, h) in
    le_of_mul-le-mul_right n unit_pos
