-- Twice a format number is a format number or lies past all of them, so that twice a number and one more, or one less,
-- is rounded once.
use Rattle.std.proofs.Common.{◌≡◌, ℕ, zero, suc, ◌+◌, ◌*◌, ◌^◌, ◌<◌, ◌≤◌, ◌⊎◌, inl, inr, arith, refl, sym, ◌∙◌, ap, subst, ℤ, pos, negsuc, neg_ℤ, ◌+ℤ◌, ◌-ℤ◌, ◌*ℤ◌, ◌≤ℤ◌, ◌<ℤ◌}
use Rattle.std.specs.Int.RustNames.{unsigned_abs}
use Rattle.std.proofs.lemmas.Bool.{cases_lt}
use Rattle.std.proofs.lemmas.Int.{ints}
use Rattle.std.proofs.lemmas.Nat.{pow-add}
use Rattle.std.proofs.Math.IntN.{*ℤ-one}
use Rattle.std.proofs.Math.Nat.{add-mul, mul-add, mul-le-mul_right, two-pow-succ}
use Rattle.pv_num.specs.Extended.{Extended, NegInf, Fin, PosInf}
use Rattle.pv_num.specs.Grid.{unit, IsGrid, IsGridSize}
use Rattle.pv_num.specs.Inside.{below_top}
use Rattle.pv_num.specs.Rounding.{rounded}
use Rattle.pv_num.specs.Arithmetic.{add_of, sub_of}
use Rattle.pv_num.specs.declared.num.End.{End}
use Rattle.pv_num.specs.declared.num.End.TheVariants.{Down, Up}
use Rattle.pv_num.proofs.Monotone.{rounded-grid}
use Rattle.pv_num.proofs.Rounding.{rounded-unique}

-- one
abbrev pub one : Extended
one = Fin (pos unit)

-- ---- Sizes

-- n lies past every size of a format number
abbrev IsPast : ℕ → Type 0
IsPast n = (f : ℕ) → IsGridSize f → f < n

twice : (n m e : ℕ) → n ≡ m * 2 ^ e → n + n ≡ (m + m) * 2 ^ e
twice n m e h = let p = add-mul m m (2 ^ e) in omega (arith, h, p)

next_power : (m e : ℕ) → (m + m) * 2 ^ e ≡ m * 2 ^ suc e
next_power m e =
    let two : 2 ^ suc e ≡ 2 ^ e + 2 ^ e = two-pow-succ e in
    add-mul m m (2 ^ e) ∙ sym (mul-add m (2 ^ e) (2 ^ e)) ∙ ap (λ w. m * w) (sym two)

-- with the exponent c at its greatest
past_top : (n m c : ℕ) → n ≡ m * 2 ^ c → 2 ^ 62 ≤ m + m → c ≡ 962 → IsPast (n + n)
past_top n m c h k e = λ f g.
    let below = below_top g.mantissa g.exponent c g.mantissa_fits (let p = g.exponent_fits in omega (arith, p, e)) in
    let top = mul-le-mul_right (2 ^ c) k in
    let p = pow-add 2 62 c in
    let q = twice n m c h in
    let v = g.value in
    omega (arith, below, top, p, q, v)

top_doubled : (n m c : ℕ) → n ≡ m * 2 ^ c → c ≡ 962 → IsGridSize (n + n) ⊎ IsPast (n + n)
top_doubled n m c h e = elim (cases_lt (m + m) (2 ^ 62)) [
  | inl l ↦ inl (record {
    mantissa = m + m;
    exponent = c;
    mantissa_fits = l;
    exponent_fits = omega (arith, e);
    value = twice n m c h;
  })
  | inr l ↦ inr (past_top n m c h l e)
]

size_doubled : (n : ℕ) → IsGridSize n → IsGridSize (n + n) ⊎ IsPast (n + n)
size_doubled n g = elim (cases_lt g.exponent 962) [
  | inl l ↦ inl (record {
    mantissa = g.mantissa;
    exponent = suc g.exponent;
    mantissa_fits = g.mantissa_fits;
    exponent_fits = omega (arith, l);
    value = twice n g.mantissa g.exponent g.value ∙ next_power g.mantissa g.exponent;
  })
  | inr l ↦ top_doubled n g.mantissa g.exponent g.value (let p = g.exponent_fits in omega (arith, l, p))
]

-- ---- Numbers

size_twice : (h : ℤ) → unsigned_abs (h +ℤ h) ≡ unsigned_abs h + unsigned_abs h
size_twice (pos n) = refl
size_twice (negsuc n) = omega (arith, ints)

-- h lies below every format number, or above
abbrev IsUnder : ℤ → Type 0
IsUnder h = (f : ℤ) → IsGrid f → h <ℤ f

abbrev IsOver : ℤ → Type 0
IsOver h = (f : ℤ) → IsGrid f → f <ℤ h

under_by : (h f : ℤ) → h ≤ℤ pos 0 → unsigned_abs f < unsigned_abs h + unsigned_abs h → (h +ℤ h) <ℤ f
under_by (pos zero) f k l = absurd (omega arith)
under_by (pos (suc n)) f k l = absurd (omega (arith, ints))
under_by (negsuc n) (pos m) k l = omega (arith, ints)
under_by (negsuc n) (negsuc m) k l = omega (arith, ints)

over_by : (h f : ℤ) → pos 0 ≤ℤ h → unsigned_abs f < unsigned_abs h + unsigned_abs h → f <ℤ (h +ℤ h)
over_by (pos n) (pos m) k l = omega (arith, ints)
over_by (pos n) (negsuc m) k l = omega (arith, ints)
over_by (negsuc n) f k l = absurd (omega (arith, ints))

low_doubled : (h : ℤ) → IsGrid h → h ≤ℤ pos 0 → IsGrid (h +ℤ h) ⊎ IsUnder (h +ℤ h)
low_doubled h g k = elim (size_doubled (unsigned_abs h) g) [
  | inl p ↦ inl (subst IsGridSize (sym (size_twice h)) p)
  | inr p ↦ inr (λ f i. under_by h f k (p (unsigned_abs f) i))
]

high_doubled : (h : ℤ) → IsGrid h → pos 0 ≤ℤ h → IsGrid (h +ℤ h) ⊎ IsOver (h +ℤ h)
high_doubled h g k = elim (size_doubled (unsigned_abs h) g) [
  | inl p ↦ inl (subst IsGridSize (sym (size_twice h)) p)
  | inr p ↦ inr (λ f i. over_by h f k (p (unsigned_abs f) i))
]

-- ---- Rounding

stays : (side : End) (n : ℤ) → IsGrid n → rounded side n 1 ≡ Fin n
unfolding lib.IntN.one
stays side n g = ap (λ w. rounded side w 1) (sym (*ℤ-one n)) ∙ rounded-grid side n 1 (omega arith) g

falls : (n : ℤ) → IsUnder n → rounded Down n 1 ≡ NegInf
unfolding lib.IntN.one
falls n u = sym (rounded-unique Down n 1 NegInf (omega arith) (λ f g. subst (λ w. n <ℤ w) (sym (*ℤ-one f)) (u f g)))

rises : (n : ℤ) → IsOver n → rounded Up n 1 ≡ PosInf
unfolding lib.IntN.one
rises n u = sym (rounded-unique Up n 1 PosInf (omega arith) (λ f g. subst (λ w. w <ℤ n) (sym (*ℤ-one f)) (u f g)))

less_one : (h u : ℤ) → pos 2 *ℤ h -ℤ u ≡ h +ℤ h +ℤ neg_ℤ u
less_one h u = omega (arith, ints)

one_more : (h u : ℤ) → pos 2 *ℤ h +ℤ u ≡ h +ℤ h +ℤ u
one_more h u = omega (arith, ints)

even_lower : (h : ℤ) (u : ℕ) → IsUnder (h +ℤ h) → IsUnder (h +ℤ h +ℤ neg_ℤ (pos u))
even_lower h u k = λ f g. let p = k f g in omega (arith, ints)

even_higher : (h : ℤ) (u : ℕ) → IsOver (h +ℤ h) → IsOver (h +ℤ h +ℤ pos u)
even_higher h u k = λ f g. let p = k f g in omega (arith, ints)

-- 2h - 1 rounded down once is the doubled number less 1, each rounded down
pub once_down : (h : ℤ) → IsGrid h → h ≤ℤ pos 0
    → rounded Down (pos 2 *ℤ h -ℤ pos unit) 1 ≡ sub_of Down (add_of Down (Fin h) (Fin h)) one
once_down h g k = ap (λ w. rounded Down w 1) (less_one h (pos unit)) ∙ elim (low_doubled h g k) [
  | inl p ↦ sym (ap (λ w. sub_of Down w one) (stays Down (h +ℤ h) p))
  | inr p ↦ falls (h +ℤ h +ℤ neg_ℤ (pos unit)) (even_lower h unit p) ∙ sym (ap (λ w. sub_of Down w one) (falls (h +ℤ h) p))
]

-- 2l + 1 rounded up once is the doubled number and 1 more, each rounded up
pub once_up : (l : ℤ) → IsGrid l → pos 0 ≤ℤ l
    → rounded Up (pos 2 *ℤ l +ℤ pos unit) 1 ≡ add_of Up (add_of Up (Fin l) (Fin l)) one
once_up l g k = ap (λ w. rounded Up w 1) (one_more l (pos unit)) ∙ elim (high_doubled l g k) [
  | inl p ↦ sym (ap (λ w. add_of Up w one) (stays Up (l +ℤ l) p))
  | inr p ↦ rises (l +ℤ l +ℤ pos unit) (even_higher l unit p) ∙ sym (ap (λ w. add_of Up w one) (rises (l +ℤ l) p))
]
