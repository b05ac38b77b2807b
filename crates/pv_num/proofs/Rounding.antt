use Rattle.std.proofs.Common.{◌≡◌, ℕ, zero, suc, ◌+◌, ◌-◌, ◌*◌, ◌/◌, ◌%◌, ◌^◌, ◌<◌, ◌≤◌, Bool, true, false, ◌==◌, nat_lt, ◌&&◌, Option, Some, None, arith, refl, inl, inr, ap, sym, subst, ◌∙◌, ℤ, pos, negsuc, neg_ℤ, ◌*ℤ◌, ◌≤ℤ◌, ◌<ℤ◌, ltb-true, eqb-true}
use Rattle.std.proofs.lemmas.Int.{ints}
use Rattle.std.proofs.lemmas.Bool.{cases_lt, cases_eq, cases_Bool, cond-true, cond-false, or_cases, and_parts, and_from, or_left, or_right, lt-ltb, eq-eqb, both_ways}
use Rattle.std.proofs.lemmas.Nat.{pow_pos}
use Rattle.std.proofs.Math.Nat.{div-add-mod', le-div_iff_mul-le, div-lt_iff_lt-mul, mul-mod_left, mul-div_cancel, add-mul, one-mul, pow-zero, mul-one}
use Rattle.pv_num.specs.Extended.{Extended, NegInf, Fin, PosInf}
use Rattle.pv_num.specs.Grid.{IsGridSize}
use Rattle.pv_num.specs.Rounding.{IsDown, IsUp, IsRounded, greatest_upto, first_from, is_size_within, is_size, top_size, size_below, size_above, at_most_minus, at_least_plus, rounded}
use Rattle.pv_num.specs.Sizes.{IsFloorSize, IsCeilingSize}
use Rattle.pv_num.specs.declared.num.End.{End}
use Rattle.pv_num.specs.declared.num.End.TheVariants.{Down, Up}
use Rattle.pv_num.proofs.Rounds.{at_most_top}
use Rattle.pv_num.proofs.Signs.{down_pos, down_neg, up_pos, up_neg, down_none, up_none, zero_grid}

-- ---- Searches through the whole numbers

pub greatest_upto-le : (p : ℕ → Bool) (n : ℕ) → greatest_upto p n ≤ n
unfolding greatest_upto
greatest_upto-le p zero = omega arith
greatest_upto-le p (suc n) =
    elim (cases_Bool (p (suc n))) [
      | inl t ↦ let e : greatest_upto p (suc n) ≡ suc n = cond-true _ _ _ t in omega (arith, e)
      | inr f ↦ let e : greatest_upto p (suc n) ≡ greatest_upto p n = cond-false _ _ _ f in let h : greatest_upto p n ≤ n = greatest_upto-le p n in omega (arith, e, h)
    ]

pub greatest_upto-passes : (p : ℕ → Bool) (n : ℕ) → p 0 ≡ true → p (greatest_upto p n) ≡ true
unfolding greatest_upto
greatest_upto-passes p zero z = z
greatest_upto-passes p (suc n) z =
    elim (cases_Bool (p (suc n))) [
      | inl t ↦ ap p (cond-true _ _ _ t) ∙ t
      | inr f ↦ ap p (cond-false _ _ _ f) ∙ greatest_upto-passes p n z
    ]

pub greatest_upto-greatest : (p : ℕ → Bool) (n f : ℕ) → f ≤ n → p f ≡ true → f ≤ greatest_upto p n
unfolding greatest_upto
greatest_upto-greatest p zero f h t = omega arith
greatest_upto-greatest p (suc n) f h t =
    elim (cases_Bool (p (suc n))) [
      | inl u ↦ let e : greatest_upto p (suc n) ≡ suc n = cond-true _ _ _ u in omega (arith, e)
      | inr u ↦
          let e : greatest_upto p (suc n) ≡ greatest_upto p n = cond-false _ _ _ u in
          elim (cases_eq f (suc n)) [
            | inl q ↦ absurd (both_ways (p (suc n)) u (ap p (sym q) ∙ t))
            | inr q ↦ let k : f ≤ n = omega (arith, q, h) in let i : f ≤ greatest_upto p n = greatest_upto-greatest p n f k t in omega (arith, e, i)
          ]
    ]

-- What a search upward finds.
pub record IsFirst (p : ℕ → Bool) (n r : ℕ) : Type 0 where
  pub from : n ≤ r
  pub passes : p r ≡ true
  pub first : (f : ℕ) → n ≤ f → p f ≡ true → r ≤ f

abbrev pub Found : (ℕ → Bool) → ℕ → ℕ → Option ℕ → Type 0
Found p count n None = (f : ℕ) → n ≤ f → f < n + count → p f ≡ false
Found p count n (Some r) = IsFirst p n r

found_later : (p : ℕ → Bool) (count n : ℕ) (o : Option ℕ) → p n ≡ false → Found p count (suc n) o → Found p (suc count) n o
found_later p count n None u h = λ f l k.
    elim (cases_eq f n) [
      | inl q ↦ ap p q ∙ u
      | inr q ↦ h f (omega (arith, q, l)) (omega (arith, k))
    ]
found_later p count n (Some r) u h = record {
  from = let k : suc n ≤ r = h.from in omega (arith, k);
  passes = h.passes;
  first = λ f l t. elim (cases_eq f n) [
    | inl q ↦ absurd (both_ways (p n) u (ap p (sym q) ∙ t))
    | inr q ↦ h.first f (omega (arith, q, l)) t
  ];
}

pub first_from-found : (p : ℕ → Bool) (count n : ℕ) → Found p count n (first_from p count n)
unfolding first_from
first_from-found p zero n = λ f l k. absurd (omega arith)
first_from-found p (suc count) n =
    elim (cases_Bool (p n)) [
      | inl t ↦ subst (Found p (suc count) n) (sym (cond-true _ _ _ t)) (record { from = omega arith; passes = t; first = λ f l _. l })
      | inr u ↦ subst (Found p (suc count) n) (sym (cond-false _ _ _ u)) (found_later p count n (first_from p count (suc n)) u (first_from-found p count (suc n)))
    ]

-- ---- The test of sizes

divided : (n k : ℕ) → n % 2 ^ k ≡ 0 → n ≡ n / 2 ^ k * 2 ^ k
divided n k h = omega (arith, h, div-add-mod' n (2 ^ k))

pub size_within-grid : (n k : ℕ) → k ≤ 962 → is_size_within n k ≡ true → IsGridSize n
unfolding is_size_within
size_within-grid n zero h t =
    let l : n < 2 ^ 62 = ltb-true _ _ t in
    record { mantissa = n; exponent = 0; mantissa_fits = l; exponent_fits = h; value = omega (arith, ap (λ x. n * x) (pow-zero 2), mul-one n) }
size_within-grid n (suc k) h t =
    elim (or_cases ((n % 2 ^ suc k == 0) && nat_lt (n / 2 ^ suc k) (2 ^ 62)) (is_size_within n k) t) [
      | inl u ↦
          let e : n % 2 ^ suc k ≡ 0 = eqb-true _ _ (and_parts _ _ u).0 in
          let l : n / 2 ^ suc k < 2 ^ 62 = ltb-true _ _ (and_parts _ _ u).1 in
          record { mantissa = n / 2 ^ suc k; exponent = suc k; mantissa_fits = l; exponent_fits = h; value = divided n (suc k) e }
      | inr u ↦ size_within-grid n k (omega arith) u
    ]

pub size_within-true : (m e k : ℕ) → m < 2 ^ 62 → e ≤ k → is_size_within (m * 2 ^ e) k ≡ true
unfolding is_size_within
size_within-true m e zero h l =
    let z : e ≡ 0 = omega arith in
    let w : m * 2 ^ e ≡ m = ap (λ x. m * 2 ^ x) z ∙ ap (λ x. m * x) (pow-zero 2) ∙ mul-one m in
    lt-ltb _ _ (subst (λ x. x < 2 ^ 62) (sym w) h)
size_within-true m e (suc k) h l =
    elim (cases_eq e (suc k)) [
      | inl q ↦
          let a : m * 2 ^ e % 2 ^ suc k ≡ 0 = ap (λ x. m * 2 ^ x % 2 ^ suc k) q ∙ mul-mod_left m (2 ^ suc k) in
          let b : m * 2 ^ e / 2 ^ suc k ≡ m = ap (λ x. m * 2 ^ x / 2 ^ suc k) q ∙ mul-div_cancel m (pow_pos (suc k)) in
          or_left _ _ (and_from _ _ (eq-eqb _ _ a) (lt-ltb _ _ (subst (λ x. x < 2 ^ 62) (sym b) h)))
      | inr q ↦ or_right _ _ (size_within-true m e k h (omega arith))
    ]

pub size-grid : (n : ℕ) → is_size n ≡ true → IsGridSize n
unfolding is_size
size-grid n t = size_within-grid n 962 (omega arith) t

pub grid-size : (n : ℕ) → IsGridSize n → is_size n ≡ true
unfolding is_size
grid-size n g = ap (λ x. is_size_within x 962) g.value ∙ size_within-true g.mantissa g.exponent 962 g.mantissa_fits g.exponent_fits

-- ---- The sizes next to a quotient

pub below-floor : (a b : ℕ) → 0 < b → IsFloorSize a b (size_below (a / b))
unfolding size_below
below-floor a b p = record {
  grid = size-grid _ (greatest_upto-passes is_size (a / b) (grid-size 0 zero_grid));
  below = (le-div_iff_mul-le p).0 (greatest_upto-le is_size (a / b));
  greatest = λ f g l. greatest_upto-greatest is_size (a / b) f ((le-div_iff_mul-le p).1 l) (grid-size f g);
}

-- f reaches a / b exactly from its ceiling on.
ceiling-le : (a b f : ℕ) → 0 < b → a ≤ f * b → (a + (b - 1)) / b ≤ f
ceiling-le a b f p h =
    let l : a + (b - 1) < (f + 1) * b = omega (arith, h, add-mul f 1 b, one-mul b) in
    let k : (a + (b - 1)) / b < f + 1 = (div-lt_iff_lt-mul p).1 l in
    omega (arith, k)

le-ceiling : (a b f : ℕ) → 0 < b → (a + (b - 1)) / b ≤ f → a ≤ f * b
le-ceiling a b f p h =
    let k : (a + (b - 1)) / b < f + 1 = omega (arith, h) in
    let l : a + (b - 1) < (f + 1) * b = (div-lt_iff_lt-mul p).0 k in
    omega (arith, l, add-mul f 1 b, one-mul b)

abbrev pub Ceiling : ℕ → ℕ → Option ℕ → Type 0
Ceiling a b None = (f : ℕ) → IsGridSize f → f * b < a
Ceiling a b (Some r) = IsCeilingSize a b r

ceiling_found : (a b : ℕ) (o : Option ℕ) → 0 < b → Found is_size (suc top_size - (a + (b - 1)) / b) ((a + (b - 1)) / b) o → Ceiling a b o
ceiling_found a b None p h = λ f g.
    elim (cases_lt (f * b) a) [
      | inl l ↦ l
      | inr l ↦
          let k : (a + (b - 1)) / b ≤ f = ceiling-le a b f p l in
          let t : f ≤ top_size = at_most_top f g in
          absurd (both_ways (is_size f) (h f k (omega (arith, k, t))) (grid-size f g))
    ]
ceiling_found a b (Some r) p h = record {
  grid = size-grid r h.passes;
  above = le-ceiling a b r p h.from;
  least = λ f g l. h.first f (ceiling-le a b f p l) (grid-size f g);
}

pub above-ceiling : (a b : ℕ) → 0 < b → Ceiling a b (size_above ((a + (b - 1)) / b))
unfolding size_above
above-ceiling a b p = ceiling_found a b _ p (first_from-found is_size (suc top_size - (a + (b - 1)) / b) ((a + (b - 1)) / b))

minus_ceiling : (n b : ℕ) (o : Option ℕ) → 0 < b → Ceiling n b o → IsDown (neg_ℤ (pos n)) b (at_most_minus o)
minus_ceiling n b None p h = down_none n b h
minus_ceiling n b (Some r) p h = down_neg n b r p h

plus_ceiling : (n b : ℕ) (o : Option ℕ) → 0 < b → Ceiling n b o → IsUp (pos n) b (at_least_plus o)
plus_ceiling n b None p h = up_none n b h
plus_ceiling n b (Some r) p h = up_pos n b r p h

-- ---- The rounded number is what rounding is, and it alone

pub rounded-is : (side : End) (a : ℤ) (b : ℕ) → 0 < b → IsRounded side a b (rounded side a b)
unfolding rounded
rounded-is Down (pos n) b p = down_pos n b (size_below (n / b)) (below-floor n b p)
rounded-is Down (negsuc n) b p = minus_ceiling (suc n) b _ p (above-ceiling (suc n) b p)
rounded-is Up (pos n) b p = plus_ceiling n b _ p (above-ceiling n b p)
rounded-is Up (negsuc n) b p = up_neg (suc n) b (size_below (suc n / b)) (below-floor (suc n) b p)

same_ends : (m n : ℤ) → m ≤ℤ n → n ≤ℤ m → m ≡ n
same_ends m n h k = omega (arith, ints)

pub down-unique : (a : ℤ) (b : ℕ) (r s : Extended) → IsDown a b r → IsDown a b s → r ≡ s
down-unique a b NegInf NegInf h k = refl
down-unique a b NegInf (Fin n) h k = let l : a <ℤ (n *ℤ pos b) = h n k.grid in let m : (n *ℤ pos b) ≤ℤ a = k.below in absurd (omega (arith, ints, l, m))
down-unique a b NegInf PosInf h k = absurd k
down-unique a b (Fin n) NegInf h k = let l : a <ℤ (n *ℤ pos b) = k n h.grid in let m : (n *ℤ pos b) ≤ℤ a = h.below in absurd (omega (arith, ints, l, m))
down-unique a b (Fin m) (Fin n) h k = ap Fin (same_ends m n (k.greatest m h.grid h.below) (h.greatest n k.grid k.below))
down-unique a b (Fin n) PosInf h k = absurd k
down-unique a b PosInf s h k = absurd h

pub up-unique : (a : ℤ) (b : ℕ) (r s : Extended) → IsUp a b r → IsUp a b s → r ≡ s
up-unique a b NegInf s h k = absurd h
up-unique a b (Fin n) NegInf h k = absurd k
up-unique a b (Fin m) (Fin n) h k = ap Fin (same_ends m n (h.least n k.grid k.above) (k.least m h.grid h.above))
up-unique a b (Fin n) PosInf h k = let l : (n *ℤ pos b) <ℤ a = k n h.grid in let m : a ≤ℤ (n *ℤ pos b) = h.above in absurd (omega (arith, ints, l, m))
up-unique a b PosInf NegInf h k = absurd k
up-unique a b PosInf (Fin n) h k = let l : (n *ℤ pos b) <ℤ a = h n k.grid in let m : a ≤ℤ (n *ℤ pos b) = k.above in absurd (omega (arith, ints, l, m))
up-unique a b PosInf PosInf h k = refl

pub rounded-unique : (side : End) (a : ℤ) (b : ℕ) (r : Extended) → 0 < b → IsRounded side a b r → r ≡ rounded side a b
rounded-unique Down a b r p h = down-unique a b r (rounded Down a b) h (rounded-is Down a b p)
rounded-unique Up a b r p h = up-unique a b r (rounded Up a b) h (rounded-is Up a b p)
