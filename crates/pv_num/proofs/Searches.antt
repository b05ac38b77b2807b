use Rattle.std.proofs.Common.{◌≡◌, ℕ, zero, suc, ◌+◌, ◌-◌, ◌*◌, ◌/◌, ◌%◌, ◌^◌, ◌<◌, ◌≤◌, ◌⊎◌, inl, inr, Bool, true, false, not, IsTrue, Option, Some, None, arith, refl, ap, sym, subst, ◌∙◌, ℤ, pos}
use Rattle.std.proofs.lemmas.Bool.{true≢false, cases_lt, cases_eq, cases_Bool, cond-true, cond-false, and_parts, and_from, both_ways, not-true, not-false}
use Rattle.std.proofs.Math.Nat.{div-add-mod', two-pow-succ, lt_irrefl}
use Rattle.pv_num.specs.Extended.{Extended, NegInf, Fin, PosInf}
use Rattle.pv_num.specs.Grid.{IsGridSize}
use Rattle.pv_num.specs.Order.{le}
use Rattle.pv_num.specs.Rounding.{greatest_upto, first_from, is_size, top_size, at_least_plus}
use Rattle.pv_num.specs.Arithmetic.{pow_of, is_root_below, is_root_above, root_of}
use Rattle.pv_num.specs.Roots.{exponent_at, mantissa_at, size_at, is_reached}
use Rattle.pv_num.specs.declared.num.End.{End}
use Rattle.pv_num.specs.declared.num.End.TheVariants.{Down, Up}
use Rattle.pv_num.proofs.Rounds.{is_grid, at_most_top, above_gap}
use Rattle.pv_num.proofs.Rounding.{greatest_upto-greatest, first_from-found, Found, grid-size, size-grid}
use Rattle.pv_num.proofs.Orders.{le-trans}
use Rattle.pv_num.proofs.Monotone.{power-monotone}

-- ---- The sizes without gaps

-- An index as a block of 2 ^ 61 sizes and a place in it.
block_parts : (i : ℕ) → i ≡ i / 2 ^ 61 * 2 ^ 61 + i % 2 ^ 61
block_parts i = sym (div-add-mod' i (2 ^ 61))

pub mantissa_at-fits : (i : ℕ) → mantissa_at i < 2 ^ 62
mantissa_at-fits i = omega (arith, block_parts i)

pub mantissa_at-justified : (i : ℕ) → 0 < exponent_at i → 2 ^ 61 ≤ mantissa_at i
mantissa_at-justified i h = omega (arith, block_parts i)

pub exponent_at-fits : (i : ℕ) → i < 962 * 2 ^ 61 + 2 ^ 62 → exponent_at i ≤ 962
exponent_at-fits i h = omega (arith, block_parts i)

pub size_at-grid : (i : ℕ) → i < 962 * 2 ^ 61 + 2 ^ 62 → IsGridSize (size_at i)
size_at-grid i h = is_grid (mantissa_at i) (exponent_at i) (mantissa_at-fits i) (exponent_at-fits i h)

pub same_block : (i b r : ℕ) → i ≡ b * 2 ^ 61 + r → r < 2 ^ 61 → i / 2 ^ 61 ≡ b
same_block i b r e h = omega (arith, block_parts i, e)

pub size_at-suc : (i : ℕ) → size_at (suc i) ≡ (mantissa_at i + 1) * 2 ^ exponent_at i
size_at-suc i =
    let b : i ≡ i / 2 ^ 61 * 2 ^ 61 + i % 2 ^ 61 = block_parts i in
    elim (cases_lt (i % 2 ^ 61 + 1) (2 ^ 61)) [
      | inl l ↦
          let q : suc i / 2 ^ 61 ≡ i / 2 ^ 61 = same_block (suc i) (i / 2 ^ 61) (i % 2 ^ 61 + 1) (omega (arith, b)) l in
          let m : suc i - (i / 2 ^ 61 - 1) * 2 ^ 61 ≡ i - (i / 2 ^ 61 - 1) * 2 ^ 61 + 1 = omega (arith, b) in
          ap (λ x. (suc i - (x - 1) * 2 ^ 61) * 2 ^ (x - 1)) q ∙ ap (λ x. x * 2 ^ (i / 2 ^ 61 - 1)) m
      | inr l ↦
          let q : suc i / 2 ^ 61 ≡ i / 2 ^ 61 + 1 = same_block (suc i) (i / 2 ^ 61 + 1) 0 (omega (arith, b, l)) (omega arith) in
          elim (cases_eq (i / 2 ^ 61) 0) [
            | inl z ↦
                let m : suc i - (i / 2 ^ 61 + 1 - 1) * 2 ^ 61 ≡ i - (i / 2 ^ 61 - 1) * 2 ^ 61 + 1 = omega (arith, b, z) in
                let x : i / 2 ^ 61 + 1 - 1 ≡ i / 2 ^ 61 - 1 = omega (arith, z) in
                ap (λ x. (suc i - (x - 1) * 2 ^ 61) * 2 ^ (x - 1)) q ∙ ap (λ y. y * 2 ^ (i / 2 ^ 61 + 1 - 1)) m ∙ ap (λ y. (i - (i / 2 ^ 61 - 1) * 2 ^ 61 + 1) * 2 ^ y) x
            | inr c ↦
                let m : suc i - (i / 2 ^ 61 + 1 - 1) * 2 ^ 61 ≡ 2 ^ 61 = omega (arith, b, l) in
                let x : i / 2 ^ 61 + 1 - 1 ≡ suc (i / 2 ^ 61 - 1) = omega (arith, c) in
                let w : i - (i / 2 ^ 61 - 1) * 2 ^ 61 + 1 ≡ 2 ^ 62 = omega (arith, b, l, c) in
                let t : 2 ^ 61 * 2 ^ suc (i / 2 ^ 61 - 1) ≡ 2 ^ 62 * 2 ^ (i / 2 ^ 61 - 1) = omega (arith, ap (λ y. 2 ^ 61 * y) (two-pow-succ (i / 2 ^ 61 - 1))) in
                ap (λ x. (suc i - (x - 1) * 2 ^ 61) * 2 ^ (x - 1)) q ∙ ap (λ y. y * 2 ^ (i / 2 ^ 61 + 1 - 1)) m ∙ ap (λ y. 2 ^ 61 * 2 ^ y) x ∙ t ∙ sym (ap (λ y. y * 2 ^ (i / 2 ^ 61 - 1)) w)
          ]
    ]

-- The next index has the next size.
pub size_at-next : (i f : ℕ) → IsGridSize f → size_at i < f → size_at (suc i) ≤ f
size_at-next i f g l = subst (λ x. x ≤ f) (sym (size_at-suc i)) (above_gap (mantissa_at i) (exponent_at i) f (mantissa_at-justified i) g l)

pub size_at-top : size_at (962 * 2 ^ 61 + 2 ^ 62 - 1) ≡ top_size
unfolding top_size
size_at-top = refl

-- ---- What is reached stays reached

pub reached-up : (side : End) (z : Extended) (n f g : ℕ) → f ≤ g → is_reached side z n f ≡ true → is_reached side z n g ≡ true
reached-up Down z n f g h t =
    elim (cases_Bool (le (pow_of Up (Fin (pos g)) n) z)) [
      | inl u ↦ absurd (both_ways (le (pow_of Up (Fin (pos f)) n) z) (not-true _ t) (le-trans (pow_of Up (Fin (pos f)) n) (pow_of Up (Fin (pos g)) n) z (power-monotone Up f g n h) u))
      | inr u ↦ ap not u
    ]
reached-up Up z n f g h t = le-trans z (pow_of Down (Fin (pos f)) n) (pow_of Down (Fin (pos g)) n) t (power-monotone Down f g n h)

-- ---- The greatest number that passes a test, and the first

greatest_or_zero : (p : ℕ → Bool) (n : ℕ) → (greatest_upto p n ≡ 0) ⊎ (p (greatest_upto p n) ≡ true)
unfolding greatest_upto
greatest_or_zero p zero = inl refl
greatest_or_zero p (suc n) =
    elim (cases_Bool (p (suc n))) [
      | inl t ↦ inr (ap p (cond-true _ _ _ t) ∙ t)
      | inr f ↦ subst (λ x. (x ≡ 0) ⊎ (p x ≡ true)) (sym (cond-false _ _ _ f)) (greatest_or_zero p n)
    ]

below_first : (side : End) (z : Extended) (n first f : ℕ) → first ≤ 962 * 2 ^ 61 + 2 ^ 62 → (first < 962 * 2 ^ 61 + 2 ^ 62 → is_reached side z n (size_at first) ≡ true) → IsGridSize f → is_reached side z n f ≡ false → f ≤ size_at (first - 1)
below_first side z n first f h here g t =
    elim (cases_lt (size_at (first - 1)) f) [
      | inl l ↦
          elim (cases_lt first (962 * 2 ^ 61 + 2 ^ 62)) [
            | inl k ↦
                elim (cases_eq first 0) [
                  | inl q ↦
                      let e : size_at first ≡ 0 = ap size_at q in
                      absurd (both_ways (is_reached side z n f) t (reached-up side z n (size_at first) f (omega (arith, e)) (here k)))
                  | inr c ↦
                      let w : suc (first - 1) ≡ first = omega (arith, c) in
                      let m : size_at first ≤ f = subst (λ x. size_at x ≤ f) w (size_at-next (first - 1) f g l) in
                      absurd (both_ways (is_reached side z n f) t (reached-up side z n (size_at first) f m (here k)))
                ]
            | inr k ↦
                let w : first ≡ 962 * 2 ^ 61 + 2 ^ 62 = omega (arith, h, k) in
                let e : size_at (first - 1) ≡ top_size = ap (λ x. size_at (x - 1)) w ∙ size_at-top in
                let m : f ≤ top_size = at_most_top f g in
                absurd (lt_irrefl f (omega (arith, l, e, m)))
          ]
      | inr k ↦ k
    ]

squeezed : (a b : ℕ) → a ≤ b → b ≤ a → a ≡ b
squeezed a b h k = omega arith

pub root_down_is : (z : Extended) (n first : ℕ) → first ≤ 962 * 2 ^ 61 + 2 ^ 62 → (0 < first → is_reached Down z n (size_at (first - 1)) ≡ false) → (first < 962 * 2 ^ 61 + 2 ^ 62 → is_reached Down z n (size_at first) ≡ true) → Fin (pos (size_at (first - 1))) ≡ root_of Down z n
unfolding root_of
root_down_is z n first h below here =
    let upper : greatest_upto (is_root_below z n) top_size ≤ size_at (first - 1) =
    elim (greatest_or_zero (is_root_below z n) top_size) [
      | inl q ↦ omega (arith, q)
      | inr t ↦
          let parts = and_parts (is_size (greatest_upto (is_root_below z n) top_size)) (le (pow_of Up (Fin (pos (greatest_upto (is_root_below z n) top_size))) n) z) t in
          below_first Down z n first (greatest_upto (is_root_below z n) top_size) h here (size-grid _ parts.0) (ap not parts.1)
    ] in
    let lower : size_at (first - 1) ≤ greatest_upto (is_root_below z n) top_size =
    elim (cases_eq first 0) [
      | inl q ↦ let e : size_at (first - 1) ≡ 0 = ap (λ x. size_at (x - 1)) q in omega (arith, e)
      | inr c ↦
          let less : first - 1 < 962 * 2 ^ 61 + 2 ^ 62 = omega (arith, h, c) in
          let g : IsGridSize (size_at (first - 1)) = size_at-grid (first - 1) less in
          greatest_upto-greatest (is_root_below z n) top_size (size_at (first - 1)) (at_most_top _ g)
          (and_from _ _ (grid-size _ g) (not-false _ (below (omega (arith, c)))))
    ] in
    ap (λ x. Fin (pos x)) (squeezed (size_at (first - 1)) (greatest_upto (is_root_below z n) top_size) lower upper)

-- A passing test of an upper root, from what is reached.
passes_above : (z : Extended) (n f : ℕ) → IsGridSize f → is_reached Up z n f ≡ true → is_root_above z n f ≡ true
passes_above z n f g t = and_from _ _ (grid-size f g) t

first_is : (z : Extended) (n r : ℕ) (o : Option ℕ) → IsGridSize r → is_reached Up z n r ≡ true → ((f : ℕ) → IsGridSize f → is_reached Up z n f ≡ true → r ≤ f) → Found (is_root_above z n) (suc top_size) 0 o → Fin (pos r) ≡ at_least_plus o
first_is z n r None g t least h =
    let m : r ≤ top_size = at_most_top r g in
    absurd (both_ways (is_root_above z n r) (h r (omega arith) (omega (arith, m))) (passes_above z n r g t))
first_is z n r (Some q) g t least h =
    let parts = and_parts (is_size q) (le z (pow_of Down (Fin (pos q)) n)) h.passes in
    let a : q ≤ r = h.first r (omega arith) (passes_above z n r g t) in
    let b : r ≤ q = least q (size-grid q parts.0) parts.1 in
    ap (λ x. Fin (pos x)) (squeezed r q b a)

none_is : (z : Extended) (n : ℕ) (o : Option ℕ) → ((f : ℕ) → IsGridSize f → is_reached Up z n f ≡ false) → Found (is_root_above z n) (suc top_size) 0 o → PosInf ≡ at_least_plus o
none_is z n None never h = refl
none_is z n (Some q) never h =
    let parts = and_parts (is_size q) (le z (pow_of Down (Fin (pos q)) n)) h.passes in
    absurd (both_ways (is_reached Up z n q) (never q (size-grid q parts.0)) parts.1)

root_up_fin : (a : ℤ) (n : ℕ) (r : Extended) → r ≡ at_least_plus (first_from (is_root_above (Fin a) n) (suc top_size) 0) → r ≡ root_of Up (Fin a) n
unfolding root_of
root_up_fin a n r h = h

least_reached : (z : Extended) (n first f : ℕ) → first ≤ 962 * 2 ^ 61 + 2 ^ 62 → (0 < first → is_reached Up z n (size_at (first - 1)) ≡ false) → IsGridSize f → is_reached Up z n f ≡ true → size_at first ≤ f
least_reached z n first f h below g t =
    elim (cases_eq first 0) [
      | inl q ↦ let e : size_at first ≡ 0 = ap size_at q in omega (arith, e)
      | inr c ↦
          elim (cases_lt (size_at (first - 1)) f) [
            | inl l ↦
                let w : suc (first - 1) ≡ first = omega (arith, c) in
                subst (λ x. size_at x ≤ f) w (size_at-next (first - 1) f g l)
            | inr l ↦ absurd (both_ways (is_reached Up z n (size_at (first - 1))) (below (omega (arith, c))) (reached-up Up z n f (size_at (first - 1)) l t))
          ]
    ]

pub root_up_is : (z : Extended) (n first : ℕ) → IsTrue (le (Fin (pos 0)) z) → (z ≡ PosInf → ⊥) → first < 962 * 2 ^ 61 + 2 ^ 62 → (0 < first → is_reached Up z n (size_at (first - 1)) ≡ false) → is_reached Up z n (size_at first) ≡ true → Fin (pos (size_at first)) ≡ root_of Up z n
root_up_is NegInf n first low fin h below here = absurd (true≢false (sym low))
root_up_is PosInf n first low fin h below here = absurd (fin refl)
root_up_is (Fin a) n first low fin h below here =
    root_up_fin a n _ (first_is (Fin a) n (size_at first) _ (size_at-grid first h) here (λ f g t. least_reached (Fin a) n first f (omega (arith, h)) below g t) (first_from-found (is_root_above (Fin a) n) (suc top_size) 0))

never_reached : (a : ℤ) (n f : ℕ) → is_reached Up (Fin a) n top_size ≡ false → IsGridSize f → is_reached Up (Fin a) n f ≡ false
never_reached a n f last g =
    elim (cases_Bool (is_reached Up (Fin a) n f)) [
      | inl t ↦ absurd (both_ways (is_reached Up (Fin a) n top_size) last (reached-up Up (Fin a) n f top_size (at_most_top f g) t))
      | inr t ↦ t
    ]

pub root_up_none : (z : Extended) (n first : ℕ) → IsTrue (le (Fin (pos 0)) z) → (z ≡ PosInf → ⊥) → first ≡ 962 * 2 ^ 61 + 2 ^ 62 → (0 < first → is_reached Up z n (size_at (first - 1)) ≡ false) → PosInf ≡ root_of Up z n
root_up_none NegInf n first low fin h below = absurd (true≢false (sym low))
root_up_none PosInf n first low fin h below = absurd (fin refl)
root_up_none (Fin a) n first low fin h below =
    let e : size_at (first - 1) ≡ top_size = ap (λ x. size_at (x - 1)) h ∙ size_at-top in
    let last : is_reached Up (Fin a) n top_size ≡ false = subst (λ x. is_reached Up (Fin a) n x ≡ false) e (below (omega (arith, h))) in
    root_up_fin a n PosInf (none_is (Fin a) n _ (λ f g. never_reached a n f last g) (first_from-found (is_root_above (Fin a) n) (suc top_size) 0))
