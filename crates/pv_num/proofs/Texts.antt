use Rattle.std.proofs.Common.{FitsSigned, to_z, of_z, w64, ◌≡◌, ℕ, zero, suc, ◌+◌, ◌-◌, ◌^◌, ◌<◌, ◌==◌, nat_lt, Bool, true, false, not, Option, Some, None, List, [], ◌∷◌, ◌++◌, length, get_or, take, drop, arith, refl, ap, sym, subst, ◌∙◌, ℤ, pos, negsuc, neg_ℤ, ◌+ℤ◌, ◌-ℤ◌, ◌*ℤ◌, unsigned_abs, length-append, length-drop}
use Rattle.std.proofs.lemmas.List.{get_or-append_right}
use Rattle.std.proofs.Math.Seq.{take-append_seam, drop-append-add, take-length}
use Rattle.std.proofs.lemmas.Bool.{both_ways, ne_eqb, cond-true, lt-ltb}
use Rattle.std.proofs.lemmas.Fmt.{decimal_is_IsNumeral}
use Rattle.std.proofs.lemmas.Int.{ints, fits_signed_from_abs, to_z-of_z}
use mir.Syntax.{w16}
use Rattle.std.specs.Fmt.{decimal, signed_decimal}
use Rattle.std.specs.Str.Parse.{AllDigits}
use Rattle.std.specs.Char.{digit_value}
use Rattle.std.specs.List.{position, position_or_len}
use lib.Signed.{mag}
use Rattle.pv_num.specs.Extended.{Extended, NegInf, Fin, PosInf}
use Rattle.pv_num.specs.Grid.{IsGridSize, IsGrid}
use Rattle.pv_num.specs.Sizes.{with_sign}
use Rattle.pv_num.specs.Parts.{HasNoColon, IsNumber, IsValueAt, IsValue, IsFin, IsPartsOf, number_text, parts_text, parts_of, odd_of, twos, exponent_parts}
use Rattle.pv_num.specs.declared.convert.Parts.{Parts}
use Rattle.pv_num.specs.declared.convert.Parts.TheVariants.{Fin as FinParts}
use Rattle.pv_num.proofs.Monotone.{cancel, ≤ℤ_same}
use Rattle.std.proofs.lemmas.Nat.{pow_pos}
use Rattle.pv_num.proofs.Canonical.{twos_below, odd_below, parts_of-are, parts_of-signed}
use Rattle.pv_num.proofs.Orders.{both_le}

digit_not_colon : (c : ℕ) → digit_value c < 10 → c ≡ 58 → ⊥
digit_not_colon c h e = let k : digit_value 58 < 10 = subst (λ x. digit_value x < 10) e h in omega (arith, k)

digits_no_colon : (ds : List ℕ) → AllDigits 10 ds → HasNoColon ds
digits_no_colon [] h k l e = omega (arith, l)
digits_no_colon (c ∷ cs) h zero l e = digit_not_colon c h.0 e
digits_no_colon (c ∷ cs) h (suc k) l e = digits_no_colon cs h.1 k (omega (arith, l)) e

not_minus : (n : ℕ) → n ≡ 45 → n ≡ 58 → ⊥
not_minus n h e = omega arith

minus_no_colon : (ds : List ℕ) → HasNoColon ds → HasNoColon (45 ∷ ds)
minus_no_colon ds h zero l e = not_minus 45 refl e
minus_no_colon ds h (suc k) l e = h k (omega (arith, l)) e

pub whole_no_colon : (z : ℤ) → unsigned_abs z < 2 ^ 63 → HasNoColon (signed_decimal z)
whole_no_colon (pos n) h = digits_no_colon (decimal n) (decimal_is_IsNumeral n (omega (arith, h))).0.1
whole_no_colon (negsuc n) h = minus_no_colon (decimal (suc n)) (digits_no_colon (decimal (suc n)) (decimal_is_IsNumeral (suc n) (omega (arith, h))).0.1)

-- The first colon stands behind the front.
colon_or_len : (front back : List ℕ) → HasNoColon front → position_or_len (λ b. b == 58) (front ++ 58 ∷ back) ≡ length front
colon_or_len [] back none = refl
colon_or_len (c ∷ cs) back none =
    let here : (c == 58) ≡ false = ne_eqb c 58 (none 0 (omega arith)) in
    let rest : position_or_len (λ b. b == 58) (cs ++ 58 ∷ back) ≡ length cs = colon_or_len cs back (λ k l e. none (suc k) (omega (arith, l)) e) in
    cond-true _ _ _ (ap not here) ∙ omega (arith, rest)

pub first_colon : (bytes front back : List ℕ) → HasNoColon front → bytes ≡ front ++ 58 ∷ back → position (λ b. b == 58) bytes ≡ Some (length front)
first_colon bytes front back none e =
    let p : position_or_len (λ b. b == 58) (front ++ 58 ∷ back) ≡ length front = colon_or_len front back none in
    let l : length front < length (front ++ 58 ∷ back) = omega (arith, length-append front (58 ∷ back)) in
    ap (position (λ b. b == 58)) e
    ∙ cond-true (nat_lt (position_or_len (λ b. b == 58) (front ++ 58 ∷ back)) (length (front ++ 58 ∷ back))) (Some (position_or_len (λ b. b == 58) (front ++ 58 ∷ back))) None (lt-ltb _ _ (omega (arith, p, l)))
    ∙ ap Some p

pub fits_mag : (z : ℤ) → unsigned_abs z < 2 ^ 63 → mag z < 2 ^ 63
fits_mag (pos n) h = h
fits_mag (negsuc n) h = omega (arith, h)

pub front_of : (bytes front back : List ℕ) (i : ℕ) → bytes ≡ front ++ 58 ∷ back → i ≡ length front → take i bytes ≡ front
front_of bytes front back i e q = ap (λ x. take x bytes) q ∙ ap (λ x. take (length front) x) e ∙ take-append_seam front (58 ∷ back)

pub back_of : (bytes front back : List ℕ) (i : ℕ) → bytes ≡ front ++ 58 ∷ back → i ≡ length front → drop (i + 1) bytes ≡ back
back_of bytes front back i e q = ap (λ x. drop (x + 1) bytes) q ∙ ap (λ x. drop (length front + 1) x) e ∙ drop-append-add front (58 ∷ back) 1

pub fits_word : (z : ℤ) → unsigned_abs z < 2 ^ 63 → FitsSigned w64 z
fits_word z h = fits_signed_from_abs w64 z h

pub rest_of : (bytes front back : List ℕ) (i : ℕ) → bytes ≡ front ++ 58 ∷ back → i ≡ length front → take (length bytes - (i + 1)) (drop (i + 1) bytes) ≡ back
rest_of bytes front back i e q =
    ap (λ n. take n (drop (i + 1) bytes)) (sym (length-drop (i + 1) bytes)) ∙ take-length (drop (i + 1) bytes) ∙ back_of bytes front back i e q

-- ---- The text of a finite number

-- The canonical parts of a number, and that they are small.
pub record IsSpelled (z m e : ℤ) : Type 0 where
  pub parts : parts_of (Fin z) ≡ FinParts m e
  pub value : IsValue m e z
  pub m_fits : unsigned_abs m < 2 ^ 63
  pub e_fits : unsigned_abs e < 2 ^ 15

signed_small : (s : Bool) (n : ℕ) → n < 2 ^ 62 → unsigned_abs (with_sign s n) < 2 ^ 63
signed_small true zero h = omega arith
signed_small true (suc n) h = omega arith
signed_small false n h = omega arith

exponent_small : (t : ℕ) → t < 1024 → unsigned_abs (pos t -ℤ pos 512) < 2 ^ 15
exponent_small t h = omega (arith, ints)

spelled_signed : (s : Bool) (n : ℕ) → 0 < n → IsGridSize n → IsSpelled (with_sign s n) (with_sign s (odd_of n)) (exponent_parts n)
spelled_signed s n p g = record {
  parts = parts_of-signed s n p;
  value = (subst (λ q. IsPartsOf (Fin (with_sign s n)) q) (parts_of-signed s n p) (parts_of-are (Fin (with_sign s n)))).0;
  m_fits = signed_small s (odd_of n) (odd_below n p g);
  e_fits = exponent_small (twos n) (twos_below n p g);
}

pub record Spelling (z : ℤ) : Type 0 where
  pub m : ℤ
  pub e : ℤ
  pub spelled : IsSpelled z m e

pub spelling : (z : ℤ) → IsGrid z → Spelling z
spelling (pos zero) g = record { m = pos 0; e = pos 0; spelled = record { parts = refl; value = (parts_of-are (Fin (pos 0))).0; m_fits = omega arith; e_fits = omega arith } }
spelling (pos (suc n)) g = record { m = pos (odd_of (suc n)); e = exponent_parts (suc n); spelled = spelled_signed false (suc n) (omega arith) g }
spelling (negsuc n) g = record { m = neg_ℤ (pos (odd_of (suc n))); e = exponent_parts (suc n); spelled = spelled_signed true (suc n) (omega arith) g }

pub spelled_text : (z m e : ℤ) → IsSpelled z m e → number_text (Fin z) ≡ signed_decimal m ++ 58 ∷ signed_decimal e
unfolding number_text
spelled_text z m e h = ap parts_text h.parts

pub parts_spell : (x : Extended) (m e : ℤ) → parts_of x ≡ FinParts m e → number_text x ≡ signed_decimal m ++ 58 ∷ signed_decimal e
unfolding number_text
parts_spell x m e h = ap parts_text h

no_colon_in : (xs front back : List ℕ) → xs ≡ front ++ 58 ∷ back → HasNoColon xs → ⊥
no_colon_in xs front back e h =
    let z : length front - length front ≡ 0 = omega arith in
    h (length front) (omega (arith, ap length e, length-append front (58 ∷ back)))
    (ap (λ x. get_or x (length front) 0) e ∙ get_or-append_right front (58 ∷ back) (length front) (length front) 0 refl (omega arith) ∙ ap (λ x. get_or (58 ∷ back) x 0) z)

not_colon : (n : ℕ) → n < 58 → n ≡ 58 → ⊥
not_colon n h e = omega arith

high_not_colon : (n : ℕ) → 58 < n → n ≡ 58 → ⊥
high_not_colon n h e = omega arith

end_no_colon : (c : ℕ) → c < 58 → HasNoColon (c ∷ 111 ∷ 111 ∷ [])
end_no_colon c h zero l e = not_colon c h e
end_no_colon c h (suc zero) l e = high_not_colon 111 (omega arith) e
end_no_colon c h (suc (suc zero)) l e = high_not_colon 111 (omega arith) e
end_no_colon c h (suc (suc (suc k))) l e = omega (arith, l)

fin_not_end : (c : ℕ) (z : ℤ) → c < 58 → IsGrid z → c ∷ 111 ∷ 111 ∷ [] ≡ number_text (Fin z) → ⊥
fin_not_end c z h g q =
    let s = (spelling z g).spelled in
    no_colon_in (c ∷ 111 ∷ 111 ∷ []) _ _ (q ∙ spelled_text z _ _ s) (end_no_colon c h)

pub minus_text : number_text NegInf ≡ 45 ∷ 111 ∷ 111 ∷ []
unfolding number_text
minus_text = refl

pub plus_text : number_text PosInf ≡ 43 ∷ 111 ∷ 111 ∷ []
unfolding number_text
plus_text = refl

pub other_head : (a b : ℕ) (xs ys : List ℕ) → a < b → a ∷ xs ≡ b ∷ ys → ⊥
other_head a b xs ys h e = let k : a ≡ b = ap (λ l. get_or l 0 0) e in omega (arith, k, h)

pub minus_only : (x : Extended) → IsNumber x → 45 ∷ 111 ∷ 111 ∷ [] ≡ number_text x → x ≡ NegInf
minus_only NegInf g e = refl
minus_only (Fin z) g e = absurd (fin_not_end 45 z (omega arith) g e)
minus_only PosInf g e = absurd (other_head 43 45 (111 ∷ 111 ∷ []) (111 ∷ 111 ∷ []) (omega arith) (sym (e ∙ plus_text)))

pub plus_only : (x : Extended) → IsNumber x → 43 ∷ 111 ∷ 111 ∷ [] ≡ number_text x → x ≡ PosInf
plus_only NegInf g e = absurd (other_head 43 45 (111 ∷ 111 ∷ []) (111 ∷ 111 ∷ []) (omega arith) (e ∙ minus_text))
plus_only (Fin z) g e = absurd (fin_not_end 43 z (omega arith) g e)
plus_only PosInf g e = refl

-- A number whose text is neither end's is finite.
pub finite_text : (x : Extended) (bytes : List ℕ) → IsNumber x → bytes ≡ number_text x → (bytes ≡ 45 ∷ 111 ∷ 111 ∷ [] → ⊥) → (bytes ≡ 43 ∷ 111 ∷ 111 ∷ [] → ⊥) → (z : ℤ) × (x ≡ Fin z) × IsGrid z
finite_text NegInf bytes g e a b = absurd (a (e ∙ minus_text))
finite_text (Fin z) bytes g e a b = (z, refl, g)
finite_text PosInf bytes g e a b = absurd (b (e ∙ plus_text))

-- ---- Values are unique

same_product : (z y : ℤ) (b : ℕ) → 0 < b → z *ℤ pos b ≡ y *ℤ pos b → z ≡ y
same_product z y b p h = both_le z y (cancel z y b p (≤ℤ_same (z *ℤ pos b) (y *ℤ pos b) h)) (cancel y z b p (≤ℤ_same (y *ℤ pos b) (z *ℤ pos b) (sym h)))

value_unique : (m w z y : ℤ) → IsValueAt m w z → IsValueAt m w y → z ≡ y
value_unique m (pos k) z y h i = h ∙ sym i
value_unique m (negsuc k) z y h i = same_product z y (2 ^ suc k) (pow_pos (suc k)) (h ∙ sym i)

pub fin_is : (m e z : ℤ) (r : Extended) → IsFin m e (Some r) → IsValue m e z → r ≡ Fin z
fin_is m e z r f v = f.1 ∙ ap Fin (value_unique m (e +ℤ pos 512) f.0 z f.3 v)

pub none_some : {X : Type 0} (x : X) → None ≡ Some x → ⊥
none_some x h = cc

pub some_some : {X : Type 0} (x y : X) → Some x ≡ Some y → x ≡ y
some_some x y h = cc

pub not_ends : (P : Type 0) (b : Bool) → ((b ≡ true → P) × (P → b ≡ true)) → b ≡ false → P → ⊥
not_ends P b h f p = both_ways b f (h.1 p)

pub word64 : (m k : ℤ) → m ≡ k → unsigned_abs k < 2 ^ 63 → to_z w64 (of_z w64 m) ≡ k
word64 m k e h = ap (λ x. to_z w64 (of_z w64 x)) e ∙ to_z-of_z w64 k (fits_word k h)

pub word16 : (m k : ℤ) → m ≡ k → unsigned_abs k < 2 ^ 15 → to_z w16 (of_z w16 m) ≡ k
word16 m k e h = ap (λ x. to_z w16 (of_z w16 x)) e ∙ to_z-of_z w16 k (fits_signed_from_abs w16 k h)

abbrev pub some_pair : ℤ → ℤ → Option (ℤ × ℤ)
some_pair a b = Some (a, b)

pub pair_at : (a b m e : ℤ) → a ≡ m → b ≡ e → some_pair a b ≡ some_pair m e
pair_at a b m e h k = ap (λ x. some_pair x b) h ∙ ap (λ x. some_pair m x) k

pub pair_first : (p q : ℤ × ℤ) → Some p ≡ Some q → p.0 ≡ q.0
pair_first p q h = ap (λ x. x.0) (some_some p q h)

pub pair_second : (p q : ℤ × ℤ) → Some p ≡ Some q → p.1 ≡ q.1
pair_second p q h = ap (λ x. x.1) (some_some p q h)

-- From the parts that were read to the number.
pub no_fin : (m e m' e' z : ℤ) → m ≡ m' → e ≡ e' → IsGrid z → IsValue m' e' z → ((y : ℤ) → IsGrid y → IsValue m e y → ⊥) → ⊥
no_fin m e m' e' z hm he g v n = n z g (subst (λ x. IsValue x e z) (sym hm) (subst (λ x. IsValue m' x z) (sym he) v))

pub the_fin : (m e m' e' z : ℤ) (r : Extended) → m ≡ m' → e ≡ e' → IsFin m e (Some r) → IsValue m' e' z → r ≡ Fin z
the_fin m e m' e' z r hm he f v = fin_is m e z r f (subst (λ x. IsValue x e z) (sym hm) (subst (λ x. IsValue m' x z) (sym he) v))

pub the_parts : (m e m' e' : ℤ) (p : Parts) → m ≡ m' → e ≡ e' → p ≡ FinParts m' e' → p ≡ FinParts m e
the_parts m e m' e' p hm he h = h ∙ ap (λ x. FinParts x e') (sym hm) ∙ ap (λ x. FinParts m x) (sym he)
