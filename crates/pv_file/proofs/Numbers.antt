-- The texts of numbers are plain words.
use Rattle.std.proofs.Common.{◌≡◌, ℕ, suc, ◌^◌, ◌<◌, ◌≤◌, Bool, true, false, cond, nat_lt, List, [], ◌∷◌, ◌++◌, length, ℤ, pos, negsuc, unsigned_abs, refl, sym, ap, subst, arith, length-append}
use Rattle.std.specs.Prelude.{codes}
use Rattle.std.specs.Ordering.{eq_by_cmp}
use Rattle.std.specs.Fmt.{decimal, signed_decimal}
use Rattle.std.specs.Str.Parse.{AllDigits}
use Rattle.std.specs.Char.{digit_value}
use Rattle.std.proofs.lemmas.Fmt.{decimal_is_IsNumeral}
use Rattle.std.proofs.lemmas.Bool.{ltb-false, cond-true}
use Rattle.pv_num.specs.Extended.{Extended, NegInf, Fin, PosInf}
use Rattle.pv_num.specs.Order.{order_of}
use Rattle.pv_num.specs.Laws.{same-Decides}
use Rattle.pv_num.specs.Parts.{number_text, IsNumber}
use Rattle.pv_num.proofs.Texts.{IsSpelled, spelling, spelled_text, minus_text, plus_text}
use Rattle.pv_file.specs.declared.version.Version.TheVariants.{One, Two}
use Rattle.pv_file.specs.declared.version.Version.{Version}
use Rattle.pv_file.specs.Lines.{change_text}
use Rattle.pv_file.specs.Words.{IsPlain, end_text}
use Rattle.pv_file.proofs.Bytes.{plain_append}

low_digit : (c : ℕ) (b : Bool) → nat_lt c 48 ≡ b → digit_value c < 10 → 32 < c
low_digit c true e h =
    let k : digit_value c ≡ 36 = cond-true _ _ _ e in
    omega (arith, h, k)
low_digit c false e h = let k : 48 ≤ c = ltb-false c 48 e in omega (arith, k)

digits_plain : (ds : List ℕ) → AllDigits 10 ds → IsPlain ds
digits_plain [] h = tt
digits_plain (c ∷ cs) h = (low_digit c _ refl h.0, digits_plain cs h.1)

pub decimal_plain : (n : ℕ) → n < 2 ^ 64 → IsPlain (decimal n)
decimal_plain n h = digits_plain (decimal n) (decimal_is_IsNumeral n h).0.1

whole_plain : (z : ℤ) → unsigned_abs z < 2 ^ 63 → IsPlain (signed_decimal z)
whole_plain (pos n) h = decimal_plain n (omega (arith, h))
whole_plain (negsuc n) h = (omega arith, decimal_plain (suc n) (omega (arith, h)))

end_plain : (c : ℕ) → 32 < c → IsPlain (c ∷ 111 ∷ 111 ∷ [])
end_plain c h = (h, (omega arith, (omega arith, tt)))

pub number_plain : (x : Extended) → IsNumber x → IsPlain (number_text x)
number_plain NegInf g = subst IsPlain (sym minus_text) (end_plain 45 (omega arith))
number_plain (Fin z) g =
    let m : ℤ = (spelling z g).m in
    let e : ℤ = (spelling z g).e in
    let s : IsSpelled z m e = (spelling z g).spelled in
    let e_fits : unsigned_abs e < 2 ^ 63 = omega (arith, s.e_fits) in
    let back : IsPlain (58 ∷ signed_decimal e) = (omega arith, whole_plain e e_fits) in
    subst IsPlain (sym (spelled_text z m e s)) (plain_append (signed_decimal m) (58 ∷ signed_decimal e) (whole_plain m s.m_fits) back)
number_plain PosInf g = subst IsPlain (sym plus_text) (end_plain 43 (omega arith))

-- ---- The mark of an end that stays

some_digit : (n : ℕ) → n < 2 ^ 64 → 0 < length (decimal n)
some_digit n h = (decimal_is_IsNumeral n h).0.0

some_sign : (z : ℤ) → unsigned_abs z < 2 ^ 63 → 0 < length (signed_decimal z)
some_sign (pos n) h = some_digit n (omega (arith, h))
some_sign (negsuc n) h = omega arith

long_spelling : (xs ys : List ℕ) → 0 < length xs → 1 < length (xs ++ 58 ∷ ys)
long_spelling xs ys h = omega (arith, h, length-append xs (58 ∷ ys))

pub long_number : (x : Extended) → IsNumber x → 1 < length (number_text x)
long_number NegInf g = subst (λ (t : List ℕ). 1 < length t) (sym minus_text) (omega arith)
long_number (Fin z) g =
    let m : ℤ = (spelling z g).m in
    let e : ℤ = (spelling z g).e in
    let s : IsSpelled z m e = (spelling z g).spelled in
    subst (λ (t : List ℕ). 1 < length t) (sym (spelled_text z m e s)) (long_spelling (signed_decimal m) (signed_decimal e) (some_sign m s.m_fits))
long_number PosInf g = subst (λ (t : List ℕ). 1 < length t) (sym plus_text) (omega arith)

pub no_mark : (x : Extended) → IsNumber x → codes "=" ≡ number_text x → ⊥
no_mark x g e = let l : 1 ≡ length (number_text x) = ap length e in omega (arith, l, long_number x g)

change_cases : (old x : Extended) (b : Bool) → eq_by_cmp order_of x old ≡ b → IsNumber x → codes "=" ≡ cond b (codes "=") (number_text x) → old ≡ x
change_cases old x true e g t = sym ((same-Decides x old).0 e)
change_cases old x false e g t = absurd (no_mark x g t)

-- An end is written by the mark only where it stays.
pub marked_stays : (old x : Extended) → IsNumber x → codes "=" ≡ change_text old x → old ≡ x
marked_stays old x g t = change_cases old x _ refl g t

change_plain : (b : Bool) (x : Extended) → IsNumber x → IsPlain (cond b (codes "=") (number_text x))
change_plain true x g = (omega arith, tt)
change_plain false x g = number_plain x g

pub end_text_plain : (v : Version) (old x : Extended) → IsNumber x → IsPlain (end_text v old x)
end_text_plain One old x g = number_plain x g
end_text_plain Two old x g = change_plain (eq_by_cmp order_of x old) x g
