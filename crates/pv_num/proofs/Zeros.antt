use Rattle.std.proofs.Common.{◌≡◌, ℕ, zero, suc, ◌*◌, ◌^◌, ◌<◌, ◌↔◌, IsTrue, false, nat_eq, eqb-true, arith, refl, ap, sym, ◌∙◌, zero-mul, pos, neg_ℤ}
use Rattle.std.proofs.lemmas.Nat.{pow_pos}
use Rattle.pv_num.specs.Extended.{Extended, Fin}
use Rattle.pv_num.specs.View.{number_of, IsClassOf}
use Rattle.pv_num.specs.declared.num.Class.{Class}
use Rattle.pv_num.specs.declared.num.Class.TheVariants.{MinusOo, Negative, NonNegative, PlusOo}

-- Which spellings are those of zero.

pub zero_mantissa : (k : Class) (m e : ℕ) (v : Extended) → k ≡ NonNegative → number_of k (m * 2 ^ e) ≡ v → IsTrue (nat_eq m 0) ↔ (v ≡ Fin (pos 0))
zero_mantissa MinusOo m e v q h = cc
zero_mantissa Negative m e v q h = cc
zero_mantissa NonNegative zero e v q h = (λ _. sym h ∙ ap (λ x. Fin (pos x)) (zero-mul (2 ^ e)), λ _. refl)
zero_mantissa NonNegative (suc m) e v q h = (
  λ t. let z : suc m ≡ 0 = eqb-true (suc m) 0 t in absurd (omega (arith, z)),
  λ z.
      let s : suc m * 2 ^ e ≡ 0 = same (suc m * 2 ^ e) (h ∙ z) in
      absurd (omega (arith, s, pow_pos e)),
)
  where
    same : (n : ℕ) → Fin (pos n) ≡ Fin (pos 0) → n ≡ 0
    same n h = cc
zero_mantissa PlusOo m e v q h = cc

minus : (n : ℕ) → 0 < n → Fin (neg_ℤ (pos n)) ≡ Fin (pos 0) → ⊥
minus zero p h = absurd (omega (arith, p))
minus (suc n) p h = cc

none : (k : Class) (m e : ℕ) → (k ≡ NonNegative → ⊥) → IsClassOf k e m → number_of k (m * 2 ^ e) ≡ Fin (pos 0) → ⊥
none MinusOo m e q c h = cc
none Negative zero e q c h = absurd (omega (arith, c))
none Negative (suc m) e q c h = minus (suc m * 2 ^ e) (omega (arith, pow_pos e)) h
none NonNegative m e q c h = q refl
none PlusOo m e q c h = cc

pub never_zero : (k : Class) (m e : ℕ) (v : Extended) → (k ≡ NonNegative → ⊥) → IsClassOf k e m → number_of k (m * 2 ^ e) ≡ v → IsTrue false ↔ (v ≡ Fin (pos 0))
never_zero k m e v q c h = (λ t. cc, λ z. absurd (none k m e q c (h ∙ z)))
