-- The order of ends.
use Rattle.std.proofs.Common.{◌≡◌, refl, arith, ap, ◌⊎◌, inl, inr, rules}
use Rattle.std.specs.Prelude.{IsTrue, true, false, ℤ, ◌≤ℤ◌}
use Rattle.std.proofs.lemmas.Int.{ints}
use Rattle.pv_num.specs.Extended.{Extended, NegInf, Fin, PosInf}
use Rattle.pv_num.specs.Order.{le, lt}

pub fin_le : (a b : ℤ) → IsTrue (le (Fin a) (Fin b)) → a ≤ℤ b
fin_le a b h = grind (arith, ints)

pub le_fin : (a b : ℤ) → a ≤ℤ b → IsTrue (le (Fin a) (Fin b))
le_fin a b h = grind (arith, ints)

pub le_refl : (a : Extended) → IsTrue (le a a)
le_refl NegInf = search rules
le_refl (Fin a) = grind (arith, ints)
le_refl PosInf = search rules

pub le_trans : (a b c : Extended) → IsTrue (le a b) → IsTrue (le b c) → IsTrue (le a c)
le_trans NegInf b NegInf h k = search rules
le_trans NegInf b (Fin c) h k = search rules
le_trans NegInf b PosInf h k = search rules
le_trans (Fin a) b PosInf h k = search rules
le_trans PosInf b PosInf h k = search rules
le_trans (Fin a) (Fin b) (Fin c) h k = grind (arith, ints)
le_trans (Fin a) NegInf (Fin c) h k = absurd (search rules)
le_trans (Fin a) PosInf (Fin c) h k = absurd (search rules)
le_trans a b c h k = search rules

pub le_antisym : (a b : Extended) → IsTrue (le a b) → IsTrue (le b a) → a ≡ b
le_antisym NegInf NegInf h k = refl
le_antisym PosInf PosInf h k = refl
le_antisym (Fin a) (Fin b) h k = ap Fin (grind (arith, ints))
le_antisym a b h k = search rules

pub le_total : (a b : Extended) → IsTrue (le a b) ⊎ IsTrue (le b a)
le_total NegInf NegInf = inl refl
le_total NegInf (Fin b) = inl refl
le_total NegInf PosInf = inl refl
le_total (Fin a) NegInf = inr refl
le_total (Fin a) (Fin b) = grind (arith, ints)
le_total (Fin a) PosInf = inl refl
le_total PosInf NegInf = inr refl
le_total PosInf (Fin b) = inr refl
le_total PosInf PosInf = inl refl

pub le_of_false : (a b : Extended) → le a b ≡ false → IsTrue (le b a)
le_of_false a b h = elim (le_total a b) [ inl k ↦ absurd (cc) | inr k ↦ k ]

pub lt_from : (a b : Extended) → le b a ≡ false → lt a b ≡ true
lt_from NegInf NegInf h = search rules
lt_from NegInf (Fin b) h = refl
lt_from NegInf PosInf h = refl
lt_from (Fin a) NegInf h = search rules
lt_from (Fin a) (Fin b) h = grind (arith, ints)
lt_from (Fin a) PosInf h = refl
lt_from PosInf NegInf h = search rules
lt_from PosInf (Fin b) h = search rules
lt_from PosInf PosInf h = search rules

pub lt_not : (a b : Extended) → lt a b ≡ true → le b a ≡ false
lt_not NegInf NegInf h = search rules
lt_not NegInf (Fin b) h = refl
lt_not NegInf PosInf h = refl
lt_not (Fin a) NegInf h = search rules
lt_not (Fin a) (Fin b) h = grind (arith, ints)
lt_not (Fin a) PosInf h = refl
lt_not PosInf NegInf h = search rules
lt_not PosInf (Fin b) h = search rules
lt_not PosInf PosInf h = search rules
