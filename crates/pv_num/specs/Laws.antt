use Rattle.std.proofs.Common.{◌≡◌, ℕ, refl, ap, sym, ◌∙◌, ℤ, pos}
use Rattle.std.specs.Ordering.{int_cmp, nat_cmp, eq_by_cmp, on, then_cmp, ordering_reverse}
use Rattle.std.specs.Cmp.{IsTotalOrder, IsEquivalence, IsPartialEquivalence, signed_Decides, nat_cmp_total, int_cmp_total, on_total, then_total, eq_by_cmp_equiv, partial_equiv_from_equiv}
use Rattle.std.specs.Bool.{Decides}
use Rattle.pv_num.specs.Extended.{Extended, NegInf, Fin, PosInf}
use Rattle.pv_num.specs.Order.{order_of}

-- ---- The order is total, and equality is that of the order

abbrev kind : Extended → ℕ
kind NegInf = 0
kind (Fin a) = 1
kind PosInf = 2

abbrev whole : Extended → ℤ
whole NegInf = pos 0
whole (Fin a) = a
whole PosInf = pos 0

by_parts : (a b : Extended) → order_of a b ≡ then_cmp (on kind nat_cmp) (on whole int_cmp) a b
by_parts NegInf NegInf = refl
by_parts NegInf (Fin b) = refl
by_parts NegInf PosInf = refl
by_parts (Fin a) NegInf = refl
by_parts (Fin a) (Fin b) = refl
by_parts (Fin a) PosInf = refl
by_parts PosInf NegInf = refl
by_parts PosInf (Fin b) = refl
by_parts PosInf PosInf = refl

parts_total : IsTotalOrder (then_cmp (on kind nat_cmp) (on whole int_cmp))
parts_total = then_total (on_total kind nat_cmp_total) (on_total whole int_cmp_total)

pub order_of-total : IsTotalOrder order_of
order_of-total = record {
  antisymm = λ x y. by_parts x y ∙ parts_total.antisymm x y ∙ sym (ap ordering_reverse (by_parts y x));
  trans = λ x y z p q. by_parts x z ∙ parts_total.trans x y z (sym (by_parts x y) ∙ p) (sym (by_parts y z) ∙ q);
  congr = λ x y z p. by_parts x z ∙ parts_total.congr x y z (sym (by_parts x y) ∙ p) ∙ sym (by_parts y z);
}

pub same-Decides : (a b : Extended) → Decides (eq_by_cmp order_of a b) (a ≡ b)
same-Decides NegInf NegInf = (λ _. refl, λ _. refl)
same-Decides NegInf (Fin b) = (λ e. cc, λ e. cc)
same-Decides NegInf PosInf = (λ e. cc, λ e. cc)
same-Decides (Fin a) NegInf = (λ e. cc, λ e. cc)
same-Decides (Fin a) (Fin b) = (λ e. ap Fin ((signed_Decides a b).0 e), λ e. (signed_Decides a b).1 (ap whole e))
same-Decides (Fin a) PosInf = (λ e. cc, λ e. cc)
same-Decides PosInf NegInf = (λ e. cc, λ e. cc)
same-Decides PosInf (Fin b) = (λ e. cc, λ e. cc)
same-Decides PosInf PosInf = (λ _. refl, λ _. refl)

pub equality : IsPartialEquivalence (eq_by_cmp order_of)
equality = partial_equiv_from_equiv (eq_by_cmp_equiv order_of-total)

pub equivalence : IsEquivalence (eq_by_cmp order_of)
equivalence = eq_by_cmp_equiv order_of-total
