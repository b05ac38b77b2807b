-- Ends and the values of two sides.
use Rattle.std.proofs.Common.{◌≡◌, ℕ, ◌<◌, refl, ap, arith, rules}
use Rattle.std.specs.Prelude.{IsTrue, true, ℤ, pos, ◌*ℤ◌, ◌≤ℤ◌, ◌<ℤ◌}
use Rattle.std.proofs.lemmas.Int.{ints, by_lt_z}
use Rattle.pv_num.specs.Extended.{Extended, NegInf, Fin, PosInf}
use Rattle.pv_num.specs.Grid.{unit}
use Rattle.std.specs.Ordering.{eq_by_cmp}
use Rattle.pv_num.specs.Order.{le, lt, order_of}
use Rattle.pv_interval.specs.Points.{IsBelow, IsAbove}
use Rattle.pv_interval.proofs.Integers.{swap_last}
use Rattle.pv_interval.proofs.Products.{times_pos, times_pos_strict, cancel_pos}
use Rattle.pv_interval.proofs.Multiples.{unit_some}
use Rattle.pv_interval.proofs.Values.{below_le}

-- m/b is at most the end, which is at most n/d
pub through_end : (e : Extended) (m n : ℤ) (b d : ℕ) → 0 < b → 0 < d → IsAbove e m b → IsBelow e n d → (m *ℤ pos d) ≤ℤ (n *ℤ pos b)
through_end NegInf m n b d p q h k = absurd h
through_end (Fin e) m n b d p q h k =
    cancel_pos unit (m *ℤ pos d) (n *ℤ pos b) unit_some
    (let f = times_pos d (m *ℤ pos unit) (e *ℤ pos b) h in
    let g = times_pos b (e *ℤ pos d) (n *ℤ pos unit) k in
    let u = swap_last m (pos d) (pos unit) in
    let v = swap_last n (pos b) (pos unit) in
    let w = swap_last e (pos b) (pos d) in
    omega (arith, ints))
through_end PosInf m n b d p q h k = absurd k

-- the same where there is room between the two ends
pub through_room : (a c : Extended) (m n : ℤ) (b d : ℕ) → 0 < b → 0 < d → IsTrue (lt a c) → IsAbove a m b → IsBelow c n d → (m *ℤ pos d) <ℤ (n *ℤ pos b)
through_room NegInf c m n b d p q l h k = absurd h
through_room (Fin e) NegInf m n b d p q l h k = absurd (search rules)
through_room (Fin e) (Fin i) m n b d p q l h k =
    by_lt_z (m *ℤ pos d) (n *ℤ pos b) (λ r. r)
    (λ r.
    let o = times_pos unit (n *ℤ pos b) (m *ℤ pos d) r in
    let f = times_pos d (m *ℤ pos unit) (e *ℤ pos b) h in
    let g = times_pos b (i *ℤ pos d) (n *ℤ pos unit) k in
    let s = times_pos_strict d (e *ℤ pos b) (i *ℤ pos b) q (times_pos_strict b e i p (fin_lt e i l)) in
    let u = swap_last m (pos d) (pos unit) in
    let v = swap_last n (pos b) (pos unit) in
    let w = swap_last i (pos b) (pos d) in
    absurd (omega (arith, ints)))
  where
    fin_lt : (a b : ℤ) → IsTrue (lt (Fin a) (Fin b)) → a <ℤ b
    fin_lt a b h = grind (arith, ints)
through_room (Fin e) PosInf m n b d p q l h k = absurd k
through_room PosInf NegInf m n b d p q l h k = absurd (search rules)
through_room PosInf (Fin i) m n b d p q l h k = absurd (search rules)
through_room PosInf PosInf m n b d p q l h k = absurd k

-- no value is below another where one end is at most the other
pub no_room : (a c : Extended) (m n : ℤ) (b d : ℕ) → 0 < b → 0 < d → IsTrue (le a c) → IsBelow c m b → IsAbove a n d → (m *ℤ pos d) <ℤ (n *ℤ pos b) → ⊥
no_room a c m n b d p q l h k less =
    let r = through_end a n m d b q p k (below_le a c m b l h) in omega (arith, ints)

-- equal numbers
pub same_end : (a b : Extended) → eq_by_cmp order_of a b ≡ true → a ≡ b
same_end NegInf NegInf h = refl
same_end NegInf (Fin b) h = absurd (cc)
same_end NegInf PosInf h = absurd (cc)
same_end (Fin a) NegInf h = absurd (cc)
same_end (Fin a) (Fin b) h = ap Fin (grind (arith, ints))
same_end (Fin a) PosInf h = absurd (cc)
same_end PosInf NegInf h = absurd (cc)
same_end PosInf (Fin b) h = absurd (cc)
same_end PosInf PosInf h = refl
