-- Points of a plane in boxes: place by place, and on the axes.
use Rattle.std.proofs.Common.{◌≡◌, inl, inr, ℕ, zero, suc, ◌+◌, ◌<◌, IsTrue, true, List, [], ◌∷◌, length, get_or, refl, sym, subst, arith, ℤ, pos, ◌*ℤ◌, ◌≤ℤ◌, ◌<ℤ◌}
use Rattle.std.specs.Prelude.{◌==◌, ◌||◌}
use Rattle.std.proofs.lemmas.Int.{ints}
use Rattle.std.proofs.lemmas.Bool.{true≢false, and_parts, and_from, or_cases, or_left, or_right, eqb-true, eq-eqb, cases_eq}
use Rattle.pv_num.specs.Extended.{Extended, NegInf, Fin, PosInf}
use Rattle.pv_num.specs.Grid.{unit}
use Rattle.pv_num.specs.Order.{le}
use Rattle.pv_num.proofs.Orders.{le-Fin, Fin-le, lt-Fin}
use Rattle.pv_interval.specs.Bounds.{Bounds, everything}
use Rattle.pv_interval.specs.Points.{Point, IsBelow, IsAbove, Lies}
use Rattle.pv_interval.specs.Tables.{holds}
use Rattle.pv_interval.proofs.Products.{times_pos, cancel_pos}
use Rattle.pv_box.specs.Boxes.{LieIn, PointIn}
use Rattle.pv_svg.specs.Planes.{Plane, number_of, meets_place, meets_from, meets, place}
use Rattle.pv_svg.specs.Paints.{Spot, is_above, is_below, strictly_in, contains, IsRatio, LieOn, IsPointOf, spot_of}
use Rattle.pv_svg.specs.declared.rectangle.Rectangle.{Rectangle}

-- ---- Strictly inside is inside

above_lies : (e : Extended) (n : ℤ) (d : ℕ) → is_above e n d ≡ true → IsBelow e n d
above_lies NegInf n d h = tt
above_lies (Fin e) n d h = let l : (e *ℤ pos d) <ℤ (n *ℤ pos unit) = lt-Fin (e *ℤ pos d) (n *ℤ pos unit) h in omega (arith, ints, l)
above_lies PosInf n d h = absurd (true≢false (sym h))

below_lies : (e : Extended) (n : ℤ) (d : ℕ) → is_below e n d ≡ true → IsAbove e n d
below_lies NegInf n d h = absurd (true≢false (sym h))
below_lies (Fin e) n d h = let l : (n *ℤ pos unit) <ℤ (e *ℤ pos d) = lt-Fin (n *ℤ pos unit) (e *ℤ pos d) h in omega (arith, ints, l)
below_lies PosInf n d h = tt

strictly_lies : (b : Bounds) (n : ℤ) (d : ℕ) → 0 < d → strictly_in b n d ≡ true → Lies n d b
strictly_lies b n d p h =
    let parts = and_parts (is_above b.lo n d) (is_below b.hi n d) h in
    record { some = p; low = above_lies b.lo n d parts.0; high = below_lies b.hi n d parts.1 }

pub contained : (r : Rectangle) (spot : Spot) → 0 < spot.under → contains r spot ≡ true → Lies spot.x spot.under r.x × Lies spot.y spot.under r.y
contained r spot p h =
    let parts = and_parts (strictly_in r.x spot.x spot.under) (strictly_in r.y spot.y spot.under) h in
    (strictly_lies r.x spot.x spot.under p parts.0, strictly_lies r.y spot.y spot.under p parts.1)

-- ---- A number in an interval, as a ratio

low_end : (e : Extended) (a n : ℤ) (d : ℕ) → IsTrue (le e (Fin a)) → n *ℤ pos unit ≡ a *ℤ pos d → IsBelow e n d
low_end NegInf a n d h r = tt
low_end (Fin e) a n d h r = subst (λ (x : ℤ). (e *ℤ pos d) ≤ℤ x) (sym r) (times_pos d e a (le-Fin e a h))
low_end PosInf a n d h r = absurd (true≢false (sym h))

high_end : (e : Extended) (a n : ℤ) (d : ℕ) → IsTrue (le (Fin a) e) → n *ℤ pos unit ≡ a *ℤ pos d → IsAbove e n d
high_end NegInf a n d h r = absurd (true≢false (sym h))
high_end (Fin e) a n d h r = subst (λ (x : ℤ). x ≤ℤ (e *ℤ pos d)) (sym r) (times_pos d a e (le-Fin a e h))
high_end PosInf a n d h r = tt

end_low : (e : Extended) (a n : ℤ) (d : ℕ) → 0 < d → n *ℤ pos unit ≡ a *ℤ pos d → IsBelow e n d → IsTrue (le e (Fin a))
end_low NegInf a n d p r h = refl
end_low (Fin e) a n d p r h = Fin-le e a (cancel_pos d e a p (subst (λ (x : ℤ). (e *ℤ pos d) ≤ℤ x) r h))
end_low PosInf a n d p r h = absurd h

end_high : (e : Extended) (a n : ℤ) (d : ℕ) → 0 < d → n *ℤ pos unit ≡ a *ℤ pos d → IsAbove e n d → IsTrue (le (Fin a) e)
end_high NegInf a n d p r h = absurd h
end_high (Fin e) a n d p r h = Fin-le a e (cancel_pos d a e p (subst (λ (x : ℤ). x ≤ℤ (e *ℤ pos d)) r h))
end_high PosInf a n d p r h = refl

held_lies : (b : Bounds) (v : Extended) (n : ℤ) (d : ℕ) → 0 < d → IsRatio v n d → holds b v ≡ true → Lies n d b
held_lies b NegInf n d p r h = absurd r
held_lies b (Fin a) n d p r h =
    let parts = and_parts (le b.lo (Fin a)) (le (Fin a) b.hi) h in
    record { some = p; low = low_end b.lo a n d parts.0 r; high = high_end b.hi a n d parts.1 r }
held_lies b PosInf n d p r h = absurd r

lies_held : (b : Bounds) (v : Extended) (n : ℤ) (d : ℕ) → 0 < d → IsRatio v n d → Lies n d b → holds b v ≡ true
lies_held b NegInf n d p r h = absurd r
lies_held b (Fin a) n d p r h = and_from (le b.lo (Fin a)) (le (Fin a) b.hi) (end_low b.lo a n d p r h.low) (end_high b.hi a n d p r h.high)
lies_held b PosInf n d p r h = absurd r

-- ---- One place

abbrev Free : Plane → ℕ → ℤ → ℕ → Type 0
Free plane i n d = (i ≡ plane.x → ⊥) → (i ≡ plane.y → ⊥) → IsRatio (number_of plane i) n d

met_lies : (plane : Plane) (i : ℕ) (b : Bounds) (n : ℤ) (d : ℕ) → 0 < d → Free plane i n d → meets_place plane i b ≡ true
    → (i ≡ plane.x → Lies n d b) → (i ≡ plane.y → Lies n d b) → Lies n d b
met_lies plane i b n d p f m fx fy = elim (cases_eq i plane.x) [
  | inl x ↦ fx x
  | inr x ↦ elim (cases_eq i plane.y) [
    | inl y ↦ fy y
    | inr y ↦ elim (or_cases (i == plane.x) ((i == plane.y) || holds b (number_of plane i)) m) [
      | inl e ↦ absurd (x (eqb-true i plane.x e))
      | inr rest ↦ elim (or_cases (i == plane.y) (holds b (number_of plane i)) rest) [
        | inl e ↦ absurd (y (eqb-true i plane.y e))
        | inr h ↦ held_lies b (number_of plane i) n d p (f x y) h
      ]
    ]
  ]
]

lies_met : (plane : Plane) (i : ℕ) (b : Bounds) (n : ℤ) (d : ℕ) → 0 < d → Free plane i n d → Lies n d b → meets_place plane i b ≡ true
lies_met plane i b n d p f h = elim (cases_eq i plane.x) [
  | inl x ↦ or_left (i == plane.x) ((i == plane.y) || holds b (number_of plane i)) (eq-eqb i plane.x x)
  | inr x ↦ or_right (i == plane.x) ((i == plane.y) || holds b (number_of plane i)) (elim (cases_eq i plane.y) [
    | inl y ↦ or_left (i == plane.y) (holds b (number_of plane i)) (eq-eqb i plane.y y)
    | inr y ↦ or_right (i == plane.y) (holds b (number_of plane i)) (lies_held b (number_of plane i) n d p (f x y) h)
  ])
]

-- ---- All places

abbrev OnAxis : ℕ → ℕ → List ℤ → ℕ → List Bounds → Type 0
OnAxis axis i ns d bs = (k : ℕ) → k < length ns → i + k ≡ axis → Lies (get_or ns k (pos 0)) d (get_or bs k everything)

further : (axis i : ℕ) (n : ℤ) (ns : List ℤ) (d : ℕ) (b : Bounds) (bs : List Bounds) → OnAxis axis i (n ∷ ns) d (b ∷ bs) → OnAxis axis (suc i) ns d bs
further axis i n ns d b bs f k l e = f (suc k) (omega (arith, l)) (omega (arith, e))

lie_from : (plane : Plane) (i : ℕ) (ns : List ℤ) (d : ℕ) (bs : List Bounds) → length ns ≡ length bs → 0 < d → LieOn plane i ns d → meets_from plane i bs ≡ true
    → OnAxis plane.x i ns d bs → OnAxis plane.y i ns d bs → LieIn ns d bs
lie_from plane i [] d [] e p on m fx fy = tt
lie_from plane i [] d (b ∷ bs) e p on m fx fy = absurd (omega (arith, e))
lie_from plane i (n ∷ ns) d [] e p on m fx fy = absurd (omega (arith, e))
lie_from plane i (n ∷ ns) d (b ∷ bs) e p on m fx fy =
    let parts = and_parts (meets_place plane i b) (meets_from plane (suc i) bs) m in (
      met_lies plane i b n d p on.0 parts.0 (λ x. fx 0 (omega arith) (omega (arith, x))) (λ y. fy 0 (omega arith) (omega (arith, y))),
      lie_from plane (suc i) ns d bs (omega (arith, e)) p on.1 parts.1 (further plane.x i n ns d b bs fx) (further plane.y i n ns d b bs fy),
    )

meet_from : (plane : Plane) (i : ℕ) (ns : List ℤ) (d : ℕ) (bs : List Bounds) → 0 < d → LieOn plane i ns d → LieIn ns d bs → meets_from plane i bs ≡ true
meet_from plane i [] d [] p on h = refl
meet_from plane i [] d (b ∷ bs) p on h = absurd h
meet_from plane i (n ∷ ns) d [] p on h = absurd h
meet_from plane i (n ∷ ns) d (b ∷ bs) p on h =
    and_from (meets_place plane i b) (meets_from plane (suc i) bs) (lies_met plane i b n d p on.0 h.0) (meet_from plane (suc i) ns d bs p on.1 h.1)

lies_at : (ns : List ℤ) (d : ℕ) (bs : List Bounds) (k : ℕ) → k < length ns → LieIn ns d bs → Lies (get_or ns k (pos 0)) d (get_or bs k everything)
lies_at [] d bs k l h = absurd (omega (arith, l))
lies_at (n ∷ ns) d [] k l h = absurd h
lies_at (n ∷ ns) d (b ∷ bs) zero l h = h.0
lies_at (n ∷ ns) d (b ∷ bs) (suc k) l h = lies_at ns d bs k (omega (arith, l)) h.1

-- ---- A point of the plane in a box

pub point_met : (plane : Plane) (p : Point) (b : List Bounds) (places : ℕ) → IsPointOf plane places p → PointIn p b → meets plane b ≡ true
point_met plane p b places on h = meet_from plane 0 p.places p.under b on.some on.numbers h

pub point_on : (plane : Plane) (p : Point) (b : List Bounds) (i : ℕ) → i < length p.places → PointIn p b → Lies (get_or p.places i (pos 0)) p.under (place b i)
point_on plane p b i l h = lies_at p.places p.under b i l h

pub point_in : (plane : Plane) (p : Point) (b : List Bounds) → IsPointOf plane (length b) p → meets plane b ≡ true
    → Lies (spot_of plane p).x p.under (place b plane.x) → Lies (spot_of plane p).y p.under (place b plane.y) → PointIn p b
point_in plane p b on m hx hy =
    lie_from plane 0 p.places p.under b on.count on.some on.numbers m
    (λ k l e. let f : plane.x ≡ k = omega (arith, e) in subst (λ (j : ℕ). Lies (get_or p.places j (pos 0)) p.under (get_or b j everything)) f hx)
    (λ k l e. let f : plane.y ≡ k = omega (arith, e) in subst (λ (j : ℕ). Lies (get_or p.places j (pos 0)) p.under (get_or b j everything)) f hy)
