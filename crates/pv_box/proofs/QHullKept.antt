-- A point of at least q boxes lies in their q-hull, place by place.
use Rattle.std.proofs.Common.{◌≡◌, ℕ, zero, suc, ◌+◌, ◌<◌, ◌≤◌, List, [], ◌∷◌, length, get_or, sym, ◌∙◌, ap, subst, arith, refl, ◌⊎◌, inl, inr}
use Rattle.std.specs.Prelude.{option_and_then, All, true, Option, Some, None, ℤ, pos}
use Rattle.pv_num.specs.Extended.{Extended, NegInf, Fin, PosInf}
use Rattle.pv_num.specs.Order.{lt}
use Rattle.pv_interval.specs.Bounds.{Bounds, everything}
use Rattle.pv_interval.specs.Points.{IsBelow, IsAbove, Lies, LiesInSome, Point}
use Rattle.pv_interval.proofs.Values.{below_le, above_le, across}
use Rattle.pv_box.specs.Boxes.{LieIn}
use Rattle.pv_box.specs.QHull.{column, place_hull_of, places_from, q_hull_of}
use Rattle.pv_box.specs.Members.{InAtLeast, PointInSome, HullKeepsMembers}
use Rattle.pv_box.proofs.Enough.{IsSplit, AtLeast, IsRound, place_round}

-- ---- One place

-- n / d lies in at least q of the intervals
abbrev LiesInAtLeast : ℕ → ℤ → ℕ → List Bounds → Type 0
LiesInAtLeast zero n d xs = Unit {0}
LiesInAtLeast (suc q) n d [] = ⊥
LiesInAtLeast (suc q) n d (x ∷ xs) = (Lies n d x × LiesInAtLeast q n d xs) ⊎ LiesInAtLeast (suc q) n d xs

some_under : (q : ℕ) (n : ℤ) (d : ℕ) (xs : List Bounds) → LiesInAtLeast (suc q) n d xs → 0 < d
some_under q n d [] h = absurd h
some_under q n d (x ∷ xs) (inl h) = h.0.some
some_under q n d (x ∷ xs) (inr h) = some_under q n d xs h

round_it : (q : ℕ) (n : ℤ) (d : ℕ) (xs : List Bounds) → LiesInAtLeast q n d xs → AtLeast (λ e. IsBelow e n d) (λ e. IsAbove e n d) q xs
round_it zero n d xs h = tt
round_it (suc q) n d [] h = absurd h
round_it (suc q) n d (x ∷ xs) (inl h) = inl ((h.0.low, h.0.high), round_it q n d xs h.1)
round_it (suc q) n d (x ∷ xs) (inr h) = inr (round_it (suc q) n d xs h)

open_low : (l : Extended) (n : ℤ) (d : ℕ) → IsBelow l n d → lt l PosInf ≡ true
open_low NegInf n d h = refl
open_low (Fin e) n d h = refl
open_low PosInf n d h = absurd h

open_high : (h : Extended) (n : ℤ) (d : ℕ) → IsAbove h n d → lt NegInf h ≡ true
open_high NegInf n d h = absurd h
open_high (Fin e) n d h = refl
open_high PosInf n d h = refl

split_at : (n : ℤ) (d : ℕ) → 0 < d → IsSplit (λ e. IsBelow e n d) (λ e. IsAbove e n d)
split_at n d some = record {
  cross = λ e f h k. across e f n d some h k;
  down = λ e f h k. below_le e f n d h k;
  up = λ e f h k. above_le e f n d h k;
  low_open = λ e h. open_low e n d h;
  high_open = λ e h. open_high e n d h;
}

in_round : (n : ℤ) (d : ℕ) (o : Option Bounds) → 0 < d → IsRound (λ e. IsBelow e n d) (λ e. IsAbove e n d) o → LiesInSome n d o
in_round n d o some r = subst (LiesInSome n d) (sym r.is) (record { some = some; low = r.low; high = r.high })

place_keeps : (q : ℕ) (n : ℤ) (d : ℕ) (xs : List Bounds) → 1 ≤ q → LiesInAtLeast q n d xs → LiesInSome n d (place_hull_of q xs)
place_keeps zero n d xs some h = absurd (omega arith)
place_keeps (suc q) n d xs some h =
    let under = some_under q n d xs h in
    in_round n d (place_hull_of (suc q) xs) under
    (place_round (λ e. IsBelow e n d) (λ e. IsAbove e n d) (split_at n d under) (suc q) xs some (round_it (suc q) n d xs h))

-- ---- All places

pub lies_at : (ns : List ℤ) (d : ℕ) (b : List Bounds) (k : ℕ) → LieIn ns d b → k < length b
    → Lies (get_or ns k (pos 0)) d (get_or b k everything)
lies_at [] d [] k h l = absurd (omega arith)
lies_at [] d (x ∷ b) k h l = absurd h
lies_at (n ∷ ns) d [] k h l = absurd h
lies_at (n ∷ ns) d (x ∷ b) zero h l = h.0
lies_at (n ∷ ns) d (x ∷ b) (suc k) h l = lies_at ns d b k h.1 (omega arith)

in_column : (q : ℕ) (p : Point) (bs : List (List Bounds)) (m k : ℕ) → k < m → All (λ b. length b ≡ m) bs → InAtLeast q p bs
    → LiesInAtLeast q (get_or p.places k (pos 0)) p.under (column k bs)
in_column zero p bs m k l e h = tt
in_column (suc q) p [] m k l e h = absurd h
in_column (suc q) p (b ∷ bs) m k l e (inl h) =
    let same : length b ≡ m = e 0 b (omega arith) in
    inl (lies_at p.places p.under b k h.0 (omega arith), in_column q p bs m k l (λ i c r. e (suc i) c (omega arith)) h.1)
in_column (suc q) p (b ∷ bs) m k l e (inr h) = inr (in_column (suc q) p bs m k l (λ i c r. e (suc i) c (omega arith)) h)

same_places : (ns : List ℤ) (d : ℕ) (b : List Bounds) → LieIn ns d b → length ns ≡ length b
same_places [] d [] h = refl
same_places [] d (x ∷ b) h = absurd h
same_places (n ∷ ns) d [] h = absurd h
same_places (n ∷ ns) d (x ∷ b) h = ap suc (same_places ns d b h.1)

point_length : (q : ℕ) (p : Point) (bs : List (List Bounds)) (m : ℕ) → All (λ b. length b ≡ m) bs → InAtLeast (suc q) p bs → length p.places ≡ m
point_length q p [] m e h = absurd h
point_length q p (b ∷ bs) m e (inl h) = same_places p.places p.under b h.0 ∙ e 0 b (omega arith)
point_length q p (b ∷ bs) m e (inr h) = point_length q p bs m (λ i c r. e (suc i) c (omega arith)) h

abbrev LieInSome : List ℤ → ℕ → Option (List Bounds) → Type 0
LieInSome ns d None = ⊥
LieInSome ns d (Some b) = LieIn ns d b

join_places : (n : ℤ) (ns : List ℤ) (d : ℕ) (o : Option Bounds) (r : Option (List Bounds)) → LiesInSome n d o → LieInSome ns d r
    → LieInSome (n ∷ ns) d (option_and_then (λ x. option_and_then (λ xs. Some (x ∷ xs)) r) o)
join_places n ns d None r h k = absurd h
join_places n ns d (Some x) None h k = absurd k
join_places n ns d (Some x) (Some xs) h k = (h, k)

places_keep : (q k m : ℕ) (ns : List ℤ) (d : ℕ) (bs : List (List Bounds)) → length ns ≡ m
    → ((j : ℕ) → j < m → LiesInSome (get_or ns j (pos 0)) d (place_hull_of q (column (k + j) bs)))
    → LieInSome ns d (places_from q k m bs)
places_keep q k zero [] d bs e h = tt
places_keep q k zero (n ∷ ns) d bs e h = absurd (omega arith)
places_keep q k (suc m) [] d bs e h = absurd (omega arith)
places_keep q k (suc m) (n ∷ ns) d bs e h =
    let z : k + 0 ≡ k = omega arith in
    join_places n ns d (place_hull_of q (column k bs)) (places_from q (k + 1) m bs)
    (subst (λ w. LiesInSome n d (place_hull_of q (column w bs))) z (h 0 (omega arith)))
    (places_keep q (k + 1) m ns d bs (omega arith) (λ j l.
    let y : k + suc j ≡ k + 1 + j = omega arith in
    subst (λ w. LiesInSome (get_or ns j (pos 0)) d (place_hull_of q (column w bs))) y (h (suc j) (omega arith))))

to_point : (p : Point) (o : Option (List Bounds)) → LieInSome p.places p.under o → PointInSome p o
to_point p None h = h
to_point p (Some b) h = h

pub q_hull-keeps : HullKeepsMembers
unfolding q_hull_of
q_hull-keeps zero bs p some e h = absurd (omega arith)
q_hull-keeps (suc q) bs p some e h =
    let m = length (get_or bs 0 []) in
    to_point p (places_from (suc q) 0 m bs) (places_keep (suc q) 0 m p.places p.under bs (point_length q p bs m e h)
    (λ j l.
    let y : j ≡ 0 + j = omega arith in
    subst (λ w. LiesInSome (get_or p.places j (pos 0)) p.under (place_hull_of (suc q) (column w bs))) y
    (place_keeps (suc q) (get_or p.places j (pos 0)) p.under (column j bs) some (in_column (suc q) p bs m j l e h))))
