-- What the halves, the hull and the meet of boxes keep, place by place.
use Rattle.std.proofs.Common.{◌≡◌, ℕ, zero, suc, ◌<◌, List, [], ◌∷◌, length, get_or, subst, arith, ◌⊎◌, inl, inr}
use Rattle.std.specs.Prelude.{Some, ℤ, pos, ◌*ℤ◌, ◌≤ℤ◌}
use Rattle.std.proofs.lemmas.Int.{ints}
use Rattle.pv_num.specs.Extended.{Extended, NegInf, Fin, PosInf}
use Rattle.pv_num.specs.Grid.{unit}
use Rattle.pv_interval.specs.Bounds.{Bounds, everything}
use Rattle.pv_interval.specs.Points.{IsBelow, IsAbove, Lies, LiesInSome}
use Rattle.pv_interval.specs.Tables.{meet_of}
use Rattle.pv_interval.proofs.Orders.{hull_keeps_left, hull_keeps_right, meet_keeps, meet_in}
use Rattle.pv_box.specs.Boxes.{LieIn, lower_half, upper_half, hull_boxes}
use Rattle.pv_box.specs.Members.{HalvesCover, HullKeepsEither, MeetKeepsCommon, MeetIsCommon, ApartHaveNone}
use Rattle.pv_box.proofs.QHullKept.{lies_at}

-- ---- Halves

pub le_or : (a b : ℤ) → (a ≤ℤ b) ⊎ (b ≤ℤ a)
le_or a b = grind (arith, ints)

-- an end is at least or at most a number
either_side : (a : Extended) (n : ℤ) (d : ℕ) → IsAbove a n d ⊎ IsBelow a n d
either_side NegInf n d = inr tt
either_side (Fin e) n d = le_or (n *ℤ pos unit) (e *ℤ pos d)
either_side PosInf n d = inl tt

place_splits : (n : ℤ) (d : ℕ) (x : Bounds) (a : Extended) → Lies n d x
    → Lies n d (record { lo = x.lo; hi = a }) ⊎ Lies n d (record { lo = a; hi = x.hi })
place_splits n d x a k = elim (either_side a n d) [
  | inl high ↦ inl (record { some = k.some; low = k.low; high = high })
  | inr low ↦ inr (record { some = k.some; low = low; high = k.high })
]

halves_split : (ns : List ℤ) (d : ℕ) (b : List Bounds) (v : ℕ) (a : Extended) → LieIn ns d b
    → LieIn ns d (lower_half b v a) ⊎ LieIn ns d (upper_half b v a)
halves_split [] d [] v a k = inl tt
halves_split [] d (x ∷ b) v a k = absurd k
halves_split (n ∷ ns) d [] v a k = absurd k
halves_split (n ∷ ns) d (x ∷ b) zero a k = elim (place_splits n d x a k.0) [
  | inl low ↦ inl (low, k.1)
  | inr high ↦ inr (high, k.1)
]
halves_split (n ∷ ns) d (x ∷ b) (suc v) a k = elim (halves_split ns d b v a k.1) [
  | inl low ↦ inl (k.0, low)
  | inr high ↦ inr (k.0, high)
]

pub halves-cover : HalvesCover
halves-cover b v a p h = halves_split p.places p.under b v a h

-- ---- Hulls

left_places : (ns : List ℤ) (d : ℕ) (a b : List Bounds) → LieIn ns d a → LieIn ns d (hull_boxes a b)
left_places [] d [] b h = tt
left_places [] d (x ∷ a) b h = absurd h
left_places (n ∷ ns) d [] b h = absurd h
left_places (n ∷ ns) d (x ∷ a) [] h = h
left_places (n ∷ ns) d (x ∷ a) (y ∷ b) h = (hull_keeps_left n d x y h.0, left_places ns d a b h.1)

right_places : (ns : List ℤ) (d : ℕ) (a b : List Bounds) → length a ≡ length b → LieIn ns d b → LieIn ns d (hull_boxes a b)
right_places [] d [] [] e h = tt
right_places (n ∷ ns) d [] [] e h = absurd h
right_places ns d [] (y ∷ b) e h = absurd (omega arith)
right_places ns d (x ∷ a) [] e h = absurd (omega arith)
right_places [] d (x ∷ a) (y ∷ b) e h = absurd h
right_places (n ∷ ns) d (x ∷ a) (y ∷ b) e h = (hull_keeps_right n d x y h.0, right_places ns d a b (omega arith) h.1)

pub hull-keeps : HullKeepsEither
hull-keeps a b p e (inl h) = left_places p.places p.under a b h
hull-keeps a b p e (inr h) = right_places p.places p.under a b e h

-- ---- Meets

abbrev MeetsEach : List Bounds → List Bounds → List Bounds → Type 0
MeetsEach a b c = (k : ℕ) (d : Bounds) → k < length a → meet_of (get_or a k d) (get_or b k d) ≡ Some (get_or c k d)

common_places : (ns : List ℤ) (d : ℕ) (a b c : List Bounds) → length c ≡ length a → MeetsEach a b c → LieIn ns d a → LieIn ns d b → LieIn ns d c
common_places [] d [] b [] e m h k = tt
common_places [] d [] b (z ∷ c) e m h k = absurd (omega arith)
common_places (n ∷ ns) d [] b c e m h k = absurd h
common_places [] d (x ∷ a) b c e m h k = absurd h
common_places (n ∷ ns) d (x ∷ a) [] c e m h k = absurd k
common_places (n ∷ ns) d (x ∷ a) (y ∷ b) [] e m h k = absurd (omega arith)
common_places (n ∷ ns) d (x ∷ a) (y ∷ b) (z ∷ c) e m h k = (
  subst (LiesInSome n d) (m 0 x (omega arith)) (meet_keeps n d x y h.0 k.0),
  common_places ns d a b c (omega arith) (λ i w l. m (suc i) w (omega arith)) h.1 k.1,
)

pub meet-keeps : MeetKeepsCommon
meet-keeps a b c p m h k = common_places p.places p.under a b c m.dims m.place h k

both_places : (ns : List ℤ) (d : ℕ) (a b c : List Bounds) → length a ≡ length b → length c ≡ length a → MeetsEach a b c → LieIn ns d c
    → LieIn ns d a × LieIn ns d b
both_places [] d [] [] [] e f m h = (tt, tt)
both_places (n ∷ ns) d [] [] [] e f m h = absurd h
both_places ns d [] (y ∷ b) c e f m h = absurd (omega arith)
both_places ns d (x ∷ a) [] c e f m h = absurd (omega arith)
both_places ns d [] [] (z ∷ c) e f m h = absurd (omega arith)
both_places ns d (x ∷ a) (y ∷ b) [] e f m h = absurd (omega arith)
both_places [] d (x ∷ a) (y ∷ b) (z ∷ c) e f m h = absurd h
both_places (n ∷ ns) d (x ∷ a) (y ∷ b) (z ∷ c) e f m h =
    let here = meet_in n d x y z (m 0 x (omega arith)) h.0 in
    let rest = both_places ns d a b c (omega arith) (omega arith) (λ i w l. m (suc i) w (omega arith)) h.1 in
    ((here.0, rest.0), (here.1, rest.1))

pub meet-common : MeetIsCommon
meet-common a b c p e m h = both_places p.places p.under a b c e m.dims m.place h

pub apart-none : ApartHaveNone
apart-none a b p e m h k =
    let within : m.at < length b = let l = m.within in omega (arith, l, e) in
    let n = get_or p.places m.at (pos 0) in
    let x = get_or a m.at everything in
    let y = get_or b m.at everything in
    subst (LiesInSome n p.under) (m.empty everything)
    (meet_keeps n p.under x y (lies_at p.places p.under a m.at h m.within) (lies_at p.places p.under b m.at k within))
