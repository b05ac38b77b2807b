-- What the pixels of a picture of a sound paving show.
use Rattle.std.proofs.Common.{◌≡◌, inl, inr, ℕ, zero, suc, IsTrue, Bool, true, cond, Option, Some, None, List, [], ◌∷◌, ◌++◌, length, refl, sym, subst, arith, ℤ, ◌≤ℤ◌, ◌<ℤ◌}
use Rattle.std.specs.Prelude.{All, ◌⊎◌, ◌≢◌}
use Rattle.std.proofs.lemmas.Int.{ints}
use Rattle.std.proofs.lemmas.Bool.{and_parts, and_from, cond-true, cond_both}
use Rattle.std.proofs.lemmas.List.Elements.{All-cons, All-head, All-tail}
use Rattle.pv_num.specs.Extended.{Extended, NegInf, Fin, PosInf}
use Rattle.pv_interval.specs.Bounds.{Bounds, IsInterval}
use Rattle.pv_interval.specs.Points.{Point, Lies}
use Rattle.pv_box.specs.Boxes.{IsWithin, PointIn, lower_half, upper_half}
use Rattle.pv_box.proofs.Kept.{halves-cover}
use Rattle.pv_tree.specs.Trees.{Tree, leaf, removed, inner, small, cut, Paves, IsBetween, IsStrictlyInside}
use Rattle.pv_tree.specs.Sets.{IsSound, LosesNone}
use Rattle.pv_tree.proofs.Wholes.{within_length}
use Rattle.pv_svg.specs.Planes.{Plane, IsPlane, place, meets}
use Rattle.pv_svg.specs.Pixels.{IsFinite, has, side_of}
use Rattle.pv_svg.specs.Rectangles.{rectangle_of, fills, cast_off, kept, rectangles_of, LiesWithin}
use Rattle.pv_svg.specs.Paints.{Spot, last_class, IsPointOf, spot_of}
use Rattle.pv_svg.specs.Shows.{Pixel, covers, Compares, LiesInPixel, LiesWithinPixel, SpotIn, SpotWithin, InnerFill, InnerIsInside, RemovedIsOutside, BareIsOutside, UnsaidHasPixel, UnsaidIsCovered}
use Rattle.pv_svg.specs.declared.rectangle.Class.{Class}
use Rattle.pv_svg.specs.declared.rectangle.Class.TheVariants.{Removed, Inner, Small, OpenLeaf}
use Rattle.pv_svg.specs.declared.rectangle.Rectangle.{Rectangle}
use Rattle.pv_svg.proofs.Painting.{none_parts, not_bare, has_both, has_lone}
use Rattle.pv_svg.proofs.Places.{point_met, point_on, point_in}
use Rattle.pv_svg.proofs.Showing.{between_ends, within_itself, within_both, low_child, high_child, place_within}
use Rattle.pv_svg.proofs.Sides.{inner_lies, removed_lies, small_touched, open_touched, HasSome, small_there, open_there}

-- ---- Boxes of intervals within a root

between_open : (a : Extended) (x : Bounds) → IsBetween a x → (a ≢ NegInf) × (a ≢ PosInf)
between_open NegInf x h = absurd h
between_open (Fin n) x h = (λ e. cc, λ e. cc)
between_open PosInf x h = absurd h

intervals_low : (b : List Bounds) (v : ℕ) (a : Extended) → All IsInterval b → IsStrictlyInside a v b → All IsInterval (lower_half b v a)
intervals_low [] v a h s = absurd s
intervals_low (x ∷ b) zero a h s =
    let first = All-head IsInterval x b h in
    All-cons IsInterval (record { lo = x.lo; hi = a }) b
    (record { ordered = (between_ends a x s).0; lo_open = first.lo_open; hi_open = (between_open a x s).0 }) (All-tail IsInterval x b h)
intervals_low (x ∷ b) (suc v) a h s =
    All-cons IsInterval x (lower_half b v a) (All-head IsInterval x b h) (intervals_low b v a (All-tail IsInterval x b h) s)

intervals_high : (b : List Bounds) (v : ℕ) (a : Extended) → All IsInterval b → IsStrictlyInside a v b → All IsInterval (upper_half b v a)
intervals_high [] v a h s = absurd s
intervals_high (x ∷ b) zero a h s =
    let first = All-head IsInterval x b h in
    All-cons IsInterval (record { lo = a; hi = x.hi }) b
    (record { ordered = (between_ends a x s).1; lo_open = (between_open a x s).1; hi_open = first.hi_open }) (All-tail IsInterval x b h)
intervals_high (x ∷ b) (suc v) a h s =
    All-cons IsInterval x (upper_half b v a) (All-head IsInterval x b h) (intervals_high b v a (All-tail IsInterval x b h) s)

place_interval : (b : List Bounds) (i : ℕ) → All IsInterval b → IsInterval (place b i)
place_interval [] i h = record { ordered = refl; lo_open = λ e. cc; hi_open = λ e. cc }
place_interval (x ∷ b) zero h = All-head IsInterval x b h
place_interval (x ∷ b) (suc i) h = place_interval b i (All-tail IsInterval x b h)

record Fits (root b : List Bounds) : Type 0 where
  pub intervals : All IsInterval b
  pub within : IsWithin b root

fits_low : (root b to : List Bounds) (v : ℕ) (a : Extended) (l r : Tree) → Fits root b → Paves b (cut to v a l r) → Fits root (lower_half to v a)
fits_low root b to v a l r f h =
    record { intervals = intervals_low to v a h.0.intervals h.2; within = within_both (lower_half to v a) b root (low_child b to v a l r h) f.within }

fits_high : (root b to : List Bounds) (v : ℕ) (a : Extended) (l r : Tree) → Fits root b → Paves b (cut to v a l r) → Fits root (upper_half to v a)
fits_high root b to v a l r f h =
    record { intervals = intervals_high to v a h.0.intervals h.2; within = within_both (upper_half to v a) b root (high_child b to v a l r h) f.within }

-- ---- Strictly in a pixel is in it

low_weaker : (lo hi : Extended) (k : ℕ) (n : ℤ) (d : ℕ) → Compares (λ a b. a <ℤ b) lo hi k n d → Compares (λ a b. a ≤ℤ b) lo hi k n d
low_weaker (Fin l) (Fin h) k n d c = omega (arith, ints, c)
low_weaker lo hi k n d c = absurd c

high_weaker : (lo hi : Extended) (k : ℕ) (n : ℤ) (d : ℕ) → Compares (λ a b. b <ℤ a) lo hi k n d → Compares (λ a b. b ≤ℤ a) lo hi k n d
high_weaker (Fin l) (Fin h) k n d c = omega (arith, ints, c)
high_weaker lo hi k n d c = absurd c

within_in : (axis : Bounds) (k : ℕ) (n : ℤ) (d : ℕ) → LiesWithinPixel axis k n d → LiesInPixel axis k n d
within_in axis k n d h = record { from = low_weaker axis.lo axis.hi k n d h.from; to = high_weaker axis.lo axis.hi (suc k) n d h.to }

-- ---- Lists in two parts

fill_parts : (x y : Bounds) (pixel : Pixel) (spot : Spot) (rs ss : List Rectangle) → InnerFill x y pixel spot (rs ++ ss) → InnerFill x y pixel spot rs × InnerFill x y pixel spot ss
fill_parts x y pixel spot [] ss h = (tt, h)
fill_parts x y pixel spot (r ∷ rs) ss h = let rest = fill_parts x y pixel spot rs ss h.1 in ((h.0, rest.0), rest.1)

-- what the last class has, of a box that may not be seen
has_seen : (P : Option Class → Type 0) (of_some : Rectangle → Bool) (m : Bool) (rs : List Rectangle) → P None → (m ≡ true → P (last_class of_some rs))
    → P (last_class of_some (cond m rs []))
has_seen P of_some m rs none f = cond_both m rs [] (λ l. P (last_class of_some l)) f (λ e. none)

-- ---- One point of a plane, and one pixel

module _ (plane : Plane) (p : Point) (root : List Bounds) (of_plane : IsPlane plane (length root)) (on : IsPointOf plane (length root) p)
    (fx : IsFinite (place root plane.x)) (fy : IsFinite (place root plane.y)) (pixel : Pixel) where
  abbrev x : Bounds
  x = place root plane.x

  abbrev y : Bounds
  y = place root plane.y

  abbrev spot : Spot
  spot = spot_of plane p

  abbrev covered : Rectangle → Bool
  covered r = covers x y pixel r

  abbrev Bare : List Rectangle → Type 0
  Bare rs = last_class covered rs ≡ None

  in_part : (b : List Bounds) → Fits root b → meets plane b ≡ true → Lies spot.x spot.under (place b plane.x) → Lies spot.y spot.under (place b plane.y) → PointIn p b
  in_part b f m hx hy = point_in plane p b (subst (λ (n : ℕ). IsPointOf plane n p) (sym (within_length b root f.within)) on) m hx hy

  on_x : (b : List Bounds) → PointIn p b → Lies spot.x spot.under (place b plane.x)
  on_x b h = point_on plane p b plane.x (let l = of_plane.x in let e = on.count in omega (arith, l, e)) h

  on_y : (b : List Bounds) → PointIn p b → Lies spot.y spot.under (place b plane.y)
  on_y b h = point_on plane p b plane.y (let l = of_plane.y in let e = on.count in omega (arith, l, e)) h

  small_covers : (b : List Bounds) → Fits root b → SpotWithin x y pixel spot → PointIn p b → covered (rectangle_of plane b Small) ≡ true
  small_covers b f s h = and_from (has (side_of Small x (place b plane.x)) pixel.column) (has (side_of Small y (place b plane.y)) pixel.row)
      (small_touched x (place b plane.x) fx (place_within b root plane.x f.within) (place_interval b plane.x f.intervals) pixel.column spot.x spot.under s.0 (on_x b h))
      (small_touched y (place b plane.y) fy (place_within b root plane.y f.within) (place_interval b plane.y f.intervals) pixel.row spot.y spot.under s.1 (on_y b h))

  open_covers : (b : List Bounds) → Fits root b → SpotWithin x y pixel spot → PointIn p b → covered (rectangle_of plane b OpenLeaf) ≡ true
  open_covers b f s h = and_from (has (side_of OpenLeaf x (place b plane.x)) pixel.column) (has (side_of OpenLeaf y (place b plane.y)) pixel.row)
      (open_touched x (place b plane.x) fx (place_within b root plane.x f.within) (place_interval b plane.x f.intervals) pixel.column spot.x spot.under s.0 (on_x b h))
      (open_touched y (place b plane.y) fy (place_within b root plane.y f.within) (place_interval b plane.y f.intervals) pixel.row spot.y spot.under s.1 (on_y b h))

  module _ (in_pixel : SpotIn x y pixel spot) where
    inner_in : (b : List Bounds) → Fits root b → meets plane b ≡ true → covered (rectangle_of plane b Inner) ≡ true → PointIn p b
    inner_in b f m h =
        let parts = and_parts (has (side_of Inner x (place b plane.x)) pixel.column) (has (side_of Inner y (place b plane.y)) pixel.row) h in
        in_part b f m
        (inner_lies x (place b plane.x) fx (place_within b root plane.x f.within) (place_interval b plane.x f.intervals) pixel.column spot.x spot.under on.some in_pixel.0 parts.0)
        (inner_lies y (place b plane.y) fy (place_within b root plane.y f.within) (place_interval b plane.y f.intervals) pixel.row spot.y spot.under on.some in_pixel.1 parts.1)

    removed_in : (b : List Bounds) → Fits root b → meets plane b ≡ true → covered (rectangle_of plane b Removed) ≡ true → PointIn p b
    removed_in b f m h =
        let parts = and_parts (has (side_of Removed x (place b plane.x)) pixel.column) (has (side_of Removed y (place b plane.y)) pixel.row) h in
        in_part b f m
        (removed_lies x (place b plane.x) fx (place_within b root plane.x f.within) (place_interval b plane.x f.intervals) pixel.column spot.x spot.under on.some in_pixel.0 parts.0)
        (removed_lies y (place b plane.y) fy (place_within b root plane.y f.within) (place_interval b plane.y f.intervals) pixel.row spot.y spot.under on.some in_pixel.1 parts.1)

    -- ---- Inner pixels

    module _ (inside : Point → Type 0) where
      abbrev SaysInner : Option Class → Type 0
      SaysInner None = Unit {0}
      SaysInner (Some Removed) = Unit {0}
      SaysInner (Some Inner) = inside p
      SaysInner (Some Small) = Unit {0}
      SaysInner (Some OpenLeaf) = Unit {0}

      cast_says : (b to : List Bounds) → SaysInner (last_class covered (cast_off plane b to))
      cast_says b to = cond_both (fills plane to b) [] (rectangle_of plane b Removed ∷ []) (λ rs. SaysInner (last_class covered rs)) (λ e. tt)
          (λ e. has_lone SaysInner covered (rectangle_of plane b Removed) tt (λ c. tt))

      inner_says : (b : List Bounds) (t : Tree) → Fits root b → Paves b t → IsSound inside b t → SaysInner (last_class covered (rectangles_of plane b t))
      inner_says b leaf f v s =
          has_seen SaysInner covered (meets plane b) (rectangle_of plane b OpenLeaf ∷ []) tt (λ m. has_lone SaysInner covered (rectangle_of plane b OpenLeaf) tt (λ c. tt))
      inner_says b removed f v s =
          has_seen SaysInner covered (meets plane b) (rectangle_of plane b Removed ∷ []) tt (λ m. has_lone SaysInner covered (rectangle_of plane b Removed) tt (λ c. tt))
      inner_says b (inner to) f v s =
          let fits : Fits root to = record { intervals = v.0.intervals; within = within_both to b root v.1 f.within } in
          has_seen SaysInner covered (meets plane b) (cast_off plane b to ++ kept plane to Inner) tt (λ m.
          has_both SaysInner covered (cast_off plane b to) (kept plane to Inner)
          (has_seen SaysInner covered (meets plane to) (rectangle_of plane to Inner ∷ []) tt (λ k.
          has_lone SaysInner covered (rectangle_of plane to Inner) tt (λ c. s.1 p (inner_in to fits k c))))
          (λ none. cast_says b to))
      inner_says b (small to) f v s =
          has_seen SaysInner covered (meets plane b) (cast_off plane b to ++ kept plane to Small) tt (λ m.
          has_both SaysInner covered (cast_off plane b to) (kept plane to Small)
          (has_seen SaysInner covered (meets plane to) (rectangle_of plane to Small ∷ []) tt (λ k. has_lone SaysInner covered (rectangle_of plane to Small) tt (λ c. tt)))
          (λ none. cast_says b to))
      inner_says b (cut to var at l r) f v s =
          let low = rectangles_of plane (lower_half to var at) l in
          let high = rectangles_of plane (upper_half to var at) r in
          has_seen SaysInner covered (meets plane b) (cast_off plane b to ++ (low ++ high)) tt (λ m.
          has_both SaysInner covered (cast_off plane b to) (low ++ high)
          (has_both SaysInner covered low high (inner_says (upper_half to var at) r (fits_high root b to var at l r f v) v.4 s.2)
          (λ none. inner_says (lower_half to var at) l (fits_low root b to var at l r f v) v.3 s.1))
          (λ none. cast_says b to))

  -- ---- Pixels that show removed or nothing

  module _ (within : SpotWithin x y pixel spot) (inside : Point → Type 0) (is_inside : inside p) where
    abbrev spot_in : SpotIn x y pixel spot
    spot_in = (within_in x pixel.column spot.x spot.under within.0, within_in y pixel.row spot.y spot.under within.1)

    abbrev Fills : List Rectangle → Type 0
    Fills rs = InnerFill x y pixel spot rs

    inner_kept : (to : List Bounds) → PointIn p to → Fills (kept plane to Inner) → Bare (kept plane to Inner) → ⊥
    inner_kept to h fills bare =
        let whole = cond-true (meets plane to) (rectangle_of plane to Inner ∷ []) [] (point_met plane p to (length root) on h) in
        let fill = subst Fills whole fills in
        not_bare covered (rectangle_of plane to Inner) (fill.0 refl (on_x to h) (on_y to h)) (subst Bare whole bare)

    small_kept : (to : List Bounds) → Fits root to → PointIn p to → Bare (kept plane to Small) → ⊥
    small_kept to f h bare =
        let whole = cond-true (meets plane to) (rectangle_of plane to Small ∷ []) [] (point_met plane p to (length root) on h) in
        not_bare covered (rectangle_of plane to Small) (small_covers to f within h) (subst Bare whole bare)

    seen_list : (b : List Bounds) (rs : List Rectangle) → PointIn p b → cond (meets plane b) rs [] ≡ rs
    seen_list b rs h = cond-true (meets plane b) rs [] (point_met plane p b (length root) on h)

    -- a point of the set in a box shows
    not_hidden : (b : List Bounds) (t : Tree) → Fits root b → Paves b t → IsSound inside b t → PointIn p b → Fills (rectangles_of plane b t) → Bare (rectangles_of plane b t) → ⊥
    not_hidden b leaf f v s h fills bare =
        let whole = seen_list b (rectangle_of plane b OpenLeaf ∷ []) h in
        not_bare covered (rectangle_of plane b OpenLeaf) (open_covers b f within h) (subst Bare whole bare)
    not_hidden b removed f v s h fills bare = s p h is_inside
    not_hidden b (inner to) f v s h fills bare =
        let whole = seen_list b (cast_off plane b to ++ kept plane to Inner) h in
        let parts = fill_parts x y pixel spot (cast_off plane b to) (kept plane to Inner) (subst Fills whole fills) in
        let bares = none_parts covered (cast_off plane b to) (kept plane to Inner) (subst Bare whole bare) in
        s.0 p h (λ k. inner_kept to k parts.1 bares.1) is_inside
    not_hidden b (small to) f v s h fills bare =
        let whole = seen_list b (cast_off plane b to ++ kept plane to Small) h in
        let bares = none_parts covered (cast_off plane b to) (kept plane to Small) (subst Bare whole bare) in
        s p h (λ k. small_kept to (record { intervals = v.0.intervals; within = within_both to b root v.1 f.within }) k bares.1) is_inside
    not_hidden b (cut to var at l r) f v s h fills bare =
        let low = rectangles_of plane (lower_half to var at) l in
        let high = rectangles_of plane (upper_half to var at) r in
        let whole = seen_list b (cast_off plane b to ++ (low ++ high)) h in
        let parts = fill_parts x y pixel spot (cast_off plane b to) (low ++ high) (subst Fills whole fills) in
        let bares = none_parts covered (cast_off plane b to) (low ++ high) (subst Bare whole bare) in
        let parts2 = fill_parts x y pixel spot low high parts.1 in
        let bares2 = none_parts covered low high bares.1 in
        s.0 p h (λ k. elim (halves-cover to var at p k) [
          | inl i ↦ not_hidden (lower_half to var at) l (fits_low root b to var at l r f v) v.3 s.1 i parts2.0 bares2.0
          | inr i ↦ not_hidden (upper_half to var at) r (fits_high root b to var at l r f v) v.4 s.2 i parts2.1 bares2.1
        ]) is_inside

    abbrev IsNotRemoved : Option Class → Type 0
    IsNotRemoved None = Unit {0}
    IsNotRemoved (Some Removed) = ⊥
    IsNotRemoved (Some Inner) = Unit {0}
    IsNotRemoved (Some Small) = Unit {0}
    IsNotRemoved (Some OpenLeaf) = Unit {0}

    abbrev Right : List Rectangle → Type 0
    Right rs = IsNotRemoved (last_class covered rs)

    cast_right : (b to : List Bounds) → Fits root b → meets plane b ≡ true → LosesNone inside b to → (PointIn p to → ⊥) → Right (cast_off plane b to)
    cast_right b to f m lost out = cond_both (fills plane to b) [] (rectangle_of plane b Removed ∷ []) Right (λ e. tt)
        (λ e. has_lone IsNotRemoved covered (rectangle_of plane b Removed) tt (λ c. lost p (removed_in spot_in b f m c) out is_inside))

    kept_right : (to : List Bounds) (class : Class) → IsNotRemoved (Some class) → Right (kept plane to class)
    kept_right to class h =
        has_seen IsNotRemoved covered (meets plane to) (rectangle_of plane to class ∷ []) tt (λ k. has_lone IsNotRemoved covered (rectangle_of plane to class) tt (λ c. h))

    -- a fact on a list that may be left out, where it isn't
    fills_seen : (b : List Bounds) (rs : List Rectangle) → Fills (cond (meets plane b) rs []) → (meets plane b ≡ true → Fills rs → Right rs) → Right (cond (meets plane b) rs [])
    fills_seen b rs fills g = has_seen IsNotRemoved covered (meets plane b) rs tt (λ m. g m (subst Fills (cond-true (meets plane b) rs [] m) fills))

    right : (b : List Bounds) (t : Tree) → Fits root b → Paves b t → IsSound inside b t → Fills (rectangles_of plane b t) → Right (rectangles_of plane b t)
    right b leaf f v s fills = fills_seen b (rectangle_of plane b OpenLeaf ∷ []) fills (λ m k. has_lone IsNotRemoved covered (rectangle_of plane b OpenLeaf) tt (λ c. tt))
    right b removed f v s fills =
        fills_seen b (rectangle_of plane b Removed ∷ []) fills (λ m k. has_lone IsNotRemoved covered (rectangle_of plane b Removed) tt (λ c. s p (removed_in spot_in b f m c) is_inside))
    right b (inner to) f v s fills =
        fills_seen b (cast_off plane b to ++ kept plane to Inner) fills (λ m k.
        let parts = fill_parts x y pixel spot (cast_off plane b to) (kept plane to Inner) k in
        has_both IsNotRemoved covered (cast_off plane b to) (kept plane to Inner) (kept_right to Inner tt)
        (λ bare. cast_right b to f m s.0 (λ h. inner_kept to h parts.1 bare)))
    right b (small to) f v s fills =
        let fits : Fits root to = record { intervals = v.0.intervals; within = within_both to b root v.1 f.within } in
        fills_seen b (cast_off plane b to ++ kept plane to Small) fills (λ m k.
        has_both IsNotRemoved covered (cast_off plane b to) (kept plane to Small) (kept_right to Small tt)
        (λ bare. cast_right b to f m s (λ h. small_kept to fits h bare)))
    right b (cut to var at l r) f v s fills =
        let low = rectangles_of plane (lower_half to var at) l in
        let high = rectangles_of plane (upper_half to var at) r in
        let fits_l = fits_low root b to var at l r f v in
        let fits_r = fits_high root b to var at l r f v in
        fills_seen b (cast_off plane b to ++ (low ++ high)) fills (λ m k.
        let parts = fill_parts x y pixel spot (cast_off plane b to) (low ++ high) k in
        let both = fill_parts x y pixel spot low high parts.1 in
        has_both IsNotRemoved covered (cast_off plane b to) (low ++ high)
        (has_both IsNotRemoved covered low high (right (upper_half to var at) r fits_r v.4 s.2 both.1) (λ bare. right (lower_half to var at) l fits_l v.3 s.1 both.0))
        (λ bare.
        let bares = none_parts covered low high bare in
        cast_right b to f m s.0 (λ h. elim (halves-cover to var at p h) [
          | inl i ↦ not_hidden (lower_half to var at) l fits_l v.3 s.1 i both.0 bares.0
          | inr i ↦ not_hidden (upper_half to var at) r fits_r v.4 s.2 i both.1 bares.1
        ])))

-- ---- The laws

pub inner-is-inside : (inside : Point → Type 0) → InnerIsInside inside
inner-is-inside inside plane b t p pixel given sound on =
    subst (SaysInner plane p b given.of_plane given.point given.x given.y pixel on inside) given.shown
    (inner_says plane p b given.of_plane given.point given.x given.y pixel on inside b t
    (record { intervals = given.box.intervals; within = within_itself b }) given.paves sound)

pub removed-is-outside : (inside : Point → Type 0) → RemovedIsOutside inside
removed-is-outside inside plane b t p pixel given sound on fills is_inside =
    subst (IsNotRemoved plane p b given.of_plane given.point given.x given.y pixel on inside is_inside) given.shown
    (right plane p b given.of_plane given.point given.x given.y pixel on inside is_inside b t
    (record { intervals = given.box.intervals; within = within_itself b }) given.paves sound fills)

pub bare-is-outside : (inside : Point → Type 0) → BareIsOutside inside
bare-is-outside inside plane b t p pixel given sound on fills h is_inside =
    not_hidden plane p b given.of_plane given.point given.x given.y pixel on inside is_inside b t
    (record { intervals = given.box.intervals; within = within_itself b }) given.paves sound h fills given.shown

some_of : (axis part : Bounds) (class : Class) → (class ≡ Small) ⊎ (class ≡ OpenLeaf) → HasSome (side_of class axis part)
some_of axis part class (inl e) = subst (λ (c : Class). HasSome (side_of c axis part)) (sym e) (small_there axis part)
some_of axis part class (inr e) = subst (λ (c : Class). HasSome (side_of c axis part)) (sym e) (open_there axis part)

pub unsaid-has-pixel : UnsaidHasPixel
unsaid-has-pixel x y r given =
    let across = some_of x r.x r.class given.class in
    let up = some_of y r.y r.class given.class in record {
      pixel = record { column = across.at; row = up.at };
      column = across.few;
      row = up.few;
      covered = and_from (has (side_of r.class x r.x) across.at) (has (side_of r.class y r.y) up.at) across.there up.there;
    }

touched_of : (axis part : Bounds) (class : Class) (k : ℕ) (n : ℤ) (d : ℕ) → (class ≡ Small) ⊎ (class ≡ OpenLeaf) → IsFinite axis → LiesWithin axis part → IsInterval part
    → LiesWithinPixel axis k n d → Lies n d part → IsTrue (has (side_of class axis part) k)
touched_of axis part class k n d (inl e) f w i h l = subst (λ (c : Class). IsTrue (has (side_of c axis part) k)) (sym e) (small_touched axis part f w i k n d h l)
touched_of axis part class k n d (inr e) f w i h l = subst (λ (c : Class). IsTrue (has (side_of c axis part) k)) (sym e) (open_touched axis part f w i k n d h l)

pub unsaid-is-covered : UnsaidIsCovered
unsaid-is-covered x y r pixel spot given hx hy on =
    and_from (has (side_of r.class x r.x) pixel.column) (has (side_of r.class y r.y) pixel.row)
    (touched_of x r.x r.class pixel.column spot.x spot.under given.class given.x_axis given.on_axes.0 given.x_side on.0 hx)
    (touched_of y r.y r.class pixel.row spot.y spot.under given.class given.y_axis given.on_axes.1 given.y_side on.1 hy)
