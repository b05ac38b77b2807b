-- The picture of a sound paving is sound.
use Rattle.std.proofs.Common.{◌≡◌, inl, inr, ℕ, ◌<◌, Bool, true, cond, Some, None, List, [], ◌∷◌, ◌++◌, length, refl, sym, ◌∙◌, subst, arith}
use Rattle.std.proofs.lemmas.Bool.{and_parts, cond-true, cond-false, cond_both, cases_Bool}
use Rattle.pv_interval.specs.Bounds.{Bounds}
use Rattle.pv_interval.specs.Points.{Point, Lies}
use Rattle.pv_box.specs.Boxes.{IsWithin, PointIn, lower_half, upper_half}
use Rattle.pv_box.proofs.Kept.{halves-cover}
use Rattle.pv_tree.specs.Trees.{Tree, leaf, removed, inner, small, cut, Paves}
use Rattle.pv_tree.specs.Sets.{IsSound, LosesNone}
use Rattle.pv_tree.proofs.Wholes.{within_length}
use Rattle.pv_svg.specs.Planes.{Plane, IsPlane, place, meets}
use Rattle.pv_svg.specs.Rectangles.{rectangle_of, same_bounds, fills, cast_off, kept, rectangles_of}
use Rattle.pv_svg.specs.Paints.{Spot, contains, paint_of, IsPointOf, spot_of, IsOffEdges, Says, PicturesAreSound}
use Rattle.pv_svg.specs.declared.rectangle.Class.{Class}
use Rattle.pv_svg.specs.declared.rectangle.Class.TheVariants.{Removed, Inner, Small, OpenLeaf}
use Rattle.pv_svg.specs.declared.rectangle.Rectangle.{Rectangle}
use Rattle.pv_interval.proofs.Alike.{alike_same}
use Rattle.pv_svg.proofs.Painting.{none_parts, off_parts, not_bare, has_both, has_lone}
use Rattle.pv_svg.proofs.Places.{contained, point_met, point_on, point_in}
use Rattle.pv_svg.proofs.Showing.{low_child, high_child}

-- ---- What says what

says_lone : (inside : Point → Type 0) (p : Point) (spot : Spot) (r : Rectangle) → (contains r spot ≡ true → Says (Some r.class) inside p) → Says (paint_of spot (r ∷ [])) inside p
says_lone inside p spot r h = has_lone (λ o. Says o inside p) (λ r. contains r spot) r tt h

pub record IsFilled (plane : Plane) (to b : List Bounds) : Type 0 where
  pub met : meets plane to ≡ true
  pub x : place to plane.x ≡ place b plane.x
  pub y : place to plane.y ≡ place b plane.y

filled : (plane : Plane) (to b : List Bounds) → fills plane to b ≡ true → IsFilled plane to b
filled plane to b e =
    let parts = and_parts (meets plane to) _ e in
    let axes = and_parts (same_bounds (place to plane.x) (place b plane.x)) (same_bounds (place to plane.y) (place b plane.y)) parts.1 in
    record { met = parts.0; x = alike_same (place to plane.x) (place b plane.x) axes.0; y = alike_same (place to plane.y) (place b plane.y) axes.1 }

-- ---- One point of a plane

module _ (plane : Plane) (p : Point) (places : ℕ) (of_plane : IsPlane plane places) (on : IsPointOf plane places p) where
  abbrev spot : Spot
  spot = spot_of plane p

  abbrev here : Rectangle → Bool
  here r = contains r spot

  abbrev IsOff : List Rectangle → Type 0
  IsOff rs = IsOffEdges spot rs

  abbrev Bare : List Rectangle → Type 0
  Bare rs = paint_of spot rs ≡ None

  on_box : (b : List Bounds) → length b ≡ places → IsPointOf plane (length b) p
  on_box b e = subst (λ (n : ℕ). IsPointOf plane n p) (sym e) on

  on_x : (b : List Bounds) → PointIn p b → Lies spot.x spot.under (place b plane.x)
  on_x b h = point_on plane p b plane.x (let l : plane.x < places = of_plane.x in let e : length p.places ≡ places = on.count in omega (arith, l, e)) h

  on_y : (b : List Bounds) → PointIn p b → Lies spot.y spot.under (place b plane.y)
  on_y b h = point_on plane p b plane.y (let l : plane.y < places = of_plane.y in let e : length p.places ≡ places = on.count in omega (arith, l, e)) h

  -- a box in which the point lies is painted
  box_painted : (b : List Bounds) (class : Class) → PointIn p b → IsOff (rectangle_of plane b class ∷ []) → Bare (rectangle_of plane b class ∷ []) → ⊥
  box_painted b class h off bare = not_bare here (rectangle_of plane b class) (off.0 (on_x b h) (on_y b h)) bare

  in_box : (b : List Bounds) (class : Class) → length b ≡ places → meets plane b ≡ true → contains (rectangle_of plane b class) spot ≡ true → PointIn p b
  in_box b class e m h = let l = contained (rectangle_of plane b class) spot on.some h in point_in plane p b (on_box b e) m l.0 l.1

  kept_painted : (to : List Bounds) (class : Class) → PointIn p to → IsOff (kept plane to class) → Bare (kept plane to class) → ⊥
  kept_painted to class h off bare =
      let whole = cond-true (meets plane to) (rectangle_of plane to class ∷ []) [] (point_met plane p to places on h) in
      box_painted to class h (subst IsOff whole off) (subst Bare whole bare)

  -- where nothing is cast off, the point lies in what was kept
  cast_in : (b to : List Bounds) → length to ≡ places → PointIn p b → IsOff (cast_off plane b to) → Bare (cast_off plane b to) → PointIn p to
  cast_in b to e h off bare = elim (cases_Bool (fills plane to b)) [
    | inl full ↦
        let f = filled plane to b full in
        point_in plane p to (on_box to e) f.met (subst (λ (x : Bounds). Lies spot.x spot.under x) (sym f.x) (on_x b h))
        (subst (λ (x : Bounds). Lies spot.y spot.under x) (sym f.y) (on_y b h))
    | inr part ↦
        let whole = cond-false (fills plane to b) [] (rectangle_of plane b Removed ∷ []) part in
        absurd (box_painted b Removed h (subst IsOff whole off) (subst Bare whole bare))
  ]

  seen_list : (b : List Bounds) (rs : List Rectangle) → PointIn p b → cond (meets plane b) rs [] ≡ rs
  seen_list b rs h = cond-true (meets plane b) rs [] (point_met plane p b places on h)

  half_length : (a b : List Bounds) → length b ≡ places → IsWithin a b → length a ≡ places
  half_length a b e w = within_length a b w ∙ e

  -- each point of a box is painted
  leaf_painted : (b to : List Bounds) (class : Class) → length to ≡ places → PointIn p b → IsOff (cast_off plane b to ++ kept plane to class)
      → Bare (cast_off plane b to ++ kept plane to class) → ⊥
  leaf_painted b to class e h off bare =
      let offs = off_parts spot (cast_off plane b to) (kept plane to class) off in
      let bares = none_parts here (cast_off plane b to) (kept plane to class) bare in
      kept_painted to class (cast_in b to e h offs.0 bares.0) offs.1 bares.1

  painted : (b : List Bounds) (t : Tree) → length b ≡ places → Paves b t → PointIn p b → IsOff (rectangles_of plane b t) → Bare (rectangles_of plane b t) → ⊥
  painted b leaf e v h off bare =
      let whole = seen_list b (rectangle_of plane b OpenLeaf ∷ []) h in box_painted b OpenLeaf h (subst IsOff whole off) (subst Bare whole bare)
  painted b removed e v h off bare =
      let whole = seen_list b (rectangle_of plane b Removed ∷ []) h in box_painted b Removed h (subst IsOff whole off) (subst Bare whole bare)
  painted b (inner to) e v h off bare =
      let whole = seen_list b (cast_off plane b to ++ kept plane to Inner) h in
      leaf_painted b to Inner (half_length to b e v.1) h (subst IsOff whole off) (subst Bare whole bare)
  painted b (small to) e v h off bare =
      let whole = seen_list b (cast_off plane b to ++ kept plane to Small) h in
      leaf_painted b to Small (half_length to b e v.1) h (subst IsOff whole off) (subst Bare whole bare)
  painted b (cut to var at l r) e v h off bare =
      let low = rectangles_of plane (lower_half to var at) l in
      let high = rectangles_of plane (upper_half to var at) r in
      let whole = seen_list b (cast_off plane b to ++ (low ++ high)) h in
      let offs = off_parts spot (cast_off plane b to) (low ++ high) (subst IsOff whole off) in
      let bares = none_parts here (cast_off plane b to) (low ++ high) (subst Bare whole bare) in
      let offs2 = off_parts spot low high offs.1 in
      let bares2 = none_parts here low high bares.1 in
      elim (halves-cover to var at p (cast_in b to (half_length to b e v.1) h offs.0 bares.0)) [
        | inl i ↦ painted (lower_half to var at) l (half_length (lower_half to var at) b e (low_child b to var at l r v)) v.3 i offs2.0 bares2.0
        | inr i ↦ painted (upper_half to var at) r (half_length (upper_half to var at) b e (high_child b to var at l r v)) v.4 i offs2.1 bares2.1
      ]

  module _ (inside : Point → Type 0) where
    abbrev Right : List Rectangle → Type 0
    Right rs = Says (paint_of spot rs) inside p

    where_seen : (b : List Bounds) (rs : List Rectangle) → IsOff (cond (meets plane b) rs []) → (meets plane b ≡ true → IsOff rs → Right rs) → Right (cond (meets plane b) rs [])
    where_seen b rs off f = elim (cases_Bool (meets plane b)) [
      | inl m ↦ let whole = cond-true (meets plane b) rs [] m in subst Right (sym whole) (f m (subst IsOff whole off))
      | inr n ↦ subst Right (sym (cond-false (meets plane b) rs [] n)) tt
    ]

    cast_right : (b to : List Bounds) → length b ≡ places → meets plane b ≡ true → LosesNone inside b to → (PointIn p to → ⊥) → Right (cast_off plane b to)
    cast_right b to e m lost out = cond_both (fills plane to b) [] (rectangle_of plane b Removed ∷ []) Right (λ f. tt)
        (λ f. says_lone inside p spot (rectangle_of plane b Removed) (λ h. lost p (in_box b Removed e m h) out))

    kept_right : (to : List Bounds) (class : Class) → length to ≡ places → (PointIn p to → Says (Some class) inside p) → Right (kept plane to class)
    kept_right to class e f = elim (cases_Bool (meets plane to)) [
      | inl m ↦ subst Right (sym (cond-true (meets plane to) (rectangle_of plane to class ∷ []) [] m))
          (says_lone inside p spot (rectangle_of plane to class) (λ h. f (in_box to class e m h)))
      | inr n ↦ subst Right (sym (cond-false (meets plane to) (rectangle_of plane to class ∷ []) [] n)) tt
    ]

    leaf_right : (b to : List Bounds) (class : Class) → length b ≡ places → IsWithin to b → LosesNone inside b to → (PointIn p to → Says (Some class) inside p) → meets plane b ≡ true
        → IsOff (cast_off plane b to ++ kept plane to class) → Right (cast_off plane b to ++ kept plane to class)
    leaf_right b to class e w lost f m off =
        let offs = off_parts spot (cast_off plane b to) (kept plane to class) off in
        has_both (λ o. Says o inside p) here (cast_off plane b to) (kept plane to class) (kept_right to class (half_length to b e w) f)
        (λ bare. cast_right b to e m lost (λ h. kept_painted to class h offs.1 bare))

    right : (b : List Bounds) (t : Tree) → length b ≡ places → Paves b t → IsSound inside b t → IsOff (rectangles_of plane b t) → Right (rectangles_of plane b t)
    right b leaf e v s off = where_seen b (rectangle_of plane b OpenLeaf ∷ []) off (λ m o. says_lone inside p spot (rectangle_of plane b OpenLeaf) (λ h. tt))
    right b removed e v s off =
        where_seen b (rectangle_of plane b Removed ∷ []) off (λ m o. says_lone inside p spot (rectangle_of plane b Removed) (λ h. s p (in_box b Removed e m h)))
    right b (inner to) e v s off =
        where_seen b (cast_off plane b to ++ kept plane to Inner) off (λ m o. leaf_right b to Inner e v.1 s.0 (λ h. s.1 p h) m o)
    right b (small to) e v s off =
        where_seen b (cast_off plane b to ++ kept plane to Small) off (λ m o. leaf_right b to Small e v.1 s (λ h. tt) m o)
    right b (cut to var at l r) e v s off =
        let low = rectangles_of plane (lower_half to var at) l in
        let high = rectangles_of plane (upper_half to var at) r in
        let low_places : length (lower_half to var at) ≡ places = half_length (lower_half to var at) b e (low_child b to var at l r v) in
        let high_places : length (upper_half to var at) ≡ places = half_length (upper_half to var at) b e (high_child b to var at l r v) in
        where_seen b (cast_off plane b to ++ (low ++ high)) off (λ m o.
        let offs = off_parts spot (cast_off plane b to) (low ++ high) o in
        let parts = off_parts spot low high offs.1 in
        has_both (λ o. Says o inside p) here (cast_off plane b to) (low ++ high)
        (has_both (λ o. Says o inside p) here low high (right (upper_half to var at) r high_places v.4 s.2 parts.1) (λ bare. right (lower_half to var at) l low_places v.3 s.1 parts.0))
        (λ bare.
        let bares = none_parts here low high bare in
        cast_right b to e m s.0 (λ h. elim (halves-cover to var at p h) [
          | inl i ↦ painted (lower_half to var at) l low_places v.3 i parts.0 bares.0
          | inr i ↦ painted (upper_half to var at) r high_places v.4 i parts.1 bares.1
        ])))

pub pictures-are-sound : (inside : Point → Type 0) → PicturesAreSound inside
pictures-are-sound inside plane b t p of_plane paves sound on off = right plane p (length b) of_plane on inside b t refl paves sound off
