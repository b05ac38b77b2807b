-- What the nodes that a walk is still to meet show, and that it lies on the axes.
use Rattle.std.proofs.Common.{◌≡◌, ℕ, zero, suc, ◌<◌, IsTrue, Bool, true, false, cond, List, [], ◌∷◌, ◌++◌, length, get_or, refl, sym, ◌∙◌, ap, subst, append_assoc, append-nil}
use Rattle.std.specs.Prelude.{All}
use Rattle.std.specs.Ordering.{is_lt, is_le}
use Rattle.std.specs.declared.cmp.Ordering.{Ordering}
use Rattle.std.specs.declared.cmp.Ordering.TheVariants.{Less, Equal, Greater}
use Rattle.std.proofs.lemmas.Bool.{true≢false, cond-false, cond_both}
use Rattle.std.proofs.lemmas.List.{get_or_default}
use Rattle.std.proofs.lemmas.List.Elements.{All-nil, All-cons, All-append}
use Rattle.pv_num.specs.Extended.{Extended, NegInf, Fin, PosInf}
use Rattle.pv_num.specs.Order.{le, lt, order_of}
use Rattle.pv_num.proofs.Orders.{le-refl, le-trans}
use Rattle.pv_interval.specs.Bounds.{Bounds, everything}
use Rattle.pv_box.specs.Boxes.{IsWithin, lower_half, upper_half}
use Rattle.pv_tree.specs.Trees.{Tree, leaf, removed, inner, small, cut, Paves, IsBetween, IsStrictlyInside, box_of}
use Rattle.pv_tree.specs.Pieces.{Piece, pieces_below, children_of}
use Rattle.pv_svg.specs.Planes.{Plane, place, meets}
use Rattle.pv_svg.specs.Pixels.{IsFinite}
use Rattle.pv_svg.specs.Rectangles.{rectangle_of, fills, cast_off, kept, seen, rectangles_of, LiesWithin, IsOnAxes, IsPicture, picture_of}
use Rattle.pv_svg.specs.Pieces.{still_to_show}
use Rattle.pv_svg.specs.declared.rectangle.Class.{Class}
use Rattle.pv_svg.specs.declared.rectangle.Class.TheVariants.{Removed, Inner, Small, OpenLeaf}
use Rattle.pv_svg.specs.declared.rectangle.Rectangle.{Rectangle}
use Rattle.pv_svg.proofs.Meetings.{part_hidden}

-- ---- Halves lie in their box

less_or : (o : Ordering) → is_lt o ≡ true → is_le o ≡ true
less_or Less h = refl
less_or Equal h = refl
less_or Greater h = absurd (true≢false (sym h))

lt_le : (a b : Extended) → IsTrue (lt a b) → IsTrue (le a b)
lt_le a b h = less_or (order_of a b) h

pub between_ends : (a : Extended) (x : Bounds) → IsBetween a x → IsTrue (le x.lo a) × IsTrue (le a x.hi)
between_ends NegInf x h = absurd h
between_ends (Fin n) x h = (lt_le x.lo (Fin n) h.0, lt_le (Fin n) x.hi h.1)
between_ends PosInf x h = absurd h

pub within_itself : (b : List Bounds) → IsWithin b b
within_itself [] = tt
within_itself (x ∷ b) = (le-refl x.lo, le-refl x.hi, within_itself b)

pub within_both : (a b c : List Bounds) → IsWithin a b → IsWithin b c → IsWithin a c
within_both [] [] [] h k = tt
within_both [] [] (z ∷ c) h k = absurd k
within_both [] (y ∷ b) c h k = absurd h
within_both (x ∷ a) [] c h k = absurd h
within_both (x ∷ a) (y ∷ b) [] h k = absurd k
within_both (x ∷ a) (y ∷ b) (z ∷ c) h k = (le-trans z.lo y.lo x.lo k.0 h.0, le-trans x.hi y.hi z.hi h.1 k.1, within_both a b c h.2 k.2)

pub lower_within : (b : List Bounds) (v : ℕ) (a : Extended) → IsStrictlyInside a v b → IsWithin (lower_half b v a) b
lower_within [] v a h = absurd h
lower_within (x ∷ b) zero a h = (le-refl x.lo, (between_ends a x h).1, within_itself b)
lower_within (x ∷ b) (suc v) a h = (le-refl x.lo, le-refl x.hi, lower_within b v a h)

pub upper_within : (b : List Bounds) (v : ℕ) (a : Extended) → IsStrictlyInside a v b → IsWithin (upper_half b v a) b
upper_within [] v a h = absurd h
upper_within (x ∷ b) zero a h = ((between_ends a x h).0, le-refl x.hi, within_itself b)
upper_within (x ∷ b) (suc v) a h = (le-refl x.lo, le-refl x.hi, upper_within b v a h)

pub low_child : (b to : List Bounds) (v : ℕ) (a : Extended) (l r : Tree) → Paves b (cut to v a l r) → IsWithin (lower_half to v a) b
low_child b to v a l r h = within_both (lower_half to v a) to b (lower_within to v a h.2) h.1

pub high_child : (b to : List Bounds) (v : ℕ) (a : Extended) (l r : Tree) → Paves b (cut to v a l r) → IsWithin (upper_half to v a) b
high_child b to v a l r h = within_both (upper_half to v a) to b (upper_within to v a h.2) h.1

-- ---- A walk's step

pub hidden : (plane : Plane) (b : List Bounds) (t : Tree) → meets plane b ≡ false → rectangles_of plane b t ≡ []
hidden plane b leaf h = cond-false (meets plane b) _ _ h
hidden plane b removed h = cond-false (meets plane b) _ _ h
hidden plane b (inner to) h = cond-false (meets plane b) _ _ h
hidden plane b (small to) h = cond-false (meets plane b) _ _ h
hidden plane b (cut to v a l r) h = cond-false (meets plane b) _ _ h

parts_behind : (m : Bool) (s l h p : List Rectangle) → (m ≡ false → l ≡ []) → (m ≡ false → h ≡ [])
    → cond m (s ++ (l ++ h)) [] ++ p ≡ cond m s [] ++ (l ++ (h ++ p))
parts_behind true s l h p e f = simp append_assoc
parts_behind false s l h p e f = sym (ap (λ (x : List Rectangle). x ++ (h ++ p)) (e refl) ∙ ap (λ (x : List Rectangle). x ++ p) (f refl))

visit : (plane : Plane) (path : _) (b : List Bounds) (t : Tree) (rest : List Piece) → Paves b t
    → rectangles_of plane b t ++ still_to_show plane rest ≡ seen plane b t ++ still_to_show plane (pieces_below path t ++ rest)
visit plane path b leaf rest h = refl
visit plane path b removed rest h = refl
visit plane path b (inner to) rest h = refl
visit plane path b (small to) rest h = refl
visit plane path b (cut to v a l r) rest h =
    parts_behind (meets plane b) (cast_off plane b to) (rectangles_of plane (lower_half to v a) l) (rectangles_of plane (upper_half to v a) r) (still_to_show plane rest)
    (λ e. hidden plane (lower_half to v a) l (part_hidden plane (lower_half to v a) b (low_child b to v a l r h) e))
    (λ e. hidden plane (upper_half to v a) r (part_hidden plane (upper_half to v a) b (high_child b to v a l r h) e))

-- one node more is shown
pub one_shown : (plane : Plane) (here : Piece) (old new rest : List Piece) (total had had' : List Rectangle) → Paves here.box here.tree
    → old ≡ here ∷ rest → new ≡ children_of here ++ rest → total ≡ had ++ still_to_show plane old → had' ≡ had ++ seen plane here.box here.tree
    → total ≡ had' ++ still_to_show plane new
one_shown plane here old new rest total had had' paves was now t h =
    t ∙ ap (λ (x : List Rectangle). had ++ x)
    (ap (still_to_show plane) was ∙ visit plane here.path here.box here.tree rest paves ∙ ap (λ (x : List Piece). seen plane here.box here.tree ++ still_to_show plane x) (sym now))
    ∙ sym (append_assoc had (seen plane here.box here.tree) (still_to_show plane new)) ∙ ap (λ (x : List Rectangle). x ++ still_to_show plane new) (sym h)

pub all_shown : (plane : Plane) (total had : List Rectangle) (pending : List Piece) → pending ≡ [] → total ≡ had ++ still_to_show plane pending → had ≡ total
all_shown plane total had pending e t = sym (t ∙ ap (λ (x : List Piece). had ++ still_to_show plane x) e ∙ append-nil had)

-- ---- Rectangles lie on the axes

pub place_within : (a b : List Bounds) (i : ℕ) → IsWithin a b → LiesWithin (place b i) (place a i)
place_within [] [] i w = (refl, refl)
place_within [] (y ∷ b) i w = absurd w
place_within (x ∷ a) [] i w = absurd w
place_within (x ∷ a) (y ∷ b) zero w = (w.0, w.1)
place_within (x ∷ a) (y ∷ b) (suc i) w = place_within a b i w.2

abbrev AreOn : Plane → List Bounds → List Rectangle → Type 0
AreOn plane root rs = All (IsOnAxes (place root plane.x) (place root plane.y)) rs

lone : (plane : Plane) (root b : List Bounds) (class : Class) → IsWithin b root → AreOn plane root (rectangle_of plane b class ∷ [])
lone plane root b class w =
    All-cons (IsOnAxes (place root plane.x) (place root plane.y)) (rectangle_of plane b class) []
    (place_within b root plane.x w, place_within b root plane.y w) (All-nil _)

off_on : (plane : Plane) (root b to : List Bounds) → IsWithin b root → AreOn plane root (cast_off plane b to)
off_on plane root b to w = cond_both (fills plane to b) [] (rectangle_of plane b Removed ∷ []) (AreOn plane root) (λ e. All-nil _) (λ e. lone plane root b Removed w)

kept_on : (plane : Plane) (root to : List Bounds) (class : Class) → IsWithin to root → AreOn plane root (kept plane to class)
kept_on plane root to class w = cond_both (meets plane to) (rectangle_of plane to class ∷ []) [] (AreOn plane root) (λ e. lone plane root to class w) (λ e. All-nil _)

where_met : (plane : Plane) (root b : List Bounds) (rs : List Rectangle) → AreOn plane root rs → AreOn plane root (cond (meets plane b) rs [])
where_met plane root b rs h = cond_both (meets plane b) rs [] (AreOn plane root) (λ e. h) (λ e. All-nil _)

both_on : (plane : Plane) (root : List Bounds) (xs ys : List Rectangle) → AreOn plane root xs → AreOn plane root ys → AreOn plane root (xs ++ ys)
both_on plane root xs ys h k = All-append (IsOnAxes (place root plane.x) (place root plane.y)) xs ys h k

pub all_on : (plane : Plane) (root b : List Bounds) (t : Tree) → IsWithin b root → Paves b t → AreOn plane root (rectangles_of plane b t)
all_on plane root b leaf w h = where_met plane root b _ (lone plane root b OpenLeaf w)
all_on plane root b removed w h = where_met plane root b _ (lone plane root b Removed w)
all_on plane root b (inner to) w h =
    where_met plane root b _ (both_on plane root (cast_off plane b to) (kept plane to Inner) (off_on plane root b to w) (kept_on plane root to Inner (within_both to b root h.1 w)))
all_on plane root b (small to) w h =
    where_met plane root b _ (both_on plane root (cast_off plane b to) (kept plane to Small) (off_on plane root b to w) (kept_on plane root to Small (within_both to b root h.1 w)))
all_on plane root b (cut to v a l r) w h =
    where_met plane root b _ (both_on plane root (cast_off plane b to) (rectangles_of plane (lower_half to v a) l ++ rectangles_of plane (upper_half to v a) r) (off_on plane root b to w)
    (both_on plane root (rectangles_of plane (lower_half to v a) l) (rectangles_of plane (upper_half to v a) r)
    (all_on plane root (lower_half to v a) l (within_both (lower_half to v a) b root (low_child b to v a l r h) w) h.3)
    (all_on plane root (upper_half to v a) r (within_both (upper_half to v a) b root (high_child b to v a l r h) w) h.4)))

-- ---- The picture

pub root_box : (b into : List Bounds) (t : Tree) (p : List Bool) → into ≡ box_of b t p → p ≡ [] → into ≡ b
root_box b into t p e f = e ∙ ap (box_of b t) f

pub place_is : (b box : List Bounds) (i : ℕ) (x : Bounds) → i < length b → box ≡ b → x ≡ get_or box i x → x ≡ place b i
place_is b box i x l e g = g ∙ ap (λ (y : List Bounds). get_or y i x) e ∙ get_or_default b i x everything l

pub is_picture : (plane : Plane) (b : List Bounds) (t : Tree) (x y : Bounds) (rs : List Rectangle) → Paves b t → IsFinite (place b plane.x) → IsFinite (place b plane.y)
    → x ≡ place b plane.x → y ≡ place b plane.y → rs ≡ rectangles_of plane b t → (record { x = x; y = y; rectangles = rs }) ≡ picture_of plane b t
is_picture plane b t x y rs h fx fy ex ey er = λ i. record { x = ex i; y = ey i; rectangles = er i }

pub good_picture : (plane : Plane) (b : List Bounds) (t : Tree) (x y : Bounds) (rs : List Rectangle) → Paves b t → IsFinite (place b plane.x) → IsFinite (place b plane.y)
    → x ≡ place b plane.x → y ≡ place b plane.y → rs ≡ rectangles_of plane b t → IsPicture (record { x = x; y = y; rectangles = rs })
good_picture plane b t x y rs h fx fy ex ey er =
    subst IsPicture (sym (is_picture plane b t x y rs h fx fy ex ey er)) (record { x = fx; y = fy; rectangles = all_on plane b b t (within_itself b) h })
