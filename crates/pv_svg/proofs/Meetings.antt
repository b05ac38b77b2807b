-- A plane that meets a part of a box meets the box.
use Rattle.std.proofs.Common.{◌≡◌, inl, inr, ℕ, suc, IsTrue, true, false, List, [], ◌∷◌, refl, sym, ◌∙◌}
use Rattle.std.specs.Prelude.{◌==◌, ◌||◌}
use Rattle.std.proofs.lemmas.Bool.{and_parts, and_from, or_cases, or_left, or_right, false_from_ne_true, true≢false}
use Rattle.pv_num.specs.Order.{le}
use Rattle.pv_num.proofs.Orders.{le-trans}
use Rattle.pv_interval.specs.Bounds.{Bounds}
use Rattle.pv_interval.specs.Tables.{holds}
use Rattle.pv_box.specs.Boxes.{IsWithin}
use Rattle.pv_svg.specs.Planes.{Plane, number_of, meets_place, meets_from, meets}

wider : (x y : Bounds) (plane : Plane) (i : ℕ) → IsTrue (le y.lo x.lo) → IsTrue (le x.hi y.hi) → meets_place plane i x ≡ true → meets_place plane i y ≡ true
wider x y plane i l h m = elim (or_cases (i == plane.x) ((i == plane.y) || holds x (number_of plane i)) m) [
  | inl a ↦ or_left (i == plane.x) ((i == plane.y) || holds y (number_of plane i)) a
  | inr rest ↦ elim (or_cases (i == plane.y) (holds x (number_of plane i)) rest) [
    | inl b ↦ or_right (i == plane.x) ((i == plane.y) || holds y (number_of plane i)) (or_left (i == plane.y) (holds y (number_of plane i)) b)
    | inr k ↦
        let parts = and_parts (le x.lo (number_of plane i)) (le (number_of plane i) x.hi) k in
        or_right (i == plane.x) ((i == plane.y) || holds y (number_of plane i)) (or_right (i == plane.y) (holds y (number_of plane i)) (and_from (le y.lo (number_of plane i)) (le (number_of plane i) y.hi)
        (le-trans y.lo x.lo (number_of plane i) l parts.0) (le-trans (number_of plane i) x.hi y.hi parts.1 h)))
  ]
]

wider_from : (a b : List Bounds) (plane : Plane) (i : ℕ) → IsWithin a b → meets_from plane i a ≡ true → meets_from plane i b ≡ true
wider_from [] [] plane i w m = refl
wider_from [] (y ∷ b) plane i w m = absurd w
wider_from (x ∷ a) [] plane i w m = absurd w
wider_from (x ∷ a) (y ∷ b) plane i w m =
    let parts = and_parts (meets_place plane i x) (meets_from plane (suc i) a) m in
    and_from (meets_place plane i y) (meets_from plane (suc i) b) (wider x y plane i w.0 w.1 parts.0) (wider_from a b plane (suc i) w.2 parts.1)

pub part_met : (plane : Plane) (a b : List Bounds) → IsWithin a b → meets plane a ≡ true → meets plane b ≡ true
part_met plane a b w m = wider_from a b plane 0 w m

pub part_hidden : (plane : Plane) (a b : List Bounds) → IsWithin a b → meets plane b ≡ false → meets plane a ≡ false
part_hidden plane a b w h = false_from_ne_true (meets plane a) (λ m. true≢false (sym (part_met plane a b w m) ∙ h))
