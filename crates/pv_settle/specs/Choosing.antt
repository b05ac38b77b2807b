-- A chosen cut lies strictly inside its place.
use Rattle.std.proofs.Common.{◌≡◌, ℕ, zero, suc, ◌+◌, ◌%◌, List, [], ◌∷◌, length, drop, refl, subst, arith}
use Rattle.std.specs.Prelude.{Option, Some, None, Bool, true, false, cond, IfSome, ℤ, ◌&&◌}
use Rattle.pv_num.specs.Extended.{Extended, NegInf, Fin, PosInf}
use Rattle.pv_num.specs.Order.{le, lt}
use Rattle.pv_interval.specs.Bounds.{Bounds}
use Rattle.pv_interval.specs.Tables.{nought, width_of}
use Rattle.pv_box.specs.Boxes.{IsInside}
use Rattle.pv_box.specs.Choice.{strictly_between, cut_below, cut_above, cut_between, cut_of, wider, widest_from, choice_of, at_or_later, first_from, or_else, round_from, choose_of}
use Rattle.pv_box.specs.declared.choice.Bisector.{Bisector}
use Rattle.pv_box.specs.declared.choice.Bisector.TheVariants.{Largest, Round}
use Rattle.pv_box.proofs.Inside.{middle_inside}
use Rattle.pv_tree.specs.Trees.{IsStrictlyInside}
use Rattle.pv_settle.specs.Geometry.{between}

some_is : {A : Type 0} (x y : A) → Some x ≡ Some y → x ≡ y
some_is x y e = cc

both : (p q : Bool) → (p && q) ≡ true → (p ≡ true) × (q ≡ true)
both true q h = (refl, h)
both false q h = absurd (cc)

strictly : (lo c hi : Extended) → IfSome (strictly_between lo c hi) (λ a. IsInside a (record { lo = lo; hi = hi }))
strictly lo c hi = go (lt lo c && lt c hi) refl
  where
    go : (t : Bool) → (lt lo c && lt c hi) ≡ t → IfSome (cond t (Some c) None) (λ a. IsInside a (record { lo = lo; hi = hi }))
    go true e = let t = both (lt lo c) (lt c hi) e in record { above = t.0; below = t.1 }
    go false e = tt

either_between : (t : Bool) (a b lo hi : Extended) → (t ≡ true → IsInside a (record { lo = lo; hi = hi })) → IfSome (cond t (Some a) (strictly_between lo b hi)) (λ a. IsInside a (record { lo = lo; hi = hi }))
either_between true a b lo hi h = h refl
either_between false a b lo hi h = strictly lo b hi

below_inside : (h : ℤ) → IfSome (cut_below h) (λ a. IsInside a (record { lo = NegInf; hi = Fin h }))
unfolding cut_below
below_inside h = either_between (lt nought (Fin h)) nought _ NegInf (Fin h) (λ e. record { above = refl; below = e })

above_inside : (l : ℤ) → IfSome (cut_above l) (λ a. IsInside a (record { lo = Fin l; hi = PosInf }))
unfolding cut_above
above_inside l = either_between (lt (Fin l) nought) nought _ (Fin l) PosInf (λ e. record { above = e; below = refl })

ends_inside : (lo hi : Extended) → IfSome (cut_between lo hi) (λ a. IsInside a (record { lo = lo; hi = hi }))
ends_inside NegInf NegInf = tt
ends_inside NegInf (Fin h) = below_inside h
ends_inside NegInf PosInf = record { above = refl; below = refl }
ends_inside (Fin l) NegInf = tt
ends_inside (Fin l) (Fin h) = middle_inside (Fin l) (Fin h)
ends_inside (Fin l) PosInf = above_inside l
ends_inside PosInf hi = tt

cut_inside : (x : Bounds) → IfSome (cut_of x) (λ a. IsInside a x)
unfolding cut_of
cut_inside x = ends_inside x.lo x.hi

-- a cut at a, at number v, of a list whose first place has number i
record Found (i : ℕ) (xs : List Bounds) (v : ℕ) (a : Extended) : Type 0 where
  pub place : ℕ
  pub is : v ≡ i + place
  pub inside : IsStrictlyInside a place xs

found_later : (i : ℕ) (x : Bounds) (xs : List Bounds) (v : ℕ) (a : Extended) → Found (i + 1) xs v a → Found i (x ∷ xs) v a
found_later i x xs v a h = record { place = suc h.place; is = let e = h.is in omega arith; inside = h.inside }

found_here : (i : ℕ) (x : Bounds) (xs : List Bounds) (a : Extended) → IsInside a x → Found i (x ∷ xs) i a
found_here i x xs a h = record { place = zero; is = omega arith; inside = between a x h }

later_found : (o : Option Extended) (i : ℕ) (later : Option (ℕ × Extended)) (x : Bounds) (xs : List Bounds) (v : ℕ) (a : Extended) → IfSome o (λ a. IsInside a x) → (later ≡ Some (v, a) → Found (i + 1) xs v a) → at_or_later o i later ≡ Some (v, a) → Found i (x ∷ xs) v a
later_found None i later x xs v a h f e = found_later i x xs v a (f e)
later_found (Some c) i later x xs v a h f e =
    let p : (i, c) ≡ (v, a) = some_is (i, c) (v, a) e in
    subst (λ (q : ℕ × Extended). Found i (x ∷ xs) q.0 q.1) p (found_here i x xs c h)

first_found : (i : ℕ) (xs : List Bounds) (v : ℕ) (a : Extended) → first_from i xs ≡ Some (v, a) → Found i xs v a
first_found i [] v a e = absurd (cc)
first_found i (x ∷ xs) v a e = later_found (cut_of x) i (first_from (i + 1) xs) x xs v a (cut_inside x) (first_found (i + 1) xs v a) e

wider_found : (o : Option Extended) (i : ℕ) (w : Extended) (best : Option _) (k : _) → wider o i w best ≡ Some k → (x : Bounds) (xs : List Bounds) → IfSome o (λ a. IsInside a x) → ((m : _) → best ≡ Some m → Found (i + 1) xs m.var m.at) → Found i (x ∷ xs) k.var k.at
wider_found None i w best k e x xs h f = found_later i x xs k.var k.at (f k e)
wider_found (Some c) i w None k e x xs h f = subst (λ m. Found i (x ∷ xs) m.var m.at) (some_is _ k e) (found_here i x xs c h)
wider_found (Some c) i w (Some m) k e x xs h f = go (le m.width w) e
  where
    go : (t : Bool) → cond t (Some (record { var = i; at = c; width = w })) (Some m) ≡ Some k → Found i (x ∷ xs) k.var k.at
    go true e = subst (λ m. Found i (x ∷ xs) m.var m.at) (some_is _ k e) (found_here i x xs c h)
    go false e = subst (λ m. Found i (x ∷ xs) m.var m.at) (some_is m k e) (found_later i x xs m.var m.at (f m refl))

widest_found : (i : ℕ) (xs : List Bounds) (k : _) → widest_from i xs ≡ Some k → Found i xs k.var k.at
widest_found i [] k e = absurd (cc)
widest_found i (x ∷ xs) k e = wider_found (cut_of x) i (width_of x) (widest_from (i + 1) xs) k e x xs (cut_inside x) (widest_found (i + 1) xs)

behind_drop : (t : ℕ) (b : List Bounds) (v n : ℕ) (a : Extended) → n ≡ t + v → IsStrictlyInside a v (drop t b) → IsStrictlyInside a n b
behind_drop zero b v n a e h = let m : v ≡ n = omega arith in subst (λ k. IsStrictlyInside a k b) m h
behind_drop (suc t) [] v n a e h = absurd h
behind_drop (suc t) (x ∷ b) v n a e h =
    let m : suc (t + v) ≡ n = omega arith in
    subst (λ k. IsStrictlyInside a k (x ∷ b)) m (behind_drop t b v (t + v) a refl h)

at_front : (b : List Bounds) (v : ℕ) (a : Extended) → Found 0 b v a → IsStrictlyInside a v b
at_front b v a h = let m : h.place ≡ v = let e = h.is in omega arith in subst (λ k. IsStrictlyInside a k b) m h.inside

choice_found : (o : Option _) (b : List Bounds) (v : ℕ) (a : Extended) → choice_of o ≡ Some (v, a) → ((k : _) → o ≡ Some k → Found 0 b k.var k.at) → Found 0 b v a
choice_found None b v a e h = absurd (cc)
choice_found (Some k) b v a e h =
    let p : (k.var, k.at) ≡ (v, a) = some_is (k.var, k.at) (v, a) e in
    subst (λ (q : ℕ × Extended). Found 0 b q.0 q.1) p (h k refl)

either_found : (o p : Option (ℕ × Extended)) (b : List Bounds) (v : ℕ) (a : Extended) → (o ≡ Some (v, a) → IsStrictlyInside a v b) → (p ≡ Some (v, a) → IsStrictlyInside a v b) → or_else o p ≡ Some (v, a) → IsStrictlyInside a v b
either_found None p b v a h k e = k e
either_found (Some c) p b v a h k e = h e

round_found : (t : ℕ) (b : List Bounds) (v : ℕ) (a : Extended) → round_from t b ≡ Some (v, a) → IsStrictlyInside a v b
round_found t b v a e =
    either_found (first_from t (drop t b)) (first_from 0 b) b v a
    (λ f. let g = first_found t (drop t b) v a f in behind_drop t b g.place v a g.is g.inside)
    (λ f. at_front b v a (first_found 0 b v a f)) e

-- a chosen cut is finite and strictly inside its place
pub chosen_inside : (by : Bisector) (k : ℕ) (b : List Bounds) (v : ℕ) (a : Extended) → choose_of by k b ≡ Some (v, a) → IsStrictlyInside a v b
unfolding choose_of
chosen_inside Largest k b v a e = at_front b v a (choice_found (widest_from 0 b) b v a e (widest_found 0 b))
chosen_inside Round k b v a e = round_found (k % length b) b v a e
