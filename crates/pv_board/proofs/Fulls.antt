-- Full trees and stages of a fitting rule, below a path.
use Rattle.std.proofs.Common.{◌≡◌, ℕ, zero, suc, ◌+◌, ◌-◌, ◌<◌, ◌≤◌, Bool, true, false, Some, None, List, [], ◌∷◌, length, refl, sym, ◌∙◌, ap, arith, subst}
use Rattle.std.specs.Prelude.{IsSome}
use Rattle.pv_num.specs.Extended.{Extended}
use Rattle.pv_interval.specs.Bounds.{Bounds}
use Rattle.pv_box.specs.Boxes.{IsBox, lower_half, upper_half}
use Rattle.pv_tree.specs.Trees.{Tree, leaf, removed, inner, small, cut, top, subtree, graft, box_of, height, Paves, Fits, KeepsBox, CutsAbove}
use Rattle.pv_tree.specs.Stages.{Rule, full, full_of, Grows, IsStage}
use Rattle.pv_tree.specs.declared.outcome.Outcome.{Outcome}
use Rattle.pv_tree.specs.declared.outcome.Outcome.TheVariants.{Removed, Inner, Small, Cut}
use Rattle.pv_tree.proofs.Wholes.{half_length, within_length}
use Rattle.pv_tree.proofs.StageLaws.{rest, grown, full-is, IsCut, top_cut, grows_low, grows_high, grows_leaf, grows_self, grows_cut, grows_on, graft_grows, half_box}
use Rattle.pv_board.specs.Rules.{IsFitting}

-- a box in a tree is a box in what the tree grows to
pub grows_box : (b : List Bounds) (t f : Tree) (p : List Bool) → Grows t f → IsSome (subtree t p) → box_of b t p ≡ box_of b f p
grows_box b t f [] h s = refl
grows_box b (cut to v a l r) f (false ∷ p) h s =
    let c : IsCut f to v a = top_cut f to v a (h [] (Cut to v a) refl) in
    let g : Grows (cut to v a l r) (cut to v a c.low c.high) = subst (Grows (cut to v a l r)) c.is h in
    grows_box (lower_half to v a) l c.low p (grows_low to to v v a a l r c.low c.high g) s ∙ ap (λ (z : Tree). box_of b z (false ∷ p)) (sym c.is)
grows_box b (cut to v a l r) f (true ∷ p) h s =
    let c : IsCut f to v a = top_cut f to v a (h [] (Cut to v a) refl) in
    let g : Grows (cut to v a l r) (cut to v a c.low c.high) = subst (Grows (cut to v a l r)) c.is h in
    grows_box (upper_half to v a) r c.high p (grows_high to to v v a a l r c.low c.high g) s ∙ ap (λ (z : Tree). box_of b z (true ∷ p)) (sym c.is)
grows_box b leaf f (c ∷ p) h s = cc
grows_box b removed f (c ∷ p) h s = cc
grows_box b (inner to) f (c ∷ p) h s = cc
grows_box b (small to) f (c ∷ p) h s = cc

-- and a path of it is a path there
pub grows_there : (t f : Tree) (p : List Bool) → Grows t f → IsSome (subtree t p) → IsSome (subtree f p)
grows_there t f [] h s = refl
grows_there (cut to v a l r) f (false ∷ p) h s =
    let c : IsCut f to v a = top_cut f to v a (h [] (Cut to v a) refl) in
    let g : Grows (cut to v a l r) (cut to v a c.low c.high) = subst (Grows (cut to v a l r)) c.is h in
    subst (λ (z : Tree). IsSome (subtree z (false ∷ p))) (sym c.is) (grows_there l c.low p (grows_low to to v v a a l r c.low c.high g) s)
grows_there (cut to v a l r) f (true ∷ p) h s =
    let c : IsCut f to v a = top_cut f to v a (h [] (Cut to v a) refl) in
    let g : Grows (cut to v a l r) (cut to v a c.low c.high) = subst (Grows (cut to v a l r)) c.is h in
    subst (λ (z : Tree). IsSome (subtree z (true ∷ p))) (sym c.is) (grows_there r c.high p (grows_high to to v v a a l r c.low c.high g) s)
grows_there leaf f (c ∷ p) h s = cc
grows_there removed f (c ∷ p) h s = cc
grows_there (inner to) f (c ∷ p) h s = cc
grows_there (small to) f (c ∷ p) h s = cc

-- a leaf of a tree that grew becomes what stands there in the grown tree, or part of it
pub graft_in : (t f : Tree) (p : List Bool) (s g : Tree) → subtree t p ≡ Some leaf → Grows t f → subtree f p ≡ Some g → Grows s g → Grows (graft t p s) f
graft_in leaf f [] s g e h k m = let w : f ≡ g = cc in subst (Grows s) (sym w) m
graft_in removed f [] s g e h k m = cc
graft_in (inner to) f [] s g e h k m = cc
graft_in (small to) f [] s g e h k m = cc
graft_in (cut to v a l r) f [] s g e h k m = cc
graft_in (cut to v a l r) f (false ∷ p) s g e h k m =
    let c : IsCut f to v a = top_cut f to v a (h [] (Cut to v a) refl) in
    let n : Grows (cut to v a l r) (cut to v a c.low c.high) = subst (Grows (cut to v a l r)) c.is h in
    let there : subtree c.low p ≡ Some g = ap (λ (z : Tree). subtree z (false ∷ p)) (sym c.is) ∙ k in
    subst (Grows (cut to v a (graft l p s) r)) (sym c.is)
    (grows_cut to v a (graft l p s) r c.low c.high (graft_in l c.low p s g e (grows_low to to v v a a l r c.low c.high n) there m) (grows_high to to v v a a l r c.low c.high n))
graft_in (cut to v a l r) f (true ∷ p) s g e h k m =
    let c : IsCut f to v a = top_cut f to v a (h [] (Cut to v a) refl) in
    let n : Grows (cut to v a l r) (cut to v a c.low c.high) = subst (Grows (cut to v a l r)) c.is h in
    let there : subtree c.high p ≡ Some g = ap (λ (z : Tree). subtree z (true ∷ p)) (sym c.is) ∙ k in
    subst (Grows (cut to v a l (graft r p s))) (sym c.is)
    (grows_cut to v a l (graft r p s) c.low c.high (grows_low to to v v a a l r c.low c.high n) (graft_in r c.high p s g e (grows_high to to v v a a l r c.low c.high n) there m))
graft_in leaf f (b ∷ p) s g e h k m = cc
graft_in removed f (b ∷ p) s g e h k m = cc
graft_in (inner to) f (b ∷ p) s g e h k m = cc
graft_in (small to) f (b ∷ p) s g e h k m = cc

-- a tree is no higher than what it grows to
pub grows_height : (s t : Tree) → Grows s t → height s ≤ height t
grows_height leaf t h = omega arith
grows_height removed t h = omega arith
grows_height (inner to) t h = omega arith
grows_height (small to) t h = omega arith
grows_height (cut to v a l r) t h =
    let c : IsCut t to v a = top_cut t to v a (h [] (Cut to v a) refl) in
    let g : Grows (cut to v a l r) (cut to v a c.low c.high) = subst (Grows (cut to v a l r)) c.is h in
    let low = grows_height l c.low (grows_low to to v v a a l r c.low c.high g) in
    let high = grows_height r c.high (grows_high to to v v a a l r c.low c.high g) in
    let e = ap height c.is in omega (arith, low, high, e)

module _ (rule : Rule) (depth dims : ℕ) (laws : IsFitting rule depth dims) where
  grown_height : (d : ℕ) (b : List Bounds) (k : ℕ) → ((c : List Bounds) (k : ℕ) → IsBox c → length c ≡ dims → height (rest rule d c k) ≤ d - 1) → (o : Outcome) → length b ≡ dims → Fits b o → KeepsBox o → CutsAbove d o → height (grown rule d k o) ≤ d
  grown_height d b k ih Removed e f h c = omega arith
  grown_height d b k ih (Inner to) e f h c = omega arith
  grown_height d b k ih (Small to) e f h c = omega arith
  grown_height d b k ih (Cut to v a) e f h c =
      let size : length to ≡ dims = within_length to b f.0 ∙ e in
      let low = ih (lower_half to v a) (suc k) (half_box true to v a h f.1) (half_length true to v a ∙ size) in
      let high = ih (upper_half to v a) (suc k) (half_box false to v a h f.1) (half_length false to v a ∙ size) in
      omega (arith, low, high, c)

  -- the full tree has no longer path than cuts are allowed
  pub full_height : (d : ℕ) (b : List Bounds) (k : ℕ) → IsBox b → length b ≡ dims → height (full rule d b k) ≤ d
  full_height zero b k h e =
      let is = ap height (full-is rule zero b k (rule b zero k) refl) in
      let low = grown_height zero b k (λ c n i s. omega arith) (rule b zero k) e (laws.fits b zero k h e) (laws.keeps_box b zero k h e) (laws.ends b zero k h e) in
      omega (arith, is, low)
  full_height (suc d) b k h e =
      let is = ap height (full-is rule (suc d) b k (rule b (suc d) k) refl) in
      let low = grown_height (suc d) b k (λ c n i s. let z : height (full rule d c n) ≤ d = full_height d c n i s in omega (arith, z)) (rule b (suc d) k) e (laws.fits b (suc d) k h e) (laws.keeps_box b (suc d) k h e) (laws.ends b (suc d) k h e) in
      omega (arith, is, low)

  -- the full tree of an open leaf, one level down
  leaf_cut : (b : List Bounds) (k : ℕ) (to : List Bounds) (v : ℕ) (a : Extended) → IsBox b → length b ≡ dims → rule b (depth - k) k ≡ Cut to v a
      → full_of rule depth b leaf k ≡ cut to v a (full_of rule depth (lower_half to v a) leaf (suc k)) (full_of rule depth (upper_half to v a) leaf (suc k))
  unfolding full_of
  leaf_cut b k to v a h e r =
      let some : 0 < depth - k = subst (CutsAbove (depth - k)) r (laws.ends b (depth - k) k h e) in
      let less : depth - k ≡ suc (depth - suc k) = omega arith in
      full-is rule (depth - k) b k (Cut to v a) r ∙ (λ i. cut to v a (rest rule (less i) (lower_half to v a) (suc k)) (rest rule (less i) (upper_half to v a) (suc k)))

  top_grown : (d : ℕ) (k : ℕ) (o : Outcome) → top (grown rule d k o) ≡ Some o
  top_grown d k Removed = refl
  top_grown d k (Inner to) = refl
  top_grown d k (Small to) = refl
  top_grown d k (Cut to v a) = refl

  pub top_leaf : (b : List Bounds) (k : ℕ) → top (full_of rule depth b leaf k) ≡ Some (rule b (depth - k) k)
  unfolding full_of
  top_leaf b k = ap top (full-is rule (depth - k) b k (rule b (depth - k) k) refl) ∙ top_grown (depth - k) k (rule b (depth - k) k)

  full_of_cut : (b to : List Bounds) (v : ℕ) (a : Extended) (l r : Tree) (k : ℕ) → full_of rule depth b (cut to v a l r) k ≡ cut to v a (full_of rule depth (lower_half to v a) l (suc k)) (full_of rule depth (upper_half to v a) r (suc k))
  unfolding full_of
  full_of_cut b to v a l r k = refl

  -- below an open leaf of a stage the full tree of an opening is the full tree of the leaf
  abbrev FullAt : List Bool → Tree → Tree → List Bounds → ℕ → ℕ → Type 0
  FullAt p opening t b k n =
      IsBox b → length b ≡ dims → Paves b opening → Grows opening t → Grows t (full_of rule depth b opening k) → subtree t p ≡ Some leaf → n ≡ length p + k
      → subtree (full_of rule depth b opening k) p ≡ Some (full_of rule depth (box_of b t p) leaf n)

  full_at_root : (opening : Tree) (b : List Bounds) (k n : ℕ) → FullAt [] opening leaf b k n
  full_at_root leaf b k n h e q g f l m = let w : k ≡ n = omega (arith, m) in ap (λ (i : ℕ). Some (full_of rule depth b leaf i)) w
  full_at_root removed b k n h e q g f l m = let w : None ≡ Some Removed = g [] Removed refl in cc
  full_at_root (inner to) b k n h e q g f l m = let w : None ≡ Some (Inner to) = g [] (Inner to) refl in cc
  full_at_root (small to) b k n h e q g f l m = let w : None ≡ Some (Small to) = g [] (Small to) refl in cc
  full_at_root (cut to v a x y) b k n h e q g f l m = let w : None ≡ Some (Cut to v a) = g [] (Cut to v a) refl in cc

  full_at_cut : (s : Bool) (p : List Bool) → ((opening t : Tree) (b : List Bounds) (k n : ℕ) → FullAt p opening t b k n) → (to : List Bounds) (v : ℕ) (a : Extended) (x y l r : Tree) (b : List Bounds) (k n : ℕ)
      → FullAt (s ∷ p) (cut to v a x y) (cut to v a l r) b k n
  full_at_cut false p ih to v a x y l r b k n h e q g f u m =
      let f' : Grows (cut to v a l r) (cut to v a (full_of rule depth (lower_half to v a) x (suc k)) (full_of rule depth (upper_half to v a) y (suc k))) = subst (Grows (cut to v a l r)) (full_of_cut b to v a x y k) f in
      let size : length to ≡ dims = within_length to b q.1 ∙ e in
      ap (λ (z : Tree). subtree z (false ∷ p)) (full_of_cut b to v a x y k)
      ∙ ih x l (lower_half to v a) (suc k) n (half_box true to v a q.0 q.2) (half_length true to v a ∙ size) q.3 (grows_low to to v v a a x y l r g)
      (grows_low to to v v a a l r (full_of rule depth (lower_half to v a) x (suc k)) (full_of rule depth (upper_half to v a) y (suc k)) f') u (omega (arith, m))
  full_at_cut true p ih to v a x y l r b k n h e q g f u m =
      let f' : Grows (cut to v a l r) (cut to v a (full_of rule depth (lower_half to v a) x (suc k)) (full_of rule depth (upper_half to v a) y (suc k))) = subst (Grows (cut to v a l r)) (full_of_cut b to v a x y k) f in
      let size : length to ≡ dims = within_length to b q.1 ∙ e in
      ap (λ (z : Tree). subtree z (true ∷ p)) (full_of_cut b to v a x y k)
      ∙ ih y r (upper_half to v a) (suc k) n (half_box false to v a q.0 q.2) (half_length false to v a ∙ size) q.4 (grows_high to to v v a a x y l r g)
      (grows_high to to v v a a l r (full_of rule depth (lower_half to v a) x (suc k)) (full_of rule depth (upper_half to v a) y (suc k)) f') u (omega (arith, m))

  full_at_leaf : (s : Bool) (p : List Bool) → ((opening t : Tree) (b : List Bounds) (k n : ℕ) → FullAt p opening t b k n) → (to : List Bounds) (v : ℕ) (a : Extended) (l r : Tree) (b : List Bounds) (k n : ℕ) → FullAt (s ∷ p) leaf (cut to v a l r) b k n
  full_at_leaf s p ih to v a l r b k n h e q g f u m =
      let is : Some (rule b (depth - k) k) ≡ Some (Cut to v a) = sym (top_leaf b k) ∙ f [] (Cut to v a) refl in
      let is_cut : rule b (depth - k) k ≡ Cut to v a = cc in
      let same : full_of rule depth b leaf k ≡ full_of rule depth b (cut to v a leaf leaf) k = leaf_cut b k to v a h e is_cut ∙ sym (full_of_cut b to v a leaf leaf k) in
      let fits : Fits b (Cut to v a) = subst (Fits b) is_cut (laws.fits b (depth - k) k h e) in
      let keeps : KeepsBox (Cut to v a) = subst KeepsBox is_cut (laws.keeps_box b (depth - k) k h e) in
      ap (λ (z : Tree). subtree z (s ∷ p)) same
      ∙ full_at_cut s p ih to v a leaf leaf l r b k n h e (keeps, fits.0, fits.1, tt, tt) (grows_cut to v a leaf leaf l r (grows_leaf l) (grows_leaf r)) (subst (Grows (cut to v a l r)) same f) u m

  full_at_any : (s : Bool) (p : List Bool) → ((opening t : Tree) (b : List Bounds) (k n : ℕ) → FullAt p opening t b k n) → (opening : Tree) (to : List Bounds) (v : ℕ) (a : Extended) (l r : Tree) (b : List Bounds) (k n : ℕ) → FullAt (s ∷ p) opening (cut to v a l r) b k n
  full_at_any s p ih leaf to v a l r b k n h e q g f u m = full_at_leaf s p ih to v a l r b k n h e q g f u m
  full_at_any s p ih removed to v a l r b k n h e q g f u m = let w : Some (Cut to v a) ≡ Some Removed = g [] Removed refl in cc
  full_at_any s p ih (inner x) to v a l r b k n h e q g f u m = let w : Some (Cut to v a) ≡ Some (Inner x) = g [] (Inner x) refl in cc
  full_at_any s p ih (small x) to v a l r b k n h e q g f u m = let w : Some (Cut to v a) ≡ Some (Small x) = g [] (Small x) refl in cc
  full_at_any s p ih (cut to' v' a' x y) to v a l r b k n h e q g f u m =
      let w : Some (Cut to v a) ≡ Some (Cut to' v' a') = g [] (Cut to' v' a') refl in
      let i : to ≡ to' = cc in let j : v ≡ v' = cc in let o : a ≡ a' = cc in
      let same : cut to v a x y ≡ cut to' v' a' x y = λ z. cut (i z) (j z) (o z) x y in
      subst (λ (z : Tree). FullAt (s ∷ p) z (cut to v a l r) b k n) same (full_at_cut s p ih to v a x y l r b k n) h e q g f u m

  pub full_at : (p : List Bool) (opening t : Tree) (b : List Bounds) (k n : ℕ) → FullAt p opening t b k n
  full_at [] opening leaf b k n h e q g f l m = full_at_root opening b k n h e q g f l m
  full_at [] opening removed b k n h e q g f l m = cc
  full_at [] opening (inner to) b k n h e q g f l m = cc
  full_at [] opening (small to) b k n h e q g f l m = cc
  full_at [] opening (cut to v a x y) b k n h e q g f l m = cc
  full_at (s ∷ p) opening (cut to v a x y) b k n h e q g f l m = full_at_any s p (full_at p) opening to v a x y b k n h e q g f l m
  full_at (s ∷ p) opening leaf b k n h e q g f l m = cc
  full_at (s ∷ p) opening removed b k n h e q g f l m = cc
  full_at (s ∷ p) opening (inner to) b k n h e q g f l m = cc
  full_at (s ∷ p) opening (small to) b k n h e q g f l m = cc

  -- a stage that is grafted at an open leaf of a stage leads to a stage
  pub graft_stage : (opening t : Tree) (b : List Bounds) (p : List Bool) (s : Tree) → IsBox b → length b ≡ dims → Paves b opening → IsStage rule depth b opening t → subtree t p ≡ Some leaf
      → Grows s (full_of rule depth (box_of b t p) leaf (length p)) → IsStage rule depth b opening (graft t p s)
  graft_stage opening t b p s h e q stage l m = record {
    grown = grows_on opening t (graft t p s) stage.grown (graft_grows t p s l);
    grows = graft_in t (full_of rule depth b opening 0) p s (full_of rule depth (box_of b t p) leaf (length p)) l stage.grows
        (full_at p opening t b 0 (length p) h e q stage.grown stage.grows l (omega arith)) m;
  }

  -- and has no path that is too long
  pub stage_height : (b : List Bounds) (s : Tree) (k : ℕ) → IsBox b → length b ≡ dims → k ≤ 200 → Grows s (full_of rule depth b leaf k) → k + height s ≤ 200
  unfolding full_of
  stage_height b s k h e l m =
      let low = grows_height s (full rule (depth - k) b k) m in
      let high = full_height (depth - k) b k h e in
      let few = laws.few in
      omega (arith, low, high, few, l)

-- an opening grows to its full tree
pub full_grows : (rule : Rule) (depth : ℕ) (b : List Bounds) (t : Tree) (k : ℕ) → Grows t (full_of rule depth b t k)
unfolding full_of
full_grows rule depth b leaf k = grows_leaf (full rule (depth - k) b k)
full_grows rule depth b removed k = grows_self removed
full_grows rule depth b (inner to) k = grows_self (inner to)
full_grows rule depth b (small to) k = grows_self (small to)
full_grows rule depth b (cut to v a l r) k =
    grows_cut to v a l r (full_of rule depth (lower_half to v a) l (suc k)) (full_of rule depth (upper_half to v a) r (suc k)) (full_grows rule depth (lower_half to v a) l (suc k)) (full_grows rule depth (upper_half to v a) r (suc k))
