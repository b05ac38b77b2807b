-- An opening is a stage of itself, and what is a stage of a stage of it is a stage of it.
use Rattle.std.proofs.Common.{◌≡◌, ℕ, suc, ◌-◌, true, false, Some, None, List, [], length, refl, sym, ◌∙◌, subst}
use Rattle.pv_num.specs.Extended.{Extended}
use Rattle.pv_interval.specs.Bounds.{Bounds}
use Rattle.pv_interval.specs.Points.{Point}
use Rattle.pv_box.specs.Boxes.{IsBox, lower_half, upper_half}
use Rattle.pv_tree.specs.Trees.{Tree, leaf, removed, inner, small, cut, Paves, Fits, KeepsBox}
use Rattle.pv_tree.specs.Stages.{Rule, full_of, Grows, IsStage}
use Rattle.pv_tree.specs.Laws.{IsLawful}
use Rattle.pv_tree.specs.declared.outcome.Outcome.TheVariants.{Removed, Inner, Small, Cut}
use Rattle.pv_tree.proofs.Wholes.{half_length, within_length}
use Rattle.pv_tree.proofs.StageLaws.{top_removed, top_inner, top_small, grows_self, grows_low, grows_high, grows_leaf, grows_cut, grows_on, half_box, leaf_cut, top_leaf, full_of_cut}

-- an opening grows to its full tree
pub grows_full : (rule : Rule) (depth : ℕ) (b : List Bounds) (t : Tree) (k : ℕ) → Grows t (full_of rule depth b t k)
unfolding full_of
grows_full rule depth b leaf k = grows_leaf (full_of rule depth b leaf k)
grows_full rule depth b removed k = grows_self removed
grows_full rule depth b (inner to) k = grows_self (inner to)
grows_full rule depth b (small to) k = grows_self (small to)
grows_full rule depth b (cut to v a l r) k =
    grows_cut to v a l r (full_of rule depth (lower_half to v a) l (suc k)) (full_of rule depth (upper_half to v a) r (suc k))
    (grows_full rule depth (lower_half to v a) l (suc k)) (grows_full rule depth (upper_half to v a) r (suc k))

pub opening_is_stage : (rule : Rule) (depth : ℕ) (b : List Bounds) (t : Tree) → IsStage rule depth b t t
opening_is_stage rule depth b t = record { grown = grows_self t; grows = grows_full rule depth b t 0 }

module _ (rule : Rule) (depth dims : ℕ) (inside : Point → Type 0) (laws : IsLawful rule depth dims inside) where
  -- a stage has the full tree of its opening
  abbrev Same : Tree → Tree → List Bounds → ℕ → Type 0
  Same e t b k = IsBox b → length b ≡ dims → Paves b e → Grows e t → Grows t (full_of rule depth b e k) → full_of rule depth b t k ≡ full_of rule depth b e k

  same_removed : (b : List Bounds) (k : ℕ) → full_of rule depth b removed k ≡ removed
  unfolding full_of
  same_removed b k = refl

  same_inner : (b to : List Bounds) (k : ℕ) → full_of rule depth b (inner to) k ≡ inner to
  unfolding full_of
  same_inner b to k = refl

  same_small : (b to : List Bounds) (k : ℕ) → full_of rule depth b (small to) k ≡ small to
  unfolding full_of
  same_small b to k = refl

  same_cut : (to : List Bounds) (v : ℕ) (a : Extended) (x y l r : Tree) (b : List Bounds) (k : ℕ) → ((e : Tree) (b : List Bounds) (k : ℕ) → Same e l b k) → ((e : Tree) (b : List Bounds) (k : ℕ) → Same e r b k)
      → Same (cut to v a x y) (cut to v a l r) b k
  same_cut to v a x y l r b k low high h e p g f =
      let m = full_of rule depth (lower_half to v a) x (suc k) in let n = full_of rule depth (upper_half to v a) y (suc k) in
      let whole : full_of rule depth b (cut to v a x y) k ≡ cut to v a m n = full_of_cut rule depth dims inside laws b to v a x y k in
      let f' : Grows (cut to v a l r) (cut to v a m n) = subst (Grows (cut to v a l r)) whole f in
      let size : length to ≡ dims = within_length to b p.1 ∙ e in
      let one : full_of rule depth (lower_half to v a) l (suc k) ≡ m =
      low x (lower_half to v a) (suc k) (half_box true to v a p.0 p.2) (half_length true to v a ∙ size) p.3 (grows_low to to v v a a x y l r g) (grows_low to to v v a a l r m n f') in
      let two : full_of rule depth (upper_half to v a) r (suc k) ≡ n =
      high y (upper_half to v a) (suc k) (half_box false to v a p.0 p.2) (half_length false to v a ∙ size) p.4 (grows_high to to v v a a x y l r g) (grows_high to to v v a a l r m n f') in
      full_of_cut rule depth dims inside laws b to v a l r k ∙ (λ i. cut to v a (one i) (two i)) ∙ sym whole

  same_leaf : (to : List Bounds) (v : ℕ) (a : Extended) (l r : Tree) (b : List Bounds) (k : ℕ) → ((e : Tree) (b : List Bounds) (k : ℕ) → Same e l b k) → ((e : Tree) (b : List Bounds) (k : ℕ) → Same e r b k)
      → Same leaf (cut to v a l r) b k
  same_leaf to v a l r b k low high h e p g f =
      let is : Some (rule b (depth - k) k) ≡ Some (Cut to v a) = sym (top_leaf rule depth dims inside laws b k) ∙ f [] (Cut to v a) refl in
      let is_cut : rule b (depth - k) k ≡ Cut to v a = cc in
      let same : full_of rule depth b leaf k ≡ full_of rule depth b (cut to v a leaf leaf) k =
      leaf_cut rule depth dims inside laws b k to v a h e is_cut ∙ sym (full_of_cut rule depth dims inside laws b to v a leaf leaf k) in
      let fits : Fits b (Cut to v a) = subst (Fits b) is_cut (laws.fits b (depth - k) k h e) in
      let keeps : KeepsBox (Cut to v a) = subst KeepsBox is_cut (laws.keeps_box b (depth - k) k h e) in
      same_cut to v a leaf leaf l r b k low high h e (keeps, fits.0, fits.1, tt, tt) (grows_cut to v a leaf leaf l r (grows_leaf l) (grows_leaf r)) (subst (Grows (cut to v a l r)) same f) ∙ sym same

  same_any : (e : Tree) (to : List Bounds) (v : ℕ) (a : Extended) (l r : Tree) (b : List Bounds) (k : ℕ) → ((e : Tree) (b : List Bounds) (k : ℕ) → Same e l b k) → ((e : Tree) (b : List Bounds) (k : ℕ) → Same e r b k)
      → Same e (cut to v a l r) b k
  same_any leaf to v a l r b k low high h e p g f = same_leaf to v a l r b k low high h e p g f
  same_any removed to v a l r b k low high h e p g f = let w : Some (Cut to v a) ≡ Some Removed = g [] Removed refl in cc
  same_any (inner x) to v a l r b k low high h e p g f = let w : Some (Cut to v a) ≡ Some (Inner x) = g [] (Inner x) refl in cc
  same_any (small x) to v a l r b k low high h e p g f = let w : Some (Cut to v a) ≡ Some (Small x) = g [] (Small x) refl in cc
  same_any (cut to' v' a' x y) to v a l r b k low high h e p g f =
      let w : Some (Cut to v a) ≡ Some (Cut to' v' a') = g [] (Cut to' v' a') refl in
      let i : to ≡ to' = cc in let j : v ≡ v' = cc in let o : a ≡ a' = cc in
      let same : cut to v a x y ≡ cut to' v' a' x y = λ z. cut (i z) (j z) (o z) x y in
      subst (λ (z : Tree). Same z (cut to v a l r) b k) same (same_cut to v a x y l r b k low high) h e p g f

  same_at_leaf : (e : Tree) (b : List Bounds) (k : ℕ) → Same e leaf b k
  same_at_leaf leaf b k h e p g f = refl
  same_at_leaf removed b k h e p g f = let w : None ≡ Some Removed = g [] Removed refl in cc
  same_at_leaf (inner x) b k h e p g f = let w : None ≡ Some (Inner x) = g [] (Inner x) refl in cc
  same_at_leaf (small x) b k h e p g f = let w : None ≡ Some (Small x) = g [] (Small x) refl in cc
  same_at_leaf (cut to v a x y) b k h e p g f = let w : None ≡ Some (Cut to v a) = g [] (Cut to v a) refl in cc

  same_full : (t e : Tree) (b : List Bounds) (k : ℕ) → Same e t b k
  same_full leaf e b k h d p g f = same_at_leaf e b k h d p g f
  same_full removed e b k h d p g f = same_removed b k ∙ sym (top_removed (full_of rule depth b e k) (f [] Removed refl))
  same_full (inner to) e b k h d p g f = same_inner b to k ∙ sym (top_inner (full_of rule depth b e k) to (f [] (Inner to) refl))
  same_full (small to) e b k h d p g f = same_small b to k ∙ sym (top_small (full_of rule depth b e k) to (f [] (Small to) refl))
  same_full (cut to v a l r) e b k h d p g f = same_any e to v a l r b k (same_full l) (same_full r) h d p g f

  pub stage_on : (b : List Bounds) (earlier opening t : Tree) → IsBox b → length b ≡ dims → Paves b earlier → IsStage rule depth b earlier opening → IsStage rule depth b opening t → IsStage rule depth b earlier t
  stage_on b earlier opening t h e p s z = record {
    grown = grows_on earlier opening t s.grown z.grown;
    grows = subst (Grows t) (same_full opening earlier b 0 h e p s.grown s.grows) z.grows;
  }
