-- The tree and the paths of an arena that took in another in the place of an open node.
use Rattle.std.proofs.Common.{◌≡◌, inl, inr, ℕ, zero, suc, ◌+◌, ◌<◌, ◌≤◌, Bool, true, false, Option, Some, None, List, [], ◌∷◌, ◌++◌, length, take, drop, refl, sym, ◌∙◌, ap, arith, subst, length-append}
use Rattle.std.proofs.Math.Seq.{drop-append-add}
use Rattle.pv_interval.specs.Bounds.{Bounds}
use Rattle.pv_tree.specs.Trees.{Tree, leaf, removed, inner, small, cut, subtree, height}
use Rattle.pv_tree.specs.Arena.{tree_at, reach, side, cell_at, closed_at, kept, kids_of, start_of, IsLinked, IsClosed}
use Rattle.pv_tree.specs.Intakes.{moved_cell, IsTakenIn}
use Rattle.pv_tree.specs.declared.cell.Cell.{Cell}
use Rattle.pv_tree.specs.declared.cell.Cell.TheVariants.{Open, Removed, Inner, Small, Cut}
use Rattle.pv_tree.specs.declared.cell.Node.{Node}
use Rattle.pv_tree.proofs.Cells.{lt_or, reach-kids}
use Rattle.pv_tree.proofs.ArenaFacts.{shown, tree_at-is, tree_at-zero}

-- a tree that is not high is the same however far it is read
abbrev pub deeper : ℕ → ℕ → ℕ
deeper zero h = h
deeper (suc g) h = suc (deeper g h)

pub deeper-is : (g h : ℕ) → deeper g h ≡ g + h
deeper-is zero h = omega arith
deeper-is (suc g) h = omega (arith, deeper-is g h)

module _ (d : ℕ) (es : List Bounds) (ns : List Node) (h : ℕ) where
  abbrev Enough : ℕ → Type 0
  Enough g = (k : ℕ) → height (tree_at d es ns (suc (deeper g h)) k) ≤ g → tree_at d es ns (suc g) k ≡ tree_at d es ns (suc (deeper g h)) k

  enough_none : (x : Cell) → height (shown d es ns h x) ≤ 0 → shown d es ns 0 x ≡ shown d es ns h x
  enough_none Open le = refl
  enough_none Removed le = refl
  enough_none (Inner s) le = refl
  enough_none (Small s) le = refl
  enough_none (Cut s v a c) le = absurd (omega arith)

  enough_more : (g : ℕ) → Enough g → (x : Cell) → height (shown d es ns (suc (deeper g h)) x) ≤ suc g → shown d es ns (suc g) x ≡ shown d es ns (suc (deeper g h)) x
  enough_more g ih Open le = refl
  enough_more g ih Removed le = refl
  enough_more g ih (Inner s) le = refl
  enough_more g ih (Small s) le = refl
  enough_more g ih (Cut s v a c) le =
      let low : height (tree_at d es ns (suc (deeper g h)) c) ≤ g = omega arith in
      let high : height (tree_at d es ns (suc (deeper g h)) (c + 1)) ≤ g = omega arith in
      λ i. cut (kept d es s) v a (ih c low i) (ih (c + 1) high i)

  pub enough : (g : ℕ) → Enough g
  enough zero k le =
      tree_at-is d es ns 0 k (cell_at ns k) refl
      ∙ enough_none (cell_at ns k) (subst (λ (t : Tree). height t ≤ 0) (tree_at-is d es ns h k (cell_at ns k) refl) le)
      ∙ sym (tree_at-is d es ns h k (cell_at ns k) refl)
  enough (suc g) k le =
      tree_at-is d es ns (suc g) k (cell_at ns k) refl
      ∙ enough_more g (enough g) (cell_at ns k) (subst (λ (t : Tree). height t ≤ suc g) (tree_at-is d es ns (suc (deeper g h)) k (cell_at ns k) refl) le)
      ∙ sym (tree_at-is d es ns (suc (deeper g h)) k (cell_at ns k) refl)

-- the children and the ends of a moved cell
pub record MovedKids (n : ℕ) (x : Cell) (c : ℕ) : Type 0 where
  pub from : ℕ
  pub is : kids_of x ≡ Some from
  pub to : c ≡ from + n

pub moved_kids : (n e : ℕ) (x : Cell) (c : ℕ) → kids_of (moved_cell n e x) ≡ Some c → MovedKids n x c
moved_kids n e Open c h = cc
moved_kids n e Removed c h = cc
moved_kids n e (Inner s) c h = cc
moved_kids n e (Small s) c h = cc
moved_kids n e (Cut s v a i) c h = record { from = i; is = refl; to = let w : i + n ≡ c = cc in sym w }

pub kids_moved : (n e : ℕ) (x : Cell) (o : Option ℕ) (c : ℕ) → kids_of x ≡ Some c → kids_of (moved_cell n e x) ≡ Some (c + n)
kids_moved n e Open o c h = cc
kids_moved n e Removed o c h = cc
kids_moved n e (Inner s) o c h = cc
kids_moved n e (Small s) o c h = cc
kids_moved n e (Cut s v a i) o c h = let w : i ≡ c = cc in ap (λ (m : ℕ). Some (m + n)) w

pub record MovedStart (e : ℕ) (x : Cell) (s : ℕ) : Type 0 where
  pub from : ℕ
  pub is : start_of x ≡ Some from
  pub to : s ≡ from + e

pub moved_start : (n e : ℕ) (x : Cell) (s : ℕ) → start_of (moved_cell n e x) ≡ Some s → MovedStart e x s
moved_start n e Open s h = cc
moved_start n e Removed s h = cc
moved_start n e (Inner i) s h = record { from = i; is = refl; to = let w : i + e ≡ s = cc in sym w }
moved_start n e (Small i) s h = record { from = i; is = refl; to = let w : i + e ≡ s = cc in sym w }
moved_start n e (Cut i v a c) s h = record { from = i; is = refl; to = let w : i + e ≡ s = cc in sym w }

side_moved : (b : Bool) (c n : ℕ) → side b (c + n) ≡ side b c + n
side_moved false c n = refl
side_moved true c n = omega arith

side_later : (b : Bool) (c : ℕ) → 0 < c → 0 < side b c
side_later false c h = h
side_later true c h = omega arith

module _ (d : ℕ) (es part : List Bounds) (ns ms more : List Node) (j n : ℕ) (inside : ℕ → List Bool) (inner_linked : IsLinked d part more inside) (taken : IsTakenIn ns ms more j n (length es)) where
  kept_moved : (s : ℕ) → kept d (es ++ part) (s + length es) ≡ kept d part s
  kept_moved s =
      let e : s + length es ≡ length es + s = omega arith in
      ap (λ (m : ℕ). take d (drop m (es ++ part))) e ∙ ap (take d) (drop-append-add es part s)

  pub cell_new : (k : ℕ) → 0 < k → cell_at ms (k + n) ≡ moved_cell n (length es) (cell_at more k)
  cell_new k h = ap (λ (x : Node). x.cell) (taken.new k h)

  pub cell_here : cell_at ms j ≡ moved_cell n (length es) (cell_at more 0)
  cell_here = ap (λ (x : Node). x.cell) taken.here

  -- no child is the root
  pub kid_later : (k c : ℕ) → kids_of (cell_at more k) ≡ Some c → 0 < c
  kid_later k c e = elim (lt_or 0 c) [
    | inl h ↦ h
    | inr h ↦ let z : c ≡ 0 = omega arith in
        let w : [] ≡ inside k ++ false ∷ [] = sym inner_linked.root ∙ ap inside (sym z) ∙ (inner_linked.kids k c e).low in
        let l : 0 ≡ length (inside k) + length (false ∷ []) = ap length w ∙ length-append (inside k) (false ∷ []) in absurd (omega arith)
  ]

  abbrev Moves : ℕ → Type 0
  Moves f = (k : ℕ) → 0 < k → tree_at d (es ++ part) ms f (k + n) ≡ tree_at d part more f k

  shown_moved : (f : ℕ) → Moves f → (k : ℕ) (x : Cell) → cell_at more k ≡ x → shown d (es ++ part) ms f (moved_cell n (length es) x) ≡ shown d part more f x
  shown_moved f ih k Open e = refl
  shown_moved f ih k Removed e = refl
  shown_moved f ih k (Inner s) e = ap inner (kept_moved s)
  shown_moved f ih k (Small s) e = ap small (kept_moved s)
  shown_moved f ih k (Cut s v a c) e =
      let later : 0 < c = kid_later k c (ap kids_of e) in
      let high_later : 0 < c + 1 = omega arith in
      let at : (c + n) + 1 ≡ (c + 1) + n = omega arith in
      let high : tree_at d (es ++ part) ms f ((c + n) + 1) ≡ tree_at d part more f (c + 1) = ap (tree_at d (es ++ part) ms f) at ∙ ih (c + 1) high_later in
      λ i. cut (kept_moved s i) v a (ih c later i) (high i)

  tree_moved : (f : ℕ) → Moves f
  tree_moved zero k h = tree_at-zero d (es ++ part) ms (k + n) ∙ sym (tree_at-zero d part more k)
  tree_moved (suc f) k h =
      tree_at-is d (es ++ part) ms f (k + n) (moved_cell n (length es) (cell_at more k)) (cell_new k h)
      ∙ shown_moved f (tree_moved f) k (cell_at more k) refl
      ∙ sym (tree_at-is d part more f k (cell_at more k) refl)

  -- the other's tree stands in the open node's place
  pub tree_taken : (f : ℕ) → tree_at d (es ++ part) ms (suc f) j ≡ tree_at d part more (suc f) 0
  tree_taken f =
      tree_at-is d (es ++ part) ms f j (moved_cell n (length es) (cell_at more 0)) cell_here
      ∙ shown_moved f (tree_moved f) 0 (cell_at more 0) refl
      ∙ sym (tree_at-is d part more f 0 (cell_at more 0) refl)

  -- the other's paths lead on from there
  abbrev LeadsOn : List Bool → Type 0
  LeadsOn q = (b : Bool) (k m i : ℕ) → cell_at ms m ≡ moved_cell n (length es) (cell_at more k) → reach more k (b ∷ q) ≡ Some i → reach ms m (b ∷ q) ≡ Some (i + n)

  leads_kids : (q : List Bool) → ((k i : ℕ) → 0 < k → reach more k q ≡ Some i → reach ms (k + n) q ≡ Some (i + n)) → (b : Bool) (k m i : ℕ) → cell_at ms m ≡ moved_cell n (length es) (cell_at more k) → (o : Option ℕ) → kids_of (cell_at more k) ≡ o → reach more k (b ∷ q) ≡ Some i → reach ms m (b ∷ q) ≡ Some (i + n)
  leads_kids q ih b k m i e None h r = let w : None ≡ Some i = sym (reach-kids more b q k None h) ∙ r in cc
  leads_kids q ih b k m i e (Some c) h r =
      reach-kids ms b q m (Some (c + n)) (ap kids_of e ∙ kids_moved n (length es) (cell_at more k) None c h)
      ∙ ap (λ (x : ℕ). reach ms x q) (side_moved b c n)
      ∙ ih (side b c) i (side_later b c (kid_later k c h)) (sym (reach-kids more b q k (Some c) h) ∙ r)

  leads_later : (q : List Bool) (k i : ℕ) → 0 < k → reach more k q ≡ Some i → reach ms (k + n) q ≡ Some (i + n)
  leads_later [] k i h r = let w : k ≡ i = cc in ap (λ (x : ℕ). Some (x + n)) w
  leads_later (b ∷ q) k i h r = leads_kids q (leads_later q) b k (k + n) i (cell_new k h) (kids_of (cell_at more k)) refl r

  pub leads_in : (q : List Bool) (i : ℕ) → 0 < i → reach more 0 q ≡ Some i → reach ms j q ≡ Some (i + n)
  leads_in [] i h r = let w : 0 ≡ i = cc in absurd (omega arith)
  leads_in (b ∷ q) i h r = leads_kids q (leads_later q) b 0 j i cell_here (kids_of (cell_at more 0)) refl r

  -- the marks hold on
  closed_moved : (k : ℕ) (x : Cell) → cell_at more k ≡ x → IsClosed more x → IsClosed ms (moved_cell n (length es) x)
  closed_moved k Open e h = h
  closed_moved k Removed e h = tt
  closed_moved k (Inner s) e h = tt
  closed_moved k (Small s) e h = tt
  closed_moved k (Cut s v a c) e h =
      let later : 0 < c = kid_later k c (ap kids_of e) in
      let high_later : 0 < c + 1 = omega arith in
      let at : (c + n) + 1 ≡ (c + 1) + n = omega arith in
      (ap (λ (x : Node). x.closed) (taken.new c later) ∙ h.0, ap (closed_at ms) at ∙ ap (λ (x : Node). x.closed) (taken.new (c + 1) high_later) ∙ h.1)

  pub closed_in : (k m : ℕ) → cell_at ms m ≡ moved_cell n (length es) (cell_at more k) → closed_at more k ≡ true → IsClosed ms (cell_at ms m)
  closed_in k m e h = subst (IsClosed ms) (sym e) (closed_moved k (cell_at more k) refl (inner_linked.closed k h))

-- a node with children stands higher than the tree ends
pub cut_deep : (t : Tree) (q : List Bool) (s : Tree) → subtree t q ≡ Some s → 0 < height s → length q < height t
cut_deep t [] s e h = let w : t ≡ s = cc in subst (λ (u : Tree). 0 < height u) (sym w) h
cut_deep (cut to v a l r) (false ∷ q) s e h = let i : length q < height l = cut_deep l q s e h in omega arith
cut_deep (cut to v a l r) (true ∷ q) s e h = let i : length q < height r = cut_deep r q s e h in omega arith
cut_deep leaf (b ∷ q) s e h = cc
cut_deep removed (b ∷ q) s e h = cc
cut_deep (inner to) (b ∷ q) s e h = cc
cut_deep (small to) (b ∷ q) s e h = cc

pub tall : (d : ℕ) (es : List Bounds) (ns : List Node) (f : ℕ) (x : Cell) (c : ℕ) → kids_of x ≡ Some c → 0 < height (shown d es ns f x)
tall d es ns f Open c h = cc
tall d es ns f Removed c h = cc
tall d es ns f (Inner s) c h = cc
tall d es ns f (Small s) c h = cc
tall d es ns f (Cut s v a i) c h = omega arith
