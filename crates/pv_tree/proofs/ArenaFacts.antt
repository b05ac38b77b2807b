-- What a change of one open node does to the tree of an arena.
use Rattle.std.proofs.Common.{◌≡◌, ◌≢◌, ℕ, zero, suc, ◌+◌, ◌<◌, ◌≤◌, Bool, true, false, Some, None, List, [], ◌∷◌, ◌++◌, length, refl, sym, ◌∙◌, ap, arith, append_assoc, length-append, append-nil}
use Rattle.std.proofs.lemmas.List.{append_cancel_left}
use Rattle.std.specs.Option.{option_map}
use Rattle.pv_interval.specs.Bounds.{Bounds}
use Rattle.pv_tree.specs.Trees.{Tree, leaf, removed, inner, small, cut, subtree, graft}
use Rattle.pv_tree.specs.Arena.{tree_at, reach, cell_at, kept, kids_of, start_of, side, Family, IsLinked}
use Rattle.pv_tree.specs.declared.cell.Cell.{Cell}
use Rattle.pv_tree.specs.declared.cell.Cell.TheVariants.{Open, Removed, Inner, Small, Cut}
use Rattle.pv_tree.specs.declared.cell.Node.{Node}
use Rattle.pv_tree.proofs.Cells.{has_kids_there, reach-is}

-- so many levels below a path
abbrev pub deep : List Bool → ℕ → ℕ
deep [] f = f
deep (b ∷ p) f = suc (deep p f)

pub deep-is : (p : List Bool) (f : ℕ) → deep p f ≡ length p + f
deep-is [] f = omega arith
deep-is (b ∷ p) f = omega (arith, deep-is p f)

-- the tree of a node by what the node holds
abbrev pub shown : ℕ → List Bounds → List Node → ℕ → Cell → Tree
shown d es ns f Open = leaf
shown d es ns f Removed = removed
shown d es ns f (Inner s) = inner (kept d es s)
shown d es ns f (Small s) = small (kept d es s)
shown d es ns f (Cut s v a c) = cut (kept d es s) v a (tree_at d es ns f c) (tree_at d es ns f (c + 1))

pub tree_at-is : (d : ℕ) (es : List Bounds) (ns : List Node) (f k : ℕ) (x : Cell) → cell_at ns k ≡ x → tree_at d es ns (suc f) k ≡ shown d es ns f x
unfolding tree_at
tree_at-is d es ns f k x e = ap (shown d es ns f) e

pub tree_at-zero : (d : ℕ) (es : List Bounds) (ns : List Node) (k : ℕ) → tree_at d es ns 0 k ≡ removed
unfolding tree_at
tree_at-zero d es ns k = refl

-- a path leads to a node whose tree is the subtree there
module _ (d : ℕ) (es : List Bounds) (ns : List Node) (f : ℕ) where
  abbrev Leads : List Bool → ℕ → Type 0
  Leads p k = subtree (tree_at d es ns (deep p (suc f)) k) p ≡ option_map (tree_at d es ns (suc f)) (reach ns k p)

  leads_cell : (b : Bool) (p : List Bool) → ((k : ℕ) → Leads p k) → (k : ℕ) (x : Cell) → cell_at ns k ≡ x → Leads (b ∷ p) k
  leads_cell b p ih k Open e = ap (λ (t : Tree). subtree t (b ∷ p)) (tree_at-is d es ns (deep p (suc f)) k Open e) ∙ sym (ap (option_map (tree_at d es ns (suc f))) (reach-is ns b p k Open e))
  leads_cell b p ih k Removed e = ap (λ (t : Tree). subtree t (b ∷ p)) (tree_at-is d es ns (deep p (suc f)) k Removed e) ∙ sym (ap (option_map (tree_at d es ns (suc f))) (reach-is ns b p k Removed e))
  leads_cell b p ih k (Inner s) e = ap (λ (t : Tree). subtree t (b ∷ p)) (tree_at-is d es ns (deep p (suc f)) k (Inner s) e) ∙ sym (ap (option_map (tree_at d es ns (suc f))) (reach-is ns b p k (Inner s) e))
  leads_cell b p ih k (Small s) e = ap (λ (t : Tree). subtree t (b ∷ p)) (tree_at-is d es ns (deep p (suc f)) k (Small s) e) ∙ sym (ap (option_map (tree_at d es ns (suc f))) (reach-is ns b p k (Small s) e))
  leads_cell false p ih k (Cut s v a c) e = ap (λ (t : Tree). subtree t (false ∷ p)) (tree_at-is d es ns (deep p (suc f)) k (Cut s v a c) e) ∙ ih c ∙ sym (ap (option_map (tree_at d es ns (suc f))) (reach-is ns false p k (Cut s v a c) e))
  leads_cell true p ih k (Cut s v a c) e = ap (λ (t : Tree). subtree t (true ∷ p)) (tree_at-is d es ns (deep p (suc f)) k (Cut s v a c) e) ∙ ih (c + 1) ∙ sym (ap (option_map (tree_at d es ns (suc f))) (reach-is ns true p k (Cut s v a c) e))

  pub subtree-reach : (p : List Bool) (k : ℕ) → Leads p k
  subtree-reach [] k = refl
  subtree-reach (b ∷ p) k = leads_cell b p (subtree-reach p) k (cell_at ns k) refl

pub child_label : (ns : List Node) (label : ℕ → List Bool) (k c : ℕ) (b : Bool) → Family ns label k c → label (side b c) ≡ label k ++ b ∷ []
child_label ns label k c false h = h.low
child_label ns label k c true h = h.high

past : (l m : List Bool) (b : Bool) (p : List Bool) → m ≡ l ++ b ∷ [] → m ++ p ≡ l ++ b ∷ p
past l m b p e = ap (λ (x : List Bool). x ++ p) e ∙ append_assoc l (b ∷ []) p

no_end : (l p : List Bool) (b : Bool) → l ≡ l ++ b ∷ p → ⊥
no_end l p b e = let h : length l ≡ length l + suc (length p) = ap length e ∙ length-append l (b ∷ p) in omega (arith, h)

module _ (d : ℕ) (es : List Bounds) (ns : List Node) (label : ℕ → List Bool) (linked : IsLinked d es ns label) where
  reach_label_cell : (b : Bool) (p : List Bool) → ((k j : ℕ) → reach ns k p ≡ Some j → label j ≡ label k ++ p) → (k j : ℕ) (x : Cell) → cell_at ns k ≡ x → reach ns k (b ∷ p) ≡ Some j → label j ≡ label k ++ b ∷ p
  reach_label_cell b p ih k j Open e r = let h : None ≡ Some j = sym (reach-is ns b p k Open e) ∙ r in cc
  reach_label_cell b p ih k j Removed e r = let h : None ≡ Some j = sym (reach-is ns b p k Removed e) ∙ r in cc
  reach_label_cell b p ih k j (Inner s) e r = let h : None ≡ Some j = sym (reach-is ns b p k (Inner s) e) ∙ r in cc
  reach_label_cell b p ih k j (Small s) e r = let h : None ≡ Some j = sym (reach-is ns b p k (Small s) e) ∙ r in cc
  reach_label_cell b p ih k j (Cut s v a c) e r =
      let h : reach ns (side b c) p ≡ Some j = sym (reach-is ns b p k (Cut s v a c) e) ∙ r in
      ih (side b c) j h ∙ past (label k) (label (side b c)) b p (child_label ns label k c b (linked.kids k c (ap kids_of e)))

  pub reach_label : (p : List Bool) (k j : ℕ) → reach ns k p ≡ Some j → label j ≡ label k ++ p
  reach_label [] k j r = let e : k ≡ j = cc in ap label (sym e) ∙ sym (append-nil (label k))
  reach_label (b ∷ p) k j r = reach_label_cell b p (reach_label p) k j (cell_at ns k) refl r

  module _ (fs : List Bounds) (ms : List Node) (j : ℕ) (same : (k : ℕ) → k < length ns → k ≢ j → cell_at ms k ≡ cell_at ns k) (stays : (s : ℕ) → s + d ≤ length es → kept d fs s ≡ kept d es s) where
    abbrev Far : ℕ → Type 0
    Far k = (q : List Bool) → label j ≡ label k ++ q → ⊥

    abbrev Stays : ℕ → ℕ → Type 0
    Stays f k = tree_at d fs ms f k ≡ tree_at d es ns f k

    not_here : (k : ℕ) → Far k → k ≢ j
    not_here k far e = far [] (ap label (sym e) ∙ sym (append-nil (label k)))

    far_child : (k c : ℕ) (b : Bool) → kids_of (cell_at ns k) ≡ Some c → Far k → Far (side b c)
    far_child k c b e far q h = far (b ∷ q) (h ∙ past (label k) (label (side b c)) b q (child_label ns label k c b (linked.kids k c e)))

    shown_same : (f k : ℕ) → Far k → ((k : ℕ) → k < length ns → Far k → Stays f k) → (x : Cell) → cell_at ns k ≡ x → shown d fs ms f x ≡ shown d es ns f x
    shown_same f k far ih Open e = refl
    shown_same f k far ih Removed e = refl
    shown_same f k far ih (Inner s) e = ap inner (stays s (linked.starts k s (ap start_of e)))
    shown_same f k far ih (Small s) e = ap small (stays s (linked.starts k s (ap start_of e)))
    shown_same f k far ih (Cut s v a c) e =
        let high : c + 1 < length ns = (linked.kids k c (ap kids_of e)).there in
        let low : c < length ns = omega arith in
        λ i. cut (stays s (linked.starts k s (ap start_of e)) i) v a (ih c low (far_child k c false (ap kids_of e) far) i) (ih (c + 1) high (far_child k c true (ap kids_of e) far) i)

    pub other : (f k : ℕ) → k < length ns → Far k → Stays f k
    other zero k there far = tree_at-zero d fs ms k ∙ sym (tree_at-zero d es ns k)
    other (suc f) k there far =
        tree_at-is d fs ms f k (cell_at ns k) (same k there (not_here k far)) ∙ shown_same f k far (other f) (cell_at ns k) refl
        ∙ sym (tree_at-is d es ns f k (cell_at ns k) refl)

    abbrev Grafted : ℕ → List Bool → ℕ → Type 0
    Grafted f p k = tree_at d fs ms (deep p f) k ≡ graft (tree_at d es ns (deep p f) k) p (tree_at d fs ms f j)

    grafted_cell : (f : ℕ) (b : Bool) (p : List Bool) → ((k : ℕ) → reach ns k p ≡ Some j → Grafted f p k) → (k : ℕ) (x : Cell) → cell_at ns k ≡ x → reach ns k (b ∷ p) ≡ Some j → Grafted f (b ∷ p) k
    grafted_cell f b p ih k Open e r = let h : None ≡ Some j = sym (reach-is ns b p k Open e) ∙ r in cc
    grafted_cell f b p ih k Removed e r = let h : None ≡ Some j = sym (reach-is ns b p k Removed e) ∙ r in cc
    grafted_cell f b p ih k (Inner s) e r = let h : None ≡ Some j = sym (reach-is ns b p k (Inner s) e) ∙ r in cc
    grafted_cell f b p ih k (Small s) e r = let h : None ≡ Some j = sym (reach-is ns b p k (Small s) e) ∙ r in cc
    grafted_cell f false p ih k (Cut s v a c) e r =
        let l : label j ≡ label k ++ false ∷ p = reach_label (false ∷ p) k j r in
        let ne : k ≢ j = λ h. no_end (label k) p false (ap label h ∙ l) in
        let low : reach ns c p ≡ Some j = sym (reach-is ns false p k (Cut s v a c) e) ∙ r in
        let far : Far (c + 1) = λ q h. let w : true ∷ q ≡ false ∷ p = append_cancel_left (label k) (true ∷ q) (false ∷ p) (sym (past (label k) (label (c + 1)) true q (linked.kids k c (ap kids_of e)).high) ∙ sym h ∙ l) in cc in
        let there : c + 1 < length ns = (linked.kids k c (ap kids_of e)).there in
        tree_at-is d fs ms (deep p f) k (Cut s v a c) (same k (has_kids_there ns k c (ap kids_of e)) ne ∙ e)
        ∙ (λ i. cut (stays s (linked.starts k s (ap start_of e)) i) v a (ih c low i) (other (deep p f) (c + 1) there far i))
        ∙ sym (ap (λ (t : Tree). graft t (false ∷ p) (tree_at d fs ms f j)) (tree_at-is d es ns (deep p f) k (Cut s v a c) e))
    grafted_cell f true p ih k (Cut s v a c) e r =
        let l : label j ≡ label k ++ true ∷ p = reach_label (true ∷ p) k j r in
        let ne : k ≢ j = λ h. no_end (label k) p true (ap label h ∙ l) in
        let high : reach ns (c + 1) p ≡ Some j = sym (reach-is ns true p k (Cut s v a c) e) ∙ r in
        let far : Far c = λ q h. let w : false ∷ q ≡ true ∷ p = append_cancel_left (label k) (false ∷ q) (true ∷ p) (sym (past (label k) (label c) false q (linked.kids k c (ap kids_of e)).low) ∙ sym h ∙ l) in cc in
        let there : c + 1 < length ns = (linked.kids k c (ap kids_of e)).there in
        let low_there : c < length ns = omega arith in
        tree_at-is d fs ms (deep p f) k (Cut s v a c) (same k (has_kids_there ns k c (ap kids_of e)) ne ∙ e)
        ∙ (λ i. cut (stays s (linked.starts k s (ap start_of e)) i) v a (other (deep p f) c low_there far i) (ih (c + 1) high i))
        ∙ sym (ap (λ (t : Tree). graft t (true ∷ p) (tree_at d fs ms f j)) (tree_at-is d es ns (deep p f) k (Cut s v a c) e))

    pub grafted : (f : ℕ) (p : List Bool) (k : ℕ) → reach ns k p ≡ Some j → Grafted f p k
    grafted f [] k r = let e : k ≡ j = cc in ap (λ (n : ℕ). tree_at d fs ms f n) e
    grafted f (b ∷ p) k r = grafted_cell f b p (grafted f p) k (cell_at ns k) refl r
