-- Nodes that are there or not, and paths that lead to nodes.
use Rattle.std.proofs.Common.{◌≡◌, ◌≢◌, ◌⊎◌, inl, inr, ℕ, zero, suc, ◌<◌, ◌≤◌, Bool, false, Option, Some, None, List, [], ◌∷◌, ◌++◌, length, refl, sym, ◌∙◌, ap, arith}
use Rattle.std.proofs.lemmas.List.{get_or_past}
use Rattle.pv_tree.specs.Arena.{reach, cell_at, closed_at, kids_of, side, open_node}
use Rattle.pv_tree.specs.declared.cell.Cell.{Cell}
use Rattle.pv_tree.specs.declared.cell.Cell.TheVariants.{Open}
use Rattle.pv_tree.specs.declared.cell.Node.{Node}

pub lt_or : (a b : ℕ) → (a < b) ⊎ (b ≤ a)
lt_or a zero = inr (omega arith)
lt_or zero (suc b) = inl (omega arith)
lt_or (suc a) (suc b) = elim (lt_or a b) [ inl h ↦ inl (omega arith) | inr h ↦ inr (omega arith) ]

pub missing : (ns : List Node) (k : ℕ) → length ns ≤ k → cell_at ns k ≡ Open
missing ns k h = ap (λ (n : Node). n.cell) (get_or_past ns k open_node h)

pub missing_mark : (ns : List Node) (k : ℕ) → length ns ≤ k → closed_at ns k ≡ false
missing_mark ns k h = ap (λ (n : Node). n.closed) (get_or_past ns k open_node h)

-- a node with children is there
pub has_kids_there : (ns : List Node) (k c : ℕ) → kids_of (cell_at ns k) ≡ Some c → k < length ns
has_kids_there ns k c e = elim (lt_or k (length ns)) [ inl h ↦ h | inr h ↦ let w : None ≡ Some c = sym (ap kids_of (missing ns k h)) ∙ e in cc ]

abbrev pub step_to : List Node → Bool → List Bool → Option ℕ → Option ℕ
step_to ns b p None = None
step_to ns b p (Some c) = reach ns (side b c) p

pub reach-kids : (ns : List Node) (b : Bool) (p : List Bool) (k : ℕ) (o : Option ℕ) → kids_of (cell_at ns k) ≡ o → reach ns k (b ∷ p) ≡ step_to ns b p o
reach-kids ns b p k o e = ap (step_to ns b p) e

pub reach-is : (ns : List Node) (b : Bool) (p : List Bool) (k : ℕ) (x : Cell) → cell_at ns k ≡ x → reach ns k (b ∷ p) ≡ step_to ns b p (kids_of x)
reach-is ns b p k x e = reach-kids ns b p k (kids_of x) (ap kids_of e)

-- a path after a path
module _ (ns : List Node) (q : List Bool) where
  abbrev Onward : List Bool → Type 0
  Onward p = (k j : ℕ) → reach ns k p ≡ Some j → reach ns k (p ++ q) ≡ reach ns j q

  onward_kids : (b : Bool) (p : List Bool) → Onward p → (k j : ℕ) (o : Option ℕ) → kids_of (cell_at ns k) ≡ o → reach ns k (b ∷ p) ≡ Some j → reach ns k (b ∷ (p ++ q)) ≡ reach ns j q
  onward_kids b p ih k j None e r = let h : None ≡ Some j = sym (reach-kids ns b p k None e) ∙ r in cc
  onward_kids b p ih k j (Some c) e r = reach-kids ns b (p ++ q) k (Some c) e ∙ ih (side b c) j (sym (reach-kids ns b p k (Some c) e) ∙ r)

  pub onward : (p : List Bool) → Onward p
  onward [] k j r = let e : k ≡ j = cc in ap (λ (n : ℕ). reach ns n q) e
  onward (b ∷ p) k j r = onward_kids b p (onward p) k j (kids_of (cell_at ns k)) refl r

-- paths in an arena in which an open node changed
module _ (ns ms : List Node) (j : ℕ) (same : (k : ℕ) → k < length ns → k ≢ j → cell_at ms k ≡ cell_at ns k) (is_open : cell_at ns j ≡ Open) where
  abbrev Leads : List Bool → Type 0
  Leads p = (k i : ℕ) → reach ns k p ≡ Some i → reach ms k p ≡ Some i

  pub kids_stay : (k c : ℕ) → kids_of (cell_at ns k) ≡ Some c → kids_of (cell_at ms k) ≡ Some c
  kids_stay k c e =
      let other : k ≢ j = λ h. let w : None ≡ Some c = sym (ap kids_of (ap (cell_at ns) h ∙ is_open)) ∙ e in cc in
      ap kids_of (same k (has_kids_there ns k c e) other) ∙ e

  leads_kids : (b : Bool) (p : List Bool) → Leads p → (k i : ℕ) (o : Option ℕ) → kids_of (cell_at ns k) ≡ o → reach ns k (b ∷ p) ≡ Some i → reach ms k (b ∷ p) ≡ Some i
  leads_kids b p ih k i None e r = let h : None ≡ Some i = sym (reach-kids ns b p k None e) ∙ r in cc
  leads_kids b p ih k i (Some c) e r = reach-kids ms b p k (Some c) (kids_stay k c e) ∙ ih (side b c) i (sym (reach-kids ns b p k (Some c) e) ∙ r)

  pub still_leads : (p : List Bool) → Leads p
  still_leads [] k i r = r
  still_leads (b ∷ p) k i r = leads_kids b p (still_leads p) k i (kids_of (cell_at ns k)) refl r

-- paths in an arena with the same cells
module _ (ns ms : List Node) (same : (k : ℕ) → cell_at ms k ≡ cell_at ns k) where
  same_kids : (b : Bool) (p : List Bool) → ((k : ℕ) → reach ms k p ≡ reach ns k p) → (k : ℕ) (o : Option ℕ) → kids_of (cell_at ns k) ≡ o → reach ms k (b ∷ p) ≡ reach ns k (b ∷ p)
  same_kids b p ih k None e = reach-kids ms b p k None (ap kids_of (same k) ∙ e) ∙ sym (reach-kids ns b p k None e)
  same_kids b p ih k (Some c) e = reach-kids ms b p k (Some c) (ap kids_of (same k) ∙ e) ∙ ih (side b c) ∙ sym (reach-kids ns b p k (Some c) e)

  pub same_reach : (p : List Bool) (k : ℕ) → reach ms k p ≡ reach ns k p
  same_reach [] k = refl
  same_reach (b ∷ p) k = same_kids b p (same_reach p) k (kids_of (cell_at ns k)) refl
