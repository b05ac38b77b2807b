-- The open leaves and the count of a paving that grows in preorder.
use Rattle.std.proofs.Common.{◌≡◌, ℕ, ◌+◌, Bool, true, false, List, [], ◌∷◌, ◌++◌, map, refl, sym, ap, ◌∙◌, subst, Some}
use Rattle.pv_num.specs.Extended.{Extended}
use Rattle.pv_interval.specs.Bounds.{Bounds}
use Rattle.pv_tree.specs.Trees.{Tree, Paves, leaf, removed, inner, small, cut, opens, subtree, graft, settled}
use Rattle.pv_tree.specs.Holes.{Growing, Hole, IsNext, growth_over, holes_below, settle_first, settle_next}
use Rattle.pv_tree.specs.Stages.{IsStage, Rule}
use Rattle.pv_tree.specs.declared.outcome.Outcome.{Outcome}
use Rattle.pv_tree.specs.declared.outcome.Outcome.TheVariants.{Removed, Inner, Small, Cut}
use Rattle.pv_tree.proofs.TreeFacts.{settled_more}
use Rattle.pv_tree.specs.declared.outcome.Shape.TheVariants as shape
use Rattle.pv_board.specs.Rules.{settled_in}
use Rattle.pv_workers.specs.Leaves.{AreOpen, paths_of}
use Rattle.pv_workers.specs.Pavings.{IsSpent}
use Rattle.pv_tree.proofs.Earlier.{opening_is_stage}

-- the open leaves that come of one
abbrev below : List Bool → Outcome → List (List Bool)
below p Removed = []
below p (Inner to) = []
below p (Small to) = []
below p (Cut to var at) = (p ++ false ∷ []) ∷ (p ++ true ∷ []) ∷ []

head_is : (p q : List Bool) (ps qs : List (List Bool)) → p ∷ ps ≡ q ∷ qs → (p ≡ q) × (ps ≡ qs)
head_is p q ps qs e = (cc, cc)

no_head : (p : List Bool) (ps : List (List Bool)) → [] ≡ p ∷ ps → ⊥
no_head p ps e = cc

no_hole : (h : Hole) (hs : List Hole) → [] ≡ h ∷ hs → ⊥
no_hole h hs e = cc

at_root : (o : Outcome) → opens (settled o) ≡ below [] o ++ []
at_root Removed = refl
at_root (Inner to) = refl
at_root (Small to) = refl
at_root (Cut to var at) = refl

in_low : (q : List Bool) (o : Outcome) (qs ts : List (List Bool)) →
    map (λ p. false ∷ p) (below q o ++ qs) ++ ts ≡ below (false ∷ q) o ++ (map (λ p. false ∷ p) qs ++ ts)
in_low q Removed qs ts = refl
in_low q (Inner to) qs ts = refl
in_low q (Small to) qs ts = refl
in_low q (Cut to var at) qs ts = refl

in_high : (q : List Bool) (o : Outcome) (qs : List (List Bool)) →
    map (λ p. true ∷ p) (below q o ++ qs) ≡ below (true ∷ q) o ++ map (λ p. true ∷ p) qs
in_high q Removed qs = refl
in_high q (Inner to) qs = refl
in_high q (Small to) qs = refl
in_high q (Cut to var at) qs = refl

-- what is claimed of a tree and its first open leaf
abbrev Settles : Tree → Outcome → Type 0
Settles t o = (p : List Bool) (ps : List (List Bool)) → opens t ≡ p ∷ ps → opens (graft t p (settled o)) ≡ below p o ++ ps

opens_high : (to : List Bounds) (v : ℕ) (a : Extended) (l r : Tree) (o : Outcome) → Settles r o → opens l ≡ [] → (rs : List (List Bool)) → opens r ≡ rs → (p : List Bool) (ps : List (List Bool)) →
    map (λ x. true ∷ x) rs ≡ p ∷ ps → opens (graft (cut to v a l r) p (settled o)) ≡ below p o ++ ps
opens_high to v a l r o high none [] same p ps e = absurd (no_head p ps e)
opens_high to v a l r o high none (q ∷ qs) same p ps e =
    let h = head_is (true ∷ q) p (map (λ x. true ∷ x) qs) ps e in
    subst (λ x. opens (graft (cut to v a l r) x (settled o)) ≡ below x o ++ ps) h.0
    (subst (λ x. opens (graft (cut to v a l r) (true ∷ q) (settled o)) ≡ below (true ∷ q) o ++ x) h.1
    (ap (λ x. map (λ y. false ∷ y) x ++ map (λ y. true ∷ y) (opens (graft r q (settled o)))) none
    ∙ ap (map (λ y. true ∷ y)) (high q qs same)
    ∙ in_high q o qs))

opens_low : (to : List Bounds) (v : ℕ) (a : Extended) (l r : Tree) (o : Outcome) → Settles l o → Settles r o → (ls : List (List Bool)) → opens l ≡ ls → (p : List Bool) (ps : List (List Bool)) →
    map (λ x. false ∷ x) ls ++ map (λ x. true ∷ x) (opens r) ≡ p ∷ ps → opens (graft (cut to v a l r) p (settled o)) ≡ below p o ++ ps
opens_low to v a l r o low high [] same p ps e = opens_high to v a l r o high same (opens r) refl p ps e
opens_low to v a l r o low high (q ∷ qs) same p ps e =
    let h = head_is (false ∷ q) p (map (λ x. false ∷ x) qs ++ map (λ x. true ∷ x) (opens r)) ps e in
    subst (λ x. opens (graft (cut to v a l r) x (settled o)) ≡ below x o ++ ps) h.0
    (subst (λ x. opens (graft (cut to v a l r) (false ∷ q) (settled o)) ≡ below (false ∷ q) o ++ x) h.1
    (ap (λ x. map (λ y. false ∷ y) x ++ map (λ y. true ∷ y) (opens r)) (low q qs same)
    ∙ in_low q o qs (map (λ y. true ∷ y) (opens r))))

-- the first open leaf gives way to those that come of it
opens_settled : (t : Tree) (o : Outcome) → Settles t o
opens_settled leaf o = λ p ps e.
    let h = head_is [] p [] ps e in
    subst (λ x. opens (graft leaf x (settled o)) ≡ below x o ++ ps) h.0
    (subst (λ x. opens (settled o) ≡ below [] o ++ x) h.1 (at_root o))
opens_settled removed o = λ p ps e. absurd (no_head p ps e)
opens_settled (inner to) o = λ p ps e. absurd (no_head p ps e)
opens_settled (small to) o = λ p ps e. absurd (no_head p ps e)
opens_settled (cut to v a l r) o = λ p ps e. opens_low to v a l r o (opens_settled l o) (opens_settled r o) (opens l) refl p ps e

paths_below : (hole : Hole) (o : Outcome) (rest : List Hole) → paths_of (holes_below hole o ++ rest) ≡ below hole.path o ++ paths_of rest
paths_below hole Removed rest = refl
paths_below hole (Inner to) rest = refl
paths_below hole (Small to) rest = refl
paths_below hole (Cut to var at) rest = refl

first_settled : (b : List Bounds) (t : Tree) (holes : List Hole) (hole : Hole) (rest : List Hole) (o : Outcome) → holes ≡ hole ∷ rest → opens t ≡ paths_of holes →
    AreOpen (settle_first b t holes o)
first_settled b t [] hole rest o e h = absurd (no_hole hole rest e)
first_settled b t (x ∷ xs) hole rest o e h = opens_settled t o x.path (paths_of xs) h ∙ sym (paths_below x o xs)

-- a growth's next leaf is settled
pub still_open : (g : Growing) (p : List Bool) (o : Outcome) → IsNext g p → AreOpen g → AreOpen (settle_next g o)
still_open g p o n h = first_settled g.root g.tree g.holes n.hole n.rest o n.is h

first_count : (b : List Bounds) (t : Tree) (holes : List Hole) (hole : Hole) (rest : List Hole) (o : Outcome) → holes ≡ hole ∷ rest → subtree t hole.path ≡ Some leaf →
    settled_in (settle_first b t holes o).tree ≡ settled_in t + 1
first_count b t [] hole rest o e h = absurd (no_hole hole rest e)
first_count b t (x ∷ xs) hole rest o e h =
    let same : x ≡ hole = cc in
    settled_more t x.path o (subst (λ y. subtree t y.path ≡ Some leaf) (sym same) h)

pub one_more : (g : Growing) (p : List Bool) (o : Outcome) → IsNext g p → settled_in (settle_next g o).tree ≡ settled_in g.tree + 1
one_more g p o n = first_count g.root g.tree g.holes n.hole n.rest o n.is n.is_leaf

-- ---- What was grown of a box

pub record Grown (rule : Rule) (depth : ℕ) (b : List Bounds) (budget : ℕ) (g : Growing) : Type 0 where
  pub root : g.root ≡ b
  pub stage : IsStage rule depth b leaf g.tree
  pub spent : IsSpent budget leaf g.tree

abbrev Goes : Rule → ℕ → Growing → Growing → Type 0
Goes rule depth old new = (opening : Tree) → Paves old.root opening → IsStage rule depth old.root opening old.tree → IsStage rule depth new.root opening new.tree

pub grown : (rule : Rule) (depth : ℕ) (b : List Bounds) (budget : ℕ) (old new : Growing) → old ≡ growth_over b → new.root ≡ old.root → Goes rule depth old new →
    IsSpent budget old.tree new.tree → Grown rule depth b budget new
grown rule depth b budget old new e = subst (λ g. new.root ≡ g.root → Goes rule depth g new → IsSpent budget g.tree new.tree → Grown rule depth b budget new) (sym e)
    (λ root goes spent. record {
      root = root;
      stage = subst (λ x. IsStage rule depth x leaf new.tree) root (goes leaf tt (opening_is_stage rule depth b leaf));
      spent = spent;
    })
