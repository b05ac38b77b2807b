-- A growth by a settler that knows.
use Rattle.std.proofs.Common.{◌≡◌, ◌<◌, ℕ, List, Bool, [], ◌∷◌, ◌++◌, length, refl, ap, subst, sym, ◌∙◌, arith}
use Rattle.std.specs.Prelude.{Some, reverse}
use Rattle.std.proofs.lemmas.List.{reverse-append}
use Rattle.pv_interval.specs.Bounds.{Bounds}
use Rattle.pv_tree.specs.Trees.{Tree, leaf, Fits, HasDepth, graft, settled, subtree, box_of}
use Rattle.pv_tree.specs.Holes.{Growing, Hole, Takes, IsNext, IsFirstBox, holes_below, rest_of, settle_first, settle_next}
use Rattle.pv_tree.specs.KnownHalves.{HoldsOfHalves}
use Rattle.pv_tree.specs.KnownLeaves.{AreKnown, with_handed}
use Rattle.pv_tree.specs.declared.outcome.Outcome.{Outcome}
use Rattle.pv_tree.specs.declared.outcome.Outcome.TheVariants.{Removed, Inner, Small, Cut}

pub next_some : (g : Growing) (p : List Bool) → IsNext g p → 0 < length g.holes
next_some g p h = subst (λ (hs : List Hole). 0 < length hs) (sym h.is) (omega arith)

pub next_box : (g : Growing) (p : List Bool) (b : List Bounds) (h : IsNext g p) → IsFirstBox g.holes b → b ≡ h.hole.box
next_box g p b h k = subst (λ (hs : List Hole). IsFirstBox hs b) h.is k

pub next_takes : (g : Growing) (p : List Bool) (b : List Bounds) (o : Outcome) (h : IsNext g p) → IsFirstBox g.holes b → Fits b o → HasDepth p o → Takes g.holes o
next_takes g p b o h k f d =
    subst (λ (hs : List Hole). Takes hs o) (sym h.is) (subst (λ (x : List Bounds). Fits x o) (next_box g p b h k) f, subst (λ (q : List Bool). HasDepth q o) h.path d)

pub next_tree : (g : Growing) (p : List Bool) (o : Outcome) (h : IsNext g p) → (settle_next g o).tree ≡ graft g.tree p (settled o)
next_tree g p o h =
    ap (λ (hs : List Hole). (settle_first g.root g.tree hs o).tree) h.is ∙ ap (λ (q : List Bool). graft g.tree q (settled o)) (sym h.path)

pub next_holes : (g : Growing) (p : List Bool) (o : Outcome) (h : IsNext g p) → (settle_next g o).holes ≡ holes_below h.hole o ++ h.rest
next_holes g p o h = ap (λ (hs : List Hole). (settle_first g.root g.tree hs o).holes) h.is

pub next_root : (g : Growing) (o : Outcome) → (settle_next g o).root ≡ g.root
next_root g o = by_holes g.holes
  where
    by_holes : (hs : List Hole) → (settle_first g.root g.tree hs o).root ≡ g.root
    by_holes [] = refl
    by_holes (hole ∷ hs) = refl

module _ {K : Type 0} (knows : K → List Bounds → Type 0) where
  last_first : (front : List K) (k : K) → reverse (front ++ k ∷ []) ≡ k ∷ reverse front
  last_first front k = reverse-append front (k ∷ [])

  -- without the last of the facts, all but the first leaf are known
  pub rest_known : (items front : List K) (k : K) (hs : List Hole) → items ≡ front ++ k ∷ [] → AreKnown knows (reverse items) hs → AreKnown knows (reverse front) (rest_of hs)
  rest_known items front k hs e h = by_holes hs (subst (λ ks. AreKnown knows ks hs) (ap reverse e ∙ last_first front k) h)
    where
      by_holes : (hs : List Hole) → AreKnown knows (k ∷ reverse front) hs → AreKnown knows (reverse front) (rest_of hs)
      by_holes [] h = absurd h
      by_holes (hole ∷ hs) h = h.1

  pub no_facts : (items : List K) (hs : List Hole) → items ≡ [] → 0 < length hs → AreKnown knows (reverse items) hs → ⊥
  no_facts items [] e some h = omega (arith, some)
  no_facts items (hole ∷ hs) e some h = subst (λ ks. AreKnown knows (reverse ks) (hole ∷ hs)) e h

  two_more : (front : List K) (k : K) → reverse ((front ++ k ∷ []) ++ k ∷ []) ≡ k ∷ k ∷ reverse front
  two_more front k = last_first (front ++ k ∷ []) k ∙ ap (λ ks. k ∷ ks) (last_first front k)

  -- once a leaf is settled, what is handed on is known of those that come of it
  pub handed_known : (b : List Bounds) (t : Tree) (items : List K) (hs : List Hole) (o : Outcome) (k : K) → Takes hs o → HoldsOfHalves (knows k) o → AreKnown knows (reverse items) (rest_of hs)
      → AreKnown knows (reverse (with_handed items o k)) (settle_first b t hs o).holes
  handed_known b t items [] o k takes h r = absurd takes
  handed_known b t items (hole ∷ hs) Removed k takes h r = r
  handed_known b t items (hole ∷ hs) (Inner to) k takes h r = r
  handed_known b t items (hole ∷ hs) (Small to) k takes h r = r
  handed_known b t items (hole ∷ hs) (Cut to v a) k takes h r =
      subst (λ ks. AreKnown knows ks (holes_below hole (Cut to v a) ++ hs)) (sym (two_more items k)) (h.0, (h.1, r))

  -- the last of the facts is true of the next leaf's box
  pub first_holds : (items front : List K) (k : K) (b : List Bounds) (hs : List Hole) → items ≡ front ++ k ∷ [] → AreKnown knows (reverse items) hs → IsFirstBox hs b → knows k b
  first_holds items front k b hs e h f = by_holes hs (subst (λ ks. AreKnown knows ks hs) (ap reverse e ∙ last_first front k) h) f
    where
      by_holes : (hs : List Hole) → AreKnown knows (k ∷ reverse front) hs → IsFirstBox hs b → knows k b
      by_holes [] h f = absurd h
      by_holes (hole ∷ hs) h f = subst (knows k) (sym f) h.0

pub next_is_leaf : (g : Growing) (p : List Bool) (n : IsNext g p) → subtree g.tree p ≡ Some leaf
next_is_leaf g p n = ap (subtree g.tree) n.path ∙ n.is_leaf

pub next_box_of : (g : Growing) (p : List Bool) (b : List Bounds) (n : IsNext g p) → IsFirstBox g.holes b → box_of g.root g.tree p ≡ b
next_box_of g p b n f = ap (box_of g.root g.tree) n.path ∙ n.box ∙ sym (next_box g p b n f)
