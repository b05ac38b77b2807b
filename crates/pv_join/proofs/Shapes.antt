-- What the shape of a node tells of its outcome.
use Rattle.std.proofs.Common.{◌≡◌, ℕ, Bool, true, false, Option, Some, None, List, [], ◌∷◌, refl, sym, ◌∙◌, ap, subst}
use Rattle.std.specs.Option.{IsSome}
use Rattle.pv_num.specs.Extended.{Extended}
use Rattle.pv_interval.specs.Bounds.{Bounds}
use Rattle.pv_tree.specs.Trees.{Tree, leaf, removed, inner, small, cut, top, subtree, outcome_at, to_at, to_of, shape_of}
use Rattle.pv_tree.specs.declared.outcome.Shape.{Shape}
use Rattle.pv_tree.specs.declared.outcome.Shape.TheVariants as shape
use Rattle.pv_tree.specs.declared.outcome.Outcome.{Outcome}
use Rattle.pv_tree.specs.declared.outcome.Outcome.TheVariants.{Removed, Inner, Small, Cut}

abbrev pub top_there : Option Tree → Option Outcome
top_there None = None
top_there (Some t) = top t

pub outcome_top : (t : Tree) (p : List Bool) → outcome_at t p ≡ top_there (subtree t p)
outcome_top t [] = refl
outcome_top (cut to v a l r) (false ∷ p) = outcome_top l p
outcome_top (cut to v a l r) (true ∷ p) = outcome_top r p
outcome_top leaf (b ∷ p) = refl
outcome_top removed (b ∷ p) = refl
outcome_top (inner to) (b ∷ p) = refl
outcome_top (small to) (b ∷ p) = refl

abbrev Known : Shape → Option Outcome → Type 0
Known shape.Absent u = u ≡ None
Known shape.OpenLeaf u = u ≡ None
Known shape.Removed u = u ≡ Some Removed
Known shape.Inner u = (to : List Bounds) × (u ≡ Some (Inner to))
Known shape.Small u = (to : List Bounds) × (u ≡ Some (Small to))
Known (shape.Cut v a) u = (to : List Bounds) × (u ≡ Some (Cut to v a))

known_top : (o : Option Tree) → Known (shape_of o) (top_there o)
known_top None = refl
known_top (Some leaf) = refl
known_top (Some removed) = refl
known_top (Some (inner to)) = (to, refl)
known_top (Some (small to)) = (to, refl)
known_top (Some (cut to v a l r)) = (to, refl)

pub known : (t : Tree) (p : List Bool) (s : Shape) → s ≡ shape_of (subtree t p) → Known s (outcome_at t p)
known t p s e = subst (λ (x : Shape). Known x (outcome_at t p)) (sym e) (subst (Known (shape_of (subtree t p))) (sym (outcome_top t p)) (known_top (subtree t p)))

abbrev kept_of : Option Outcome → Option (List Bounds)
kept_of None = None
kept_of (Some o) = to_of o

some_kept : (u : Option Outcome) (to : List Bounds) → kept_of u ≡ Some to → IsSome (kept_of u)
some_kept u to e = subst (λ (x : Option (List Bounds)). IsSome x) (sym e) refl

pub inner_kept : (t : Tree) (p : List Bool) → shape.Inner ≡ shape_of (subtree t p) → IsSome (to_at t p)
inner_kept t p e = let k : (to : List Bounds) × (outcome_at t p ≡ Some (Inner to)) = known t p shape.Inner e in some_kept (outcome_at t p) k.0 (ap kept_of k.1)

pub small_kept : (t : Tree) (p : List Bool) → shape.Small ≡ shape_of (subtree t p) → IsSome (to_at t p)
small_kept t p e = let k : (to : List Bounds) × (outcome_at t p ≡ Some (Small to)) = known t p shape.Small e in some_kept (outcome_at t p) k.0 (ap kept_of k.1)

pub cut_kept : (t : Tree) (p : List Bool) (v : ℕ) (a : Extended) → shape.Cut v a ≡ shape_of (subtree t p) → IsSome (to_at t p)
cut_kept t p v a e = let k : (to : List Bounds) × (outcome_at t p ≡ Some (Cut to v a)) = known t p (shape.Cut v a) e in some_kept (outcome_at t p) k.0 (ap kept_of k.1)

pub inner_is : (t : Tree) (p : List Bool) (b : List Bounds) → shape.Inner ≡ shape_of (subtree t p) → to_at t p ≡ Some b → Some (Inner b) ≡ outcome_at t p
inner_is t p b e h =
    let k : (to : List Bounds) × (outcome_at t p ≡ Some (Inner to)) = known t p shape.Inner e in
    let w : Some k.0 ≡ Some b = sym (ap kept_of k.1) ∙ h in let same : k.0 ≡ b = cc in
    sym (k.1 ∙ ap (λ (x : List Bounds). Some (Inner x)) same)

pub small_is : (t : Tree) (p : List Bool) (b : List Bounds) → shape.Small ≡ shape_of (subtree t p) → to_at t p ≡ Some b → Some (Small b) ≡ outcome_at t p
small_is t p b e h =
    let k : (to : List Bounds) × (outcome_at t p ≡ Some (Small to)) = known t p shape.Small e in
    let w : Some k.0 ≡ Some b = sym (ap kept_of k.1) ∙ h in let same : k.0 ≡ b = cc in
    sym (k.1 ∙ ap (λ (x : List Bounds). Some (Small x)) same)

pub cut_is : (t : Tree) (p : List Bool) (b : List Bounds) (v : ℕ) (a : Extended) → shape.Cut v a ≡ shape_of (subtree t p) → to_at t p ≡ Some b → Some (Cut b v a) ≡ outcome_at t p
cut_is t p b v a e h =
    let k : (to : List Bounds) × (outcome_at t p ≡ Some (Cut to v a)) = known t p (shape.Cut v a) e in
    let w : Some k.0 ≡ Some b = sym (ap kept_of k.1) ∙ h in let same : k.0 ≡ b = cc in
    sym (k.1 ∙ ap (λ (x : List Bounds). Some (Cut x v a)) same)

pub absent_is : (t : Tree) (p : List Bool) → shape.Absent ≡ shape_of (subtree t p) → None ≡ outcome_at t p
absent_is t p e = sym (known t p shape.Absent e)

pub open_is : (t : Tree) (p : List Bool) → shape.OpenLeaf ≡ shape_of (subtree t p) → None ≡ outcome_at t p
open_is t p e = sym (known t p shape.OpenLeaf e)

pub removed_is : (t : Tree) (p : List Bool) → shape.Removed ≡ shape_of (subtree t p) → Some Removed ≡ outcome_at t p
removed_is t p e = sym (known t p shape.Removed e)
