-- The outcome of a node by its shape and what it kept, and its line.
use Rattle.std.proofs.Common.{◌≡◌, ℕ, Bool, true, false, List, [], ◌∷◌, ◌++◌, Option, Some, None, refl, sym, ◌∙◌, ap, subst}
use Rattle.std.specs.Prelude.{IsTrue, IsSome}
use Rattle.pv_interval.specs.Bounds.{Bounds}
use Rattle.pv_num.proofs.Texts.{some_some}
use Rattle.pv_tree.specs.Trees.{Tree, leaf, removed, inner, small, cut, top, subtree, outcome_at, to_at, shape_of}
use Rattle.pv_tree.specs.declared.outcome.Outcome.{Outcome}
use Rattle.pv_tree.specs.declared.outcome.Outcome.TheVariants.{Removed, Inner, Small, Cut}
use Rattle.pv_tree.specs.declared.outcome.Shape.{Shape}
use Rattle.pv_file.specs.declared.version.Version.TheVariants.{One}
use Rattle.pv_file.specs.Lines.{kept_text, ends_text, node_line_with}
use Rattle.pv_file.specs.Shapes.{outcome_of, shape_line, keeps_of, AppendsNodeLine}

pub kept_there : (t : Tree) (p : List Bool) → IsTrue (keeps_of (shape_of (subtree t p))) → IsSome (to_at t p)
kept_there leaf [] h = cc
kept_there removed [] h = cc
kept_there (inner to) [] h = refl
kept_there (small to) [] h = refl
kept_there (cut to var at low high) [] h = refl
kept_there leaf (s ∷ p) h = cc
kept_there removed (s ∷ p) h = cc
kept_there (inner to) (s ∷ p) h = cc
kept_there (small to) (s ∷ p) h = cc
kept_there (cut to var at low high) (false ∷ p) h = kept_there low p h
kept_there (cut to var at low high) (true ∷ p) h = kept_there high p h

pub outcome_known : (t : Tree) (p : List Bool) (to : List Bounds) → (IsTrue (keeps_of (shape_of (subtree t p))) → to_at t p ≡ Some to)
    → outcome_of (shape_of (subtree t p)) to ≡ outcome_at t p
outcome_known leaf [] to h = refl
outcome_known removed [] to h = refl
outcome_known (inner x) [] to h = ap (λ (y : List Bounds). Some (Inner y)) (sym (some_some x to (h refl)))
outcome_known (small x) [] to h = ap (λ (y : List Bounds). Some (Small y)) (sym (some_some x to (h refl)))
outcome_known (cut x var at low high) [] to h = ap (λ (y : List Bounds). Some (Cut y var at)) (sym (some_some x to (h refl)))
outcome_known leaf (s ∷ p) to h = refl
outcome_known removed (s ∷ p) to h = refl
outcome_known (inner x) (s ∷ p) to h = refl
outcome_known (small x) (s ∷ p) to h = refl
outcome_known (cut x var at low high) (false ∷ p) to h = outcome_known low p to h
outcome_known (cut x var at low high) (true ∷ p) to h = outcome_known high p to h

top_there : (t : Tree) (p : List Bool) (s : Tree) → subtree t p ≡ Some s → outcome_at t p ≡ top s
top_there t [] s e = ap top (some_some t s e)
top_there leaf (b ∷ p) s e = cc
top_there removed (b ∷ p) s e = cc
top_there (inner x) (b ∷ p) s e = cc
top_there (small x) (b ∷ p) s e = cc
top_there (cut x var at low high) (false ∷ p) s e = top_there low p s e
top_there (cut x var at low high) (true ∷ p) s e = top_there high p s e

first_version : (b : List Bounds) (o : Option Outcome) → node_line_with (kept_text One b) o ≡ node_line_with ends_text o
first_version b None = refl
first_version b (Some Removed) = refl
first_version b (Some (Inner to)) = refl
first_version b (Some (Small to)) = refl
first_version b (Some (Cut to var at)) = refl

node_appended : (o : Option Tree) (q : Option Outcome) (before after : List ℕ) → IsSome o → ((s : Tree) → o ≡ Some s → q ≡ top s)
    → after ≡ before ++ node_line_with ends_text q → AppendsNodeLine before after o
node_appended None q before after some same e = cc
node_appended (Some s) q before after some same e = e ∙ ap (λ (x : Option Outcome). before ++ node_line_with ends_text x) (same s refl)

pub line_appended : (t : Tree) (p : List Bool) (b to : List Bounds) (shape : Shape) (before after : List ℕ) → IsSome (subtree t p)
    → outcome_of shape to ≡ outcome_at t p → after ≡ before ++ shape_line One b shape to → AppendsNodeLine before after (subtree t p)
line_appended t p b to shape before after there same e =
    node_appended (subtree t p) (outcome_at t p) before after there (top_there t p)
    (e ∙ ap (λ (x : List ℕ). before ++ x) (first_version b (outcome_of shape to)) ∙ ap (λ (x : Option Outcome). before ++ node_line_with ends_text x) same)

pub not_kept : (b x : Bool) → b ≡ x → b ≡ false → IsTrue x → ⊥
not_kept b x e f t = cc

pub outcome_shape : (t : Tree) (p : List Bool) (to : List Bounds) (shape : Shape) → shape ≡ shape_of (subtree t p) → (IsTrue (keeps_of shape) → to_at t p ≡ Some to)
    → outcome_of shape to ≡ outcome_at t p
outcome_shape t p to shape e h =
    ap (λ (s : Shape). outcome_of s to) e ∙ outcome_known t p to (λ k. h (subst (λ (s : Shape). IsTrue (keeps_of s)) (sym e) k))

pub kept_shape : (t : Tree) (p : List Bool) (shape : Shape) → shape ≡ shape_of (subtree t p) → IsTrue (keeps_of shape) → IsSome (to_at t p)
kept_shape t p shape e k = kept_there t p (subst (λ (s : Shape). IsTrue (keeps_of s)) e k)
