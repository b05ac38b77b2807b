-- The lines of a canonical text, one after another.
use Rattle.std.proofs.Common.{◌≡◌, ℕ, zero, suc, ◌+◌, List, [], ◌∷◌, ◌++◌, map, drop, ap, sym, ◌∙◌, append_assoc, add-one, Some, slice_get}
use Rattle.pv_interval.specs.Bounds.{Bounds}
use Rattle.pv_expr.specs.Systems.{Parts}
use Rattle.pv_expr.specs.Searches.{search_bounds}
use Rattle.pv_expr.specs.Canonical.{constraint_text, constraints_text, variable_text, variables_text, WritesVariable}
use Rattle.pv_expr.specs.declared.constraint.Constraint.{Constraint}

drop_at : {X : Type 0} (xs : List X) (i : ℕ) (x : X) → slice_get xs i ≡ Some x → drop i xs ≡ x ∷ drop (suc i) xs
drop_at [] i x e = cc
drop_at (y ∷ ys) zero x e = let same : y ≡ x = cc in ap (λ z. z ∷ ys) same
drop_at (y ∷ ys) (suc i) x e = drop_at ys i x e

constraints_more : (cs : List Constraint) (i : ℕ) (c : Constraint) (before after goal : List ℕ) → slice_get cs i ≡ Some c →
    after ≡ before ++ constraint_text c → before ++ constraints_text (drop i cs) ≡ goal →
    after ++ constraints_text (drop (suc i) cs) ≡ goal
constraints_more cs i c before after goal found written e =
    ap (λ z. z ++ constraints_text (drop (suc i) cs)) written
    ∙ append_assoc before (constraint_text c) (constraints_text (drop (suc i) cs))
    ∙ ap (λ z. before ++ constraints_text z) (sym (drop_at cs i c found)) ∙ e

pub constraints_step : (cs : List Constraint) (i : ℕ) (c : Constraint) (before after goal : List ℕ) → slice_get cs i ≡ Some c →
    after ≡ before ++ constraint_text c → before ++ constraints_text (drop i cs) ≡ goal →
    after ++ constraints_text (drop (i + 1) cs) ≡ goal
constraints_step cs i c before after goal found written e = rw add-one (constraints_more cs i c before after goal found written e)

variables_more : (ns : List (List ℕ)) (xs : List Bounds) (i : ℕ) (n : List ℕ) (x : Bounds) (before after goal : List ℕ) →
    slice_get ns i ≡ Some n → slice_get xs i ≡ Some x →
    after ≡ before ++ variable_text n x → before ++ variables_text (drop i ns) (drop i xs) ≡ goal →
    after ++ variables_text (drop (suc i) ns) (drop (suc i) xs) ≡ goal
variables_more ns xs i n x before after goal named bounded written e =
    ap (λ z. z ++ variables_text (drop (suc i) ns) (drop (suc i) xs)) written
    ∙ append_assoc before (variable_text n x) (variables_text (drop (suc i) ns) (drop (suc i) xs))
    ∙ ap (λ z. before ++ variables_text z (x ∷ drop (suc i) xs)) (sym (drop_at ns i n named))
    ∙ ap (λ z. before ++ variables_text (drop i ns) z) (sym (drop_at xs i x bounded)) ∙ e

pub variables_step : (s : Parts) (i : ℕ) (before after goal : List ℕ) → WritesVariable s i before after →
    before ++ variables_text (drop i s.names) (drop i (map search_bounds s.domains)) ≡ goal →
    after ++ variables_text (drop (i + 1) s.names) (drop (i + 1) (map search_bounds s.domains)) ≡ goal
variables_step s i before after goal w e =
    rw add-one (variables_more s.names (map search_bounds s.domains) i w.name w.interval before after goal w.name_is w.interval_is w.written e)
