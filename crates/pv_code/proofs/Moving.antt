-- A code leaves the same where the arguments that it names are the same.
use Rattle.std.proofs.Common.{◌≡◌, ℕ, zero, suc, ◌-◌, List, [], ◌∷◌, Bool, true, false, if◌then◌else◌, nat_eq, refl, sym, ap, ◌∙◌, subst, map, take, drop, length, arith}
use Rattle.std.proofs.Math.ListN.{set}
use Rattle.std.proofs.lemmas.Bool.{or_left, or_right}
use Rattle.std.proofs.lemmas.List.{get_or-set_other, map-set, take_rest}
use Rattle.pv_expr.specs.Terms.{Term, term_of}
use Rattle.pv_expr.specs.declared.expr.Expr.{Expr}
use Rattle.pv_code.specs.declared.code.Op.{Op}
use Rattle.pv_code.specs.declared.code.Op.TheVariants.{Parameter}
use Rattle.pv_code.specs.Expansion.{IsMarked, Meaning, RunsAlike, argument, filtered, is_parameter, is_used, nothing, occurs, run, step}

itself : (k : ℕ) → nat_eq k k ≡ true
itself k = grind arith

step_alike : (ms : List Meaning) (a b : List Term) (o : Op) (st : List Term) → ((k : ℕ) → is_parameter k o ≡ true → argument b k ≡ argument a k) → step ms b o st ≡ step ms a o st
step_alike ms a b (Parameter k) st h = ap (λ t. t ∷ st) (h k (itself k))
step_alike ms a b o st h = refl

runs_alike : (code : List Op) (a b : List Term) → ((k : ℕ) → occurs k code ≡ true → argument b k ≡ argument a k) → RunsAlike code a b
runs_alike [] a b h = λ ms st. refl
runs_alike (o ∷ code) a b h = λ ms st.
    ap (run ms b code) (step_alike ms a b o st (λ k e. h k (or_left (is_parameter k o) (occurs k code) e)))
    ∙ runs_alike code a b (λ k e. h k (or_right (is_parameter k o) (occurs k code) e)) ms (step ms a o st)

-- where an argument that no step names is another one
pub moved_alike : (code : List Op) (es : List Expr) (i : ℕ) (e : Expr) → occurs i code ≡ false → RunsAlike code (map term_of es) (map term_of (set es i e))
moved_alike code es i e none = subst (RunsAlike code (map term_of es)) (sym (map-set term_of es i e)) (runs_alike code (map term_of es) (set (map term_of es) i (term_of e))
    (λ k named. get_or-set_other (map term_of es) i k (term_of e) nothing (λ same. absurd (apart (sym named ∙ ap (λ z. occurs z code) same ∙ none)))))
  where
    apart : true ≡ false → ⊥
    apart h = cc

pub filtered-at : (us : List Bool) (ts : List Term) (i : ℕ) → argument (filtered us ts) i ≡ (if is_used us i then argument ts i else nothing)
filtered-at [] ts i = refl
filtered-at (u ∷ us) [] i = alike (is_used (u ∷ us) i)
  where
    alike : (b : Bool) → nothing ≡ (if b then nothing else nothing)
    alike true = refl
    alike false = refl
filtered-at (true ∷ us) (t ∷ ts) zero = refl
filtered-at (false ∷ us) (t ∷ ts) zero = refl
filtered-at (true ∷ us) (t ∷ ts) (suc i) = filtered-at us ts i
filtered-at (false ∷ us) (t ∷ ts) (suc i) = filtered-at us ts i

-- where arguments that no step names are left out
pub filtered_alike : (code : List Op) (us : List Bool) (args : List Term) → IsMarked us code → RunsAlike code args (filtered us args)
filtered_alike code us args marked = runs_alike code args (filtered us args) (λ k named. filtered-at us args k ∙ ap (λ (b : Bool). if b then argument args k else nothing) (marked k named))

-- the steps from a place on, as a slice
pub alike_behind : (code : List Op) (k : ℕ) (a b : List Term) → RunsAlike (take (length code - k) (drop k code)) a b → RunsAlike (drop k code) a b
alike_behind code k a b h = subst (λ (z : List Op). RunsAlike z a b) (take_rest code k) h
