-- Terms that a code writes are over the variables where each of its steps is.
use Rattle.std.proofs.Common.{◌≡◌, ℕ, zero, suc, ◌+◌, ◌<◌, ◌≤◌, List, [], ◌∷◌, ◌++◌, length, map, reverse, take, drop, get_or, refl, sym, ap, ◌∙◌, subst, arith}
use Rattle.std.specs.List.{fold}
use Rattle.std.specs.Prelude.{All, sum_by}
use Rattle.std.proofs.lemmas.List.{get_or-map, length-map, reverse-append}
use Rattle.std.proofs.lemmas.List.Elements.{All-cons, All-drop, All-head, All-nil, All-push, All-tail, All-take}
use Rattle.std.proofs.lemmas.Nat.Gcd.{IsGcd-from_zero, IsGcd-swap}
use Rattle.pv_expr.specs.declared.constraint.Constraint.{Constraint}
use Rattle.pv_expr.specs.Systems.{IsConstraint, IsOver, IsUnary, side_nodes}
use Rattle.pv_expr.specs.Terms.{Term}
use Rattle.pv_code.specs.declared.code.Op.{Op}
use Rattle.pv_code.specs.declared.code.Op.TheVariants.{Constant, Variable, Parameter, One, Two, Call, Define, Relate}
use Rattle.pv_code.specs.Expansion.{Meaning, Sides, below, body_meaning, constraints_behind, constraints_of, nothing, run, sides_of, step, top}
use Rattle.pv_code.specs.Fractions.{IsLowest}
use Rattle.pv_code.specs.Sizes.{AreWithin, IsShallow, IsShortCall, nodes_of}

-- a step that writes a variable below n, a constant within the limits, a power of at most 32, or a call of at most 12 arguments
abbrev pub IsStep : ℕ → Op → Type 0
IsStep n (Constant f) = IsLowest f
IsStep n (Variable i) = i < n
IsStep n (One u) = IsUnary u
IsStep n (Call k m) = m ≤ 12
IsStep n o = Unit {0}

pub short_step : (n : ℕ) (o : Op) → IsStep n o → IsShortCall o
short_step n (Call k m) h = h
short_step n o h = tt

-- ---- Stacks of terms

abbrev AreOver : ℕ → List Term → Type 0
AreOver n ts = All (IsOver n) ts

zero_over : (n : ℕ) → IsOver n nothing
zero_over n = record { lowest = IsGcd-swap 1 0 1 (IsGcd-from_zero 1 0 refl); top_below = omega arith; under_above = omega arith; under_below = omega arith }

over_reverse : (n : ℕ) (a : List Term) → AreOver n a → AreOver n (reverse a)
over_reverse n [] h = h
over_reverse n (t ∷ a) h = subst (AreOver n) (sym (reverse-append (t ∷ []) a)) (All-push (IsOver n) (reverse a) t (over_reverse n a (All-tail (IsOver n) t a h)) (All-head (IsOver n) t a h))

over_top : (n : ℕ) (a : List Term) → AreOver n a → IsOver n (top a)
over_top n [] h = zero_over n
over_top n (t ∷ a) h = All-head (IsOver n) t a h

over_below : (n : ℕ) (a : List Term) → AreOver n a → AreOver n (below a)
over_below n [] h = h
over_below n (t ∷ a) h = All-tail (IsOver n) t a h

all_or : {X : Type 0} (P : X → Type 0) (xs : List X) (i : ℕ) (d : X) → P d → All P xs → P (get_or xs i d)
all_or P [] i d p h = p
all_or P (x ∷ xs) zero d p h = All-head P x xs h
all_or P (x ∷ xs) (suc i) d p h = all_or P xs i d p (All-tail P x xs h)

-- ---- Meanings of functions

abbrev KeepsOver : ℕ → Meaning → Type 0
KeepsOver n m = (args : List Term) → AreOver n args → IsOver n (m args)

step_over : (n : ℕ) (ms : List Meaning) (args : List Term) (o : Op) (st : List Term) → All (KeepsOver n) ms → AreOver n args → IsStep n o → AreOver n st → AreOver n (step ms args o st)
step_over n ms args (Constant f) st k a h s = All-cons (IsOver n) _ st h s
step_over n ms args (Variable i) st k a h s = All-cons (IsOver n) _ st h s
step_over n ms args (Parameter i) st k a h s = All-cons (IsOver n) _ st (all_or (IsOver n) args i nothing (zero_over n) a) s
step_over n ms args (One u) st k a h s = All-cons (IsOver n) _ (below st) (h, over_top n st s) (over_below n st s)
step_over n ms args (Two b) st k a h s =
    let rest = over_below n st s in
    All-cons (IsOver n) _ (below (below st)) (over_top n (below st) rest, over_top n st s) (over_below n (below st) rest)
step_over n ms args (Call f arity) st k a h s =
    All-cons (IsOver n) _ (drop arity st) (all_or (KeepsOver n) ms f (λ z. nothing) (λ z are. zero_over n) k (reverse (take arity st)) (over_reverse n (take arity st) (All-take (IsOver n) arity st s)))
    (All-drop (IsOver n) arity st s)
step_over n ms args Define st k a h s = s
step_over n ms args (Relate r) st k a h s = s

run_over : (n : ℕ) (ms : List Meaning) (args : List Term) (code : List Op) (st : List Term) → All (KeepsOver n) ms → AreOver n args → All (IsStep n) code → AreOver n st → AreOver n (run ms args code st)
run_over n ms args [] st k a h s = s
run_over n ms args (o ∷ code) st k a h s = run_over n ms args code (step ms args o st) k a (All-tail (IsStep n) o code h) (step_over n ms args o st k a (All-head (IsStep n) o code h) s)

-- of one expression
pub term_over : (n : ℕ) (code : List Op) → All (IsStep n) code → IsOver n (top (run [] [] code []))
term_over n code h = over_top n (run [] [] code []) (run_over n [] [] code [] (All-nil (KeepsOver n)) (All-nil (IsOver n)) h (All-nil (IsOver n)))

-- ---- Constraints

abbrev IsSideOver : ℕ → Sides → Type 0
IsSideOver n s = IsOver n s.left × IsOver n s.right

behind_over : (n : ℕ) (ms : List Meaning) (part code : List Op) → All (KeepsOver n) ms → All (IsStep n) part → All (IsStep n) code → All (IsSideOver n) (constraints_behind ms part code)
behind_over n ms part [] k p h = All-nil (IsSideOver n)
behind_over n ms part (Define ∷ code) k p h =
    behind_over n (ms ++ body_meaning ms part ∷ []) [] code
    (All-push (KeepsOver n) ms (body_meaning ms part) k (λ args are. over_top n (run ms args part []) (run_over n ms args part [] k are p (All-nil (IsOver n))))) (All-nil (IsStep n)) (All-tail (IsStep n) Define code h)
behind_over n ms part (Relate r ∷ code) k p h =
    let both = run_over n ms [] part [] k (All-nil (IsOver n)) p (All-nil (IsOver n)) in
    All-cons (IsSideOver n) _ (constraints_behind ms [] code) (over_top n (below (run ms [] part [])) (over_below n (run ms [] part []) both), over_top n (run ms [] part []) both)
    (behind_over n ms [] code k (All-nil (IsStep n)) (All-tail (IsStep n) (Relate r) code h))
behind_over n ms part (o ∷ code) k p h = behind_over n ms (part ++ o ∷ []) code k (All-push (IsStep n) part o p (All-head (IsStep n) o code h)) (All-tail (IsStep n) o code h)

pub constraints_good : (n : ℕ) (cs : List Constraint) (code : List Op) → map sides_of cs ≡ constraints_of code → AreWithin (constraints_of code) → All (IsStep n) code → All (IsConstraint n) cs
constraints_good n cs code e within steps = λ k d h.
    let at : get_or (constraints_of code) k (sides_of d) ≡ sides_of (get_or cs k d) = ap (λ (z : List Sides). get_or z k (sides_of d)) (sym e) ∙ get_or-map sides_of cs k d (sides_of d) h in
    let inside : k < length (constraints_of code) = omega (arith, h, ap length e, length-map cs sides_of) in
    let over = subst (IsSideOver n) at (behind_over n [] [] code (All-nil (KeepsOver n)) (All-nil (IsStep n)) steps k (sides_of d) inside) in
    let shallow = subst (λ (s : Sides). IsShallow s) at (within.shallow k (sides_of d) inside) in
    record { left_over = over.0; right_over = over.1; left_depth = shallow.left; right_depth = shallow.right }

same_nodes : (cs : List Constraint) (k : ℕ) → fold (λ (n : ℕ) (s : Sides). n + nodes_of s) k (map sides_of cs) ≡ fold (λ (n : ℕ) (c : Constraint). n + side_nodes c) k cs
same_nodes [] k = refl
same_nodes (c ∷ cs) k = same_nodes cs (k + side_nodes c)

pub few_nodes : (cs : List Constraint) (all : List Sides) → map sides_of cs ≡ all → AreWithin all → sum_by side_nodes cs ≤ 65536
few_nodes cs all e within = subst (λ (k : ℕ). k ≤ 65536) (same_nodes cs 0) (subst (λ (z : List Sides). sum_by nodes_of z ≤ 65536) (sym e) within.few_nodes)
