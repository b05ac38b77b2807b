-- The builder's stack, and the meanings of functions one by one.
use Rattle.std.proofs.Common.{◌≡◌, ℕ, zero, suc, List, [], ◌∷◌, ◌++◌, ◌+◌, ◌-◌, ◌<◌, ◌≤◌, reverse, map, take, drop, get_or, refl, ap, sym, ◌∙◌, length, arith, inl, inr, Option, Some, None}
use Rattle.std.proofs.lemmas.Bool.{cases_lt}
use Rattle.std.proofs.lemmas.List.{take_all, drop-map, drop_more, get_or-map, length-drop, get_or_past, reverse-append, reverse-reverse, map-append, get_or_append_left, length-append, length-reverse, drop_all, drop_at, take-append-drop, take-map, take_at}
use Rattle.std.proofs.Math.Seq.{get_or-append_seam}
use Rattle.pv_expr.specs.declared.expr.Expr.{Expr}
use Rattle.pv_expr.specs.Terms.{Term, term_of}
use Rattle.pv_code.specs.declared.code.Op.{Op}
use Rattle.pv_code.specs.declared.expand.Function.{Function}
use Rattle.pv_code.specs.Expansion as Expansion
use Rattle.pv_code.specs.Expansion.{Meaning, meaning_of, meanings, meanings_behind, body_meaning, top, stack_of, code_of, nothing, run, step, stacked, below}

stack-push : (es : List Expr) (e : Expr) → stack_of (es ++ e ∷ []) ≡ term_of e ∷ stack_of es
unfolding Expansion.stack_of
stack-push es e = ap reverse (map-append term_of es (e ∷ [])) ∙ reverse-append (map term_of es) (term_of e ∷ [])

stack-empty : stack_of [] ≡ []
unfolding Expansion.stack_of
stack-empty = refl

behind-keeps : (codes : List (List Op)) (ms : List Meaning) (k : ℕ) → k < length ms → meaning_of (meanings_behind ms codes) k ≡ meaning_of ms k
behind-keeps [] ms k h = refl
behind-keeps (c ∷ cs) ms k h =
    let longer : length (ms ++ body_meaning ms c ∷ []) ≡ length ms + 1 = length-append ms (body_meaning ms c ∷ []) in
    behind-keeps cs (ms ++ body_meaning ms c ∷ []) k (omega arith) ∙ get_or_append_left ms (body_meaning ms c ∷ []) (λ args. nothing) k h

behind-at : (codes : List (List Op)) (ms : List Meaning) (i : ℕ) → i < length codes →
    meaning_of (meanings_behind ms codes) (length ms + i) ≡ body_meaning (meanings_behind ms (take i codes)) (get_or codes i [])
behind-at [] ms i h = absurd (omega arith)
behind-at (c ∷ cs) ms zero h =
    let longer : length (ms ++ body_meaning ms c ∷ []) ≡ length ms + 1 = length-append ms (body_meaning ms c ∷ []) in
    ap (meaning_of (meanings_behind (ms ++ body_meaning ms c ∷ []) cs)) (omega arith)
    ∙ behind-keeps cs (ms ++ body_meaning ms c ∷ []) (length ms) (omega arith)
    ∙ get_or-append_seam ms (body_meaning ms c) [] (λ args. nothing)
behind-at (c ∷ cs) ms (suc i) h =
    let longer : length (ms ++ body_meaning ms c ∷ []) ≡ length ms + 1 = length-append ms (body_meaning ms c ∷ []) in
    ap (meaning_of (meanings_behind (ms ++ body_meaning ms c ∷ []) cs)) (omega arith)
    ∙ behind-at cs (ms ++ body_meaning ms c ∷ []) i (omega arith)

pub length-map : {A B : Type 0} → (f : A → B) (xs : List A) → length (map f xs) ≡ length xs
length-map f [] = refl
length-map f (x ∷ xs) = ap suc (length-map f xs)

-- what a function means, where the ones before it are known
pub meaning-at : (fs : List Function) (i : ℕ) (d : Function) → i < length fs →
    meaning_of (meanings (map code_of fs)) i ≡ body_meaning (meanings (map code_of (take i fs))) (code_of (get_or fs i d))
meaning-at fs i d h =
    let same : length (map code_of fs) ≡ length fs = length-map code_of fs in
    ap (meaning_of (meanings (map code_of fs))) (omega arith)
    ∙ behind-at (map code_of fs) [] i (omega arith)
    ∙ ap (λ cs. body_meaning (meanings cs) (get_or (map code_of fs) i [])) (take-map code_of i fs)
    ∙ ap (body_meaning (meanings (map code_of (take i fs)))) (get_or-map code_of fs i d [] h)

pub last-parts : {A : Type 0} → (old : List A) (n first : ℕ) → first ≡ length old - n → (take n (reverse old) ≡ reverse (drop first old)) × (drop n (reverse old) ≡ reverse (take first old))
last-parts old n first e =
    let whole : reverse old ≡ reverse (drop first old) ++ reverse (take first old) = ap reverse (sym (take-append-drop first old)) ∙ reverse-append (take first old) (drop first old) in
    elim (cases_lt (length old) n) [
      | inl less ↦
          let none : first ≡ 0 = omega (arith, e, less) in
          let all : length (reverse old) ≤ n = omega (arith, less, length-reverse old) in
          let same : drop first old ≡ old = ap (λ k. drop k old) none in (
            take_all n (reverse old) all ∙ ap reverse (sym same),
            drop_all n (reverse old) all ∙ ap (λ k. reverse (take k old)) (sym none),
          )
      | inr most ↦
          let many : length (reverse (drop first old)) ≡ n = length-reverse (drop first old) ∙ length-drop first old ∙ omega (arith, e, most) in (
            ap (take n) whole ∙ take_at (reverse (drop first old)) (reverse (take first old)) n many,
            ap (drop n) whole ∙ drop_at (reverse (drop first old)) (reverse (take first old)) n many,
          )
    ]

-- the last values of a stack are its top ones
pub last-values : (old es : List Expr) (n first : ℕ) → first ≡ length old - n → es ≡ drop first old → map term_of es ≡ reverse (take n (stack_of old))
unfolding Expansion.stack_of
last-values old es n first f e =
    sym (ap reverse (last-parts (map term_of old) n first (f ∙ ap (λ k. k - n) (sym (length-map term_of old)))).0 ∙ reverse-reverse (drop first (map term_of old)) ∙ drop-map term_of first old ∙ ap (map term_of) (sym e))

pub last-rest : (old new : List Expr) (n first : ℕ) → first ≡ length old - n → new ≡ take first old → stack_of new ≡ drop n (stack_of old)
unfolding Expansion.stack_of
last-rest old new n first f e =
    sym ((last-parts (map term_of old) n first (f ∙ ap (λ k. k - n) (sym (length-map term_of old)))).1 ∙ ap reverse (take-map term_of first old ∙ ap (map term_of) (sym e)))

pub stack-pop : (old new : List Expr) (e : Expr) → old ≡ new ++ e ∷ [] → (term_of e ≡ top (stack_of old)) × (stack_of new ≡ below (stack_of old))
stack-pop old new e h =
    let grown : stack_of old ≡ term_of e ∷ stack_of new = ap stack_of h ∙ stack-push new e in
    (ap top (sym grown), ap below (sym grown))

pub stack-none : (old new : List Expr) → length old ≡ 0 → length new ≡ 0 → (nothing ≡ top (stack_of old)) × (stack_of new ≡ below (stack_of old))
unfolding Expansion.stack_of
stack-none [] [] e f = (refl, refl)
stack-none [] (x ∷ xs) e f = absurd (omega arith)
stack-none (x ∷ xs) new e f = absurd (omega arith)

behind-length : (cs : List (List Op)) (ms : List Meaning) → length (meanings_behind ms cs) ≡ length ms + length cs
behind-length [] ms = omega arith
behind-length (c ∷ cs) ms =
    let longer : length (ms ++ body_meaning ms c ∷ []) ≡ length ms + 1 = length-append ms (body_meaning ms c ∷ []) in
    let rest = behind-length cs (ms ++ body_meaning ms c ∷ []) in
    omega (arith, longer, rest)

pub count-of : (fs : List Function) → length (meanings (map code_of fs)) ≡ length fs
count-of fs = behind-length (map code_of fs) [] ∙ (let e = length-map code_of fs in omega arith)

pub called-is : (fs : List Function) (i : ℕ) (d : Function) (args : List Term) (e : Term) (code : List Op) →
    i < length fs → code ≡ code_of (get_or fs i d) → e ≡ top (run (meanings (map code_of (take i fs))) args code []) →
    e ≡ meaning_of (meanings (map code_of fs)) i args
called-is fs i d args e code h same has =
    has ∙ ap (λ z. top (run (meanings (map code_of (take i fs))) args z [])) same ∙ sym (ap (λ (m : Meaning). m args) (meaning-at fs i d h))

pub called-past : (fs : List Function) (i : ℕ) (args : List Term) → length fs ≤ i → nothing ≡ meaning_of (meanings (map code_of fs)) i args
called-past fs i args h =
    sym (ap (λ (m : Meaning). m args) (get_or_past (meanings (map code_of fs)) i (λ z. nothing) (let e = count-of fs in omega (arith, e, h))))

-- one step more of a code that is run from a place on
pub run-more : (ms : List Meaning) (args : List Term) (code : List Op) (i : ℕ) (d : Op) (old new : List Expr) (o : Option Expr) (pushed : List Expr) (r : List Term) →
    i < length code → stacked o (stack_of new) ≡ step ms args (get_or code i d) (stack_of old) → stack_of pushed ≡ stacked o (stack_of new) →
    run ms args (drop i code) (stack_of old) ≡ r → run ms args (drop (i + 1) code) (stack_of pushed) ≡ r
run-more ms args code i d old new o pushed r h made grown before =
    ap (run ms args (drop (i + 1) code)) (grown ∙ made) ∙ sym (ap (λ z. run ms args z (stack_of old)) (drop_more code i d h)) ∙ before

pub stacked-push : (stack new : List Expr) (o : Option Expr) (e : Expr) → o ≡ Some e → new ≡ stack ++ e ∷ [] → stack_of new ≡ stacked o (stack_of stack)
stacked-push stack new o e is grown = ap stack_of grown ∙ stack-push stack e ∙ ap (λ (x : Option Expr). stacked x (stack_of stack)) (sym is)

pub stacked-same : (stack new : List Expr) (o : Option Expr) → ((e : Expr) → o ≡ Some e → ⊥) → new ≡ stack → stack_of new ≡ stacked o (stack_of stack)
stacked-same stack new None h e = ap stack_of e
stacked-same stack new (Some x) h e = absurd (h x refl)

pub run-begun : (ms : List Meaning) (args : List Term) (code : List Op) (es : List Expr) → es ≡ [] →
    run ms args (drop 0 code) (stack_of es) ≡ run ms args code []
run-begun ms args code es e = ap (run ms args code) (ap stack_of e ∙ stack-empty)

-- behind the last step
pub run-ended : (ms : List Meaning) (args : List Term) (code : List Op) (i : ℕ) (st r : List Term) → length code ≤ i →
    run ms args (drop i code) st ≡ r → st ≡ r
run-ended ms args code i st r h e = sym (ap (λ z. run ms args z st) (drop_all i code h)) ∙ e
