-- The values that a code leaves, step by step.
use Rattle.std.proofs.Common.{◌≡◌, ℕ, zero, suc, ◌+◌, ◌-◌, ◌<◌, ◌≤◌, Bool, true, false, if◌then◌else◌, List, [], ◌∷◌, ◌++◌, get_or, length, reverse, map, take, drop, refl, ap, sym, subst, ◌∙◌, arith}
use Rattle.std.specs.Prelude.{All}
use Rattle.std.proofs.lemmas.List.{reverse-append, reverse-reverse, take_all, take_more, take_at, drop_at, length-reverse, length-take, get_or_past}
use Rattle.pv_expr.specs.declared.operators.UnaryOp.{UnaryOp}
use Rattle.pv_expr.specs.declared.operators.BinaryOp.{BinaryOp}
use Rattle.pv_expr.specs.Terms.{Term, one, two}
use Rattle.pv_code.specs.declared.code.Op.{Op}
use Rattle.pv_code.specs.declared.code.Op.TheVariants.{One, Two, Call}
use Rattle.pv_code.specs.declared.expand.Function.{Function}
use Rattle.pv_code.specs.declared.measure.Measure.{Measure}
use Rattle.pv_code.specs.declared.value.Value.{Value}
use Rattle.pv_code.specs.Expansion.{Meaning, argument, below, body_meaning, callee, code_of, filtered, is_used, meaning_of, meanings, nothing, run, step, top}
use Rattle.pv_code.specs.Sizes.{IsShortCall, IsSize}
use Rattle.pv_code.specs.Values as Values
use Rattle.pv_code.specs.Values.{AreAll, AreStacked, HasCode, HasSize, Represents, Setting, at}
use Rattle.pv_code.proofs.Building.{called-past, last-parts, meaning-at}
use Rattle.pv_code.proofs.Moving.{filtered-at}
use Rattle.pv_code.proofs.Sizing.{measured-at, measured-past}

-- ---- Lists of values

pub all-at : (P : Value → Term → Type 0) (vs : List Value) (ts : List Term) (i : ℕ) (d : Value) → AreAll P vs ts → i < length vs → P (get_or vs i d) (argument ts i)
all-at P [] [] i d s h = absurd (omega arith)
all-at P (v ∷ vs) (t ∷ ts) zero d s h = s.0
all-at P (v ∷ vs) (t ∷ ts) (suc i) d s h = all-at P vs ts i d s.1 (omega arith)
all-at P vs ts i d s h = absurd s

pub all-length : (P : Value → Term → Type 0) (vs : List Value) (ts : List Term) → AreAll P vs ts → length ts ≡ length vs
all-length P [] [] s = refl
all-length P (v ∷ vs) (t ∷ ts) s = ap suc (all-length P vs ts s.1)
all-length P vs ts s = absurd s

all-as : (P Q : Value → Term → Type 0) (vs : List Value) (ts : List Term) → ((v : Value) (t : Term) → P v t → Q v t) → AreAll P vs ts → AreAll Q vs ts
all-as P Q [] [] h s = tt
all-as P Q (v ∷ vs) (t ∷ ts) h s = (h v t s.0, all-as P Q vs ts h s.1)
all-as P Q vs ts h s = absurd s

all-append : (P : Value → Term → Type 0) (vs ws : List Value) (ts us : List Term) → AreAll P vs ts → AreAll P ws us → AreAll P (vs ++ ws) (ts ++ us)
all-append P [] ws [] us s r = r
all-append P (v ∷ vs) ws (t ∷ ts) us s r = (s.0, all-append P vs ws ts us s.1 r)
all-append P vs ws ts us s r = absurd s

all-reverse : (P : Value → Term → Type 0) (vs : List Value) (ts : List Term) → AreAll P vs ts → AreAll P (reverse vs) (reverse ts)
all-reverse P [] [] s = tt
all-reverse P (v ∷ vs) (t ∷ ts) s =
    subst (λ (z : List Value). AreAll P z (reverse (t ∷ ts))) (sym (reverse-append (v ∷ []) vs))
    (subst (λ (z : List Term). AreAll P (reverse vs ++ v ∷ []) z) (sym (reverse-append (t ∷ []) ts))
    (all-append P (reverse vs) (v ∷ []) (reverse ts) (t ∷ []) (all-reverse P vs ts s.1) (s.0, tt)))
all-reverse P vs ts s = absurd s

all-parts : (P : Value → Term → Type 0) (n : ℕ) (vs : List Value) (ts : List Term) → AreAll P vs ts → AreAll P (take n vs) (take n ts) × AreAll P (drop n vs) (drop n ts)
all-parts P zero vs ts s = (tt, s)
all-parts P (suc n) [] [] s = (tt, tt)
all-parts P (suc n) (v ∷ vs) (t ∷ ts) s = let rest = all-parts P n vs ts s.1 in ((s.0, rest.0), rest.1)
all-parts P (suc n) vs ts s = absurd s

-- ---- The stack

pub stacked-push : (x : Setting) (stack new : List Value) (v : Value) (t : Term) (ts : List Term) → new ≡ stack ++ v ∷ [] → Represents x v t → AreStacked x stack ts → AreStacked x new (t ∷ ts)
unfolding Values.AreStacked
stacked-push x stack new v t ts e s rest =
    subst (λ (z : List Value). AreAll (Represents x) z (t ∷ ts)) (sym (ap reverse e ∙ reverse-append stack (v ∷ []))) (s, rest)

first-of : (x : Setting) (v : Value) (vs : List Value) (ts : List Term) → AreAll (Represents x) (v ∷ vs) ts → Represents x v (top ts) × AreAll (Represents x) vs (below ts)
first-of x v vs [] s = absurd s
first-of x v vs (t ∷ ts) s = s

pub stacked-pop : (x : Setting) (old new : List Value) (v : Value) (ts : List Term) → old ≡ new ++ v ∷ [] → AreStacked x old ts → Represents x v (top ts) × AreStacked x new (below ts)
unfolding Values.AreStacked
stacked-pop x old new v ts e s =
    first-of x v (reverse new) ts (subst (λ (z : List Value). AreAll (Represents x) z ts) (ap reverse e ∙ reverse-append new (v ∷ [])) s)

pub stacked-begun : (x : Setting) (stack : List Value) → stack ≡ [] → AreStacked x stack []
unfolding Values.AreStacked
stacked-begun x [] e = tt
stacked-begun x (v ∷ vs) e = absurd (omega (arith, ap length e))

none-left : (x : Setting) (v : Value) (ts : List Term) → Represents x v nothing → AreAll (Represents x) [] ts → Represents x v (top ts) × AreAll (Represents x) [] (below ts)
none-left x v [] r s = (r, tt)
none-left x v (t ∷ ts) r s = absurd s

pub stacked-none : (x : Setting) (v : Value) (old new : List Value) (ts : List Term) → length old ≡ 0 → length new ≡ 0 → Represents x v nothing → AreStacked x old ts →
    Represents x v (top ts) × AreStacked x new (below ts)
unfolding Values.AreStacked
stacked-none x v [] [] ts e f r s = none-left x v ts r s
stacked-none x v [] (w ∷ ws) ts e f r s = absurd (omega arith)
stacked-none x v (w ∷ ws) new ts e f r s = absurd (omega arith)

pub stacked-call : (x : Setting) (old arguments new : List Value) (n first : ℕ) (ts : List Term) → first ≡ length old - n → arguments ≡ drop first old → new ≡ take first old → AreStacked x old ts →
    AreAll (Represents x) arguments (reverse (take n ts)) × AreStacked x new (drop n ts)
unfolding Values.AreStacked
stacked-call x old arguments new n first ts f a b s =
    let parts = last-parts old n first f in
    let both = all-parts (Represents x) n (reverse old) ts s in (
      subst (λ (z : List Value). AreAll (Represents x) z (reverse (take n ts))) (ap reverse parts.0 ∙ reverse-reverse (drop first old) ∙ sym a) (all-reverse (Represents x) (take n (reverse old)) (take n ts) both.0),
      subst (λ (z : List Value). AreAll (Represents x) z (drop n ts)) (parts.1 ∙ ap reverse (sym b)) both.1,
    )

pub few-arguments : (n : ℕ) (ts : List Term) → n ≤ 12 → length (reverse (take n ts)) ≤ 12
few-arguments n ts h = omega (arith, length-reverse (take n ts), length-take n ts)

-- ---- One value

pub run-append : (ms : List Meaning) (args : List Term) (a b : List Op) (st : List Term) → run ms args (a ++ b) st ≡ run ms args b (run ms args a st)
run-append ms args [] b st = refl
run-append ms args (o ∷ a) b st = run-append ms args a b (step ms args o st)

-- a code that ends with a step
run-last : (ms : List Meaning) (args : List Term) (before new : List Op) (o o' : Op) (st mid : List Term) → new ≡ before ++ o ∷ [] → o ≡ o' → run ms args before st ≡ mid → run ms args new st ≡ step ms args o' mid
run-last ms args before new o o' st mid grown is ran =
    ap (λ z. run ms args z st) grown ∙ run-append ms args before (o ∷ []) st ∙ ap (step ms args o) ran ∙ ap (λ (z : Op). step ms args z mid) is

-- of one step
pub of-step : (x : Setting) (v : Value) (m : Measure) (o o' : Op) (t : Term) → v.measure ≡ m → v.code.items ≡ o ∷ [] → o ≡ o' →
    ((st : List Term) → step (meanings (map code_of x.functions)) x.arguments o' st ≡ t ∷ st) → (length x.arguments ≤ 12 → IsSize m x.arguments t) → Represents x v t
of-step x v m o o' t measured-is code-is is steps sized = record {
  size = λ short measured few. subst (λ (n : Measure). IsSize n x.arguments t) (sym measured-is) (sized few);
  code = λ stand st. run-last (meanings (map code_of x.functions)) x.arguments [] v.code.items o o' st st code-is is refl ∙ steps st;
}

pub of-one : (x : Setting) (v r : Value) (o : Op) (u : UnaryOp) (t : Term) → o ≡ One u → r.code.items ≡ v.code.items ++ o ∷ [] →
    ((args : List Term) (t : Term) (w : UnaryOp) → length args ≤ 12 → HasSize args v t → HasSize args r (one w t)) →
    Represents x v t → Represents x r (one u t)
of-one x v r o u t is code sized s = record {
  size = λ short measured few. sized x.arguments t u few (s.size short measured few);
  code = λ stand st. run-last (meanings (map code_of x.functions)) x.arguments v.code.items r.code.items o (One u) st (t ∷ st) code is (s.code stand st);
}

pub of-two : (x : Setting) (v w r : Value) (o : Op) (b : BinaryOp) (t u : Term) → o ≡ Two b → r.code.items ≡ (v.code.items ++ w.code.items) ++ o ∷ [] →
    ((args : List Term) (t u : Term) (c : BinaryOp) → length args ≤ 12 → HasSize args v t → HasSize args w u → HasSize args r (two c t u)) →
    Represents x v t → Represents x w u → Represents x r (two b t u)
of-two x v w r o b t u is code sized s s' = record {
  size = λ short measured few. sized x.arguments t u b few (s.size short measured few) (s'.size short measured few);
  code = λ stand st.
      run-last (meanings (map code_of x.functions)) x.arguments (v.code.items ++ w.code.items) r.code.items o (Two b) st (u ∷ (t ∷ st)) code is
      (run-append (meanings (map code_of x.functions)) x.arguments v.code.items w.code.items st ∙ ap (run (meanings (map code_of x.functions)) x.arguments w.code.items) (s.code stand st) ∙ s'.code stand (t ∷ st));
}

-- a step that leaves a value on the stack
pub placed : (x : Setting) (o o' : Op) (ts rest : List Term) (t : Term) (stack mid new : List Value) (made v : Value) → o ≡ o' → step x.meanings x.arguments o' ts ≡ t ∷ rest →
    stack ≡ mid → made ≡ v → new ≡ stack ++ made ∷ [] → Represents x v t → AreStacked x mid rest → AreStacked x new (step x.meanings x.arguments o ts)
placed x o o' ts rest t stack mid new made v is steps stack-is made-is grown represents left =
    subst (λ (z : List Term). AreStacked x new z) (sym (ap (λ (z : Op). step x.meanings x.arguments z ts) is ∙ steps))
    (stacked-push x stack new made t rest grown (subst (λ (z : Value). Represents x z t) (sym made-is) represents) (subst (λ (z : List Value). AreStacked x z rest) (sym stack-is) left))

-- ---- Calls

filtered-length : (us : List Bool) (ts : List Term) → length (filtered us ts) ≡ length ts
filtered-length [] ts = refl
filtered-length (u ∷ us) [] = refl
filtered-length (true ∷ us) (t ∷ ts) = ap suc (filtered-length us ts)
filtered-length (false ∷ us) (t ∷ ts) = ap suc (filtered-length us ts)

pub used-at : (ms : List Meaning) (args ts : List Term) (us : List Bool) (vs : List Value) (i : ℕ) (d : Value) (code : List Op) → i < length vs → is_used us i ≡ true →
    code ≡ (get_or vs i d).code.items → AreAll (HasCode ms args) vs ts → (st : List Term) → run ms args code st ≡ argument (filtered us ts) i ∷ st
used-at ms args ts us vs i d code l used is all st =
    ap (λ z. run ms args z st) is ∙ all-at (HasCode ms args) vs ts i d all l st
    ∙ ap (λ t. t ∷ st) (sym (filtered-at us ts i ∙ ap (λ (b : Bool). if b then argument ts i else nothing) used))

pub unused-at : (us : List Bool) (ts : List Term) (i : ℕ) → is_used us i ≡ false → nothing ≡ argument (filtered us ts) i
unused-at us ts i unused = sym (filtered-at us ts i ∙ ap (λ (b : Bool). if b then argument ts i else nothing) unused)

pub past-at : (P : Value → Term → Type 0) (vs : List Value) (ts : List Term) (us : List Bool) (i : ℕ) → AreAll P vs ts → length vs ≤ i → nothing ≡ argument (filtered us ts) i
past-at P vs ts us i all h = sym (get_or_past (filtered us ts) i nothing (omega (arith, filtered-length us ts, all-length P vs ts all, h)))

-- the code of the first so many arguments
abbrev pub PutsArguments : List Bool → List Value → ℕ → List Op → Type 0
PutsArguments us vs i code = (ms : List Meaning) (args ts : List Term) → AreAll (HasCode ms args) vs ts → (st : List Term) →
    run ms args code st ≡ reverse (take i (filtered us ts)) ++ st

pub puts-more : (us : List Bool) (vs : List Value) (i : ℕ) (old piece new : List Op) → i < length vs → PutsArguments us vs i old → new ≡ old ++ piece →
    ((ms : List Meaning) (args ts : List Term) → AreAll (HasCode ms args) vs ts → (st : List Term) → run ms args piece st ≡ argument (filtered us ts) i ∷ st) → PutsArguments us vs (i + 1) new
puts-more us vs i old piece new l before grown put = λ ms args ts all st.
    let within : i < length (filtered us ts) = omega (arith, filtered-length us ts, all-length (HasCode ms args) vs ts all) in
    ap (λ z. run ms args z st) grown ∙ run-append ms args old piece st ∙ put ms args ts all (run ms args old st) ∙ ap (λ z. argument (filtered us ts) i ∷ z) (before ms args ts all st)
    ∙ ap (λ z. z ++ st) (sym (ap reverse (take_more (filtered us ts) i nothing within) ∙ reverse-append (take i (filtered us ts)) (argument (filtered us ts) i ∷ [])))

pub puts-all : (us : List Bool) (vs : List Value) (i k n : ℕ) (old new : List Op) → length vs ≤ i → n ≡ length vs → PutsArguments us vs i old → new ≡ old ++ Call k n ∷ [] →
    (ms : List Meaning) (args ts : List Term) → AreAll (HasCode ms args) vs ts → (st : List Term) → run ms args new st ≡ meaning_of ms k (filtered us ts) ∷ st
puts-all us vs i k n old new l count before grown ms args ts all st =
    let y : List Term = filtered us ts in
    let many : length y ≡ n = filtered-length us ts ∙ all-length (HasCode ms args) vs ts all ∙ sym count in
    let turned : length (reverse y) ≡ n = length-reverse y ∙ many in
    ap (λ z. run ms args z st) grown ∙ run-append ms args old (Call k n ∷ []) st
    ∙ ap (step ms args (Call k n)) (before ms args ts all st ∙ ap (λ z. reverse z ++ st) (take_all i y (omega (arith, many, count, l))))
    ∙ ap (λ z. meaning_of ms k (reverse (take n (reverse y ++ st))) ∷ z) (drop_at (reverse y) st n turned)
    ∙ ap (λ z. meaning_of ms k z ∷ st) (ap reverse (take_at (reverse y) st n turned) ∙ reverse-reverse y)

callee-at : (fs : List Function) (k : ℕ) (d : Function) → k < length fs → callee fs k ≡ (get_or fs k d).uses.items
callee-at [] k d h = absurd (omega arith)
callee-at (f ∷ fs) zero d h = refl
callee-at (f ∷ fs) (suc k) d h = callee-at fs k d (omega arith)

pub of-call : (x : Setting) (v : Value) (vs : List Value) (k : ℕ) (f d : Function) (ts : List Term) → k < length x.functions → f ≡ get_or x.functions k d →
    (All IsShortCall x.code → length ts ≤ 12) →
    ((args inner : List Term) (t : Term) → length args ≤ 12 → AreAll (HasSize args) vs inner → IsSize f.measure inner t → HasSize args v t) →
    ((ms inner : List Meaning) (args ts : List Term) → ((xs : List Term) → meaning_of ms k xs ≡ body_meaning inner f.code.items xs) → AreAll (HasCode ms args) vs ts →
    (st : List Term) → run ms args v.code.items st ≡ meaning_of ms k (filtered f.uses.items ts) ∷ st) →
    AreAll (Represents x) vs ts → Represents x v (meaning_of x.meanings k ts)
of-call x v vs k f d ts within is few sized coded all = record {
  size = λ short measured small.
      sized x.arguments ts (meaning_of x.meanings k ts) small (all-as (Represents x) (HasSize x.arguments) vs ts (λ w t r. r.size short measured small) all)
      (subst (λ (g : Function). IsSize g.measure ts (meaning_of x.meanings k ts)) (sym is) (measured-at x.functions x.meanings k d measured within ts (few short)));
  code = λ stand st.
      coded (meanings (map code_of x.functions)) (meanings (map code_of (take k x.functions))) x.arguments ts
      (λ xs. ap (λ (m : Meaning). m xs) (meaning-at x.functions k d within) ∙ ap (λ (g : Function). body_meaning (meanings (map code_of (take k x.functions))) g.code.items xs) (sym is))
      (all-as (Represents x) (HasCode (meanings (map code_of x.functions)) x.arguments) vs ts (λ w t r. r.code stand) all) st
      ∙ ap (λ (t : Term). t ∷ st) (ap (λ (us : List Bool). meaning_of (meanings (map code_of x.functions)) k (filtered us ts)) (ap (λ (g : Function). g.uses.items) is ∙ sym (callee-at x.functions k d within)) ∙ sym (stand k ts));
}

pub of-unknown : (x : Setting) (v : Value) (k : ℕ) (ts : List Term) → length x.functions ≤ k → Represents x v nothing → Represents x v (meaning_of x.meanings k ts)
of-unknown x v k ts h r = record {
  size = λ short measured few. subst (λ (t : Term). HasSize x.arguments v t) (sym (measured-past x.functions x.meanings k ts measured h)) (r.size short measured few);
  code = λ stand st. r.code stand st ∙ ap (λ (t : Term). t ∷ st) (called-past x.functions k (filtered (callee x.functions k) ts) h ∙ sym (stand k ts));
}

-- ---- A whole code

pub left-more : (fs : List Function) (code : List Op) (i : ℕ) (d : Op) (old new : List Value) → i < length code →
    ((ms : List Meaning) (args : List Term) → AreStacked (at fs ms args code) old (run ms args (take i code) [])) →
    ((whole : List Op) (ms : List Meaning) (args ts : List Term) → (All IsShortCall whole → IsShortCall (get_or code i d)) → AreStacked (at fs ms args whole) old ts →
    AreStacked (at fs ms args whole) new (step ms args (get_or code i d) ts)) →
    (ms : List Meaning) (args : List Term) → AreStacked (at fs ms args code) new (run ms args (take (i + 1) code) [])
left-more fs code i d old new h before one_more ms args =
    subst (λ (z : List Term). AreStacked (at fs ms args code) new z) (sym (ap (λ z. run ms args z []) (take_more code i d h) ∙ run-append ms args (take i code) (get_or code i d ∷ []) []))
    (one_more code ms args (run ms args (take i code) []) (λ short. short i d h) (before ms args))
