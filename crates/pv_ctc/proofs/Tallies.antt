-- What counters tell, step by step.
use Rattle.std.proofs.Common.{◌≡◌, ℕ, ◌+◌, ◌≤◌, refl, ap, ◌∙◌, arith}
use Rattle.std.specs.Prelude.{Option, Some, None, Result, Ok, Err, OnOk, OnErr}
use Rattle.pv_ctc.specs.Counters.{raised, RoseAtMost}

pub raised_none : (o : Option ℕ) → o ≡ raised o 0
raised_none None = refl
raised_none (Some m) = ap Some (omega arith)

pub raised_twice : (o : Option ℕ) (m n : ℕ) → raised (raised o m) n ≡ raised o (m + n)
raised_twice None m n = refl
raised_twice (Some k) m n = ap Some (omega arith)

-- a part of all was counted, and the rest is still to come
pub record SoMany (old now : Option ℕ) (rest all : ℕ) : Type 0 where
  pub part : ℕ
  pub told : now ≡ raised old part
  pub sum : part + rest ≡ all

pub all_to_come : (o : Option ℕ) (n : ℕ) → SoMany o o n n
all_to_come o n = record { part = 0; told = raised_none o; sum = omega arith }

pub some_more : (old now new : Option ℕ) (rest later all n : ℕ) → SoMany old now rest all → rest ≡ n + later → new ≡ raised now n → SoMany old new later all
some_more old now new rest later all n h e f =
    record { part = h.part + n; told = f ∙ ap (λ o. raised o n) h.told ∙ raised_twice old h.part n; sum = let s = h.sum in omega (arith, s, e) }

pub last_told : (old now new : Option ℕ) (rest all n : ℕ) → SoMany old now rest all → rest ≡ n → new ≡ raised now n → new ≡ raised old all
last_told old now new rest all n h e f =
    f ∙ ap (λ o. raised o n) h.told ∙ raised_twice old h.part n ∙ ap (raised old) (let s = h.sum in let p : h.part + n ≡ all = omega (arith, s, e) in p)

pub at_most_all : (old now new : Option ℕ) (rest all n : ℕ) → SoMany old now rest all → n ≤ rest → RoseAtMost n now new → RoseAtMost all old new
at_most_all old now new rest all n h l r =
    record {
      by = h.part + r.by;
      few = let s = h.sum in let f = r.few in omega (arith, s, f, l);
      is = r.is ∙ ap (λ o. raised o r.by) h.told ∙ raised_twice old h.part r.by;
    }

pub rose_none : (n : ℕ) (o : Option ℕ) → RoseAtMost n o o
rose_none n o = record { by = 0; few = omega arith; is = raised_none o }

pub rose_so_far : (old now : Option ℕ) (rest all : ℕ) → SoMany old now rest all → RoseAtMost all old now
rose_so_far old now rest all h = record { by = h.part; few = let s = h.sum in omega (arith, s); is = h.told }

pub rose_all : (n : ℕ) (old new : Option ℕ) → new ≡ raised old n → RoseAtMost n old new
rose_all n old new e = record { by = n; few = omega arith; is = e }

pub rose_fewer : (m n : ℕ) (old new : Option ℕ) → m ≤ n → RoseAtMost m old new → RoseAtMost n old new
rose_fewer m n old new l r = record { by = r.by; few = let f = r.few in omega (arith, f, l); is = r.is }

-- where nothing is told
pub untold : (o : Option ℕ) (n : ℕ) → o ≡ None → o ≡ raised o n
untold None n e = refl
untold (Some m) n e = absurd (cc)

pub for_err : {A E P : Type 0} (r : Result A E) → P → OnErr r P
for_err (Ok a) p = tt
for_err (Err e) p = p

pub for_ok : {A E P : Type 0} (r : Result A E) → P → OnOk r P
for_ok (Ok a) p = p
for_ok (Err e) p = tt
