-- A text is refused at the first token that no program's text begins with.
use Rattle.std.proofs.Common.{◌≡◌, ℕ, zero, suc, ◌+◌, ◌-◌, ◌^◌, ◌<◌, ◌≤◌, ◌⊎◌, inl, inr, Bool, true, false, cond, nat_lt, List, [], ◌∷◌, ◌++◌, length, refl, ap, sym, ◌∙◌, subst, arith, Option, Some, None}
use Rattle.std.proofs.lemmas.Bool.Decides.{nat_tests}
use Rattle.pv_ctc.specs.declared.token.Token.{Token}
use Rattle.pv_ctc.specs.declared.token.Token.TheVariants.{Word, Number, Open, Close, Comma, End}
use Rattle.pv_ctc.specs.declared.token.Word.{Word as Name}
use Rattle.pv_ctc.specs.declared.token.Word.TheVariants.{Hc4, Compose, Union, QInter, Fix, Prop}
use Rattle.pv_ctc.specs.Plans.{Plan, Plans, hc4, compose, union, qinter, fix, prop, no_plan, plan_and, plan_count, IsFor, AreFor}
use Rattle.pv_ctc.specs.Symbols.{Placed, tokens_at}
use Rattle.pv_ctc.specs.Refusals.{Due, Counted, nothing, programs, exactly, a_program, a_number, more_programs, in_range, is_mark, arguments_due, counted_due, allowed, in_front, met, refusal, named_with, refused_at}
use Rattle.pv_ctc.specs.Beginnings.{QuorumsFit, AllQuorumsFit, Begins, FirstWrong, tokens_in, named_in}
use Rattle.pv_ctc.proofs.Running.{program_tokens, list_tokens, more_tokens, tokens_of_program, onward, run, run_append, run_number, run_program, run_more}

-- ---- Tokens that leave nothing due are those of what was due

record OnePlan (count : ℕ) (ts : List Token) (Q : List Token → Type 0) : Type 0 where
  plan : Plan
  rest : List Token
  fits : IsFor count plan
  quorums : QuorumsFit plan
  spelled : ts ≡ program_tokens plan rest
  further_on : Q rest

record OneNumber (low limit : ℕ) (ts : List Token) (Q : List Token → Type 0) : Type 0 where
  number : ℕ
  rest : List Token
  low_is : low ≤ number
  high_is : number < limit
  spelled : ts ≡ Number number ∷ rest
  further_on : Q rest

record OneQuorum (count low limit : ℕ) (ts : List Token) (Q : List Token → Type 0) : Type 0 where
  number : ℕ
  plans : Plans
  rest : List Token
  low_is : low ≤ number
  high_is : number < limit
  enough : number ≤ plan_count plans
  fit : AreFor count plans
  quorums : AllQuorumsFit plans
  spelled : ts ≡ Number number ∷ Comma ∷ list_tokens plans (Close ∷ rest)
  further_on : Q rest

record MorePlans (count k : ℕ) (ts : List Token) (Q : List Token → Type 0) : Type 0 where
  plans : Plans
  rest : List Token
  enough : k ≤ plan_count plans
  fit : AreFor count plans
  quorums : AllQuorumsFit plans
  spelled : ts ≡ more_tokens plans (Close ∷ rest)
  further_on : Q rest

record OneMark (u : Token) (ts : List Token) (Q : List Token → Type 0) : Type 0 where
  rest : List Token
  spelled : ts ≡ u ∷ rest
  further_on : Q rest

abbrev Made : ℕ → List Due → List Token → Type 0
Made count [] ts = ts ≡ []
Made count (exactly u ∷ due) ts = OneMark u ts (Made count due)
Made count (a_program ∷ due) ts = OnePlan count ts (Made count due)
Made count (a_number low limit nothing ∷ due) ts = OneNumber low limit ts (Made count due)
Made count (a_number low limit programs ∷ due) ts = OneQuorum count low limit ts (Made count due)
Made count (more_programs k ∷ due) ts = MorePlans count k ts (Made count due)

refuted : {A : Type 0} (due : List Due) → None ≡ Some due → A
refuted due e = absurd (let b : ⊥ = cc in b)

word_plan : (count : ℕ) (w : Name) (due : List Due) (rest : List Token) → Made count (exactly Open ∷ arguments_due count w ++ due) rest → OnePlan count (Word w ∷ rest) (Made count due)
word_plan count Hc4 due rest d =
    let n = d.further_on in
    let c = n.further_on in
    record { plan = hc4 n.number; rest = c.rest; fits = n.high_is; quorums = tt; spelled = ap (λ x. Word Hc4 ∷ x) (d.spelled ∙ ap (λ x. Open ∷ x) (n.spelled ∙ ap (λ x. Number n.number ∷ x) c.spelled)); further_on = c.further_on }
word_plan count Prop due rest d =
    let n = d.further_on in
    let c = n.further_on in
    record { plan = prop n.number; rest = c.rest; fits = (n.low_is, omega (arith, n.high_is)); quorums = tt; spelled = ap (λ x. Word Prop ∷ x) (d.spelled ∙ ap (λ x. Open ∷ x) (n.spelled ∙ ap (λ x. Number n.number ∷ x) c.spelled)); further_on = c.further_on }
word_plan count Compose due rest d =
    let p = d.further_on in
    let m = p.further_on in
    record { plan = compose (plan_and p.plan m.plans); rest = m.rest; fits = (omega arith, (p.fits, m.fit)); quorums = (p.quorums, m.quorums); spelled = ap (λ x. Word Compose ∷ x) (d.spelled ∙ ap (λ x. Open ∷ x) (p.spelled ∙ ap (program_tokens p.plan) m.spelled)); further_on = m.further_on }
word_plan count Union due rest d =
    let p = d.further_on in
    let m = p.further_on in
    record { plan = union (plan_and p.plan m.plans); rest = m.rest; fits = (omega arith, (p.fits, m.fit)); quorums = (p.quorums, m.quorums); spelled = ap (λ x. Word Union ∷ x) (d.spelled ∙ ap (λ x. Open ∷ x) (p.spelled ∙ ap (program_tokens p.plan) m.spelled)); further_on = m.further_on }
word_plan count QInter due rest d =
    let n = d.further_on in
    record { plan = qinter n.number n.plans; rest = n.rest; fits = (n.low_is, n.enough, n.fit); quorums = (omega (arith, n.high_is), n.quorums); spelled = ap (λ x. Word QInter ∷ x) (d.spelled ∙ ap (λ x. Open ∷ x) n.spelled); further_on = n.further_on }
word_plan count Fix due rest d =
    let n = d.further_on in
    let m = n.further_on in
    let p = m.further_on in
    let c = p.further_on in
    record {
      plan = fix n.number p.plan;
      rest = c.rest;
      fits = (n.low_is, omega (arith, n.high_is), p.fits);
      quorums = p.quorums;
      spelled = ap (λ x. Word Fix ∷ x) (d.spelled ∙ ap (λ x. Open ∷ x) (n.spelled ∙ ap (λ x. Number n.number ∷ x) (m.spelled ∙ ap (λ x. Comma ∷ x) (p.spelled ∙ ap (program_tokens p.plan) c.spelled))));
      further_on = c.further_on;
    }

quorum_plans : (count low limit n : ℕ) (due : List Due) (rest : List Token) → low ≤ n → n < limit → Made count (exactly Comma ∷ a_program ∷ more_programs (n - 1) ∷ due) rest → OneQuorum count low limit (Number n ∷ rest) (Made count due)
quorum_plans count low limit n due rest l h d =
    let p = d.further_on in
    let m = p.further_on in
    record {
      number = n;
      plans = plan_and p.plan m.plans;
      rest = m.rest;
      low_is = l;
      high_is = h;
      enough = omega (arith, m.enough);
      fit = (p.fits, m.fit);
      quorums = (p.quorums, m.quorums);
      spelled = ap (λ x. Number n ∷ x) (d.spelled ∙ ap (λ x. Comma ∷ x) (p.spelled ∙ ap (program_tokens p.plan) m.spelled));
      further_on = m.further_on;
    }

more_plans : (count k : ℕ) (due : List Due) (rest : List Token) → Made count (a_program ∷ more_programs (k - 1) ∷ due) rest → MorePlans count k (Comma ∷ rest) (Made count due)
more_plans count k due rest d =
    let m = d.further_on in
    record { plans = plan_and d.plan m.plans; rest = m.rest; enough = omega (arith, m.enough); fit = (d.fits, m.fit); quorums = (d.quorums, m.quorums); spelled = ap (λ x. Comma ∷ x) (d.spelled ∙ ap (program_tokens d.plan) m.spelled); further_on = m.further_on }

made_step : (count : ℕ) (due : List Due) (t : Token) (ts : List Token) → ((now : List Due) → run count ts now ≡ Some [] → Made count now ts) → run count (t ∷ ts) due ≡ Some [] → Made count due (t ∷ ts)
made_step count [] t ts f h = refuted [] h
made_step count (exactly Open ∷ due) Open ts f h = record { rest = ts; spelled = refl; further_on = f due h }
made_step count (exactly Close ∷ due) Close ts f h = record { rest = ts; spelled = refl; further_on = f due h }
made_step count (exactly Comma ∷ due) Comma ts f h = record { rest = ts; spelled = refl; further_on = f due h }
made_step count (exactly End ∷ due) End ts f h = record { rest = ts; spelled = refl; further_on = f due h }
made_step count (exactly u ∷ due) t ts f h = refuted [] h
made_step count (a_program ∷ due) (Word w) ts f h = word_plan count w due ts (f (exactly Open ∷ arguments_due count w ++ due) h)
made_step count (a_program ∷ due) t ts f h = refuted [] h
made_step count (a_number low limit c ∷ due) (Number n) ts f h = cases c (in_range low limit n) refl h
  where
    inside : in_range low limit n ≡ true → (low ≤ n) × (n < limit)
    inside r = (grind (arith, nat_tests), grind (arith, nat_tests))

    cases : (c : Counted) (b : Bool) → in_range low limit n ≡ b → onward (in_front (cond b (Some (counted_due c n)) None) due) (λ now. run count ts now) ≡ Some [] → Made count (a_number low limit c ∷ due) (Number n ∷ ts)
    cases nothing true r h = record { number = n; rest = ts; low_is = (inside r).0; high_is = (inside r).1; spelled = refl; further_on = f due h }
    cases programs true r h = quorum_plans count low limit n due ts (inside r).0 (inside r).1 (f (exactly Comma ∷ a_program ∷ more_programs (n - 1) ∷ due) h)
    cases nothing false r h = refuted [] h
    cases programs false r h = refuted [] h
made_step count (a_number low limit c ∷ due) t ts f h = refuted [] h
made_step count (more_programs k ∷ due) Comma ts f h = more_plans count k due ts (f (a_program ∷ more_programs (k - 1) ∷ due) h)
made_step count (more_programs zero ∷ due) Close ts f h = record { plans = no_plan; rest = ts; enough = omega arith; fit = tt; quorums = tt; spelled = refl; further_on = f due h }
made_step count (more_programs k ∷ due) t ts f h = refuted [] h

made : (count : ℕ) (ts : List Token) (due : List Due) → run count ts due ≡ Some [] → Made count due ts
made count [] [] h = refl
made count [] (d ∷ due) h = absurd (let b : ⊥ = cc in b)
made count (t ∷ ts) due h = made_step count due t ts (λ now r. made count ts now r) h

-- ---- Whatever is due has tokens

abbrev CanEnd : List Due → Type 0
CanEnd [] = Unit {0}
CanEnd (exactly u ∷ due) = (is_mark u u ≡ true) × CanEnd due
CanEnd (a_program ∷ due) = CanEnd due
CanEnd (a_number low limit c ∷ due) = (low < limit) × CanEnd due
CanEnd (more_programs k ∷ due) = CanEnd due

record Ending (count : ℕ) (due : List Due) : Type 0 where
  tokens : List Token
  ends : run count tokens due ≡ Some []

copies : ℕ → Plans
copies zero = no_plan
copies (suc k) = plan_and (hc4 0) (copies k)

copies_count : (k : ℕ) → plan_count (copies k) ≡ k
unfolding copies
copies_count zero = refl
copies_count (suc k) = let e = copies_count k in omega arith

copies_fit : (count k : ℕ) → 1 ≤ count → AreFor count (copies k)
unfolding copies
copies_fit count zero h = tt
copies_fit count (suc k) h = (omega arith, copies_fit count k h)

copies_quorums : (k : ℕ) → AllQuorumsFit (copies k)
unfolding copies
copies_quorums zero = tt
copies_quorums (suc k) = (tt, copies_quorums k)

end_program : (count : ℕ) (due : List Due) → 1 ≤ count → Ending count due → Ending count (a_program ∷ due)
end_program count due h e = record { tokens = program_tokens (hc4 0) e.tokens; ends = run_program count (hc4 0) e.tokens due (omega arith) tt ∙ e.ends }

end_more : (count k : ℕ) (due : List Due) → 1 ≤ count → Ending count due → Ending count (more_programs k ∷ due)
end_more count k due h e = record { tokens = more_tokens (copies k) (Close ∷ e.tokens); ends = run_more count (copies k) k e.tokens due (copies_fit count k h) (copies_quorums k) (let c = copies_count k in omega arith) ∙ e.ends }

ending : (count : ℕ) (due : List Due) → 1 ≤ count → CanEnd due → Ending count due
ending count [] h v = record { tokens = []; ends = refl }
ending count (exactly u ∷ due) h v =
    let e = ending count due h v.1 in
    record { tokens = u ∷ e.tokens; ends = ap (λ b. onward (in_front (cond b (Some []) None) due) (λ now. run count e.tokens now)) v.0 ∙ e.ends }
ending count (a_program ∷ due) h v = end_program count due h (ending count due h v)
ending count (a_number low limit nothing ∷ due) h v =
    let e = ending count due h v.1 in
    record { tokens = Number low ∷ e.tokens; ends = run_number count low limit low nothing due e.tokens (omega arith) v.0 ∙ e.ends }
ending count (a_number low limit programs ∷ due) h v =
    let e = end_program count (more_programs (low - 1) ∷ due) h (end_more count (low - 1) due h (ending count due h v.1)) in
    record { tokens = Number low ∷ Comma ∷ e.tokens; ends = run_number count low limit low programs due (Comma ∷ e.tokens) (omega arith) v.0 ∙ e.ends }
ending count (more_programs k ∷ due) h v = end_more count k due h (ending count due h v)

-- what is due then has tokens too
stays : (count : ℕ) (due : List Due) (t : Token) (now : List Due) → 1 ≤ count → CanEnd due → allowed count 0 due t ≡ Some now → CanEnd now
stays count [] t now h v e = refuted now e
stays count (exactly u ∷ due) t now h v e = cases (is_mark u t) e
  where
    cases : (b : Bool) → in_front (cond b (Some []) None) due ≡ Some now → CanEnd now
    cases true e = subst CanEnd (some_is due now e) v.1
      where
        some_is : (x y : List Due) → Some x ≡ Some y → x ≡ y
        some_is x y e = cc
    cases false e = refuted now e
stays count (a_program ∷ due) (Word w) now h v e = subst CanEnd (some_is (exactly Open ∷ arguments_due count w ++ due) now e) (cases w)
  where
    some_is : (x y : List Due) → Some x ≡ Some y → x ≡ y
    some_is x y e = cc

    cases : (w : Name) → CanEnd (exactly Open ∷ arguments_due count w ++ due)
    cases Hc4 = (refl, (omega arith, (refl, v)))
    cases Compose = (refl, v)
    cases Union = (refl, v)
    cases QInter = (refl, (omega arith, v))
    cases Fix = (refl, (omega arith, (refl, (refl, v))))
    cases Prop = (refl, (omega arith, (refl, v)))
stays count (a_program ∷ due) t now h v e = refuted now e
stays count (a_number low limit c ∷ due) (Number n) now h v e = cases c (in_range low limit n) e
  where
    some_is : (x y : List Due) → Some x ≡ Some y → x ≡ y
    some_is x y e = cc

    cases : (c : Counted) (b : Bool) → in_front (cond b (Some (counted_due c n)) None) due ≡ Some now → CanEnd now
    cases nothing true e = subst CanEnd (some_is due now e) v.1
    cases programs true e = subst CanEnd (some_is (exactly Comma ∷ a_program ∷ more_programs (n - 1) ∷ due) now e) (refl, v.1)
    cases nothing false e = refuted now e
    cases programs false e = refuted now e
stays count (a_number low limit c ∷ due) t now h v e = refuted now e
stays count (more_programs k ∷ due) Comma now h v e = subst CanEnd (some_is (a_program ∷ more_programs (k - 1) ∷ due) now e) v
  where
    some_is : (x y : List Due) → Some x ≡ Some y → x ≡ y
    some_is x y e = cc
stays count (more_programs zero ∷ due) Close now h v e = subst CanEnd (some_is due now e) v
  where
    some_is : (x y : List Due) → Some x ≡ Some y → x ≡ y
    some_is x y e = cc
stays count (more_programs k ∷ due) t now h v e = refuted now e

-- ---- Where the reader stops

record Stop (count named byte : ℕ) (ps : List Placed) (due : List Due) : Type 0 where
  before : List Placed
  here : Placed
  after : List Placed
  now : List Due
  parted : ps ≡ before ++ here ∷ after
  place : here.place ≡ byte
  ran : run count (tokens_in before) due ≡ Some now
  viable : CanEnd now
  few : named_in (tokens_in before) + named ≤ 256
  wrong : (allowed count 0 now here.token ≡ None) ⊎ ((w : Name) × (here.token ≡ Word w) × (named_in (tokens_in before) + named ≡ 256))

-- a rule of so many programs is that of none, but for one program too many
rule : (count named : ℕ) (due : List Due) (t : Token) → (allowed count named due t ≡ allowed count 0 due t) ⊎ ((w : Name) × (t ≡ Word w) × (256 ≤ named) × (allowed count named due t ≡ None))
rule count named [] t = inl refl
rule count named (exactly u ∷ due) t = inl refl
rule count named (a_program ∷ due) (Word w) = cases (nat_lt named 256) refl
  where
    cases : (b : Bool) → nat_lt named 256 ≡ b → (in_front (cond (nat_lt named 256) (Some (exactly Open ∷ arguments_due count w)) None) due ≡ Some (exactly Open ∷ arguments_due count w ++ due)) ⊎ ((v : Name) × (Word w ≡ Word v) × (256 ≤ named) × (in_front (cond (nat_lt named 256) (Some (exactly Open ∷ arguments_due count w)) None) due ≡ None))
    cases true e = inl (ap (λ b. in_front (cond b (Some (exactly Open ∷ arguments_due count w)) None) due) e)
    cases false e = let full : 256 ≤ named = grind (arith, nat_tests) in inr (w, refl, full, ap (λ b. in_front (cond b (Some (exactly Open ∷ arguments_due count w)) None) due) e)
rule count named (a_program ∷ due) t = inl refl
rule count named (a_number low limit c ∷ due) (Number n) = inl refl
rule count named (a_number low limit c ∷ due) t = inl refl
rule count named (more_programs k ∷ due) t = inl refl

-- no more than 256 programs are named
room : (count named : ℕ) (due : List Due) (t : Token) (now : List Due) → named ≤ 256 → allowed count named due t ≡ Some now → named_with t named ≤ 256
room count named [] t now l e = refuted now e
room count named (exactly u ∷ due) (Word w) now l e = cases (is_mark u (Word w)) (no_word u) e
  where
    no_word : (u : Token) → is_mark u (Word w) ≡ false
    no_word Open = refl
    no_word u = refl

    cases : (b : Bool) → b ≡ false → in_front (cond b (Some []) None) due ≡ Some now → named + 1 ≤ 256
    cases true f e = absurd (let b : ⊥ = cc in b)
    cases false f e = refuted now e
room count named (exactly u ∷ due) t now l e = l
room count named (a_program ∷ due) (Word w) now l e = cases (nat_lt named 256) refl e
  where
    cases : (b : Bool) → nat_lt named 256 ≡ b → in_front (cond b (Some (exactly Open ∷ arguments_due count w)) None) due ≡ Some now → named + 1 ≤ 256
    cases true f e = let h : named < 256 = grind (arith, nat_tests) in omega arith
    cases false f e = refuted now e
room count named (a_number low limit c ∷ due) (Word w) now l e = refuted now e
room count named (more_programs k ∷ due) (Word w) now l e = refuted now e
room count named due t now l e = l

named_later : (t : Token) (m n : ℕ) → named_with t m + n ≡ m + named_with t n
named_later (Word w) m n = omega arith
named_later t m n = refl

find : (count : ℕ) → 1 ≤ count → (byte : ℕ) (ps : List Placed) (named : ℕ) (due : List Due) → named ≤ 256 → CanEnd due → refusal ps count named due ≡ Some byte → Stop count named byte ps due
find count some byte [] named due l v h = absurd (let b : ⊥ = cc in b)
find count some byte (p ∷ ps) named due l v h =
    elim (rule count named due p.token) [ inl same ↦ (cases (λ m now k u r. find count some byte ps m now k u r) (allowed count named due p.token) refl same h) | inr full ↦ (stopped full h) ]
  where
    place_is : (m n : ℕ) → Some m ≡ Some n → m ≡ n
    place_is m n e = cc

    here_is : (o : Option (List Due)) → o ≡ None → met o p.place (λ now. refusal ps count (named_with p.token named) now) ≡ Some byte → p.place ≡ byte
    here_is o e h = place_is p.place byte (ap (λ x. met x p.place (λ now. refusal ps count (named_with p.token named) now)) (sym e) ∙ h)

    stopped : (w : Name) × (p.token ≡ Word w) × (256 ≤ named) × (allowed count named due p.token ≡ None) → refusal (p ∷ ps) count named due ≡ Some byte → Stop count named byte (p ∷ ps) due
    stopped full h = record { before = []; here = p; after = ps; now = due; parted = refl; place = here_is (allowed count named due p.token) full.3 h; ran = refl; viable = v; few = omega (arith, l); wrong = inr (full.0, full.1, (let g = full.2 in omega arith)) }

    further : (now : List Due) → allowed count 0 due p.token ≡ Some now → Stop count (named_with p.token named) byte ps now → Stop count named byte (p ∷ ps) due
    further now e s = record {
      before = p ∷ s.before;
      here = s.here;
      after = s.after;
      now = s.now;
      parted = ap (λ xs. p ∷ xs) s.parted;
      place = s.place;
      ran = ap (λ o. onward o (λ next. run count (tokens_in s.before) next)) e ∙ s.ran;
      viable = s.viable;
      few = subst (λ n. n ≤ 256) (sym (named_later p.token (named_in (tokens_in s.before)) named)) s.few;
      wrong = elim s.wrong [ inl none ↦ inl none | inr full ↦ inr (full.0, full.1, named_later p.token (named_in (tokens_in s.before)) named ∙ full.2) ];
    }

    cases : ((m : ℕ) (now : List Due) → m ≤ 256 → CanEnd now → refusal ps count m now ≡ Some byte → Stop count m byte ps now) → (o : Option (List Due)) → allowed count named due p.token ≡ o → allowed count named due p.token ≡ allowed count 0 due p.token → refusal (p ∷ ps) count named due ≡ Some byte → Stop count named byte (p ∷ ps) due
    cases more None e same h = record { before = []; here = p; after = ps; now = due; parted = refl; place = here_is (allowed count named due p.token) e h; ran = refl; viable = v; few = omega (arith, l); wrong = inl (sym same ∙ e) }
    cases more (Some now) e same h =
        further now (sym same ∙ e) (more (named_with p.token named) now (room count named due p.token now l e) (stays count due p.token now some v (sym same ∙ e))
        (ap (λ o. met o p.place (λ next. refusal ps count (named_with p.token named) next)) (sym e) ∙ h))

stop_begins : (count byte : ℕ) (ps : List Placed) → 1 ≤ count → count < 2 ^ 32 → (s : Stop count 0 byte ps (a_program ∷ exactly End ∷ [])) → Begins count (tokens_in s.before)
stop_begins count byte ps some small s =
    let e = ending count s.now some s.viable in
    let ran : run count (tokens_in s.before ++ e.tokens) (a_program ∷ exactly End ∷ []) ≡ Some [] =
    run_append count (tokens_in s.before) e.tokens (a_program ∷ exactly End ∷ []) ∙ ap (λ o. onward o (λ now. run count e.tokens now)) s.ran ∙ e.ends in
    let d = made count (tokens_in s.before ++ e.tokens) (a_program ∷ exactly End ∷ []) ran in
    let m = d.further_on in
    record {
      plan = d.plan;
      rest = e.tokens;
      fits = d.fits;
      quorums = d.quorums;
      begins = tokens_of_program count d.plan small d.fits d.quorums ∙ sym (d.spelled ∙ ap (program_tokens d.plan) (m.spelled ∙ ap (λ x. End ∷ x) m.further_on));
    }

stop_wrong : (count : ℕ) (before : List Token) (t : Token) (now : List Due) → count < 2 ^ 32 → run count before (a_program ∷ exactly End ∷ []) ≡ Some now → allowed count 0 now t ≡ None → ¬ Begins count (before ++ t ∷ [])
stop_wrong count before t now small ran none b =
    let whole : run count (program_tokens b.plan (End ∷ [])) (a_program ∷ exactly End ∷ []) ≡ Some [] = run_program count b.plan (End ∷ []) (exactly End ∷ []) b.fits b.quorums in
    let same : program_tokens b.plan (End ∷ []) ≡ (before ++ t ∷ []) ++ b.rest = sym (tokens_of_program count b.plan small b.fits b.quorums) ∙ b.begins in
    let short : run count (before ++ t ∷ []) (a_program ∷ exactly End ∷ []) ≡ None =
    run_append count before (t ∷ []) (a_program ∷ exactly End ∷ []) ∙ ap (λ o. onward o (λ next. run count (t ∷ []) next)) ran ∙ ap (λ o. onward o (λ next. Some next)) none in
    let stuck : run count ((before ++ t ∷ []) ++ b.rest) (a_program ∷ exactly End ∷ []) ≡ None =
    run_append count (before ++ t ∷ []) b.rest (a_program ∷ exactly End ∷ []) ∙ ap (λ o. onward o (λ next. run count b.rest next)) short in
    refuted [] (sym stuck ∙ ap (λ ts. run count ts (a_program ∷ exactly End ∷ [])) (sym same) ∙ whole)

pub first_wrong : FirstWrong
unfolding refused_at
first_wrong count text byte some small short h =
    let few : nat_lt 4096 (length text) ≡ false = grind (arith, nat_tests) in
    let g : refusal (tokens_at text 0) count 0 (a_program ∷ exactly End ∷ []) ≡ Some byte = sym (ap (λ b. cond b (Some 4096) (refusal (tokens_at text 0) count 0 (a_program ∷ exactly End ∷ []))) few) ∙ h in
    let s = find count some byte (tokens_at text 0) 0 (a_program ∷ exactly End ∷ []) (omega arith) (refl, tt) g in
    record {
      before = s.before;
      here = s.here;
      after = s.after;
      parted = s.parted;
      place = s.place;
      begins = stop_begins count byte (tokens_at text 0) some small s;
      few = let f = s.few in omega (arith, f);
      wrong = elim s.wrong [
        | inl none ↦ inl (stop_wrong count (tokens_in s.before) s.here.token s.now small s.ran none)
        | inr full ↦ inr (record { name = full.0; is_name = full.1; full = (let e = full.2 in omega arith) })
      ];
    }
