-- A text that is refused nowhere is the spelling of a program.
use Rattle.std.proofs.Common.{◌≡◌, ℕ, zero, suc, ◌+◌, ◌-◌, ◌^◌, ◌<◌, ◌≤◌, Bool, true, false, cond, nat_lt, nat_eq, List, [], ◌∷◌, ◌++◌, length, take, drop, refl, ap, sym, ◌∙◌, subst, arith, append-nil, length-drop, Option, Some, None, MatchOption}
use Rattle.std.specs.List.{prefix_len}
use Rattle.std.specs.Prelude.{codes, decimal}
use Rattle.std.specs.Str.{bytes_eq}
use Rattle.std.proofs.lemmas.Slice.Eq.{bytes_eq-Decides}
use Rattle.std.specs.Str.Parse.{AllDigits, digits_value}
use Rattle.std.proofs.lemmas.Bool.Decides.{nat_tests}
use Rattle.std.proofs.lemmas.List.{take-append-drop}
use Rattle.pv_ctc.specs.declared.token.Token.{Token}
use Rattle.pv_ctc.specs.declared.token.Token.TheVariants.{Word, Number, TooBig, Open, Close, Comma, Bad, End}
use Rattle.pv_ctc.specs.declared.token.Word.{Word as Name}
use Rattle.pv_ctc.specs.declared.token.Word.TheVariants.{Hc4, Compose, Union, QInter, Fix, Prop}
use Rattle.pv_ctc.specs.Plans.{Plan, Plans, hc4, compose, union, qinter, fix, prop, no_plan, plan_and, plan_count, IsFor, AreFor, node_count, nodes_in}
use Rattle.pv_ctc.specs.Texts.{program_text, parts_text}
use Rattle.pv_ctc.specs.Words.{word_text, Spells}
use Rattle.pv_ctc.specs.Symbols.{Placed, tokens_from, tokens_at, token_of, further, name_token, digits_token, mark_token, is_letter, is_digit, is_named, leads_with_zero}
use Rattle.pv_ctc.specs.Refusals.{Due, Counted, nothing, programs, exactly, a_program, a_number, more_programs, in_range, arguments_due, counted_due, allowed, refusal, met, in_front, named_with, refused_at, IsSpelling}
use Rattle.pv_ctc.proofs.Lexing.{skip, further_within, digits_spelled, digits_front, digit_small}
use Rattle.pv_ctc.proofs.Spelled.{regroup_3, regroup_4, apart, spelling_right}

-- ---- What may stand where something is due, before what Q says of the rest

record Marked (byte named : ℕ) (text : List ℕ) (Q : ℕ → List ℕ → Type 0) : Type 0 where
  rest : List ℕ
  spelled : text ≡ byte ∷ rest
  further_on : Q named rest

record Ended (named : ℕ) (text : List ℕ) : Type 0 where
  empty : text ≡ []
  few : named ≤ 256

record OneProgram (count named : ℕ) (text : List ℕ) (Q : ℕ → List ℕ → Type 0) : Type 0 where
  plan : Plan
  rest : List ℕ
  fits : IsFor count plan
  spelled : text ≡ program_text plan ++ rest
  further_on : Q (named + node_count plan) rest

record OneNumber (low limit named : ℕ) (text : List ℕ) (Q : ℕ → List ℕ → Type 0) : Type 0 where
  number : ℕ
  rest : List ℕ
  low_is : low ≤ number
  high_is : number < limit
  spelled : text ≡ decimal number ++ rest
  further_on : Q named rest

record OneQuorum (count low limit named : ℕ) (text : List ℕ) (Q : ℕ → List ℕ → Type 0) : Type 0 where
  number : ℕ
  plans : Plans
  rest : List ℕ
  low_is : low ≤ number
  enough : number ≤ plan_count plans
  fit : AreFor count plans
  spelled : text ≡ decimal number ++ 44 ∷ (parts_text 0 plans ++ 41 ∷ rest)
  further_on : Q (named + nodes_in plans) rest

record MorePrograms (count k named : ℕ) (text : List ℕ) (Q : ℕ → List ℕ → Type 0) : Type 0 where
  plans : Plans
  rest : List ℕ
  enough : k ≤ plan_count plans
  fit : AreFor count plans
  spelled : text ≡ parts_text 1 plans ++ 41 ∷ rest
  further_on : Q (named + nodes_in plans) rest

abbrev Derived : ℕ → List Due → ℕ → List ℕ → Type 0
Derived count [] named text = ⊥
Derived count (exactly Open ∷ due) named text = Marked 40 named text (Derived count due)
Derived count (exactly Close ∷ due) named text = Marked 41 named text (Derived count due)
Derived count (exactly Comma ∷ due) named text = Marked 44 named text (Derived count due)
Derived count (exactly End ∷ due) named text = Ended named text
Derived count (exactly u ∷ due) named text = ⊥
Derived count (a_program ∷ due) named text = OneProgram count named text (Derived count due)
Derived count (a_number low limit nothing ∷ due) named text = OneNumber low limit named text (Derived count due)
Derived count (a_number low limit programs ∷ due) named text = OneQuorum count low limit named text (Derived count due)
Derived count (more_programs k ∷ due) named text = MorePrograms count k named text (Derived count due)

-- ---- The token that begins with a byte is spelled there

name_spelled : (name : List ℕ) → Spells (name_token name) name
name_spelled name =
    one (bytes_eq name (codes "hc4")) Hc4 _ (told (codes "hc4"))
    (one (bytes_eq name (codes "compose")) Compose _ (told (codes "compose"))
    (one (bytes_eq name (codes "union")) Union _ (told (codes "union"))
    (one (bytes_eq name (codes "qinter")) QInter _ (told (codes "qinter"))
    (one (bytes_eq name (codes "fix")) Fix _ (told (codes "fix"))
    (one (bytes_eq name (codes "prop")) Prop Bad (told (codes "prop")) tt)))))
  where
    told : (w : List ℕ) → bytes_eq name w ≡ true → name ≡ w
    told w h = (bytes_eq-Decides name w).0 h

    one : (b : Bool) (w : Name) (t : Token) → (b ≡ true → name ≡ word_text w) → Spells t name → Spells (cond b (Word w) t) name
    one true w t h s = h refl
    one false w t h s = s

number_spells : (ds : List ℕ) → AllDigits 10 ds → 0 < length ds → Spells (digits_token ds) ds
unfolding digits_token
number_spells ds a l = cases (leads_with_zero ds) (nat_lt (digits_value 10 ds) (2 ^ 32)) refl refl
  where
    cases : (z s : Bool) → leads_with_zero ds ≡ z → nat_lt (digits_value 10 ds) (2 ^ 32) ≡ s → Spells (cond z TooBig (cond s (Number (digits_value 10 ds)) TooBig)) ds
    cases true s e f = tt
    cases false true e f = let h : digits_value 10 ds < 2 ^ 32 = grind (arith, nat_tests) in digits_spelled ds a l e h
    cases false false e f = tt

mark_spelled : (b : ℕ) → Spells (mark_token b) (b ∷ [])
mark_spelled b = cases (nat_eq b 40) (nat_eq b 41) (nat_eq b 44) refl refl refl
  where
    cases : (o c m : Bool) → nat_eq b 40 ≡ o → nat_eq b 41 ≡ c → nat_eq b 44 ≡ m → Spells (cond o Open (cond c Close (cond m Comma Bad))) (b ∷ [])
    cases true c m e f g = let h : b ≡ 40 = grind (arith, nat_tests) in ap (λ x. x ∷ []) h
    cases false true m e f g = let h : b ≡ 41 = grind (arith, nat_tests) in ap (λ x. x ∷ []) h
    cases false false true e f g = let h : b ≡ 44 = grind (arith, nat_tests) in ap (λ x. x ∷ []) h
    cases false false false e f g = tt

record Piece (b : ℕ) (bs : List ℕ) : Type 0 where
  piece : List ℕ
  cut : b ∷ bs ≡ piece ++ drop (further b bs) bs
  spells : Spells (token_of b bs) piece

piece_of : (b : ℕ) (bs : List ℕ) → Piece b bs
unfolding token_of further
piece_of b bs = cases (is_letter b) (is_digit b) refl refl
  where
    split : (k : ℕ) → b ∷ bs ≡ (b ∷ take k bs) ++ drop k bs
    split k = ap (λ xs. b ∷ xs) (sym (take-append-drop k bs))

    made : (k : ℕ) (t : Token) → further b bs ≡ k → token_of b bs ≡ t → Spells t (b ∷ take k bs) → Piece b bs
    made k t e f s = record { piece = b ∷ take k bs; cut = subst (λ n. b ∷ bs ≡ (b ∷ take k bs) ++ drop n bs) (sym e) (split k); spells = subst (λ u. Spells u (b ∷ take k bs)) (sym f) s }

    length_of : (n : ℕ) → is_letter b ≡ false → (d : Bool) → is_digit b ≡ d → further b bs ≡ cond d (prefix_len is_digit bs) 0
    length_of n e d f = ap (λ x. cond x (prefix_len is_named bs) (cond (is_digit b) (prefix_len is_digit bs) 0)) e ∙ ap (λ x. cond x (prefix_len is_digit bs) 0) f

    token_is : is_letter b ≡ false → (d : Bool) → is_digit b ≡ d → token_of b bs ≡ cond d (digits_token (b ∷ take (prefix_len is_digit bs) bs)) (mark_token b)
    token_is e d f = ap (λ x. cond x (name_token (b ∷ take (prefix_len is_named bs) bs)) (cond (is_digit b) (digits_token (b ∷ take (prefix_len is_digit bs) bs)) (mark_token b))) e ∙ ap (λ x. cond x (digits_token (b ∷ take (prefix_len is_digit bs) bs)) (mark_token b)) f

    cases : (l d : Bool) → is_letter b ≡ l → is_digit b ≡ d → Piece b bs
    cases true d e f = made (prefix_len is_named bs) (name_token (b ∷ take (prefix_len is_named bs) bs)) (ap (λ x. cond x (prefix_len is_named bs) (cond (is_digit b) (prefix_len is_digit bs) 0)) e)
        (ap (λ x. cond x (name_token (b ∷ take (prefix_len is_named bs) bs)) (cond (is_digit b) (digits_token (b ∷ take (prefix_len is_digit bs) bs)) (mark_token b))) e) (name_spelled (b ∷ take (prefix_len is_named bs) bs))
    cases false true e f = made (prefix_len is_digit bs) (digits_token (b ∷ take (prefix_len is_digit bs) bs)) (length_of 0 e true f) (token_is e true f)
        (number_spells (b ∷ take (prefix_len is_digit bs) bs) (digit_small b f, digits_front bs) (omega arith))
    cases false false e f = made 0 (mark_token b) (length_of 0 e false f) (token_is e false f) (mark_spelled b)

-- ---- One step, and all of them

refuted : {A : Type 0} (n : ℕ) → Some n ≡ None → A
refuted n e = absurd (let b : ⊥ = cc in b)

marked : (byte : ℕ) (named : ℕ) (text piece rest : List ℕ) (Q : ℕ → List ℕ → Type 0) → text ≡ piece ++ rest → piece ≡ byte ∷ [] → Q named rest → Marked byte named text Q
marked byte named text piece rest Q e s q = record { rest = rest; spelled = e ∙ ap (λ x. x ++ rest) s; further_on = q }

same_parts : (ps : Plans) (i : ℕ) → parts_text (suc (suc i)) ps ≡ parts_text (suc i) ps
same_parts no_plan i = refl
same_parts (plan_and p ps) i =
    let e : suc (suc i) + 1 ≡ suc (suc (suc i)) = omega arith in
    let f : suc i + 1 ≡ suc (suc i) = omega arith in
    ap (λ m. 44 ∷ (program_text p ++ parts_text m ps)) e ∙ ap (λ x. 44 ∷ (program_text p ++ x)) (same_parts ps (suc i)) ∙ sym (ap (λ m. 44 ∷ (program_text p ++ parts_text m ps)) f)

-- a list whose further programs are these
joined : (p : Plan) (ps : Plans) (text middle rest : List ℕ) → text ≡ program_text p ++ middle → middle ≡ parts_text 1 ps ++ 41 ∷ rest → text ≡ parts_text 0 (plan_and p ps) ++ 41 ∷ rest
joined p ps text middle rest e f = e ∙ ap (λ x. program_text p ++ x) f ∙ sym (regroup_3 (program_text p) (parts_text 1 ps) (41 ∷ rest))

moved_on : (Q : ℕ → List ℕ → Type 0) (m n : ℕ) (rest : List ℕ) → m ≡ n → Q m rest → Q n rest
moved_on Q m n rest e q = subst (λ k. Q k rest) e q

-- a program from its word on
word_program : (count named : ℕ) (w : Name) (due : List Due) (text rest : List ℕ) → text ≡ word_text w ++ rest → Derived count (exactly Open ∷ arguments_due count w ++ due) (named + 1) rest → OneProgram count named text (Derived count due)
word_program count named Hc4 due text rest e d =
    let n = d.further_on in
    let c = n.further_on in
    record {
      plan = hc4 n.number;
      rest = c.rest;
      fits = n.high_is;
      spelled = e ∙ ap (λ x. word_text Hc4 ++ x) (d.spelled ∙ ap (λ x. 40 ∷ x) (n.spelled ∙ ap (λ x. decimal n.number ++ x) c.spelled ∙ sym (regroup_3 (decimal n.number) (codes ")") c.rest)));
      further_on = c.further_on;
    }
word_program count named Prop due text rest e d =
    let n = d.further_on in
    let c = n.further_on in
    record {
      plan = prop n.number;
      rest = c.rest;
      fits = (n.low_is, omega (arith, n.high_is));
      spelled = e ∙ ap (λ x. word_text Prop ++ x) (d.spelled ∙ ap (λ x. 40 ∷ x) (n.spelled ∙ ap (λ x. decimal n.number ++ x) c.spelled ∙ sym (regroup_3 (decimal n.number) (codes ")") c.rest)));
      further_on = c.further_on;
    }
word_program count named Compose due text rest e d =
    let p = d.further_on in
    let m = p.further_on in
    let ps = plan_and p.plan m.plans in
    record {
      plan = compose ps;
      rest = m.rest;
      fits = (omega arith, (p.fits, m.fit));
      spelled = e ∙ ap (λ x. word_text Compose ++ x) (d.spelled ∙ ap (λ x. 40 ∷ x) (joined p.plan m.plans d.rest p.rest m.rest p.spelled m.spelled ∙ sym (regroup_3 (parts_text 0 ps) (codes ")") m.rest)));
      further_on = moved_on (Derived count due) _ (named + ((node_count p.plan + nodes_in m.plans) + 1)) m.rest (omega arith) m.further_on;
    }
word_program count named Union due text rest e d =
    let p = d.further_on in
    let m = p.further_on in
    let ps = plan_and p.plan m.plans in
    record {
      plan = union ps;
      rest = m.rest;
      fits = (omega arith, (p.fits, m.fit));
      spelled = e ∙ ap (λ x. word_text Union ++ x) (d.spelled ∙ ap (λ x. 40 ∷ x) (joined p.plan m.plans d.rest p.rest m.rest p.spelled m.spelled ∙ sym (regroup_3 (parts_text 0 ps) (codes ")") m.rest)));
      further_on = moved_on (Derived count due) _ (named + ((node_count p.plan + nodes_in m.plans) + 1)) m.rest (omega arith) m.further_on;
    }
word_program count named QInter due text rest e d =
    let n = d.further_on in
    record {
      plan = qinter n.number n.plans;
      rest = n.rest;
      fits = (n.low_is, n.enough, n.fit);
      spelled = e ∙ ap (λ x. word_text QInter ++ x) (d.spelled ∙ ap (λ x. 40 ∷ x) (n.spelled ∙ sym (regroup_4 (decimal n.number) (codes ",") (parts_text 0 n.plans) (codes ")") n.rest)));
      further_on = moved_on (Derived count due) _ (named + (nodes_in n.plans + 1)) n.rest (omega arith) n.further_on;
    }
word_program count named Fix due text rest e d =
    let n = d.further_on in
    let m = n.further_on in
    let p = m.further_on in
    let c = p.further_on in
    record {
      plan = fix n.number p.plan;
      rest = c.rest;
      fits = (n.low_is, omega (arith, n.high_is), p.fits);
      spelled = e ∙ ap (λ x. word_text Fix ++ x) (d.spelled ∙ ap (λ x. 40 ∷ x) (n.spelled ∙ ap (λ x. decimal n.number ++ x) (m.spelled ∙ ap (λ x. 44 ∷ x) (p.spelled ∙ ap (λ x. program_text p.plan ++ x) c.spelled)) ∙ sym (regroup_4 (decimal n.number) (codes ",") (program_text p.plan) (codes ")") c.rest)));
      further_on = moved_on (Derived count due) _ (named + (node_count p.plan + 1)) c.rest (omega arith) c.further_on;
    }

-- a quorum and its list
quorum_list : (count low limit named n : ℕ) (due : List Due) (text rest : List ℕ) → low ≤ n → text ≡ decimal n ++ rest → Derived count (exactly Comma ∷ a_program ∷ more_programs (n - 1) ∷ due) named rest → OneQuorum count low limit named text (Derived count due)
quorum_list count low limit named n due text rest l e d =
    let p = d.further_on in
    let m = p.further_on in
    record {
      number = n;
      plans = plan_and p.plan m.plans;
      rest = m.rest;
      low_is = l;
      enough = omega (arith, m.enough);
      fit = (p.fits, m.fit);
      spelled = e ∙ ap (λ x. decimal n ++ x) (d.spelled ∙ ap (λ x. 44 ∷ x) (joined p.plan m.plans d.rest p.rest m.rest p.spelled m.spelled));
      further_on = moved_on (Derived count due) _ (named + (node_count p.plan + nodes_in m.plans)) m.rest (omega arith) m.further_on;
    }

more_list : (count named k : ℕ) (due : List Due) (text rest : List ℕ) → text ≡ 44 ∷ rest → Derived count (a_program ∷ more_programs (k - 1) ∷ due) named rest → MorePrograms count k named text (Derived count due)
more_list count named k due text rest e d =
    let m = d.further_on in
    record {
      plans = plan_and d.plan m.plans;
      rest = m.rest;
      enough = omega (arith, m.enough);
      fit = (d.fits, m.fit);
      spelled = e ∙ ap (λ x. 44 ∷ x) (d.spelled ∙ ap (λ x. program_text d.plan ++ x) (m.spelled ∙ ap (λ x. x ++ 41 ∷ m.rest) (sym (same_parts m.plans 0))) ∙ sym (regroup_3 (program_text d.plan) (parts_text 2 m.plans) (41 ∷ m.rest)));
      further_on = moved_on (Derived count due) _ (named + (node_count d.plan + nodes_in m.plans)) m.rest (omega arith) m.further_on;
    }

-- what follows is derived
record Follows (count : ℕ) (ps : List Placed) (rest : List ℕ) : Type 0 where
  next : (named : ℕ) (due : List Due) → named ≤ 256 → refusal ps count named due ≡ None → Derived count due named rest

step : (count named place : ℕ) (due : List Due) (t : Token) (ps : List Placed) (text piece rest : List ℕ) → text ≡ piece ++ rest → Spells t piece → Follows count ps rest → named ≤ 256 → met (allowed count named due t) place (λ now. refusal ps count (named_with t named) now) ≡ None → Derived count due named text
step count named place [] t ps text piece rest e s f l h = refuted place h
step count named place (exactly Open ∷ due) Open ps text piece rest e s f l h = marked 40 named text piece rest (Derived count due) e s (f.next named due l h)
step count named place (exactly Close ∷ due) Close ps text piece rest e s f l h = marked 41 named text piece rest (Derived count due) e s (f.next named due l h)
step count named place (exactly Comma ∷ due) Comma ps text piece rest e s f l h = marked 44 named text piece rest (Derived count due) e s (f.next named due l h)
step count named place (exactly u ∷ due) End ps text piece rest e s f l h = absurd s
step count named place (exactly u ∷ due) t ps text piece rest e s f l h = refuted place h
step count named place (a_program ∷ due) (Word w) ps text piece rest e s f l h = cases (nat_lt named 256) refl h
  where
    cases : (b : Bool) → nat_lt named 256 ≡ b → met (in_front (cond b (Some (exactly Open ∷ arguments_due count w)) None) due) place (λ now. refusal ps count (named + 1) now) ≡ None → OneProgram count named text (Derived count due)
    cases true r h = let few : named + 1 ≤ 256 = grind (arith, nat_tests) in word_program count named w due text rest (e ∙ ap (λ x. x ++ rest) s) (f.next (named + 1) (exactly Open ∷ arguments_due count w ++ due) few h)
    cases false r h = refuted place h
step count named place (a_program ∷ due) t ps text piece rest e s f l h = refuted place h
step count named place (a_number low limit c ∷ due) (Number n) ps text piece rest e s f l h = cases c (in_range low limit n) refl h
  where
    inside : in_range low limit n ≡ true → (low ≤ n) × (n < limit)
    inside r = (grind (arith, nat_tests), grind (arith, nat_tests))

    cases : (c : Counted) (b : Bool) → in_range low limit n ≡ b → met (in_front (cond b (Some (counted_due c n)) None) due) place (λ now. refusal ps count named now) ≡ None → Derived count (a_number low limit c ∷ due) named text
    cases nothing true r h = record { number = n; rest = rest; low_is = (inside r).0; high_is = (inside r).1; spelled = e ∙ ap (λ x. x ++ rest) s; further_on = f.next named due l h }
    cases programs true r h = quorum_list count low limit named n due text rest (inside r).0 (e ∙ ap (λ x. x ++ rest) s) (f.next named (exactly Comma ∷ a_program ∷ more_programs (n - 1) ∷ due) l h)
    cases nothing false r h = refuted place h
    cases programs false r h = refuted place h
step count named place (a_number low limit c ∷ due) t ps text piece rest e s f l h = refuted place h
step count named place (more_programs k ∷ due) Comma ps text piece rest e s f l h = more_list count named k due text rest (e ∙ ap (λ x. x ++ rest) s) (f.next named (a_program ∷ more_programs (k - 1) ∷ due) l h)
step count named place (more_programs zero ∷ due) Close ps text piece rest e s f l h =
    record { plans = no_plan; rest = rest; enough = omega arith; fit = tt; spelled = e ∙ ap (λ x. x ++ rest) s; further_on = (let same : named ≡ named + 0 = omega arith in moved_on (Derived count due) named (named + 0) rest same (f.next named due l h)) }
step count named place (more_programs k ∷ due) t ps text piece rest e s f l h = refuted place h

at_end : (count named place : ℕ) (due : List Due) → named ≤ 256 → refusal (record { place = place; token = End } ∷ []) count named due ≡ None → Derived count due named []
at_end count named place [] l h = refuted place h
at_end count named place (exactly End ∷ due) l h = record { empty = refl; few = l }
at_end count named place (exactly u ∷ due) l h = refuted place h
at_end count named place (a_program ∷ due) l h = refuted place h
at_end count named place (a_number low limit c ∷ due) l h = refuted place h
at_end count named place (more_programs k ∷ due) l h = refuted place h

derived : (fuel : ℕ) (count named place : ℕ) (due : List Due) (text : List ℕ) → length text < fuel → named ≤ 256 → refusal (tokens_from 0 place text) count named due ≡ None → Derived count due named text
derived zero count named place due text k l h = absurd (omega arith)
derived (suc fuel) count named place due [] k l h = at_end count named place due l h
derived (suc fuel) count named place due (b ∷ bs) k l h =
    let p = piece_of b bs in
    let n = further b bs in
    let shorter : length (drop n bs) < fuel = omega (arith, length-drop n bs) in
    step count named place due (token_of b bs) (tokens_from n (place + 1) bs) (b ∷ bs) p.piece (drop n bs) p.cut p.spells
    (record { next = λ m now few r. derived fuel count m ((place + 1) + n) now (drop n bs) shorter few (ap (λ ps. refusal ps count m now) (sym (skip n (place + 1) bs (further_within b bs))) ∙ r) })
    l h

-- a text that is refused nowhere is a spelling
pub right_spelling : (count : ℕ) (text : List ℕ) → refused_at count text ≡ None → (p : Plan) × IsSpelling count text p
unfolding refused_at tokens_at
right_spelling count text h = cases (nat_lt 4096 (length text)) refl h
  where
    cases : (b : Bool) → nat_lt 4096 (length text) ≡ b → cond b (Some 4096) (refusal (tokens_from 0 0 text) count 0 (a_program ∷ exactly End ∷ [])) ≡ None → (p : Plan) × IsSpelling count text p
    cases true e h = refuted 4096 h
    cases false e h =
        let d = derived (suc (length text)) count 0 0 (a_program ∷ exactly End ∷ []) text (omega arith) (omega arith) h in
        let short : length text ≤ 4096 = grind (arith, nat_tests) in
        (d.plan, record { fits = d.fits; few = omega (arith, d.further_on.few); short = short; spelled = d.spelled ∙ ap (λ x. program_text d.plan ++ x) d.further_on.empty ∙ append-nil (program_text d.plan) })

-- it is a spelling, or is refused at one byte and is none
pub one_answer : (count : ℕ) (text : List ℕ) → count < 2 ^ 32 → MatchOption (refused_at count text) ((p : Plan) × IsSpelling count text p) (λ byte. (p : Plan) → ¬ IsSpelling count text p)
one_answer count text small = cases (refused_at count text) refl
  where
    cases : (o : Option ℕ) → refused_at count text ≡ o → MatchOption o ((p : Plan) × IsSpelling count text p) (λ byte. (p : Plan) → ¬ IsSpelling count text p)
    cases None e = right_spelling count text e
    cases (Some byte) e = λ p s. apart byte (sym (spelling_right count text p small s) ∙ e)
