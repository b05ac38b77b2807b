-- The tokens of a program, and how they are taken one by one, whatever the number of programs.
use Rattle.std.proofs.Common.{◌≡◌, ℕ, suc, ◌+◌, ◌-◌, ◌^◌, ◌<◌, ◌≤◌, true, false, cond, List, [], ◌∷◌, ◌++◌, refl, ap, sym, ◌∙◌, subst, arith, append-nil, Option, Some, None}
use Rattle.std.specs.Prelude.{codes, decimal}
use Rattle.std.proofs.lemmas.Bool.Decides.{nat_tests}
use Rattle.pv_ctc.specs.declared.token.Token.{Token}
use Rattle.pv_ctc.specs.declared.token.Token.TheVariants.{Word, Number, Open, Close, Comma, End}
use Rattle.pv_ctc.specs.declared.token.Word.{Word as Name}
use Rattle.pv_ctc.specs.declared.token.Word.TheVariants.{Hc4, Compose, Union, QInter, Fix, Prop}
use Rattle.pv_ctc.specs.Plans.{Plan, Plans, hc4, compose, union, qinter, fix, prop, no_plan, plan_and, plan_count, IsFor, AreFor}
use Rattle.pv_ctc.specs.Texts.{program_text, parts_text}
use Rattle.pv_ctc.specs.Words.{word_text}
use Rattle.pv_ctc.specs.Symbols.{tokens_from, tokens_at, token_of, further, is_digit}
use Rattle.pv_ctc.specs.Refusals.{Due, Counted, nothing, programs, exactly, a_program, a_number, more_programs, in_range, counted_due, allowed, in_front}
use Rattle.pv_ctc.specs.Beginnings.{QuorumsFit, AllQuorumsFit, tokens_in}
use Rattle.pv_ctc.proofs.Spelled.{lex_number, regroup_3, regroup_4}

abbrev mutual
  pub program_tokens : Plan → List Token → List Token
  program_tokens (hc4 i) k = Word Hc4 ∷ Open ∷ Number i ∷ Close ∷ k
  program_tokens (compose ps) k = Word Compose ∷ Open ∷ list_tokens ps (Close ∷ k)
  program_tokens (union ps) k = Word Union ∷ Open ∷ list_tokens ps (Close ∷ k)
  program_tokens (qinter q ps) k = Word QInter ∷ Open ∷ Number q ∷ Comma ∷ list_tokens ps (Close ∷ k)
  program_tokens (fix n p) k = Word Fix ∷ Open ∷ Number n ∷ Comma ∷ program_tokens p (Close ∷ k)
  program_tokens (prop n) k = Word Prop ∷ Open ∷ Number n ∷ Close ∷ k

  pub list_tokens : Plans → List Token → List Token
  list_tokens no_plan k = k
  list_tokens (plan_and p ps) k = program_tokens p (more_tokens ps k)

  pub more_tokens : Plans → List Token → List Token
  more_tokens no_plan k = k
  more_tokens (plan_and p ps) k = Comma ∷ program_tokens p (more_tokens ps k)

-- ---- They are the tokens of its text

record Lexes (text : List ℕ) (ts : List Token) : Type 0 where
  at : (place : ℕ) → tokens_in (tokens_from 0 place text) ≡ ts

lex_close : (text : List ℕ) (ts : List Token) → Lexes text ts → Lexes (41 ∷ text) (Close ∷ ts)
unfolding token_of further
lex_close text ts a = record { at = λ place. ap (λ x. Close ∷ x) (a.at (place + 1)) }

lex_comma : (text : List ℕ) (ts : List Token) → Lexes text ts → Lexes (44 ∷ text) (Comma ∷ ts)
unfolding token_of further
lex_comma text ts a = record { at = λ place. ap (λ x. Comma ∷ x) (a.at (place + 1)) }

lex_word : (w : Name) (text : List ℕ) (ts : List Token) → Lexes text ts → Lexes (word_text w ++ 40 ∷ text) (Word w ∷ Open ∷ ts)
unfolding token_of further
lex_word Hc4 text ts a = record { at = λ place. ap (λ x. Word Hc4 ∷ Open ∷ x) (a.at _) }
lex_word Compose text ts a = record { at = λ place. ap (λ x. Word Compose ∷ Open ∷ x) (a.at _) }
lex_word Union text ts a = record { at = λ place. ap (λ x. Word Union ∷ Open ∷ x) (a.at _) }
lex_word QInter text ts a = record { at = λ place. ap (λ x. Word QInter ∷ Open ∷ x) (a.at _) }
lex_word Fix text ts a = record { at = λ place. ap (λ x. Word Fix ∷ Open ∷ x) (a.at _) }
lex_word Prop text ts a = record { at = λ place. ap (λ x. Word Prop ∷ Open ∷ x) (a.at _) }

lex_num : (n b : ℕ) (text : List ℕ) (ts : List Token) → n < 2 ^ 32 → is_digit b ≡ false → Lexes (b ∷ text) ts → Lexes (decimal n ++ b ∷ text) (Number n ∷ ts)
lex_num n b text ts h k a = record { at = λ place. let x = lex_number n b text place h k in ap tokens_in x.1 ∙ ap (λ y. Number n ∷ y) (a.at x.0) }

mutual
  lex_program : (count : ℕ) → count < 2 ^ 32 → (p : Plan) (text : List ℕ) (ts : List Token) → IsFor count p → QuorumsFit p → Lexes text ts → Lexes (program_text p ++ text) (program_tokens p ts)
  lex_program count small (hc4 i) text ts f q a =
      subst (λ x. Lexes (word_text Hc4 ++ 40 ∷ x) (program_tokens (hc4 i) ts)) (sym (regroup_3 (decimal i) (codes ")") text))
      (lex_word Hc4 _ _ (lex_num i 41 text (Close ∷ ts) (omega arith) refl (lex_close text ts a)))
  lex_program count small (compose ps) text ts f q a =
      subst (λ x. Lexes (word_text Compose ++ 40 ∷ x) (program_tokens (compose ps) ts)) (sym (regroup_3 (parts_text 0 ps) (codes ")") text))
      (lex_word Compose _ _ (lex_list count small ps (41 ∷ text) (Close ∷ ts) f.1 q (lex_close text ts a)))
  lex_program count small (union ps) text ts f q a =
      subst (λ x. Lexes (word_text Union ++ 40 ∷ x) (program_tokens (union ps) ts)) (sym (regroup_3 (parts_text 0 ps) (codes ")") text))
      (lex_word Union _ _ (lex_list count small ps (41 ∷ text) (Close ∷ ts) f.1 q (lex_close text ts a)))
  lex_program count small (qinter n ps) text ts f q a =
      subst (λ x. Lexes (word_text QInter ++ 40 ∷ x) (program_tokens (qinter n ps) ts)) (sym (regroup_4 (decimal n) (codes ",") (parts_text 0 ps) (codes ")") text))
      (lex_word QInter _ _ (lex_num n 44 (parts_text 0 ps ++ 41 ∷ text) _ (omega (arith, q.0)) refl (lex_comma _ _ (lex_list count small ps (41 ∷ text) (Close ∷ ts) f.2 q.1 (lex_close text ts a)))))
  lex_program count small (fix n p) text ts f q a =
      subst (λ x. Lexes (word_text Fix ++ 40 ∷ x) (program_tokens (fix n p) ts)) (sym (regroup_4 (decimal n) (codes ",") (program_text p) (codes ")") text))
      (lex_word Fix _ _ (lex_num n 44 (program_text p ++ 41 ∷ text) _ (omega (arith, f.1)) refl (lex_comma _ _ (lex_program count small p (41 ∷ text) (Close ∷ ts) f.2 q (lex_close text ts a)))))
  lex_program count small (prop n) text ts f q a =
      subst (λ x. Lexes (word_text Prop ++ 40 ∷ x) (program_tokens (prop n) ts)) (sym (regroup_3 (decimal n) (codes ")") text))
      (lex_word Prop _ _ (lex_num n 41 text (Close ∷ ts) (omega (arith, f.1)) refl (lex_close text ts a)))

  lex_list : (count : ℕ) → count < 2 ^ 32 → (ps : Plans) (text : List ℕ) (ts : List Token) → AreFor count ps → AllQuorumsFit ps → Lexes text ts → Lexes (parts_text 0 ps ++ text) (list_tokens ps ts)
  lex_list count small no_plan text ts f q a = a
  lex_list count small (plan_and p ps) text ts f q a =
      subst (λ x. Lexes x (list_tokens (plan_and p ps) ts)) (sym (regroup_3 (program_text p) (parts_text 1 ps) text))
      (lex_program count small p (parts_text 1 ps ++ text) (more_tokens ps ts) f.0 q.0 (lex_more count small ps 0 text ts f.1 q.1 a))

  lex_more : (count : ℕ) → count < 2 ^ 32 → (ps : Plans) (i : ℕ) (text : List ℕ) (ts : List Token) → AreFor count ps → AllQuorumsFit ps → Lexes text ts → Lexes (parts_text (suc i) ps ++ text) (more_tokens ps ts)
  lex_more count small no_plan i text ts f q a = a
  lex_more count small (plan_and p ps) i text ts f q a =
      let next : suc (suc i) ≡ suc i + 1 = omega arith in
      subst (λ m. Lexes (44 ∷ ((program_text p ++ parts_text m ps) ++ text)) (more_tokens (plan_and p ps) ts)) next
      (subst (λ x. Lexes (44 ∷ x) (more_tokens (plan_and p ps) ts)) (sym (regroup_3 (program_text p) (parts_text (suc (suc i)) ps) text))
      (lex_comma _ _ (lex_program count small p (parts_text (suc (suc i)) ps ++ text) (more_tokens ps ts) f.0 q.0 (lex_more count small ps (suc i) text ts f.1 q.1 a))))

pub tokens_of_program : (count : ℕ) (p : Plan) → count < 2 ^ 32 → IsFor count p → QuorumsFit p → tokens_in (tokens_at (program_text p) 0) ≡ program_tokens p (End ∷ [])
unfolding tokens_at
tokens_of_program count p small f q =
    ap (λ text. tokens_in (tokens_from 0 0 text)) (sym (append-nil (program_text p)))
    ∙ (lex_program count small p [] (End ∷ []) f q (record { at = λ place. refl })).at 0

-- ---- They are taken one by one

abbrev pub onward : Option (List Due) → (List Due → Option (List Due)) → Option (List Due)
onward None go = None
onward (Some due) go = go due

-- what is due behind some tokens
abbrev pub run : ℕ → List Token → List Due → Option (List Due)
run count [] due = Some due
run count (t ∷ ts) due = onward (allowed count 0 due t) (λ now. run count ts now)

pub run_append : (count : ℕ) (ts us : List Token) (due : List Due) → run count (ts ++ us) due ≡ onward (run count ts due) (λ now. run count us now)
run_append count [] us due = refl
run_append count (t ∷ ts) us due = cases (allowed count 0 due t) (λ now. run_append count ts us now)
  where
    cases : (o : Option (List Due)) → ((now : List Due) → run count (ts ++ us) now ≡ onward (run count ts now) (λ now. run count us now)) → onward o (λ now. run count (ts ++ us) now) ≡ onward (onward o (λ now. run count ts now)) (λ now. run count us now)
    cases None h = refl
    cases (Some now) h = h now

pub run_number : (count low limit n : ℕ) (c : Counted) (due : List Due) (ts : List Token) → low ≤ n → n < limit → run count (Number n ∷ ts) (a_number low limit c ∷ due) ≡ run count ts (counted_due c n ++ due)
run_number count low limit n c due ts l h =
    let inside : in_range low limit n ≡ true = grind (arith, nat_tests) in
    ap (λ b. onward (in_front (cond b (Some (counted_due c n)) None) due) (λ now. run count ts now)) inside

mutual
  pub run_program : (count : ℕ) (p : Plan) (ts : List Token) (due : List Due) → IsFor count p → QuorumsFit p → run count (program_tokens p ts) (a_program ∷ due) ≡ run count ts due
  run_program count (hc4 i) ts due f q = run_number count 0 count i nothing (exactly Close ∷ due) (Close ∷ ts) (omega arith) f
  run_program count (compose ps) ts due f q = run_list count ps 0 ts due f.1 q (omega (arith, f.0))
  run_program count (union ps) ts due f q = run_list count ps 0 ts due f.1 q (omega (arith, f.0))
  run_program count (qinter n ps) ts due f q =
      run_number count 1 257 n programs due (Comma ∷ list_tokens ps (Close ∷ ts)) f.0 (omega (arith, q.0)) ∙ run_list count ps (n - 1) ts due f.2 q.1 (omega (arith, f.0, f.1))
  run_program count (fix n p) ts due f q =
      run_number count 1 65 n nothing (exactly Comma ∷ a_program ∷ exactly Close ∷ due) (Comma ∷ program_tokens p (Close ∷ ts)) f.0 (omega (arith, f.1)) ∙ run_program count p (Close ∷ ts) (exactly Close ∷ due) f.2 q
  run_program count (prop n) ts due f q = run_number count 1 65 n nothing (exactly Close ∷ due) (Close ∷ ts) f.0 (omega (arith, f.1))

  run_list : (count : ℕ) (ps : Plans) (k : ℕ) (ts : List Token) (due : List Due) → AreFor count ps → AllQuorumsFit ps → k + 1 ≤ plan_count ps → run count (list_tokens ps (Close ∷ ts)) (a_program ∷ more_programs k ∷ due) ≡ run count ts due
  run_list count no_plan k ts due f q l = absurd (omega arith)
  run_list count (plan_and p ps) k ts due f q l = run_program count p (more_tokens ps (Close ∷ ts)) (more_programs k ∷ due) f.0 q.0 ∙ run_more count ps k ts due f.1 q.1 (omega arith)

  pub run_more : (count : ℕ) (ps : Plans) (k : ℕ) (ts : List Token) (due : List Due) → AreFor count ps → AllQuorumsFit ps → k ≤ plan_count ps → run count (more_tokens ps (Close ∷ ts)) (more_programs k ∷ due) ≡ run count ts due
  run_more count no_plan k ts due f q l = let none : k ≡ 0 = omega arith in ap (λ m. run count (Close ∷ ts) (more_programs m ∷ due)) none
  run_more count (plan_and p ps) k ts due f q l = run_program count p (more_tokens ps (Close ∷ ts)) (more_programs (k - 1) ∷ due) f.0 q.0 ∙ run_more count ps (k - 1) ts due f.1 q.1 (omega arith)
