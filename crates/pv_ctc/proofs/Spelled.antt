-- The spelling of a program is refused nowhere.
use Rattle.std.proofs.Common.{◌≡◌, ℕ, zero, suc, ◌+◌, ◌-◌, ◌^◌, ◌<◌, ◌≤◌, true, false, cond, nat_lt, List, [], ◌∷◌, ◌++◌, length, take, get_or, append-nil, refl, ap, sym, ◌∙◌, subst, arith, append_assoc, Some, None}
use Rattle.std.specs.Char.{digit_value}
use Rattle.pv_ctc.proofs.Lexing.{leads_other, small_digits}
use Rattle.std.specs.List.{prefix_len}
use Rattle.std.specs.Prelude.{codes, decimal}
use Rattle.std.specs.Str.Parse.{AllDigits}
use Rattle.std.proofs.lemmas.Bool.Decides.{nat_tests}
use Rattle.std.proofs.lemmas.Str.Parse.{numerals_by_value, tells_digits, digit_from_value}
use Rattle.std.proofs.lemmas.Fmt.{digits_decimal, digits_value-decimal, decimal_nonempty, first_decimal, decimal_digit}
use Rattle.pv_ctc.specs.declared.token.Token.TheVariants.{Number, Open, Close, Comma, End}
use Rattle.pv_ctc.specs.declared.token.Word.{Word as Name}
use Rattle.pv_ctc.specs.declared.token.Word.TheVariants.{Hc4, Compose, Union, QInter, Fix, Prop}
use Rattle.pv_ctc.specs.Plans.{Plan, Plans, hc4, compose, union, qinter, fix, prop, no_plan, plan_and, plan_count, IsFor, AreFor, node_count, nodes_in}
use Rattle.pv_ctc.specs.Texts.{program_text, parts_text}
use Rattle.pv_ctc.specs.Words.{word_text}
use Rattle.pv_ctc.specs.Symbols.{tokens_from, tokens_at, token_of, further, name_token, digits_token, mark_token, is_letter, is_digit, is_named, leads_with_zero}
use Rattle.pv_ctc.specs.Refusals.{Due, Counted, nothing, programs, exactly, a_program, a_number, more_programs, in_range, arguments_due, counted_due, refusal, met, in_front, refused_at, IsSpelling, IsRefusal}
use Rattle.pv_ctc.specs.Taking.{Stopped}
use Rattle.pv_ctc.specs.declared.reading.ProgramRefused.{ProgramRefused}
use Rattle.pv_ctc.specs.declared.reading.ProgramRefused.TheVariants as refused

-- what is left of a text is read to its end wherever it stands
pub record Accepts (count named : ℕ) (due : List Due) (text : List ℕ) : Type 0 where
  pub at : (place : ℕ) → refusal (tokens_from 0 place text) count named due ≡ None

take_close : (count named : ℕ) (due : List Due) (text : List ℕ) → Accepts count named due text → Accepts count named (exactly Close ∷ due) (41 ∷ text)
unfolding token_of further
take_close count named due text a = record { at = λ place. a.at (place + 1) }

take_comma : (count named : ℕ) (due : List Due) (text : List ℕ) → Accepts count named due text → Accepts count named (exactly Comma ∷ due) (44 ∷ text)
unfolding token_of further
take_comma count named due text a = record { at = λ place. a.at (place + 1) }

take_end : (count named : ℕ) → Accepts count named (exactly End ∷ []) []
take_end count named = record { at = λ place. refl }

list_comma : (count named k : ℕ) (due : List Due) (text : List ℕ) → Accepts count named (a_program ∷ more_programs (k - 1) ∷ due) text → Accepts count named (more_programs k ∷ due) (44 ∷ text)
unfolding token_of further
list_comma count named k due text a = record { at = λ place. a.at (place + 1) }

list_close : (count named : ℕ) (due : List Due) (text : List ℕ) → Accepts count named due text → Accepts count named (more_programs 0 ∷ due) (41 ∷ text)
unfolding token_of further
list_close count named due text a = record { at = λ place. a.at (place + 1) }

-- a word and its parenthesis
take_word : (count named : ℕ) (w : Name) (due : List Due) (text : List ℕ) → named < 256 → Accepts count (named + 1) (arguments_due count w ++ due) text → Accepts count named (a_program ∷ due) (word_text w ++ 40 ∷ text)
unfolding token_of further
take_word count named w due text few a = record { at = λ place. cases w place (a.at) }
  where
    room : nat_lt named 256 ≡ true
    room = grind (arith, nat_tests)

    opened : (w : Name) (place after : ℕ) → ((p : ℕ) → refusal (tokens_from 0 p text) count (named + 1) (arguments_due count w ++ due) ≡ None) → met (in_front (cond (nat_lt named 256) (Some (exactly Open ∷ arguments_due count w)) None) due) place (λ now. refusal (tokens_from 0 after (40 ∷ text)) count (named + 1) now) ≡ None
    opened w place after h = ap (λ b. met (in_front (cond b (Some (exactly Open ∷ arguments_due count w)) None) due) place (λ now. refusal (tokens_from 0 after (40 ∷ text)) count (named + 1) now)) room ∙ h (after + 1)

    cases : (w : Name) (place : ℕ) → ((p : ℕ) → refusal (tokens_from 0 p text) count (named + 1) (arguments_due count w ++ due) ≡ None) → refusal (tokens_from 0 place (word_text w ++ 40 ∷ text)) count named (a_program ∷ due) ≡ None
    cases Hc4 place h = opened Hc4 place _ h
    cases Compose place h = opened Compose place _ h
    cases Union place h = opened Union place _ h
    cases QInter place h = opened QInter place _ h
    cases Fix place h = opened Fix place _ h
    cases Prop place h = opened Prop place _ h

-- ---- Numbers

digit_is : (d : ℕ) → digit_value d < 10 → (is_digit d ≡ true) × (is_letter d ≡ false)
digit_is d h =
    let r = digit_from_value d h in
    let low : 48 ≤ d = r.0 in
    let high : d ≤ 57 = r.1 in
    (grind (arith, nat_tests), grind (arith, nat_tests))

prefix_all : (ds : List ℕ) (b : ℕ) (rest : List ℕ) → AllDigits 10 ds → is_digit b ≡ false → prefix_len is_digit (ds ++ b ∷ rest) ≡ length ds
prefix_all [] b rest a h = ap (λ x. cond x (1 + prefix_len is_digit rest) 0) h
prefix_all (d ∷ ds) b rest a h =
    let e : prefix_len is_digit (ds ++ b ∷ rest) ≡ length ds = prefix_all ds b rest a.1 h in
    let n : 1 + prefix_len is_digit (ds ++ b ∷ rest) ≡ suc (length ds) = omega arith in
    ap (λ x. cond x (1 + prefix_len is_digit (ds ++ b ∷ rest)) 0) (digit_is d a.0).0 ∙ n

take_front : (ds rest : List ℕ) → take (length ds) (ds ++ rest) ≡ ds
take_front [] rest = refl
take_front (d ∷ ds) rest = ap (λ xs. d ∷ xs) (take_front ds rest)

skip_front : (ds rest : List ℕ) (place : ℕ) → tokens_from (length ds) place (ds ++ rest) ≡ tokens_from 0 (place + length ds) rest
skip_front [] rest place = let e : place ≡ place + 0 = omega arith in ap (λ n. tokens_from 0 n rest) e
skip_front (d ∷ ds) rest place = let e : (place + 1) + length ds ≡ place + suc (length ds) = omega arith in skip_front ds rest (place + 1) ∙ ap (λ n. tokens_from 0 n rest) e

lex_digits : (d : ℕ) (ds : List ℕ) (b : ℕ) (rest : List ℕ) (place : ℕ) → AllDigits 10 (d ∷ ds) → is_digit b ≡ false → tokens_from 0 place (d ∷ (ds ++ b ∷ rest)) ≡ record { place = place; token = digits_token (d ∷ ds) } ∷ tokens_from 0 ((place + 1) + length ds) (b ∷ rest)
unfolding token_of further
lex_digits d ds b rest place a h =
    let bs = ds ++ b ∷ rest in
    let f = digit_is d a.0 in
    let n = prefix_all ds b rest a.1 h in
    ap (λ x. record { place = place; token = cond x (name_token (d ∷ take (prefix_len is_named bs) bs)) (cond (is_digit d) (digits_token (d ∷ take (prefix_len is_digit bs) bs)) (mark_token d)) } ∷ tokens_from (cond x (prefix_len is_named bs) (cond (is_digit d) (prefix_len is_digit bs) 0)) (place + 1) bs) f.1
    ∙ ap (λ x. record { place = place; token = cond x (digits_token (d ∷ take (prefix_len is_digit bs) bs)) (mark_token d) } ∷ tokens_from (cond x (prefix_len is_digit bs) 0) (place + 1) bs) f.0
    ∙ ap (λ k. record { place = place; token = digits_token (d ∷ take k bs) } ∷ tokens_from k (place + 1) bs) n
    ∙ ap (λ xs. record { place = place; token = digits_token (d ∷ xs) } ∷ tokens_from (length ds) (place + 1) bs) (take_front ds (b ∷ rest))
    ∙ ap (λ ts. record { place = place; token = digits_token (d ∷ ds) } ∷ ts) (skip_front ds (b ∷ rest) (place + 1))

no_zero_leads : (n : ℕ) → n < 2 ^ 64 → leads_with_zero (decimal n) ≡ false
no_zero_leads zero h = ap leads_with_zero (decimal_digit 0 (omega arith))
no_zero_leads (suc n) h = let f : 48 < get_or (decimal (suc n)) 0 0 = first_decimal (suc n) (omega arith) h in leads_other (decimal (suc n)) (λ e. omega (arith, e))

pub number_spelled : (n : ℕ) → n < 2 ^ 32 → digits_token (decimal n) ≡ Number n
number_spelled n h =
    let wide : n < 2 ^ 64 = omega arith in
    let v = digits_value-decimal (numerals_by_value _ tells_digits) n wide in
    sym (small_digits (decimal n) n (no_zero_leads n wide) (sym v) h)

pub lex_number : (n : ℕ) (b : ℕ) (rest : List ℕ) (place : ℕ) → n < 2 ^ 32 → is_digit b ≡ false → (after : ℕ) × (tokens_from 0 place (decimal n ++ b ∷ rest) ≡ record { place = place; token = Number n } ∷ tokens_from 0 after (b ∷ rest))
lex_number n b rest place h k =
    let wide : n < 2 ^ 64 = omega arith in
    cases (decimal n) (number_spelled n h) (digits_decimal (numerals_by_value _ tells_digits) n wide) (decimal_nonempty n wide)
  where
    cases : (ds : List ℕ) → digits_token ds ≡ Number n → AllDigits 10 ds → 0 < length ds → (after : ℕ) × (tokens_from 0 place (ds ++ b ∷ rest) ≡ record { place = place; token = Number n } ∷ tokens_from 0 after (b ∷ rest))
    cases [] e a l = absurd (omega arith)
    cases (d ∷ ds) e a l = ((place + 1) + length ds, lex_digits d ds b rest place a k ∙ ap (λ t. record { place = place; token = t } ∷ tokens_from 0 ((place + 1) + length ds) (b ∷ rest)) e)

take_number : (count named low limit : ℕ) (c : Counted) (n : ℕ) (due : List Due) (b : ℕ) (rest : List ℕ) → low ≤ n → n < limit → n < 2 ^ 32 → is_digit b ≡ false → Accepts count named (counted_due c n ++ due) (b ∷ rest) → Accepts count named (a_number low limit c ∷ due) (decimal n ++ b ∷ rest)
take_number count named low limit c n due b rest l m h k a = record {
  at = λ place.
      let x = lex_number n b rest place h k in
      ap (λ ps. refusal ps count named (a_number low limit c ∷ due)) x.1
      ∙ ap (λ t. met (in_front (cond t (Some (counted_due c n)) None) due) place (λ now. refusal (tokens_from 0 x.0 (b ∷ rest)) count named now)) inside
      ∙ a.at x.0;
}
  where
    inside : in_range low limit n ≡ true
    inside = grind (arith, nat_tests)

-- ---- Programs

some_nodes : (p : Plan) → 1 ≤ node_count p
some_nodes (hc4 i) = omega arith
some_nodes (compose ps) = omega arith
some_nodes (union ps) = omega arith
some_nodes (qinter q ps) = omega arith
some_nodes (fix n p) = omega arith
some_nodes (prop n) = omega arith

pub count_nodes : (ps : Plans) → plan_count ps ≤ nodes_in ps
count_nodes no_plan = omega arith
count_nodes (plan_and p ps) = let h = some_nodes p in let g = count_nodes ps in omega arith

pub regroup_3 : (a b c : List ℕ) → (a ++ b) ++ c ≡ a ++ (b ++ c)
regroup_3 a b c = append_assoc a b c

pub regroup_4 : (a b c d e : List ℕ) → (((a ++ b) ++ c) ++ d) ++ e ≡ a ++ (b ++ (c ++ (d ++ e)))
regroup_4 a b c d e = simp append_assoc

moved : (count before now last : ℕ) (due : List Due) (text : List ℕ) → now ≡ last → Accepts count now due text → Accepts count last due text
moved count before now last due text e a = subst (λ m. Accepts count m due text) e a

mutual
  accept_program : (count : ℕ) → count < 2 ^ 32 → (p : Plan) (named : ℕ) (due : List Due) (text : List ℕ) → IsFor count p → named + node_count p ≤ 256 → Accepts count (named + node_count p) due text → Accepts count named (a_program ∷ due) (program_text p ++ text)
  accept_program count small (hc4 i) named due text f l a =
      subst (λ x. Accepts count named (a_program ∷ due) (word_text Hc4 ++ 40 ∷ x)) (sym (regroup_3 (decimal i) (codes ")") text))
      (take_word count named Hc4 due _ (omega arith) (take_number count (named + 1) 0 count nothing i (exactly Close ∷ due) 41 text (omega arith) f (omega arith) refl (take_close count (named + 1) due text a)))
  accept_program count small (compose ps) named due text f l a =
      subst (λ x. Accepts count named (a_program ∷ due) (word_text Compose ++ 40 ∷ x)) (sym (regroup_3 (parts_text 0 ps) (codes ")") text))
      (take_word count named Compose due _ (omega arith) (accept_list count small ps (named + 1) 0 due text f.1 (omega (arith, f.0)) (omega arith) (moved count (named + 1) (named + (nodes_in ps + 1)) _ due text (omega arith) a)))
  accept_program count small (union ps) named due text f l a =
      subst (λ x. Accepts count named (a_program ∷ due) (word_text Union ++ 40 ∷ x)) (sym (regroup_3 (parts_text 0 ps) (codes ")") text))
      (take_word count named Union due _ (omega arith) (accept_list count small ps (named + 1) 0 due text f.1 (omega (arith, f.0)) (omega arith) (moved count (named + 1) (named + (nodes_in ps + 1)) _ due text (omega arith) a)))
  accept_program count small (qinter q ps) named due text f l a =
      let most = count_nodes ps in
      let few : q < 257 = omega (arith, f.1) in
      subst (λ x. Accepts count named (a_program ∷ due) (word_text QInter ++ 40 ∷ x)) (sym (regroup_4 (decimal q) (codes ",") (parts_text 0 ps) (codes ")") text))
      (take_word count named QInter due _ (omega arith)
      (take_number count (named + 1) 1 257 programs q due 44 (parts_text 0 ps ++ 41 ∷ text) f.0 few (omega arith) refl
      (take_comma count (named + 1) (a_program ∷ more_programs (q - 1) ∷ due) (parts_text 0 ps ++ 41 ∷ text)
      (accept_list count small ps (named + 1) (q - 1) due text f.2 (omega (arith, f.0, f.1)) (omega arith) (moved count (named + 1) (named + (nodes_in ps + 1)) _ due text (omega arith) a)))))
  accept_program count small (fix n p) named due text f l a =
      subst (λ x. Accepts count named (a_program ∷ due) (word_text Fix ++ 40 ∷ x)) (sym (regroup_4 (decimal n) (codes ",") (program_text p) (codes ")") text))
      (take_word count named Fix due _ (omega arith)
      (take_number count (named + 1) 1 65 nothing n (exactly Comma ∷ a_program ∷ exactly Close ∷ due) 44 (program_text p ++ 41 ∷ text) f.0 (omega (arith, f.1)) (omega (arith, f.1)) refl
      (take_comma count (named + 1) (a_program ∷ exactly Close ∷ due) (program_text p ++ 41 ∷ text)
      (accept_program count small p (named + 1) (exactly Close ∷ due) (41 ∷ text) f.2 (omega arith)
      (take_close count ((named + 1) + node_count p) due text (moved count (named + 1) (named + (node_count p + 1)) _ due text (omega arith) a))))))
  accept_program count small (prop n) named due text f l a =
      subst (λ x. Accepts count named (a_program ∷ due) (word_text Prop ++ 40 ∷ x)) (sym (regroup_3 (decimal n) (codes ")") text))
      (take_word count named Prop due _ (omega arith) (take_number count (named + 1) 1 65 nothing n (exactly Close ∷ due) 41 text f.0 (omega (arith, f.1)) (omega (arith, f.1)) refl (take_close count (named + 1) due text a)))

  accept_list : (count : ℕ) → count < 2 ^ 32 → (ps : Plans) (named k : ℕ) (due : List Due) (text : List ℕ) → AreFor count ps → k + 1 ≤ plan_count ps → named + nodes_in ps ≤ 256 → Accepts count (named + nodes_in ps) due text → Accepts count named (a_program ∷ more_programs k ∷ due) (parts_text 0 ps ++ 41 ∷ text)
  accept_list count small no_plan named k due text f s l a = absurd (omega arith)
  accept_list count small (plan_and p ps) named k due text f s l a =
      subst (Accepts count named (a_program ∷ more_programs k ∷ due)) (sym (regroup_3 (program_text p) (parts_text 1 ps) (41 ∷ text)))
      (accept_program count small p named (more_programs k ∷ due) (parts_text 1 ps ++ 41 ∷ text) f.0 (omega arith)
      (accept_more count small ps (named + node_count p) k 0 due text f.1 (omega arith) (omega arith) (moved count named (named + (node_count p + nodes_in ps)) _ due text (omega arith) a)))

  accept_more : (count : ℕ) → count < 2 ^ 32 → (ps : Plans) (named k i : ℕ) (due : List Due) (text : List ℕ) → AreFor count ps → k ≤ plan_count ps → named + nodes_in ps ≤ 256 → Accepts count (named + nodes_in ps) due text → Accepts count named (more_programs k ∷ due) (parts_text (suc i) ps ++ 41 ∷ text)
  accept_more count small no_plan named k i due text f s l a =
      let none : 0 ≡ k = omega arith in
      let same : named + 0 ≡ named = omega arith in
      subst (λ m. Accepts count named (more_programs m ∷ due) (41 ∷ text)) none (list_close count named due text (subst (λ m. Accepts count m due text) same a))
  accept_more count small (plan_and p ps) named k i due text f s l a =
      let next : suc (suc i) ≡ suc i + 1 = omega arith in
      subst (λ m. Accepts count named (more_programs k ∷ due) (44 ∷ ((program_text p ++ parts_text m ps) ++ 41 ∷ text))) next
      (subst (λ x. Accepts count named (more_programs k ∷ due) (44 ∷ x)) (sym (regroup_3 (program_text p) (parts_text (suc (suc i)) ps) (41 ∷ text)))
      (list_comma count named k due (program_text p ++ (parts_text (suc (suc i)) ps ++ 41 ∷ text))
      (accept_program count small p named (more_programs (k - 1) ∷ due) (parts_text (suc (suc i)) ps ++ 41 ∷ text) f.0 (omega arith)
      (accept_more count small ps (named + node_count p) (k - 1) (suc i) due text f.1 (omega arith) (omega arith) (moved count named (named + (node_count p + nodes_in ps)) _ due text (omega arith) a)))))

-- a spelling is refused nowhere
pub spelling_right : (count : ℕ) (text : List ℕ) (p : Plan) → count < 2 ^ 32 → IsSpelling count text p → refused_at count text ≡ None
unfolding refused_at tokens_at
spelling_right count text p small s =
    let short : nat_lt 4096 (length text) ≡ false = let h = s.short in grind (arith, nat_tests) in
    let l : 0 + node_count p ≤ 256 = omega (arith, s.few) in
    let e : program_text p ++ [] ≡ text = append-nil (program_text p) ∙ sym s.spelled in
    ap (λ b. cond b (Some 4096) (refusal (tokens_at text 0) count 0 (a_program ∷ exactly End ∷ []))) short
    ∙ (subst (Accepts count 0 (a_program ∷ exactly End ∷ [])) e (accept_program count small p 0 (exactly End ∷ []) [] s.fits l (take_end count (0 + node_count p)))).at 0

pub apart : (n : ℕ) → None ≡ Some n → ⊥
apart n e = cc

-- what the reader refuses is refused there, and is the spelling of no program
pub read_refused : (count : ℕ) (text : List ℕ) (e : ProgramRefused) → count < 2 ^ 32 → length text ≤ 4096 → Stopped count (a_program ∷ exactly End ∷ []) 0 (tokens_at text 0) e → IsRefusal count text e
unfolding refused_at
read_refused count text refused.Memory small short s = tt
read_refused count text (refused.Bad byte) small short s =
    let few : nat_lt 4096 (length text) ≡ false = grind (arith, nat_tests) in
    let at : refused_at count text ≡ Some byte = ap (λ b. cond b (Some 4096) (refusal (tokens_at text 0) count 0 (a_program ∷ exactly End ∷ []))) few ∙ s [] in
    (at, λ p q. apart byte (sym (spelling_right count text p small q) ∙ at))

pub read_right : (count : ℕ) (text : List ℕ) → length text ≤ 4096 → refusal (tokens_at text 0) count 0 (a_program ∷ exactly End ∷ []) ≡ None → refused_at count text ≡ None
unfolding refused_at
read_right count text short h =
    let few : nat_lt 4096 (length text) ≡ false = grind (arith, nat_tests) in
    ap (λ b. cond b (Some 4096) (refusal (tokens_at text 0) count 0 (a_program ∷ exactly End ∷ []))) few ∙ h

pub too_long : (count : ℕ) (text : List ℕ) → 4096 < length text → IsRefusal count text (refused.Bad 4096)
unfolding refused_at
too_long count text long =
    let many : nat_lt 4096 (length text) ≡ true = grind (arith, nat_tests) in
    (ap (λ b. cond b (Some 4096) (refusal (tokens_at text 0) count 0 (a_program ∷ exactly End ∷ []))) many, λ p q. absurd (omega (arith, q.short)))
