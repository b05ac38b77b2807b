-- Pieces of a text.
use Rattle.std.proofs.Common.{◌≡◌, ℕ, zero, suc, ◌+◌, ◌-◌, ◌≤◌, List, [], ◌∷◌, ◌++◌, length, take, drop, ap, sym, ◌∙◌, arith, append_assoc, append-nil}
use Rattle.std.proofs.Math.Seq.{drop-nil}
use Rattle.std.proofs.lemmas.List.{take-append-drop}
use Rattle.std.specs.Prelude.{codes, decimal}
use Rattle.pv_ctc.specs.declared.token.Token.{Token}
use Rattle.pv_ctc.specs.declared.token.Token.TheVariants as token
use Rattle.pv_ctc.specs.declared.program.Program.{Program}
use Rattle.pv_ctc.specs.Plans.{compose, union, qinter, plan_of, plans_of}
use Rattle.pv_ctc.specs.Texts.{program_text, parts_text, open_text, comma_text}
use Rattle.pv_ctc.specs.declared.program.Program.{Row_of-Program, items-the_row-Program}
use Rattle.pv_ctc.specs.Plans.{plans_in}
use Rattle.pv_ctc.specs.declared.token.Word.TheVariants as word
use Rattle.pv_ctc.proofs.Rows.{row_plans}
use Rattle.pv_ctc.specs.Words.{StandsBefore, Spells, word_text}

pub drop_again : (a n : ℕ) (xs : List ℕ) → drop n (drop a xs) ≡ drop (a + n) xs
drop_again zero n xs = let e : n ≡ 0 + n = omega arith in ap (λ m. drop m xs) e
drop_again (suc a) n [] = drop-nil n ∙ sym (drop-nil (suc a + n))
drop_again (suc a) n (x ∷ xs) = let e : suc (a + n) ≡ suc a + n = omega arith in drop_again a n xs ∙ ap (λ m. drop m (x ∷ xs)) e

pub cut_at : (xs : List ℕ) (at end : ℕ) → at ≤ end → drop at xs ≡ take (end - at) (drop at xs) ++ drop end xs
cut_at xs at end h =
    let e : at + (end - at) ≡ end = omega arith in
    sym (take-append-drop (end - at) (drop at xs)) ∙ ap (λ ys. take (end - at) (drop at xs) ++ ys) (drop_again at (end - at) xs ∙ ap (λ m. drop m xs) e)

pub stands : (t : Token) (piece before after : List ℕ) → before ≡ piece ++ after → Spells t piece → StandsBefore t before after
stands (token.Word w) piece before after e s = e ∙ ap (λ x. x ++ after) s
stands (token.Number n) piece before after e s = e ∙ ap (λ x. x ++ after) s
stands token.TooBig piece before after e s = tt
stands token.Open piece before after e s = e ∙ ap (λ x. x ++ after) s
stands token.Close piece before after e s = e ∙ ap (λ x. x ++ after) s
stands token.Comma piece before after e s = e ∙ ap (λ x. x ++ after) s
stands token.Bad piece before after e s = tt
stands token.End piece before after e s = absurd s

parts_more_from : (i : ℕ) (ps : List Program) (p : Program) → parts_text i (plans_of (ps ++ p ∷ [])) ≡ parts_text i (plans_of ps) ++ comma_text (i + length ps) ++ program_text (plan_of p)
parts_more_from i [] p = let e : i ≡ i + 0 = omega arith in ap (λ m. comma_text m ++ program_text (plan_of p) ++ []) e ∙ append-nil (comma_text (i + 0) ++ program_text (plan_of p))
parts_more_from i (q ∷ ps) p =
    let e : (i + 1) + length ps ≡ i + suc (length ps) = omega arith in
    ap (λ x. comma_text i ++ program_text (plan_of q) ++ x) (parts_more_from (i + 1) ps p)
    ∙ regroup (comma_text i) (program_text (plan_of q)) (parts_text (i + 1) (plans_of ps)) (comma_text ((i + 1) + length ps)) (program_text (plan_of p))
    ∙ ap (λ m. (comma_text i ++ program_text (plan_of q) ++ parts_text (i + 1) (plans_of ps)) ++ comma_text m ++ program_text (plan_of p)) e
  where
    regroup : (a b c d f : List ℕ) → a ++ b ++ (c ++ d ++ f) ≡ (a ++ b ++ c) ++ d ++ f
    regroup a b c d f = simp append_assoc

some_comma : (n : ℕ) → 1 ≤ n → comma_text (0 + n) ≡ codes ","
some_comma zero h = absurd (omega arith)
some_comma (suc n) h = let e : 0 + suc n ≡ suc n = omega arith in ap comma_text e

-- one more program of a list is read
pub parts_read : (ps : List Program) (p : Program) (start now mid after : List ℕ) → 1 ≤ length ps → start ≡ parts_text 0 (plans_of ps) ++ now → now ≡ codes "," ++ mid → mid ≡ program_text (plan_of p) ++ after → start ≡ parts_text 0 (plans_of (ps ++ p ∷ [])) ++ after
parts_read ps p start now mid after h a b c =
    a ∙ ap (λ x. parts_text 0 (plans_of ps) ++ x) (b ∙ ap (λ x. codes "," ++ x) c)
    ∙ regroup (parts_text 0 (plans_of ps)) (codes ",") (program_text (plan_of p)) after
    ∙ ap (λ x. (parts_text 0 (plans_of ps) ++ x ++ program_text (plan_of p)) ++ after) (sym (some_comma (length ps) h))
    ∙ ap (λ x. x ++ after) (sym (parts_more_from 0 ps p))
  where
    regroup : (a b c d : List ℕ) → a ++ (b ++ (c ++ d)) ≡ (a ++ b ++ c) ++ d
    regroup a b c d = simp append_assoc

pub compose_read : {m : _} (k : Row_of-Program m) (ps : List Program) (rest after : List ℕ) → items-the_row-Program m k ≡ ps → rest ≡ parts_text 0 (plans_of ps) ++ after → word_text word.Compose ++ codes "(" ++ rest ≡ open_text (compose (plans_in k)) ++ after
compose_read k ps rest after f h =
    ap (λ r. codes "compose(" ++ r) h ∙ sym (append_assoc (codes "compose(") (parts_text 0 (plans_of ps)) after)
    ∙ ap (λ qs. (codes "compose(" ++ parts_text 0 qs) ++ after) (sym (row_plans k ∙ ap plans_of f))

pub union_read : {m : _} (k : Row_of-Program m) (ps : List Program) (rest after : List ℕ) → items-the_row-Program m k ≡ ps → rest ≡ parts_text 0 (plans_of ps) ++ after → word_text word.Union ++ codes "(" ++ rest ≡ open_text (union (plans_in k)) ++ after
union_read k ps rest after f h =
    ap (λ r. codes "union(" ++ r) h ∙ sym (append_assoc (codes "union(") (parts_text 0 (plans_of ps)) after)
    ∙ ap (λ qs. (codes "union(" ++ parts_text 0 qs) ++ after) (sym (row_plans k ∙ ap plans_of f))

pub qinter_read : {m : _} (q : ℕ) (k : Row_of-Program m) (ps : List Program) (rest mid later after : List ℕ) → items-the_row-Program m k ≡ ps → rest ≡ decimal q ++ mid → mid ≡ codes "," ++ later → later ≡ parts_text 0 (plans_of ps) ++ after → word_text word.QInter ++ codes "(" ++ rest ≡ open_text (qinter q (plans_in k)) ++ after
qinter_read q k ps rest mid later after f a b c =
    ap (λ r. codes "qinter(" ++ r) (a ∙ ap (λ r. decimal q ++ r) (b ∙ ap (λ r. codes "," ++ r) c))
    ∙ regroup (codes "qinter(") (decimal q) (codes ",") (parts_text 0 (plans_of ps)) after
    ∙ ap (λ qs. (codes "qinter(" ++ decimal q ++ codes "," ++ parts_text 0 qs) ++ after) (sym (row_plans k ∙ ap plans_of f))
  where
    regroup : (a b c d e : List ℕ) → a ++ (b ++ (c ++ (d ++ e))) ≡ (a ++ b ++ c ++ d) ++ e
    regroup a b c d e = simp append_assoc
