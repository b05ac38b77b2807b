-- No two programs have one spelling.
use Rattle.std.proofs.Common.{◌≡◌, ℕ, ◌≤◌, List, [], ◌∷◌, refl, ap, sym, ◌∙◌, arith}
use Rattle.pv_ctc.specs.declared.token.Token.{Token}
use Rattle.pv_ctc.specs.declared.token.Token.TheVariants.{Number, Close, Comma, End}
use Rattle.pv_ctc.specs.Plans.{Plan, Plans, hc4, compose, union, qinter, fix, prop, no_plan, plan_and, IsFor, AreFor, node_count, nodes_in}
use Rattle.pv_ctc.specs.Symbols.{tokens_at}
use Rattle.pv_ctc.specs.Refusals.{OneSpelling}
use Rattle.pv_ctc.specs.Beginnings.{QuorumsFit, AllQuorumsFit, tokens_in}
use Rattle.pv_ctc.proofs.Spelled.{count_nodes}
use Rattle.pv_ctc.proofs.Running.{program_tokens, list_tokens, more_tokens, tokens_of_program}

-- ---- A program of few nodes wants few of its parts

mutual
  quorums : (count : ℕ) (p : Plan) → IsFor count p → node_count p ≤ 256 → QuorumsFit p
  quorums count (hc4 i) f l = tt
  quorums count (compose ps) f l = all_quorums count ps f.1 (omega arith)
  quorums count (union ps) f l = all_quorums count ps f.1 (omega arith)
  quorums count (qinter q ps) f l = (let most = count_nodes ps in omega (arith, f.1), all_quorums count ps f.2 (omega arith))
  quorums count (fix n p) f l = quorums count p f.2 (omega arith)
  quorums count (prop n) f l = tt

  all_quorums : (count : ℕ) (ps : Plans) → AreFor count ps → nodes_in ps ≤ 256 → AllQuorumsFit ps
  all_quorums count no_plan f l = tt
  all_quorums count (plan_and p ps) f l = (quorums count p f.0 (omega arith), all_quorums count ps f.1 (omega arith))

-- ---- Equal tokens are those of one program

head_is : (s t : Token) (ss ts : List Token) → s ∷ ss ≡ t ∷ ts → s ≡ t
head_is s t ss ts e = cc

tail_is : (s t : Token) (ss ts : List Token) → s ∷ ss ≡ t ∷ ts → ss ≡ ts
tail_is s t ss ts e = cc

number_is : (m n : ℕ) (ss ts : List Token) → Number m ∷ ss ≡ Number n ∷ ts → m ≡ n
number_is m n ss ts e = cc

arguments : (s t u v : Token) (ss ts : List Token) → s ∷ t ∷ ss ≡ u ∷ v ∷ ts → ss ≡ ts
arguments s t u v ss ts e = tail_is t v ss ts (tail_is s u (t ∷ ss) (v ∷ ts) e)

-- a program begins with no parenthesis
apart : (q : Plan) (us ss : List Token) → Close ∷ ss ≡ program_tokens q us → ⊥
apart (hc4 i) us ss e = cc
apart (compose ps) us ss e = cc
apart (union ps) us ss e = cc
apart (qinter n ps) us ss e = cc
apart (fix n p) us ss e = cc
apart (prop n) us ss e = cc

mutual
  one_plan : (p q : Plan) (ss ts : List Token) → program_tokens p ss ≡ program_tokens q ts → (p ≡ q) × (ss ≡ ts)
  one_plan (hc4 i) (hc4 j) ss ts e =
      let a = arguments _ _ _ _ _ _ e in
      (ap hc4 (number_is i j _ _ a), arguments _ _ _ _ _ _ a)
  one_plan (prop i) (prop j) ss ts e =
      let a = arguments _ _ _ _ _ _ e in
      (ap prop (number_is i j _ _ a), arguments _ _ _ _ _ _ a)
  one_plan (compose ps) (compose qs) ss ts e = let r = one_list ps qs ss ts (arguments _ _ _ _ _ _ e) in (ap compose r.0, r.1)
  one_plan (union ps) (union qs) ss ts e = let r = one_list ps qs ss ts (arguments _ _ _ _ _ _ e) in (ap union r.0, r.1)
  one_plan (qinter m ps) (qinter n qs) ss ts e =
      let a = arguments _ _ _ _ _ _ e in
      let r = one_list ps qs ss ts (arguments _ _ _ _ _ _ a) in
      (ap (λ k. qinter k ps) (number_is m n _ _ a) ∙ ap (qinter n) r.0, r.1)
  one_plan (fix m p) (fix n q) ss ts e =
      let a = arguments _ _ _ _ _ _ e in
      let r = one_plan p q (Close ∷ ss) (Close ∷ ts) (arguments _ _ _ _ _ _ a) in
      (ap (λ k. fix k p) (number_is m n _ _ a) ∙ ap (fix n) r.0, tail_is Close Close ss ts r.1)
  one_plan p q ss ts e = absurd (let b : ⊥ = cc in b)

  one_list : (ps qs : Plans) (ss ts : List Token) → list_tokens ps (Close ∷ ss) ≡ list_tokens qs (Close ∷ ts) → (ps ≡ qs) × (ss ≡ ts)
  one_list no_plan no_plan ss ts e = (refl, tail_is Close Close ss ts e)
  one_list no_plan (plan_and q qs) ss ts e = absurd (apart q (more_tokens qs (Close ∷ ts)) ss e)
  one_list (plan_and p ps) no_plan ss ts e = absurd (apart p (more_tokens ps (Close ∷ ss)) ts (sym e))
  one_list (plan_and p ps) (plan_and q qs) ss ts e =
      let r = one_plan p q (more_tokens ps (Close ∷ ss)) (more_tokens qs (Close ∷ ts)) e in
      let s = one_more ps qs ss ts r.1 in
      (ap (λ x. plan_and x ps) r.0 ∙ ap (plan_and q) s.0, s.1)

  one_more : (ps qs : Plans) (ss ts : List Token) → more_tokens ps (Close ∷ ss) ≡ more_tokens qs (Close ∷ ts) → (ps ≡ qs) × (ss ≡ ts)
  one_more no_plan no_plan ss ts e = (refl, tail_is Close Close ss ts e)
  one_more no_plan (plan_and q qs) ss ts e = absurd (let b : ⊥ = cc in b)
  one_more (plan_and p ps) no_plan ss ts e = absurd (let b : ⊥ = cc in b)
  one_more (plan_and p ps) (plan_and q qs) ss ts e =
      let r = one_plan p q (more_tokens ps (Close ∷ ss)) (more_tokens qs (Close ∷ ts)) (tail_is Comma Comma _ _ e) in
      let s = one_more ps qs ss ts r.1 in
      (ap (λ x. plan_and x ps) r.0 ∙ ap (plan_and q) s.0, s.1)

pub one_spelling : OneSpelling
one_spelling count text p q small s t =
    let of_p = tokens_of_program count p small s.fits (quorums count p s.fits s.few) in
    let of_q = tokens_of_program count q small t.fits (quorums count q t.fits t.few) in
    (one_plan p q (End ∷ []) (End ∷ []) (sym of_p ∙ ap (λ x. tokens_in (tokens_at x 0)) (sym s.spelled ∙ t.spelled) ∙ of_q)).0
