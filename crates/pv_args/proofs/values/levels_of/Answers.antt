use Rattle.std.proofs.Common.{rules, [], List, ℕ, subst}
use Rattle.pv_request.specs.Requests.{words_between}
use Rattle.pv_args.proofs.Levels.{Fills, HasRest, fills_on, rest_on, refused_at}
use Rattle.pv_args.proofs.values.levels_of.Goals as goal

pub returns-in-Err : goal.returns-in-Err
returns-in-Err c =
    let words = words_between c.args.text.now in
    refused_at words c.in-Some.word.now (words_between c.in-Some.behind.now) c.in-Err.refusal
    (subst (λ (ws : List (List ℕ)). HasRest words ws) c.in-Some.ensures.0 c.loop-word.invariant.2) c.in-Err.ensures.refused

pub loop-word-preserved : goal.loop-word-preserved
loop-word-preserved c =
    let words = words_between c.args.text.now in (
      search rules,
      fills_on words c.in-Some.word.now (words_between c.in-Some.behind.now) c.loop-word.numbers.items c.push_level.new.numbers.items c.in_default-push_level.ensures.pushed
          (subst (λ (ws : List (List ℕ)). Fills words ws c.loop-word.numbers.items) c.in-Some.ensures.0 c.loop-word.invariant.1),
      rest_on words c.in-Some.word.now (words_between c.in-Some.behind.now) (subst (λ (ws : List (List ℕ)). HasRest words ws) c.in-Some.ensures.0 c.loop-word.invariant.2),
    )

pub returns : goal.returns
returns c =
    let words = words_between c.args.text.now in
    refused_at words c.loop-word.rest.now [] c.in-Err-push_level.refusal
    (subst (λ (ws : List (List ℕ)). HasRest words ws) c.in_default.ensures c.loop-word.invariant.2) c.in-Err-push_level.ensures.refused
