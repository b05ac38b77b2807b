use Rattle.std.proofs.Common.{◌≡◌, ◌+◌, ◌<◌, length, take, true, ap, sym, ◌∙◌, arith, rules}
use Rattle.std.specs.Prelude.{vec_len}
use Rattle.pv_ctc.specs.Contracting.{sides_in}
use Rattle.pv_ctc.specs.Plans.{plan_of}
use Rattle.pv_settle.specs.Rules.{dims_of}
use Rattle.pv_settle.specs.Settlers.{rule_of}
use Rattle.pv_slope.specs.Programs.{none_by, none_tests}
use Rattle.pv_slope.specs.Tests.{centered_none, counts_as_sure}
use Rattle.pv_slope.proofs.Firsts.{none_by_first}
use Rattle.pv_slope.proofs.Matched.{match_length}
use Rattle.pv_slope.proofs.Weighing.{test_more}
use Rattle.pv_slope.proofs.settler.CenteredSettler.judge_all.Goals as goal

pub loop-i-init : goal.loop-i-init
loop-i-init c =
    let r = rule_of c.args.self.now.settler in
    let same : vec_len c.args.self.now.slopes ≡ length c.args.self.now.slopes.items = search rules in
    record {
      end = c.len-i-end.ensures ∙ same ∙ match_length (dims_of r) c.args.self.now.slopes.items (sides_in r.graphs) c.args.self.now.slopes_fit;
      none = c.clear.ensures.items;
      sure = c.clear-2.ensures.items;
      known = c.requires.known;
    }

pub loop-i-preserved : goal.loop-i-preserved
loop-i-preserved c =
    let ss = sides_in (rule_of c.args.self.now.settler).graphs in
    let inside : c.loop-i.i < length ss = omega arith in
    record {
      end = c.loop-i.invariant.end;
      none = c.in_ok-push.ensures.items ∙ test_more (λ s. centered_none s c.args.to.now) ss c.loop-i.i c.loop-i.room.none.items c.in_ok-verdict.verdict.none inside c.loop-i.invariant.none c.in_ok-verdict.ensures.none;
      sure = c.in_ok-push-2.ensures.items ∙ test_more (λ s. counts_as_sure s c.args.to.now) ss c.loop-i.i c.loop-i.room.sure.items c.in_ok-verdict.verdict.sure inside c.loop-i.invariant.sure c.in_ok-verdict.ensures.sure;
      known = c.in_ok-verdict.ensures.known;
    }

pub returns-then-has_none-clause-none : goal.returns-then-has_none-clause-none
returns-then-has_none-clause-none c =
    let r = rule_of c.args.self.now.settler in
    let ss = sides_in r.graphs in
    let tests = none_tests ss c.args.to.now in
    let first = c.deref.result.now in
    let inside : c.loop-i.i < length ss = omega arith in
    let taken : first ≡ take (c.loop-i.i + 1) tests =
    c.deref.ensures.value ∙ c.in_ok-push.ensures.items
    ∙ test_more (λ s. centered_none s c.args.to.now) ss c.loop-i.i c.loop-i.room.none.items c.in_ok-verdict.verdict.none inside c.loop-i.invariant.none c.in_ok-verdict.ensures.none in
    let none : none_by first (plan_of r.program) ≡ true = ap (λ q. none_by first (plan_of q)) (sym c.program-program.ensures) ∙ sym c.has_none.ensures ∙ c.if-has_none.true in
    sym (none_by_first (c.loop-i.i + 1) first tests (plan_of r.program) taken none)
