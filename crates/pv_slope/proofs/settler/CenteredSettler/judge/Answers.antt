use Rattle.std.proofs.Common.{◌≡◌, ◌<◌, length, sym, ◌∙◌, subst, ap, rules}
use Rattle.std.specs.Prelude.{IfOk, vec_len}
use Rattle.pv_hc4.specs.Totality.{sure_of}
use Rattle.pv_hc4.specs.Members.{AreOver}
use Rattle.pv_ctc.specs.Contracting.{sides_in, side_at}
use Rattle.pv_ctc.proofs.Shrinking.{over_at}
use Rattle.pv_settle.specs.Rules.{dims_of}
use Rattle.pv_settle.specs.Settlers.{rule_of}
use Rattle.pv_slope.proofs.Matched.{match_read, match_length}
use Rattle.pv_slope.proofs.Weighing.{none_of_match, sure_of_match, sure_not_none, unsure_other}
use Rattle.pv_slope.proofs.settler.CenteredSettler.judge.Goals as goal

pub index-requires : goal.index-requires
index-requires c =
    let r = rule_of c.args.self.now.settler in
    let same : length c.args.self.now.slopes.items ≡ vec_len c.args.self.now.slopes = search rules in
    subst (λ n. c.args.i < n) (sym (match_length (dims_of r) c.args.self.now.slopes.items (sides_in r.graphs) c.args.self.now.slopes_fit) ∙ same) c.requires.constraint

pub judge_in-requires-clause-dims : goal.judge_in-requires-clause-dims
judge_in-requires-clause-dims c =
    let r = rule_of c.args.self.now.settler in
    c.requires.dims ∙ sym (match_read (dims_of r) c.args.self.now.slopes.items (sides_in r.graphs) c.args.i c.index.result.now c.args.self.now.slopes_fit c.requires.constraint c.index.ensures).dims

pub returns-then-branch-clause-none : goal.returns-then-branch-clause-none
returns-then-branch-clause-none c =
    let r = rule_of c.args.self.now.settler in
    let s = side_at (sides_in r.graphs) c.args.i in
    let over = subst (λ m. AreOver m s) (c.learn.ensures.dims ∙ sym c.requires.dims) (over_at r.graphs.dims (sides_in r.graphs) c.args.i c.learn.ensures.over c.requires.constraint) in
    let is : sure_of s c.args.to.now ≡ c.in_ok-sure_knowing.field-0 = ap (λ g. sure_of (side_at (sides_in g) c.args.i) c.args.to.now) (sym c.graphs-graphs.ensures) ∙ sym c.in_ok-sure_knowing.ensures.answer in
    sym (sure_not_none s c.args.to.now over c.dims-box.ensures.is_box (is ∙ c.if-branch.true))

pub returns-clause-none : goal.returns-clause-none
returns-clause-none c =
    let r = rule_of c.args.self.now.settler in
    let m = match_read (dims_of r) c.args.self.now.slopes.items (sides_in r.graphs) c.args.i c.index.result.now c.args.self.now.slopes_fit c.requires.constraint c.index.ensures in
    subst (λ z. IfOk c.judge_in.result (λ v. v.none ≡ z))
    (none_of_match (dims_of r) c.index.result.now (side_at (sides_in r.graphs) c.args.i) c.args.to.now m) c.judge_in.ensures.none

pub returns-clause-sure : goal.returns-clause-sure
returns-clause-sure c =
    let r = rule_of c.args.self.now.settler in
    let s = side_at (sides_in r.graphs) c.args.i in
    let m = match_read (dims_of r) c.args.self.now.slopes.items (sides_in r.graphs) c.args.i c.index.result.now c.args.self.now.slopes_fit c.requires.constraint c.index.ensures in
    let is : sure_of s c.args.to.now ≡ c.in_ok-sure_knowing.field-0 = ap (λ g. sure_of (side_at (sides_in g) c.args.i) c.args.to.now) (sym c.graphs-graphs.ensures) ∙ sym c.in_ok-sure_knowing.ensures.answer in
    subst (λ z. IfOk c.judge_in.result (λ v. v.sure ≡ z))
    (sure_of_match (dims_of r) c.index.result.now s c.args.to.now m
    ∙ sym (unsure_other s c.args.to.now c.in_ok-sure_knowing.field-0 is c.if-branch.false))
    c.judge_in.ensures.sure
