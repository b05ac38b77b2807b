use Rattle.std.proofs.Common.{◌≡◌, ◌<◌, Some, true, false, length, sym, ap, ◌∙◌, subst, arith}
use Rattle.pv_num.specs.Order.{le}
use Rattle.pv_box.specs.Choice.{choose_of}
use Rattle.pv_box.specs.declared.choice.Bisector.TheVariants.{Round}
use Rattle.pv_tree.specs.declared.outcome.Outcome.TheVariants.{Cut}
use Rattle.test_sample.specs.Rule.{turn_of, cuts_at}
use Rattle.test_sample.proofs.Cutting.{cuts_there, first_reaches, first_above, cut_is}
use Rattle.test_sample.proofs.above.AboveSettler.settle.Goals as goal

pub returns-in-Some : goal.returns-in-Some
returns-in-Some c =
    let some : 0 < length c.args.bx.now = c.dims-places.ensures.is_box.some in
    let same = c.in_ok-to.ensures in
    let high : le c.args.self.now.limit c.get-first.result.hi ≡ true = cc (c.le.ensures, c.if-not-le.false, c.hi.ensures.value) in
    let low : le c.args.self.now.limit c.get-first.result.lo ≡ false = cc (c.le-2.ensures, c.if-le.false, c.lo.ensures.value) in
    let more : 0 < c.args.depth_left = (let e = c.if-depth_left-eq0.false in omega (arith, e)) in
    let chosen : choose_of Round (turn_of c.args.self.now.wide c.args.path_len) c.args.bx.now ≡ Some (c.in-Some.choice.0, c.in-Some.choice.1) =
    (λ i. choose_of Round (sym c.turn.ensures i) (sym same i)) ∙ sym c.in-Some.ensures.choice in
    ap (λ b. Cut b c.in-Some.choice.0 c.in-Some.choice.1) same
    ∙ cut_is c.args.self.now.limit c.args.self.now.wide c.args.bx.now c.args.depth_left c.args.path_len c.in-Some.choice.0 c.in-Some.choice.1
    (first_reaches c.args.self.now.limit c.args.bx.now c.get-first.result some c.get-first.ensures.value ∙ high)
    (first_above c.args.self.now.limit c.args.bx.now c.get-first.result some c.get-first.ensures.value ∙ low)
    more chosen
    (subst (λ b. cuts_at c.in-Some.choice.1 c.in-Some.choice.0 b ≡ true) same (cuts_there c.in-Some.choice.1 c.in-Some.choice.0 c.in_ok-to.to _ c.in-Some.ensures.place c.in-Some.ensures.inside))
