use Rattle.std.proofs.Common.{ap, length, ◌≡◌, rules}
use Rattle.pv_grammar.proofs.Piles.{settles_met, settles_more, settles_none, none_left}
use Rattle.pv_grammar.proofs.machine.Machine.settle.Goals as goal

pub returns-then-stays : goal.returns-then-stays
returns-then-stays c =
    c.loop-item.invariant _ _ _ (settles_met c.args.symbol c.loop-item.self.stack.items c.pop.new.self.items c.in-Some.item c.loop-item.self.code.items c.in-Some.ensures.items c.if-stays.ensures.meets)

pub loop-item-preserved : goal.loop-item-preserved
loop-item-preserved c = λ o rest more h.
    c.loop-item.invariant o rest more
    (settles_more c.args.symbol c.loop-item.self.stack.items c.pop.new.self.items c.end.new.self.stack.items c.in-Some.item
    c.loop-item.self.code.items c.end.new.self.code.items c.in-Some.ensures.items
    (ap (λ v. v.items) c.in_ok-end.ensures.stack) c.in_ok-end.ensures.code c.if-stays.ensures.ends.0 c.if-stays.ensures.ends.1 o rest more h)

pub returns : goal.returns
returns c =
    let before : length c.loop-item.self.stack.items ≡ 0 = search (rules, c.in_default.ensures.cases) in
    let after : length c.pop.new.self.items ≡ 0 = search (rules, c.in_default.ensures.cases) in
    c.loop-item.invariant _ _ _ (settles_none c.args.symbol c.loop-item.self.stack.items c.pop.new.self.items c.loop-item.self.code.items (none_left _ before) (none_left _ after))
