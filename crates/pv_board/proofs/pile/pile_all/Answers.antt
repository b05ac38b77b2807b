use Rattle.std.proofs.Common.{◌≡◌, ◌<◌, ◌∙◌, length, arith, rules}
use Rattle.std.specs.Prelude.{vec_len, vec_capacity}
use Rattle.pv_board.specs.Rules.{settled_in}
use Rattle.pv_board.proofs.Preorder.{none_listed, one_listed, may_list, fewer_left, all_piled}
use Rattle.pv_board.proofs.pile.pile_all.Goals as goal

pub loop-next-init : goal.loop-next-init
loop-next-init c = record {
  there = c.first_open-next.ensures.is_open;
  listed = none_listed c.args.paving.now.tree c.args.free.now.items c.first_open-next.result c.requires.none c.first_open-next.ensures.first;
  room = search rules;
}

pub push_reserved-requires : goal.push_reserved-requires
push_reserved-requires c =
    let few : settled_in c.args.paving.now.tree < vec_capacity c.loop-next.free = search rules in
    let less = may_list c.args.paving.now.tree c.loop-next.free.items c.loop-next.next c.in-Some.path (vec_capacity c.loop-next.free) c.loop-next.invariant.listed c.in-Some.is few in
    let count : vec_len c.loop-next.free ≡ length c.loop-next.free.items = search rules in
    omega (arith, less, count)

pub loop-next-preserved : goal.loop-next-preserved
loop-next-preserved c = record {
  there = c.next_open-next.ensures.is_open;
  listed = one_listed c.args.paving.now.tree c.loop-next.free.items c.push_reserved.new.self.items c.loop-next.next c.next_open-next.result c.in-Some.path c.loop-next.invariant.listed c.in-Some.is c.push_reserved.ensures.items c.next_open-next.ensures.next;
  room = search rules;
}

pub loop-next-smaller : goal.loop-next-smaller
loop-next-smaller c = fewer_left c.args.paving.now.tree c.loop-next.free.items c.push_reserved.new.self.items c.loop-next.next c.in-Some.path c.loop-next.invariant.listed c.in-Some.is c.push_reserved.ensures.items

pub returns-clause-piled : goal.returns-clause-piled
returns-clause-piled c = c.reverse.ensures.items ∙ all_piled c.args.paving.now.tree c.loop-next.free.items c.loop-next.next c.loop-next.invariant.listed c.in_default.is
