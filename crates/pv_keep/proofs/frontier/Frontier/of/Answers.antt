use Rattle.pv_keep.proofs.Fresh.{so_far_first, so_far_next, fewer_left, all_so_far}
use Rattle.pv_keep.proofs.frontier.Frontier.of.Goals as goal

pub loop-open-init : goal.loop-open-init
loop-open-init c = record {
  there = c.first_open-open.ensures.is_open;
  so_far = so_far_first c.args.paving.now.tree c.new-leaves.result.items c.first_open-open.result c.new-leaves.ensures.items c.first_open-open.ensures.first;
}

pub loop-open-preserved : goal.loop-open-preserved
loop-open-preserved c = record {
  there = c.next_open-open.ensures.is_open;
  so_far = so_far_next c.args.paving.now.tree c.loop-open.leaves.items c.push.new.self.items c.loop-open.open c.next_open-open.result c.in-Some.path
      c.loop-open.invariant.so_far c.in-Some.is c.in_ok-push.ensures.items c.next_open-open.ensures.next;
}

pub returns : goal.returns
returns c = all_so_far c.args.paving.now.tree c.loop-open.leaves.items c.loop-open.open c.loop-open.invariant.so_far c.in_default.is

pub loop-open-smaller : goal.loop-open-smaller
loop-open-smaller c = fewer_left c.args.paving.now.tree c.loop-open.open c.next_open-open.result c.in-Some.path c.in-Some.is c.next_open-open.ensures.next
