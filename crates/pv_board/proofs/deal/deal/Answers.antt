use Rattle.std.proofs.Common.{◌≡◌, ◌+◌, ◌++◌, ◌∷◌, [], take, arith}
use Rattle.std.proofs.lemmas.Grind.{common_steps}
use Rattle.pv_board.proofs.Dealing.{offered_more, tickets_more}
use Rattle.pv_board.proofs.deal.deal.Goals as goal

pub loop-i-preserved : goal.loop-i-preserved
loop-i-preserved c =
    let l = c.loop-i in let ps = take l.i c.args.paths.now in let qs = take (l.i + 1) c.args.paths.now in let p = c.index-paths-i.result in
    let e : qs ≡ ps ++ p ∷ [] = grind (arith, common_steps) in
    record {
      offered = offered_more c.args.leaves.now l.leaves c.deal_one.new.leaves ps qs p e l.invariant.offered c.deal_one.ensures.offered;
      tickets = tickets_more c.args.leaves.now l.leaves ps qs p c.args.children.now l.children c.deal_one.new.children e l.invariant.offered l.invariant.tickets c.deal_one.ensures.tickets;
    }
