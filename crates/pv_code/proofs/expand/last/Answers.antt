use Rattle.std.proofs.Common.{◌≡◌, ◌-◌, length, rules}
use Rattle.pv_code.proofs.Building.{last-values, last-rest}
use Rattle.pv_code.proofs.expand.last.Goals as goal

pub returns-clause-values : goal.returns-clause-values
returns-clause-values c =
    let first : c.saturating_sub-first.result ≡ length c.args.stack.now.items - c.args.n = search rules in
    last-values c.args.stack.now.items _ c.args.n c.saturating_sub-first.result first c.in_ok-split_off.ensures.tail

pub returns-clause-stack : goal.returns-clause-stack
returns-clause-stack c =
    let first : c.saturating_sub-first.result ≡ length c.args.stack.now.items - c.args.n = search rules in
    last-rest c.args.stack.now.items _ c.args.n c.saturating_sub-first.result first c.in_ok-split_off.ensures.items
