use Rattle.std.proofs.Common.{◌≡◌, length, rules}
use Rattle.pv_code.proofs.Leaving.{stacked-none, stacked-pop}
use Rattle.pv_code.proofs.value.topmost.Goals as goal

pub returns-in-Some : goal.returns-in-Some
returns-in-Some c = λ x ts s. stacked-pop x _ _ _ ts c.in-Some.ensures.items s

pub returns-in_ok-nothing-in-None : goal.returns-in_ok-nothing-in-None
returns-in_ok-nothing-in-None c =
    let old : length c.args.stack.now.items ≡ 0 = search rules in
    let new : length c.pop.new.self.items ≡ 0 = search rules in
    λ x ts s. stacked-none x _ _ _ ts old new (c.in_ok-nothing-in-None.ensures x) s
