use Rattle.std.proofs.Common.{◌≡◌, ◌∙◌, length, rules}
use Rattle.pv_code.proofs.Building.{stack-none, stack-pop}
use Rattle.pv_code.proofs.expand.taken.Goals as goal

pub returns-in-Some : goal.returns-in-Some
returns-in-Some c = let both = stack-pop _ _ _ c.in-Some.ensures.items in record { value = both.0; stack = both.1 }

pub returns-in-None : goal.returns-in-None
returns-in-None c =
    let old : length c.args.stack.now.items ≡ 0 = search rules in
    let new : length c.pop.new.self.items ≡ 0 = search rules in
    let both = stack-none c.args.stack.now.items c.pop.new.self.items old new in
    record { value = c.nothing.ensures ∙ both.0; stack = both.1 }
