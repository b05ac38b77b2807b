use Rattle.std.proofs.Common.{rules, ◌≡◌, false}
use Rattle.pv_code.specs.Expansion.{occurs}
use Rattle.pv_code.proofs.Moving.{moved_alike}
use Rattle.pv_code.proofs.expand.argument.Goals as goal

pub returns-clause-rest : goal.returns-clause-rest
returns-clause-rest c =
    let gone : occurs c.args.i c.args.rest.now ≡ false = search rules in
    moved_alike c.args.rest.now c.args.arguments.now c.args.i c.replace.new.dest gone
