use Rattle.std.proofs.Common.{ap}
use Rattle.std.proofs.lemmas.Str.{IsUtf8-from_ascii}
use Rattle.pv_parse.specs.Scopes.{unbounded}
use Rattle.pv_parse.proofs.Scopes.{pushed}
use Rattle.pv_parse.proofs.state.State.declare.Goals as goal

pub returns-clause-variables : goal.returns-clause-variables
returns-clause-variables c =
    pushed _ _ _ (unbounded c.args.name.now) c.in_ok-push.ensures.items (ap unbounded (c.in_ok-own.ensures.ok (IsUtf8-from_ascii c.args.name.now c.requires)))
