use Rattle.std.proofs.Common.{◌++◌, option_to_list}
use Rattle.pv_events.proofs.Answers.{settlings_are_events}
use Rattle.pv_events.proofs.calls.settle.Goals as goal

pub returns : goal.returns
returns g c =
    settlings_are_events g.N.Naming.rule g.N.Naming.depth g.N.Naming.dims g.N.Naming.root g.N.Naming.opening g.N.Naming.limit c.args.board.now c.settle.new.self c.args.ticket c.args.outcome c.settle.result.fresh
    (option_to_list c.settle.result.low ++ option_to_list c.settle.result.high) c.used-used.ensures.opening c.requires.due c.settle.ensures.fresh c.settle.ensures.settled c.settle.ensures.stale
