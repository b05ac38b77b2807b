use Rattle.pv_ctc.specs.Plans.{plan_of}
use Rattle.pv_ctc.proofs.Clauses.{are_members}
use Rattle.pv_ctc.proofs.program.Program.sure.Goals as goal

pub returns-clause-members : goal.returns-clause-members
returns-clause-members c = are_members c.is_sure.result c.args.graphs.now (plan_of c.args.self.now) c.args.bx.now c.learn.ensures c.requires.program c.requires.dims c.is_sure.ensures.answer
