use Rattle.pv_ctc.specs.Plans.{plan_of}
use Rattle.pv_ctc.proofs.Clauses.{members_stay, left_within}
use Rattle.pv_ctc.proofs.program.Program.contract_by.Goals as goal

pub returns-clause-within : goal.returns-clause-within
returns-clause-within g c = left_within c.left_of.result c.args.graphs.now (plan_of c.args.self.now) c.args.bx.now c.left_of.ensures.left

pub returns-clause-members : goal.returns-clause-members
returns-clause-members g c =
    members_stay c.left_of.result c.args.graphs.now (plan_of c.args.self.now) c.args.bx.now c.learn.ensures c.requires.program c.dims-dims.ensures.is_box c.left_of.ensures.left
