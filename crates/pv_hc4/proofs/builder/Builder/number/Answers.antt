use Rattle.std.proofs.Common.{rules}
use Rattle.pv_hc4.proofs.Numbering.{numbered_more}
use Rattle.pv_hc4.proofs.builder.Builder.number.Goals as goal

pub returns-clause-numbered : goal.returns-clause-numbered
returns-clause-numbered c =
    numbered_more c.args.self.now.nodes.items c.push.new.self.items c.args.self.now.numbers c.put_number.new.numbers c.args.node c.requires.numbered (search rules) (search rules) (search rules)
