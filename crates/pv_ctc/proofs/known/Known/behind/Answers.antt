use Rattle.pv_ctc.specs.Contracting.{sides_in}
use Rattle.pv_ctc.proofs.Noting.{known_part}
use Rattle.pv_ctc.proofs.known.Known.behind.Goals as goal

pub returns-in-Changed : goal.returns-in-Changed
returns-in-Changed c = λ b d i w h s. known_part c.args.graphs.now.dims (sides_in c.args.graphs.now) c.args.self c.none.result b d c.learn.ensures i w c.none.ensures h
