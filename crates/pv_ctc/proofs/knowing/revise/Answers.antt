use Rattle.std.proofs.Common.{length, sym, ◌∙◌, ◌<◌, arith}
use Rattle.std.proofs.lemmas.List.{length-map}
use Rattle.pv_hc4.specs.Graphs.{sides_of}
use Rattle.pv_hc4.specs.Revise.{revised}
use Rattle.pv_ctc.specs.Contracting.{sides_in, side_at}
use Rattle.pv_ctc.proofs.Noting.{settled_keeps, kept_step}
use Rattle.pv_ctc.proofs.knowing.revise.Goals as goal

pub returns-then-settles-clause-step : goal.returns-then-settles-clause-step
returns-then-settles-clause-step c =
    let ss = sides_in c.args.graphs.now in
    let b = c.args.bx.now in
    let l : c.args.i < length ss = let m = length-map c.args.graphs.now.graphs sides_of in omega (arith, m, c.requires.constraint) in
    kept_step (revised (side_at ss c.args.i) b) b
    (settled_keeps c.args.graphs.now.dims ss c.args.known.now b c.args.i c.learn.ensures c.dims-before.ensures.is_box c.requires.known l (sym c.settles.ensures ∙ c.if-settles.true))
