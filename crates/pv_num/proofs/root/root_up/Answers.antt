use Rattle.std.proofs.Common.{◌∙◌, arith}
use Rattle.pv_num.proofs.Searches.{root_up_is, root_up_none}
use Rattle.pv_num.proofs.root.root_up.Goals as goal

pub returns-then-first-gt-TOP_INDEX : goal.returns-then-first-gt-TOP_INDEX
returns-then-first-gt-TOP_INDEX c =
    root_up_none c.args.z c.args.n c.first_reached-first.result c.requires.not_negative c.requires.finite (omega (arith, c.first_reached-first.ensures.fits)) c.first_reached-first.ensures.below

pub returns : goal.returns
returns c =
    c.number_at.ensures.value
    ∙ root_up_is c.args.z c.args.n c.first_reached-first.result c.requires.not_negative c.requires.finite (omega arith) c.first_reached-first.ensures.below (c.first_reached-first.ensures.here (omega arith))
