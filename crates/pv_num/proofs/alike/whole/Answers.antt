use Rattle.pv_num.proofs.Wholes.{is_shifted, casts, word_whole}
use Rattle.pv_num.proofs.alike.whole.Goals as goal

pub overflow_cast-result-3 : goal.overflow_cast-result-3
overflow_cast-result-3 c =
    casts c.args.toward c.args.mantissa c.args.distance _ c.requires
    (is_shifted c.args.toward c.args.mantissa c.args.distance c.reach.result c.up-up.result c.requires c.reach.ensures.near c.reach.ensures.far c.up-up.ensures.zero c.up-up.ensures.away)

pub returns-clause-whole : goal.returns-clause-whole
returns-clause-whole c =
    word_whole c.args.toward c.args.mantissa c.args.distance _
    (is_shifted c.args.toward c.args.mantissa c.args.distance c.reach.result c.up-up.result c.requires c.reach.ensures.near c.reach.ensures.far c.up-up.ensures.zero c.up-up.ensures.away)
