use Rattle.std.proofs.Common.{◌≡◌, rules}
use Rattle.pv_num.specs.Arithmetic.{ratio_of}
use Rattle.pv_num.specs.declared.num.End.TheVariants.{Down}
use Rattle.pv_args.proofs.Widths.{width_from, width_finite}
use Rattle.pv_args.proofs.values.width_of.Goals as goal

pub returns-clause-from : goal.returns-clause-from
returns-clause-from c =
    let is : c.from_ratio.result ≡ ratio_of Down c.in_ok-p.p c.in_ok-p.q = search rules in
    width_from _ (c.in_ok-p.p, c.in_ok-p.q) c.from_ratio.result c.in_ok-p.ensures.read is

pub returns-clause-finite : goal.returns-clause-finite
returns-clause-finite c =
    let is : c.from_ratio.result ≡ ratio_of Down c.in_ok-p.p c.in_ok-p.q = search rules in
    width_finite (c.in_ok-p.p, c.in_ok-p.q) c.from_ratio.result c.in_ok-p.ensures.fraction is
