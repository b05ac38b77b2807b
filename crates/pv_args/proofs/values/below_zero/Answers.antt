use Rattle.std.proofs.Common.{◌≡◌, rules}
use Rattle.std.specs.Prelude.{neg_ℤ}
use Rattle.pv_num.specs.Arithmetic.{ratio_of}
use Rattle.pv_num.specs.declared.num.End.TheVariants.{Down}
use Rattle.pv_args.proofs.Levels.{digits_are, minus_level}
use Rattle.pv_args.proofs.values.below_zero.Goals as goal

pub returns : goal.returns
returns c =
    let is : c.from_ratio.result ≡ ratio_of Down (neg_ℤ c.in_ok-p.p) c.in_ok-p.q = search rules in
    minus_level c.args.word.now c.in_ok-digits.digits.now (c.in_ok-p.p, c.in_ok-p.q) c.from_ratio.result
    (digits_are c.args.word.now c.in_ok-digits.digits.now _ c.in_ok-digits.ensures.cases.0 c.requires) c.requires c.in_ok-p.ensures.read is
