use Rattle.std.proofs.Common.{◌≡◌, ap, rules}
use Rattle.std.specs.Prelude.{Some}
use Rattle.pv_file.proofs.Digests.{decoded, refused, spelled}
use Rattle.pv_file.proofs.header.digest_of.Goals as goal

pub returns-then-is_err-clause-complete : goal.returns-then-is_err-clause-complete
returns-then-is_err-clause-complete c = λ d digest e.
    absurd (refused c.args.digits.now d _ _ c.decode_to_slice.result c.is_err.result digest e (search rules) c.decode_to_slice.ensures.value c.is_err.ensures.value c.if-is_err.true)

pub returns-then-eq-clause-complete : goal.returns-then-eq-clause-complete
returns-then-eq-clause-complete c = λ d digest e.
    ap Some (decoded c.args.digits.now d _ _ c.decode_to_slice.result digest e (search rules) c.decode_to_slice.ensures.value)

pub returns-else-eq-clause-complete : goal.returns-else-eq-clause-complete
returns-else-eq-clause-complete c = λ d digest e.
    let same = decoded c.args.digits.now d _ _ c.decode_to_slice.result digest e (search rules) c.decode_to_slice.ensures.value in
    let text : c.args.digits.now ≡ c.hex_digits.result = spelled c.args.digits.now d _ _ e same c.hex_digits.ensures in
    search rules
