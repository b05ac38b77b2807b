use Rattle.std.proofs.Common.{arith, ◌≡◌, sym, ◌∙◌, length, ◌^◌, ◌<◌, subst, to_z, of_z, w64, unsigned_abs}
use Rattle.std.specs.Fmt.{signed_decimal}
use Rattle.pv_num.proofs.Texts.{whole_no_colon, first_colon, front_of, rest_of, none_some, some_some, word64, word16, pair_at}
use Rattle.pv_num.proofs.text.read_parts.Goals as goal

pub returns-in_err-colon-clause-complete : goal.returns-in_err-colon-clause-complete
returns-in_err-colon-clause-complete c = λ m e hm he q.
    absurd (none_some _ (c.in_err-colon.ensures.first ∙ first_colon c.args.bytes.now (signed_decimal m) (signed_decimal e) (whole_no_colon m hm) q))

pub returns-in_err-m-clause-complete : goal.returns-in_err-m-clause-complete
returns-in_err-m-clause-complete c = λ m e hm he q.
    let i : c.in_ok-colon.colon ≡ length (signed_decimal m) = some_some _ _ (c.in_ok-colon.ensures.first ∙ first_colon c.args.bytes.now (signed_decimal m) (signed_decimal e) (whole_no_colon m hm) q) in
    absurd (none_some _ (c.in_err-m.ensures.complete m hm (front_of c.args.bytes.now (signed_decimal m) (signed_decimal e) c.in_ok-colon.colon q i)))

pub returns-in_err-e-clause-complete : goal.returns-in_err-e-clause-complete
returns-in_err-e-clause-complete c = λ m e hm he q.
    let i : c.in_ok-colon.colon ≡ length (signed_decimal m) = some_some _ _ (c.in_ok-colon.ensures.first ∙ first_colon c.args.bytes.now (signed_decimal m) (signed_decimal e) (whole_no_colon m hm) q) in
    absurd (none_some _ (c.in_err-e.ensures.complete e (omega (arith, he)) (rest_of c.args.bytes.now (signed_decimal m) (signed_decimal e) c.in_ok-colon.colon q i)))

pub returns-in_err-e-2-clause-complete : goal.returns-in_err-e-2-clause-complete
returns-in_err-e-2-clause-complete c = λ m e hm he q.
    let i : c.in_ok-colon.colon ≡ length (signed_decimal m) = some_some _ _ (c.in_ok-colon.ensures.first ∙ first_colon c.args.bytes.now (signed_decimal m) (signed_decimal e) (whole_no_colon m hm) q) in
    let same : c.in_ok-e.e ≡ e = some_some _ _ (c.in_ok-e.ensures.complete e (omega (arith, he)) (rest_of c.args.bytes.now (signed_decimal m) (signed_decimal e) c.in_ok-colon.colon q i)) in
    absurd (none_some _ (c.in_err-e-2.ensures.complete (subst (λ x. unsigned_abs x < 2 ^ 15) (sym (word64 c.in_ok-e.e e same (omega (arith, he)))) he)))

pub returns-clause-complete : goal.returns-clause-complete
returns-clause-complete c = λ m e hm he q.
    let i : c.in_ok-colon.colon ≡ length (signed_decimal m) = some_some _ _ (c.in_ok-colon.ensures.first ∙ first_colon c.args.bytes.now (signed_decimal m) (signed_decimal e) (whole_no_colon m hm) q) in
    let same_m : c.in_ok-m.m ≡ m = some_some _ _ (c.in_ok-m.ensures.complete m hm (front_of c.args.bytes.now (signed_decimal m) (signed_decimal e) c.in_ok-colon.colon q i)) in
    let same : c.in_ok-e.e ≡ e = some_some _ _ (c.in_ok-e.ensures.complete e (omega (arith, he)) (rest_of c.args.bytes.now (signed_decimal m) (signed_decimal e) c.in_ok-colon.colon q i)) in
    let w : to_z w64 (of_z w64 c.in_ok-e.e) ≡ e = word64 c.in_ok-e.e e same (omega (arith, he)) in
    let last : c.in_ok-e-2.e ≡ e = some_some _ _ (c.in_ok-e-2.ensures.complete (subst (λ x. unsigned_abs x < 2 ^ 15) (sym w) he)) ∙ w in
    pair_at _ _ m e (word64 c.in_ok-m.m m same_m hm) (word16 c.in_ok-e-2.e e last he)
