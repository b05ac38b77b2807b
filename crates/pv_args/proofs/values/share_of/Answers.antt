use Rattle.pv_args.proofs.Slashes.{no_number, no_count, share_made}
use Rattle.pv_args.proofs.values.share_of.Goals as goal

pub returns-in_err-number : goal.returns-in_err-number
returns-in_err-number c = rw c.from_residual.ensures (λ s h. c.in_err-number.ensures h.number h.of h.words)

pub returns-in_err-number-2 : goal.returns-in_err-number-2
returns-in_err-number-2 c =
    rw c.from_residual-in_err-number-2.ensures (λ s h. no_number c.args.text.now c.in_ok-number.number.now c.in_ok-number.of.now s c.in_ok-number.ensures c.in_err-number-2.ensures h)

pub returns-in_err-of : goal.returns-in_err-of
returns-in_err-of c =
    rw c.from_residual-in_err-of.ensures (λ s h. no_count c.args.text.now c.in_ok-number.number.now c.in_ok-number.of.now s c.in_ok-number.ensures c.in_err-of.ensures h)

pub returns : goal.returns
returns c =
    share_made c.args.text.now c.in_ok-number.number.now c.in_ok-number.of.now c.in_ok-number-2.number c.in_ok-of.of c.new.result c.in_ok-number.ensures c.in_ok-number-2.ensures c.in_ok-of.ensures
    c.new.ensures.sound c.new.ensures.complete
