use Rattle.std.proofs.Common.{◌≡◌, rules}
use Rattle.pv_product.specs.Products.{text_of}
use Rattle.pv_run.proofs.Sampled.{not_read, made_rule, not_made}
use Rattle.pv_run.proofs.sample.settler_of.Goals as goal

pub returns-in-Err-clause-refused : goal.returns-in-Err-clause-refused
returns-in-Err-clause-refused c =
    let same : c.deref.result.now ≡ text_of c.args.circles.now = search rules in
    not_read c.args.circles.now c.deref.result.now c.in-Err.fault c.into.result same
    (record { placed = c.in-Err.ensures.placed; long = c.in-Err.ensures.long; because = c.in-Err.ensures.fault }) c.into.ensures

pub returns-clause-rule : goal.returns-clause-rule
returns-clause-rule c =
    let same : c.deref.result.now ≡ text_of c.args.circles.now = search rules in
    made_rule c.args.circles.now c.args.settings.now c.deref.result.now c.in-Ok.system c.settler_for.result same c.in-Ok.ensures.means c.settler_for.ensures.rule

pub returns-clause-refused : goal.returns-clause-refused
returns-clause-refused c =
    not_made c.args.settings.now c.in-Ok.system c.settler_for.result c.requires c.settler_for.ensures.refused
