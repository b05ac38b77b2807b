use Rattle.pv_product.specs.Made.{made}
use Rattle.pv_product.proofs.Ends.{when_delivered, when_undelivered}
use Rattle.pv_cli.proofs.main_call.answer.Goals as goal

pub returns-in-Ok-clause-answered : goal.returns-in-Ok-clause-answered
returns-in-Ok-clause-answered g c =
    when_delivered _ _ _ c.in-Ok.ensures.read _ _ _ _ c.deliver.result c.args.request.now (made c.in-Ok.product) _ c.file_of.ensures c.in-Ok.ensures.comes c.deliver.ensures.status
    c.deliver.ensures.delivered

pub returns-in-Ok-clause-refused : goal.returns-in-Ok-clause-refused
returns-in-Ok-clause-refused g c =
    when_undelivered _ _ _ c.in-Ok.ensures.read _ _ _ _ c.deliver.result c.args.request.now (made c.in-Ok.product) _ c.file_of.ensures c.in-Ok.ensures.comes c.deliver.ensures.refused
