use Rattle.pv_product.proofs.Ends.{passed, text_delivered, text_undelivered}
use Rattle.pv_deliver.proofs.deliver.deliver.Goals as goal

pub returns-in_err-print_picture-in-Picture-default-clause-refused : goal.returns-in_err-print_picture-in-Picture-default-clause-refused
returns-in_err-print_picture-in-Picture-default-clause-refused g c =
    rw c.in-Picture-default.is-0
    (passed c.from_residual-in_err-print_picture-in-Picture-default.result c.in_err-print_picture-in-Picture-default.field-0.0 _
    c.from_residual-in_err-print_picture-in-Picture-default.ensures.1
    (text_undelivered _ _ _ _ _ _ c.in_err-print_picture-in-Picture-default.ensures.refused))

pub returns-in_ok-print_picture-in-Picture-default-clause-delivered : goal.returns-in_ok-print_picture-in-Picture-default-clause-delivered
returns-in_ok-print_picture-in-Picture-default-clause-delivered g c =
    rw c.in-Picture-default.is-0 (text_delivered _ _ _ _ _ c.in_ok-print_picture-in-Picture-default.ensures.whole)
