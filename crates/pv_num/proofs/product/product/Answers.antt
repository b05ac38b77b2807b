use Rattle.std.proofs.Common.{Some, ◌∙◌}
use Rattle.pv_num.proofs.Products.{product_rounded}
use Rattle.pv_num.proofs.product.product.Goals as goal

pub returns-then-parts-lt-FULL : goal.returns-then-parts-lt-FULL
returns-then-parts-lt-FULL c =
    c.signed.ensures
    ∙ product_rounded c.args.side c.args.negative c.toward-toward.result c.args.x.mantissa c.args.x.exponent c.args.y.mantissa c.args.y.exponent c.rare_product.result c.toward-toward.ensures c.rare_product.ensures

pub returns : goal.returns
returns c =
    c.nonzero.ensures
    ∙ product_rounded c.args.side c.args.negative c.toward-toward.result c.args.x.mantissa c.args.x.exponent c.args.y.mantissa c.args.y.exponent (Some c.full_product.result) c.toward-toward.ensures c.full_product.ensures.sized
