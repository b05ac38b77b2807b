use Rattle.pv_num.proofs.Scales.{round_product}
use Rattle.pv_num.proofs.product.rare_product.Goals as goal

pub returns : goal.returns
returns c = round_product c.args.toward c.args.parts c.args.scale c.round.result c.round.ensures
