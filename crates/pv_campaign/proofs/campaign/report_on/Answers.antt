use Rattle.std.proofs.Common.{subst}
use Rattle.pv_tree.specs.Trees.{Seen}
use Rattle.pv_slope.specs.Methods.{method_of}
use Rattle.pv_product.specs.Products.{LearnsHeld}
use Rattle.pv_campaign.proofs.campaign.report_on.Goals as goal

pub returns-in_err-summary-clause-learns : goal.returns-in_err-summary-clause-learns
returns-in_err-summary-clause-learns c = subst (λ (p : Seen). LearnsHeld (method_of c.args.settler.now) p.tree) c.paving-paving.ensures.is c.learn_held.ensures

pub returns-clause-learns : goal.returns-clause-learns
returns-clause-learns c = subst (λ (p : Seen). LearnsHeld (method_of c.args.settler.now) p.tree) c.paving-paving.ensures.is c.learn_held.ensures
