use Rattle.std.proofs.Common.{sym, ◌∙◌}
use Rattle.pv_box.proofs.Chosen.{chosen_widest}
use Rattle.pv_box.proofs.boxes.IBox.widest.Goals as goal

pub returns-in-Some-clause-widest : goal.returns-in-Some-clause-widest
returns-in-Some-clause-widest c =
    chosen_widest c.args.self.now c.widest_place-var.result c.in-Some.at c.get.result c.widest_place-var.ensures c.get.ensures.value (sym c.in-Some.is ∙ c.cut_of.ensures.cut)
