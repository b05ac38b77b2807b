use Rattle.pv_box.proofs.Chosen.{said}
use Rattle.pv_box.proofs.laws.choice_in_words.Goals as goal

pub returns : goal.returns
returns c = said
