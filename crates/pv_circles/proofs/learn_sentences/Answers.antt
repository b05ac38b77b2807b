use Rattle.pv_circles.proofs.MadeSystems.{sample_sentence}
use Rattle.pv_circles.proofs.learn_sentences.Goals as goal

pub returns : goal.returns
returns c = sample_sentence
