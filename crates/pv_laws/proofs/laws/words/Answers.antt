use Rattle.pv_laws.proofs.WordLaws.{asking_is_not_refused, refused_words_end, usage_is_of_words}
use Rattle.pv_laws.proofs.laws.words.Goals as goal

pub returns : goal.returns
returns c = record { asked = asking_is_not_refused; refused = refused_words_end; usage = usage_is_of_words }
