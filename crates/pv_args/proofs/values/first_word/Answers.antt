use Rattle.pv_args.proofs.Levels.{split_words}
use Rattle.pv_args.proofs.values.first_word.Goals as goal

pub returns : goal.returns
returns c = split_words c.args.text.now c.split_once.result c.split_once.ensures.cases
