use Rattle.std.proofs.Common.{arith}
use Rattle.std.proofs.lemmas.Map.Text.{text_keys}
use Rattle.pv_keep.proofs.mem_keeper.add_shelf.Goals as goal

pub returns-clause-others : goal.returns-clause-others
returns-clause-others c = λ other h. grind (arith, text_keys)
