use Rattle.pv_tokens.proofs.Exists.{longest_of_number}
use Rattle.pv_tokens.proofs.scanner.word_at.Goals as goal

pub returns-in-48-to-57 : goal.returns-in-48-to-57
returns-in-48-to-57 c = record { longest = longest_of_number _ _ c.parts_at.result c.parts_at.ensures.number c.parts_at.ensures.longest }
