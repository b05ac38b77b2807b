use Rattle.pv_laws.proofs.Complete.{right_is_answered, paving_is_audited}
use Rattle.pv_laws.proofs.laws.right_is_answered.Goals as goal

pub returns : goal.returns
returns c = record { right = right_is_answered c.rows_make_their_paving.ensures.pavings; audited = paving_is_audited }
