use Rattle.pv_keep.proofs.Opening.{grown_join}
use Rattle.pv_keep.proofs.campaign.Campaign.save_from.Goals as goal

pub returns-clause-joined : goal.returns-clause-joined
returns-clause-joined g c = λ earlier h. grown_join earlier c.args.grown.tree h
