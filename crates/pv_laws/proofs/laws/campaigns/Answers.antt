use Rattle.pv_laws.proofs.CampaignLaws.{keeper_fault_breaks_off, memory_keeps_rows, other_names_stay, others_leave_keeper}
use Rattle.pv_laws.proofs.laws.campaigns.Goals as goal

pub returns : goal.returns
returns c = record { fault = keeper_fault_breaks_off; memory = memory_keeps_rows; others = other_names_stay; alone = others_leave_keeper }
