use Rattle.std.proofs.Common.{inl, inr}
use Rattle.pv_args.proofs.reading.campaign_in.Goals as goal

pub returns-in-None-effort_in : goal.returns-in-None-effort_in
returns-in-None-effort_in c = inr (inl c.in-None-effort_in.ensures)
