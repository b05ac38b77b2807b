-- What becomes of a keeper's refusals.
use Rattle.pv_keep.specs.declared.keeper.BeginRefused.{BeginRefused}
use Rattle.pv_keep.specs.declared.keeper.BeginRefused.TheVariants as begin
use Rattle.pv_keep.specs.declared.keeper.LoadRefused.{LoadRefused}
use Rattle.pv_keep.specs.declared.keeper.LoadRefused.TheVariants as load
use Rattle.pv_keep.specs.declared.refusal.CampaignRefused.{CampaignRefused}
use Rattle.pv_keep.specs.declared.refusal.CampaignRefused.TheVariants as opening

abbrev pub opening_after_begin : BeginRefused → CampaignRefused
opening_after_begin begin.Failed = opening.Failed
opening_after_begin begin.Memory = opening.Memory
opening_after_begin (begin.OtherIdentity kept) = opening.OtherIdentity kept

abbrev pub opening_after_load : LoadRefused → CampaignRefused
opening_after_load load.Failed = opening.Failed
opening_after_load load.Memory = opening.Memory
opening_after_load load.TooMany = opening.TooMany
