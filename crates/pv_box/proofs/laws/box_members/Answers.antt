use Rattle.pv_box.proofs.Kept.{halves-cover, hull-keeps, meet-keeps, meet-common, apart-none}
use Rattle.pv_box.proofs.laws.box_members.Goals as goal

pub returns : goal.returns
returns c = record { halves = halves-cover; hulls = hull-keeps; meets = meet-keeps; met = meet-common; apart = apart-none }
