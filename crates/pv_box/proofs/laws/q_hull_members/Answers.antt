use Rattle.pv_box.proofs.QHullKept.{q_hull-keeps}
use Rattle.pv_box.proofs.laws.q_hull_members.Goals as goal

pub returns : goal.returns
returns c = q_hull-keeps
