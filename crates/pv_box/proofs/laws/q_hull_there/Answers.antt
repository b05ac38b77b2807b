use Rattle.pv_box.proofs.QHullThere.{hull-there, hull-missing}
use Rattle.pv_box.proofs.laws.q_hull_there.Goals as goal

pub returns : goal.returns
returns c = record { there = hull-there; missing = hull-missing }
