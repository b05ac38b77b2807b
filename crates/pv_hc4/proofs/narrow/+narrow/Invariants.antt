use Rattle.pv_hc4.proofs.narrow.+narrow.Given as goal

abbrev pub decreases-narrow : goal.decreases-narrow
decreases-narrow l = l.at
