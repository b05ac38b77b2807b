use Rattle.pv_hc4.proofs.builder.put_number.Goals as goal

pub returns : goal.returns
returns c = c.in_ok-insert.ensures.updates.0
