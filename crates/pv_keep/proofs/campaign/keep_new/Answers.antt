use Rattle.std.proofs.Common.{arith}
use Rattle.pv_keep.proofs.Fresh.{new_below}
use Rattle.pv_keep.proofs.RowOrder.{ordered_rows}
use Rattle.pv_keep.proofs.Shuffles.{second_distinct}
use Rattle.pv_keep.proofs.Opening.{new_now, saved_now, new_count}
use Rattle.pv_keep.proofs.Rounding.{saved_keeps}
use Rattle.pv_keep.proofs.campaign.keep_new.Goals as goal

pub save-requires-clause-distinct : goal.save-requires-clause-distinct
save-requires-clause-distinct g c =
    let h = c.requires.grown in
    second_distinct _ _ _ (new_below h.earlier c.args.later.now.tree c.args.frontier.now _ h.grows h.leaves c.in_ok-rows.ensures) (ordered_rows c.args.later.now.tree)

pub save-requires-clause-new : goal.save-requires-clause-new
save-requires-clause-new g c = λ name b.
    let h = c.requires.grown in
    new_now _ h.earlier c.args.later.now.tree _ (h.keeps name b) (new_below h.earlier c.args.later.now.tree c.args.frontier.now _ h.grows h.leaves c.in_ok-rows.ensures)

pub returns-clause-saved : goal.returns-clause-saved
returns-clause-saved g c = λ name b.
    let h = c.requires.grown in
    saved_now _ _ h.earlier c.args.later.now.tree _ (h.keeps name b) (new_below h.earlier c.args.later.now.tree c.args.frontier.now _ h.grows h.leaves c.in_ok-rows.ensures)
    (c.in-Ok.ensures.saved name b)

pub returns-clause-kept : goal.returns-clause-kept
returns-clause-kept g c = λ name b. saved_keeps _ _ c.args.later.now.tree (returns-clause-saved g c name b)

pub returns-clause-count : goal.returns-clause-count
returns-clause-count g c = λ earlier leaves grows.
    omega (arith, new_count earlier c.args.later.now.tree _ (new_below earlier c.args.later.now.tree c.args.frontier.now _ grows leaves c.in_ok-rows.ensures), c.len.ensures.count)
