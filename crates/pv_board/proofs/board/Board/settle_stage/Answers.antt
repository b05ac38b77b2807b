use Rattle.std.proofs.Common.{◌≡◌, ◌∙◌, ◌+◌, sym, ap, subst, arith, rules, length, List, Bool}
use Rattle.std.specs.Prelude.{vec_len}
use Rattle.pv_tree.specs.Trees.{subtree, leaf, box_of, opens, settled_of}
use Rattle.pv_tree.specs.Stages.{Grows, full_of}
use Rattle.pv_board.specs.Rules.{settled_in}
use Rattle.pv_board.specs.Core.{Core}
use Rattle.pv_board.specs.Events.{IsHandedIn, HasRisen, next_step}
use Rattle.pv_board.specs.Leaves.{marks_of, seen}
use Rattle.pv_board.specs.declared.ticket.Handed.TheVariants.{Taken}
use Rattle.pv_board.proofs.Paths.{weigh-ones}
use Rattle.pv_board.proofs.Growth.{few_opens}
use Rattle.pv_board.proofs.Dealing.{leaves_count}
use Rattle.pv_board.proofs.Takes.{held_open, few_free, current_issued, held_issued}
use Rattle.pv_board.proofs.Settling.{is_equal, same_mark, enough_units, staged_is, was_staged, stage_board, stage_settles, stage_risen}
use Rattle.pv_board.proofs.board.Board.settle_stage.Goals as goal

pub graft-requires-clause-open : goal.graft-requires-clause-open
graft-requires-clause-open g c =
    let a = c.self.inside in
    ap (subtree a.paving.tree) c.path-path.ensures ∙ held_open a.leaves a.paving.tree c.args.ticket.path c.args.ticket.grant c.self.invariant.leaves (is_equal _ _ c.in-Some.ensures.current)

pub graft-requires-clause-root : goal.graft-requires-clause-root
graft-requires-clause-root g c =
    let n = g.N.Naming in let a = c.self.inside in
    let open_leaf = ap (subtree a.paving.tree) c.path-path.ensures ∙ held_open a.leaves a.paving.tree c.args.ticket.path c.args.ticket.grant c.self.invariant.leaves (is_equal _ _ c.in-Some.ensures.current) in
    let staged = staged_is n.rule n.depth n.dims n.root n.opening n.budget n.limit a.paving a.leaves a.used a.steps c.path-path.result c.args.stage.now c.self.invariant c.dims-places.ensures.paving open_leaf
    (c.requires.root ∙ ap (box_of n.root (full_of n.rule n.depth n.root n.opening 0)) (sym c.path-path.ensures)) (subst (λ (q : List Bool). Grows c.args.stage.now.tree (full_of n.rule n.depth c.args.stage.now.root leaf (length q))) (sym c.path-path.ensures) c.requires.stage) c.len-steps.ensures.few in
    staged.root_is

pub graft-requires-clause-depth : goal.graft-requires-clause-depth
graft-requires-clause-depth g c =
    let n = g.N.Naming in let a = c.self.inside in
    let open_leaf = ap (subtree a.paving.tree) c.path-path.ensures ∙ held_open a.leaves a.paving.tree c.args.ticket.path c.args.ticket.grant c.self.invariant.leaves (is_equal _ _ c.in-Some.ensures.current) in
    let staged = staged_is n.rule n.depth n.dims n.root n.opening n.budget n.limit a.paving a.leaves a.used a.steps c.path-path.result c.args.stage.now c.self.invariant c.dims-places.ensures.paving open_leaf
    (c.requires.root ∙ ap (box_of n.root (full_of n.rule n.depth n.root n.opening 0)) (sym c.path-path.ensures)) (subst (λ (q : List Bool). Grows c.args.stage.now.tree (full_of n.rule n.depth c.args.stage.now.root leaf (length q))) (sym c.path-path.ensures) c.requires.stage) c.len-steps.ensures.few in
    staged.depth_is

pub graft-requires-clause-room : goal.graft-requires-clause-room
graft-requires-clause-room g c =
    let n = g.N.Naming in let a = c.self.inside in
    let count : c.settled-settled.result ≡ settled_in c.args.stage.now.tree = c.settled-settled.ensures ∙ ap settled_of c.counts.ensures.counts in
    let enough = enough_units a.leaves.left c.settled-settled.result c.grant-own.result c.args.ticket.grant (settled_in c.args.stage.now.tree) c.saturating_sub.result count c.grant-own.ensures.grant c.saturating_sub.ensures c.if-self-saturating_sub.false in
    let held = is_equal _ _ c.in-Some.ensures.current in
    let units = held_issued (marks_of a.leaves) c.args.ticket.path in
    let room = c.self.invariant.core.room in
    omega (arith, held, units, room, enough)

pub deal-requires-clause-free : goal.deal-requires-clause-free
deal-requires-clause-free g c =
    let n = g.N.Naming in let a = c.self.inside in
    let count : c.settled-settled.result ≡ settled_in c.args.stage.now.tree = c.settled-settled.ensures ∙ ap settled_of c.counts.ensures.counts in
    let enough = enough_units a.leaves.left c.settled-settled.result c.grant-own.result c.args.ticket.grant (settled_in c.args.stage.now.tree) c.saturating_sub.result count c.grant-own.ensures.grant c.saturating_sub.ensures c.if-self-saturating_sub.false in
    let held = is_equal _ _ c.in-Some.ensures.current in
    let some = current_issued (marks_of a.leaves) c.args.ticket.path (omega (arith, held)) in
    let units = held_issued (marks_of a.leaves) c.args.ticket.path in
    let few = few_free n.rule n.depth n.dims n.root n.opening n.budget n.limit a.paving a.leaves a.used a.steps c.self.invariant in
    let most = c.self.invariant.for_free in let room = c.close.ensures.closed.for_free in
    let opens_few = few_opens c.args.stage.now.tree in let ones = weigh-ones (opens c.args.stage.now.tree) in
    let leaves = ap length c.requires.leaves ∙ leaves_count c.args.ticket.path c.args.stage.now.tree in
    let free = ap length c.close.ensures.closed.free in
    let is : vec_len c.close.new.self.free ≡ length c.close.new.self.free.items = search rules in
    omega (arith, held, some, units, few, most, room, opens_few, ones, leaves, enough, free, is)

pub invariant_of-self : goal.invariant_of-self
invariant_of-self g c =
    let n = g.N.Naming in let a = c.self.inside in
    let open_leaf = ap (subtree a.paving.tree) c.path-path.ensures ∙ held_open a.leaves a.paving.tree c.args.ticket.path c.args.ticket.grant c.self.invariant.leaves (is_equal _ _ c.in-Some.ensures.current) in
    let staged = staged_is n.rule n.depth n.dims n.root n.opening n.budget n.limit a.paving a.leaves a.used a.steps c.path-path.result c.args.stage.now c.self.invariant c.dims-places.ensures.paving open_leaf
    (c.requires.root ∙ ap (box_of n.root (full_of n.rule n.depth n.root n.opening 0)) (sym c.path-path.ensures)) (subst (λ (q : List Bool). Grows c.args.stage.now.tree (full_of n.rule n.depth c.args.stage.now.root leaf (length q))) (sym c.path-path.ensures) c.requires.stage) c.len-steps.ensures.few in
    let count : c.settled-settled.result ≡ settled_in c.args.stage.now.tree = c.settled-settled.ensures ∙ ap settled_of c.counts.ensures.counts in
    let enough = enough_units a.leaves.left c.settled-settled.result c.grant-own.result c.args.ticket.grant (settled_in c.args.stage.now.tree) c.saturating_sub.result count c.grant-own.ensures.grant c.saturating_sub.ensures c.if-self-saturating_sub.false in
    let same = same_mark c.close.result c.args.ticket _ c.close.ensures.mark c.in-Some.ensures.found in
    let was = was_staged n.rule n.depth n.dims n.root n.opening n.budget n.limit a.paving c.graft.new.self a.leaves c.close.new.self c.deal.new.leaves c.args.ticket c.close.result c.path-path.result c.args.leaves.now c.args.stage.now c.settled-settled.result
    c.path-path.ensures same count staged (is_equal _ _ c.in-Some.ensures.current) enough c.close.ensures.closed c.graft.ensures.root c.graft.ensures.tree c.graft.ensures.spare c.deal.ensures.offered c.requires.leaves in
    stage_board n.rule n.depth n.dims n.root n.opening n.budget n.limit a.paving c.graft.new.self a.leaves c.close.new.self c.deal.new.leaves a.used a.steps c.settled-settled.result c.args.ticket c.args.stage.now.tree c.self.invariant was count _

pub returns-clause-handed : goal.returns-clause-handed
returns-clause-handed g c =
    let n = g.N.Naming in let a = c.self.inside in
    let open_leaf = ap (subtree a.paving.tree) c.path-path.ensures ∙ held_open a.leaves a.paving.tree c.args.ticket.path c.args.ticket.grant c.self.invariant.leaves (is_equal _ _ c.in-Some.ensures.current) in
    let staged = staged_is n.rule n.depth n.dims n.root n.opening n.budget n.limit a.paving a.leaves a.used a.steps c.path-path.result c.args.stage.now c.self.invariant c.dims-places.ensures.paving open_leaf
    (c.requires.root ∙ ap (box_of n.root (full_of n.rule n.depth n.root n.opening 0)) (sym c.path-path.ensures)) (subst (λ (q : List Bool). Grows c.args.stage.now.tree (full_of n.rule n.depth c.args.stage.now.root leaf (length q))) (sym c.path-path.ensures) c.requires.stage) c.len-steps.ensures.few in
    let count : c.settled-settled.result ≡ settled_in c.args.stage.now.tree = c.settled-settled.ensures ∙ ap settled_of c.counts.ensures.counts in
    let enough = enough_units a.leaves.left c.settled-settled.result c.grant-own.result c.args.ticket.grant (settled_in c.args.stage.now.tree) c.saturating_sub.result count c.grant-own.ensures.grant c.saturating_sub.ensures c.if-self-saturating_sub.false in
    let same = same_mark c.close.result c.args.ticket _ c.close.ensures.mark c.in-Some.ensures.found in
    let was = was_staged n.rule n.depth n.dims n.root n.opening n.budget n.limit a.paving c.graft.new.self a.leaves c.close.new.self c.deal.new.leaves c.args.ticket c.close.result c.path-path.result c.args.leaves.now c.args.stage.now c.settled-settled.result
    c.path-path.ensures same count staged (is_equal _ _ c.in-Some.ensures.current) enough c.close.ensures.closed c.graft.ensures.root c.graft.ensures.tree c.graft.ensures.spare c.deal.ensures.offered c.requires.leaves in
    subst (λ (o : Core). IsHandedIn o (seen c.graft.new.self c.deal.new.leaves (a.used + c.settled-settled.result) (next_step a.steps)) c.args.ticket c.args.stage.now.tree c.deal.new.children Taken) c.self.view_is (
      sym c.in-Some.ensures.current,
      omega (arith, enough),
      stage_settles n.rule n.depth n.dims n.root n.opening n.budget n.limit a.paving c.graft.new.self a.leaves c.close.new.self c.deal.new.leaves a.used a.steps c.settled-settled.result c.args.ticket c.args.stage.now.tree c.args.leaves.now c.args.children.now c.deal.new.children
          c.self.invariant was count c.requires.leaves c.requires.empty c.deal.ensures.tickets,
    )

pub returns-clause-rose : goal.returns-clause-rose
returns-clause-rose g c =
    let n = g.N.Naming in let a = c.self.inside in
    let open_leaf = ap (subtree a.paving.tree) c.path-path.ensures ∙ held_open a.leaves a.paving.tree c.args.ticket.path c.args.ticket.grant c.self.invariant.leaves (is_equal _ _ c.in-Some.ensures.current) in
    let staged = staged_is n.rule n.depth n.dims n.root n.opening n.budget n.limit a.paving a.leaves a.used a.steps c.path-path.result c.args.stage.now c.self.invariant c.dims-places.ensures.paving open_leaf
    (c.requires.root ∙ ap (box_of n.root (full_of n.rule n.depth n.root n.opening 0)) (sym c.path-path.ensures)) (subst (λ (q : List Bool). Grows c.args.stage.now.tree (full_of n.rule n.depth c.args.stage.now.root leaf (length q))) (sym c.path-path.ensures) c.requires.stage) c.len-steps.ensures.few in
    let count : c.settled-settled.result ≡ settled_in c.args.stage.now.tree = c.settled-settled.ensures ∙ ap settled_of c.counts.ensures.counts in
    let enough = enough_units a.leaves.left c.settled-settled.result c.grant-own.result c.args.ticket.grant (settled_in c.args.stage.now.tree) c.saturating_sub.result count c.grant-own.ensures.grant c.saturating_sub.ensures c.if-self-saturating_sub.false in
    let same = same_mark c.close.result c.args.ticket _ c.close.ensures.mark c.in-Some.ensures.found in
    let was = was_staged n.rule n.depth n.dims n.root n.opening n.budget n.limit a.paving c.graft.new.self a.leaves c.close.new.self c.deal.new.leaves c.args.ticket c.close.result c.path-path.result c.args.leaves.now c.args.stage.now c.settled-settled.result
    c.path-path.ensures same count staged (is_equal _ _ c.in-Some.ensures.current) enough c.close.ensures.closed c.graft.ensures.root c.graft.ensures.tree c.graft.ensures.spare c.deal.ensures.offered c.requires.leaves in
    subst (λ (o : Core). HasRisen o (seen c.graft.new.self c.deal.new.leaves (a.used + c.settled-settled.result) (next_step a.steps)) (settled_in c.args.stage.now.tree)) c.self.view_is
    (stage_risen n.rule n.depth n.dims n.root n.opening n.budget n.limit a.paving c.graft.new.self a.leaves c.close.new.self c.deal.new.leaves a.used a.steps (next_step a.steps) c.settled-settled.result c.args.ticket c.args.stage.now.tree c.self.invariant was count)
