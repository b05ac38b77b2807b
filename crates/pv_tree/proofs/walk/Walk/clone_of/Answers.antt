use Rattle.std.proofs.Common.{◌≤◌, arith}
use Rattle.pv_tree.proofs.Stacks.{stacked_few}
use Rattle.pv_tree.proofs.walk.Walk.clone_of.Goals as goal

pub copy_stops-requires : goal.copy_stops-requires
copy_stops-requires c =
    let few = stacked_few c.self.inside.nodes.now 0 c.self.inside.stops.items c.self.invariant.stops (let w : 0 ≤ 201 = omega arith in w) in
    let room : 201 ≤ _ = c.in_ok-stops.ensures.capacity in
    omega arith
