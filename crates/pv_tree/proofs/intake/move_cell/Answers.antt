use Rattle.std.proofs.Common.{◌+◌, ◌<◌, ◌^◌, ap, arith}
use Rattle.pv_tree.specs.Arena.{kids_of, start_of}
use Rattle.pv_tree.proofs.intake.move_cell.Goals as goal

pub overflow_add-result : goal.overflow_add-result
overflow_add-result c = let h : c.in-Inner.start + c.args.by.ends < 2 ^ 64 = c.requires.starts c.in-Inner.start (ap start_of c.in-Inner.is) in omega (arith, h)

pub overflow_add-result-in-Small : goal.overflow_add-result-in-Small
overflow_add-result-in-Small c = let h : c.in-Small.start + c.args.by.ends < 2 ^ 64 = c.requires.starts c.in-Small.start (ap start_of c.in-Small.is) in omega (arith, h)

pub overflow_add-result-in-Cut : goal.overflow_add-result-in-Cut
overflow_add-result-in-Cut c = let h : c.in-Cut.start + c.args.by.ends < 2 ^ 64 = c.requires.starts c.in-Cut.start (ap start_of c.in-Cut.is) in omega (arith, h)

pub overflow_add-result-in-Cut-2 : goal.overflow_add-result-in-Cut-2
overflow_add-result-in-Cut-2 c = let h : c.in-Cut.kids + c.args.by.nodes < 2 ^ 64 = c.requires.kids c.in-Cut.kids (ap kids_of c.in-Cut.is) in omega (arith, h)
