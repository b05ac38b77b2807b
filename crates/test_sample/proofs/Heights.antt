-- A tree is no higher than it has settled nodes.
use Rattle.std.proofs.Common.{◌≤◌, arith}
use Rattle.pv_tree.specs.Trees.{Tree, leaf, removed, inner, small, cut, height, counts_of, settled_of}

pub height_few : (t : Tree) → height t ≤ settled_of (counts_of t)
height_few leaf = omega arith
height_few removed = omega arith
height_few (inner to) = omega arith
height_few (small to) = omega arith
height_few (cut to var at low high) =
    let l : height low ≤ settled_of (counts_of low) = height_few low in
    let h : height high ≤ settled_of (counts_of high) = height_few high in
    omega arith
