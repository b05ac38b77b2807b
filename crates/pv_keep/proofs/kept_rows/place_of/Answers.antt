use Rattle.std.proofs.Common.{rules}
use Rattle.std.proofs.lemmas.List.Sorted.{IsPartitionPoint-from_clause}
use Rattle.pv_tree.specs.Trees.{precedes}
use Rattle.pv_keep.proofs.Placing.{parted, split_from}
use Rattle.pv_keep.proofs.kept_rows.place_of.Goals as goal

pub returns-clause-split : goal.returns-clause-split
returns-clause-split c =
    split_from c.args.path c.args.rows.now c.partition_point.result c.partition_point.ensures.bound
    (IsPartitionPoint-from_clause (λ row. precedes row.path c.args.path) _ _ c.partition_point.ensures.partitioned (parted c.args.path c.args.rows.now c.requires) (λ a r q k. search rules))
