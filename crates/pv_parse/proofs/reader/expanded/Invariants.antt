use Rattle.pv_parse.proofs.Limited.{IsExpanded}
use Rattle.pv_parse.proofs.reader.expanded.Given as goal

abbrev pub invariant-loop-i : goal.invariant-loop-i
invariant-loop-i l = record {
  so_far : IsExpanded l.functions.items l.code l.from l.i l.constraints.items l.nodes;
}
