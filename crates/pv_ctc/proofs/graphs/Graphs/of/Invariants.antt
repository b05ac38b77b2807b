use Rattle.std.proofs.Common.{◌≡◌, length, take}
use Rattle.std.specs.Prelude.{All, map}
use Rattle.pv_hc4.specs.Graphs.{sides_of, sides_named}
use Rattle.pv_ctc.specs.Members.{AllOver}
use Rattle.pv_ctc.specs.Uses.{HaveUses}
use Rattle.pv_ctc.proofs.graphs.Graphs.of.Given as goal

abbrev pub invariant-loop-i : goal.invariant-loop-i
invariant-loop-i l = record {
  end : l.i-end ≡ length l.system.constraints;
  count : length l.graphs.items ≡ l.i;
  same : All (λ h. h.dims ≡ l.dims) l.graphs.items;
  over : AllOver l.dims (map sides_of l.graphs.items);
  uses : HaveUses l.uses.items (map sides_named (take l.i l.system.constraints));
  sides : map sides_of l.graphs.items ≡ map sides_named (take l.i l.system.constraints);
}
