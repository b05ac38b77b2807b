-- What a settler of a system is made of.
use Rattle.std.specs.Prelude.{ℕ, length}
use Rattle.pv_num.specs.Extended.{Extended}
use Rattle.pv_box.specs.declared.choice.Bisector.{Bisector}
use Rattle.pv_expr.specs.Systems.{Parts}
use Rattle.pv_ctc.specs.declared.program.Program.{Program}
use Rattle.pv_ctc.specs.GraphLists.{GraphList}

pub record SettlerParts : Type 0 where
  pub system : Parts
  pub program : Program
  pub eps : Extended
  pub depth : ℕ
  pub bisector : Bisector
  pub graphs : GraphList

abbrev pub dims_of : SettlerParts → ℕ
dims_of r = length r.system.names
