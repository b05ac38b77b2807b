-- The names that the reader keeps, as functions. It is for the proofs of the reader: no public contract cites it.
use Rattle.std.specs.Prelude.{ℕ, List, Option, Vec}
use Rattle.std.specs.Global.{Global}
use Rattle.std.specs.Cmp.Lexicographic.{slice_cmp}
use Rattle.std.specs.Ordering.{nat_cmp}
use Rattle.std.specs.BTreeMap.{BTreeMap, get_by}
use Rattle.pv_parse.specs.declared.names.Names.{Names as Kept}
use Rattle.pv_parse.specs.Meanings.{Names}

-- what a map has at a name
abbrev pub found : {X : Type 0} → BTreeMap (Vec ℕ Global) X → List ℕ → Option X
found m name = get_by (λ k. slice_cmp nat_cmp name k.items) m

abbrev pub view : Kept → Names
view kept = record { known = found kept.known; parameter = found kept.parameters; pending = kept.pending.items; negative = kept.negative }
