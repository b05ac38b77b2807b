-- Which numbers a set of marks has.
use Rattle.std.specs.Prelude.{ℕ, Bool, nat_eq}
use Rattle.std.specs.Int.{bit_at}
use Rattle.pv_hc4.specs.declared.marks.Marks.{Marks}

-- number k is in the set
abbrev pub is_marked : Marks → ℕ → Bool
is_marked m k = nat_eq (bit_at m.word k) 1
