use Rattle.std.specs.Prelude.{ℤ}

-- A number with its infinite ends. `Fin n` is the number n * 2 ^ -512, for any whole n.
pub data Extended : Type 0 where
  NegInf : Extended
  Fin : ℤ → Extended
  PosInf : Extended
