-- The words of a line.
use Rattle.std.specs.Prelude.{◌≡◌, ℕ, ◌<◌, List, [], ◌∷◌, ◌++◌, IsTrue}
use Rattle.pv_num.specs.Extended.{Extended}
use Rattle.pv_num.specs.Order.{le}
use Rattle.pv_num.specs.Parts.{number_text}
use Rattle.pv_interval.specs.Bounds.{Bounds, IsInterval}
use Rattle.pv_file.specs.declared.version.Version.{Version}
use Rattle.pv_file.specs.declared.version.Version.TheVariants.{One, Two}
use Rattle.pv_file.specs.Lines.{pair_text, change_text, kept_text}
use Rattle.pv_file.specs.Readings.{HasNumberEnds}

-- bytes that are no space, line feed or other control byte
abbrev pub IsPlain : List ℕ → Type 0
IsPlain [] = Unit {0}
IsPlain (c ∷ cs) = (32 < c) × IsPlain cs

-- nothing, or what begins with a given byte
abbrev pub EndsAt : ℕ → List ℕ → Type 0
EndsAt mark [] = Unit {0}
EndsAt mark (c ∷ cs) = c ≡ mark

-- what follows a word
abbrev pub EndsAWord : List ℕ → Type 0
EndsAWord text = EndsAt 32 text

-- how an end is written
abbrev pub end_text : Version → Extended → Extended → List ℕ
end_text One old new = number_text new
end_text Two old new = change_text old new

-- how the ends of a place are written
abbrev pub part_text : Version → Bounds → Bounds → List ℕ
part_text v old new = pair_text (end_text v old.lo new.lo) (end_text v old.hi new.hi)

-- an interval that was kept of a place
pub record IsPartOf (old x : Bounds) : Type 0 where
  pub low : IsTrue (le old.lo x.lo)
  pub high : IsTrue (le x.hi old.hi)
  pub interval : IsInterval x
  pub numbers : HasNumberEnds x

-- intervals that were kept of a box, place by place
abbrev pub IsKeptOf : List Bounds → List Bounds → Type 0
IsKeptOf [] [] = Unit {0}
IsKeptOf [] (x ∷ xs) = ⊥
IsKeptOf (old ∷ b) [] = ⊥
IsKeptOf (old ∷ b) (x ∷ xs) = IsPartOf old x × IsKeptOf b xs

-- the intervals that a text writes are put behind those that are there
pub record PutsEnds (v : Version) (b : List Bounds) (bytes : List ℕ) (before after : List Bounds) : Type 0 where
  pub to : List Bounds
  pub put : after ≡ before ++ to
  pub text : bytes ≡ kept_text v b to
  pub kept : IsKeptOf b to
