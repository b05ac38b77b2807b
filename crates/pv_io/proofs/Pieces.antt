-- Bytes that go to a writer or come from a reader piece by piece.
use Rattle.std.proofs.Common.{◌≡◌, ◌+◌, ℕ, List, ◌++◌, take, drop, Option, Some, None, sym, ◌∙◌, ap, subst, append_assoc}
use Rattle.std.proofs.Math.Seq.{take-add, drop-drop}
use Rattle.std.specs.Io.KnownBytes.{Appends, Keeps}

pub keeps_append : (old mid new : Option (List ℕ)) (bs : List ℕ) → Appends old mid bs → Keeps mid new → Appends old new bs
keeps_append None mid new bs a k = tt
keeps_append (Some xs) None new bs a k = absurd a
keeps_append (Some xs) (Some ys) None bs a k = absurd k
keeps_append (Some xs) (Some ys) (Some zs) bs a k = k ∙ a

pub append_twice : (old mid new : Option (List ℕ)) (bs cs : List ℕ) → Appends old mid bs → Appends mid new cs → Appends old new (bs ++ cs)
append_twice None mid new bs cs a b = tt
append_twice (Some xs) None new bs cs a b = absurd a
append_twice (Some xs) (Some ys) None bs cs a b = absurd b
append_twice (Some xs) (Some ys) (Some zs) bs cs a b = b ∙ ap (λ (v : List ℕ). v ++ cs) a ∙ append_assoc xs bs cs

-- A further part of the rest went to the writer.
pub sent_more : (old mid new : Option (List ℕ)) (bytes rest next : List ℕ) (n m : ℕ) → rest ≡ drop n bytes → Appends old mid (take n bytes)
    → Appends mid new (take m rest) → next ≡ drop m rest → (x : ℕ) × (next ≡ drop x bytes) × Appends old new (take x bytes)
sent_more old mid new bytes rest next n m at sent more on = (
  n + m,
  on ∙ ap (λ (v : List ℕ). drop m v) at ∙ drop-drop m n bytes,
  subst (λ (v : List ℕ). Appends old new v) (ap (λ (v : List ℕ). take n bytes ++ take m v) at ∙ sym (take-add n m bytes)) (append_twice old mid new _ _ sent more),
)
