-- What a write leaves of a sink.
use Rattle.std.proofs.Common.{◌≡◌, inl, inr, ℕ, zero, suc, List, [], ◌∷◌, ◌++◌, length, refl, sym, ◌∙◌, ap, subst, arith}
use Rattle.std.specs.Prelude.{Option, Some, None, Result, Ok, Err, OnOk, IsErrOf, take}
use Rattle.std.proofs.lemmas.List.{take_all, append-nil}
use Rattle.pv_io.specs.Outside.{appended, AppendsFront}
use Rattle.pv_io.proofs.Fronts.{appended_twice}
use Rattle.pv_request.specs.Refusals.{status_of, line_of}
use Rattle.pv_product.specs.Ends.{Stream, IsTold, Tells}
use Rattle.pv_deliver.specs.Telling.{TellsLine}
use Rattle.pv_product.specs.Printing.{RefusesPrint}
use Rattle.pv_request.specs.declared.refusal.Refusal.{Refusal}
use Rattle.pv_request.specs.declared.refusal.Refusal.TheVariants.{Usage, System, Contract, Objective, NoFile, ReadFault, Paving, NotStored, KeeperFault, NotPrinted, Memory, TreeLimit, Disagree, Differs}
use Rattle.pv_request.specs.declared.status.Status.{Status}
use Rattle.pv_request.specs.declared.status.Status.TheVariants.{WantOfMemory}
use Rattle.pv_io.specs.declared.refused.IoRefused.{IoRefused}
use Rattle.pv_io.specs.declared.refused.IoRefused.TheVariants as write

pub appended-nil : (told : Option (List ℕ)) → told ≡ appended told []
appended-nil None = refl
appended-nil (Some bytes) = ap Some (sym (append-nil bytes))

pub front_of_same : (before after : Option (List ℕ)) (line : List ℕ) → after ≡ before → AppendsFront before after line
front_of_same before after line same = (0, same ∙ appended-nil before)

pub front_of_whole : (before after : Option (List ℕ)) (line : List ℕ) → after ≡ appended before line → AppendsFront before after line
front_of_whole before after line whole =
    (length line, whole ∙ ap (λ (l : List ℕ). appended before l) (sym (take_all (length line) line (omega arith))))

pub front_of_any : {T : Type 0} (r : Result T IoRefused) (before after : Option (List ℕ)) (line : List ℕ)
    → OnOk r (after ≡ appended before line) → (IsErrOf r write.Failed → AppendsFront before after line) → (IsErrOf r write.Memory → after ≡ before)
    → AppendsFront before after line
front_of_any (Ok done) before after line whole front same = front_of_whole before after line whole
front_of_any (Err write.Failed) before after line whole front same = front refl
front_of_any (Err write.Memory) before after line whole front same = front_of_same before after line (same refl)

shorter : (n : ℕ) (one two : List ℕ) → (m : ℕ) × (take n one ≡ take m (one ++ two))
shorter zero one two = (0, refl)
shorter (suc n) [] two = (0, refl)
shorter (suc n) (x ∷ one) two = let more = shorter n one two in (suc more.0, ap (λ (l : List ℕ). x ∷ l) more.1)

longer : (one two : List ℕ) (n : ℕ) → (m : ℕ) × (one ++ take n two ≡ take m (one ++ two))
longer [] two n = (n, refl)
longer (x ∷ one) two n = let more = longer one two n in (suc more.0, ap (λ (l : List ℕ). x ∷ l) more.1)

-- a line that was told is that of its refusal
pub told_line : (r : Refusal) (line : List ℕ) (status result : Status) (before after : Stream) → line ≡ line_of r → status ≡ status_of r
    → TellsLine line status result before after → Tells r result before after
told_line r line status result before after is same (inl told) = inl (told.0 ∙ same, subst (IsTold before after) is told.1)
told_line r line status result before after is same (inr memory) = inr (memory.0, (r, front_of_same before.written after.written (line_of r) memory.1))

-- want of memory was told, or a front of it
pub told_memory : (r : Refusal) (result : Status) (before after : Stream) → result ≡ WantOfMemory → AppendsFront before.written after.written (line_of Memory) → Tells r result before after
told_memory r result before after is front = inr (is, (Memory, front))

-- ---- A text in two pieces

-- a front of the first is one of both
pub front_first : (before after : Option (List ℕ)) (one two : List ℕ) → AppendsFront before after one → AppendsFront before after (one ++ two)
front_first before after one two h = let m = shorter h.0 one two in (m.0, h.1 ∙ ap (appended before) m.1)

-- the first, and a front of the second
pub front_second : (before mid after : Option (List ℕ)) (one two : List ℕ) → mid ≡ appended before one → AppendsFront mid after two → AppendsFront before after (one ++ two)
front_second before mid after one two whole h =
    let m = longer one two h.0 in
    (m.0, h.1 ∙ ap (λ (x : Option (List ℕ)). appended x (take h.0 two)) whole ∙ appended_twice before one (take h.0 two) ∙ ap (appended before) m.1)

-- why the first of two texts is not wholly printed, and so not both
pub print_first : (before after : Stream) (one two : List ℕ) (r : Refusal) → RefusesPrint before after one r → RefusesPrint before after (one ++ two) r
print_first before after one two (KeeperFault n) h = h
print_first before after one two NotPrinted h = (front_first before.written after.written one two h.0, h.1)
print_first before after one two Memory h = front_first before.written after.written one two h
print_first before after one two Usage h = h
print_first before after one two (System line column byte cause) h = h
print_first before after one two (Contract byte) h = h
print_first before after one two (Objective byte cause) h = h
print_first before after one two (NoFile n) h = h
print_first before after one two (ReadFault n) h = h
print_first before after one two (Paving n f) h = h
print_first before after one two (NotStored n) h = h
print_first before after one two (TreeLimit n) h = h
print_first before after one two (Disagree p a b) h = h
print_first before after one two (Differs p a b) h = h
