-- What is told before the words are read, and of a line.
use Rattle.std.specs.Prelude.{◌≡◌, ◌⊎◌, ℕ, List}
use Rattle.pv_product.specs.Ends.{Stream, IsTold}
use Rattle.pv_request.specs.declared.refusal.Refusal.{Refusal}
use Rattle.pv_request.specs.declared.refusal.Refusal.TheVariants as refusal
use Rattle.pv_deliver.specs.declared.telling.Unread.{Unread}
use Rattle.pv_deliver.specs.declared.telling.Unread.TheVariants.{NoText, Memory}
use Rattle.pv_request.specs.declared.status.Status.{Status}
use Rattle.pv_request.specs.declared.status.Status.TheVariants.{WantOfMemory}

-- words that are no text are refused like other bad words
abbrev pub refusal_for : Unread → Refusal
refusal_for NoText = refusal.Usage
refusal_for Memory = refusal.Memory

-- a line was told with a status, or memory was wanting
abbrev pub TellsLine : List ℕ → Status → Status → Stream → Stream → Type 0
TellsLine line status result before after =
    ((result ≡ status) × IsTold before after line)
    ⊎ ((result ≡ WantOfMemory) × (after.written ≡ before.written))
