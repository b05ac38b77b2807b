-- What a fetch leaves of the text of a system.
use Rattle.std.proofs.Common.{ℕ, List, sym, ◌∙◌, arith}
use Rattle.std.proofs.lemmas.List.{take_all}
use Rattle.pv_io.specs.Outside.{Content, untold, absent, holds, IsWhole, IsTooLong}
use Rattle.pv_rule.specs.Systems.{IsFetched}

pub fetched_whole : (content : Content) (bytes : List ℕ) → IsWhole content 65536 bytes → IsFetched content bytes
fetched_whole untold bytes whole = omega (arith, whole)
fetched_whole absent bytes whole = whole
fetched_whole (holds all) bytes whole = whole.0 ∙ sym (take_all 65537 all (omega (arith, whole.1)))

pub fetched_front : (content : Content) (bytes : List ℕ) → IsTooLong content 65536 bytes → IsFetched content bytes
fetched_front untold bytes long = omega (arith, long)
fetched_front absent bytes long = long
fetched_front (holds all) bytes long = long.0
