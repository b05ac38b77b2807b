use Rattle.std.proofs.Common.{length}
use denote.Text.{Utf8}
use denote.Shadow.{shadow}
use Rattle.pv_request.specs.Requests.{words_between}
use Rattle.pv_args.proofs.Levels.{Fills, HasRest}
use Rattle.pv_args.proofs.values.levels_of.Given as goal

abbrev pub invariant-loop-word : goal.invariant-loop-word
invariant-loop-word l =
    shadow (Utf8 l.rest)
    × Fills (words_between l.fn.text) (words_between l.rest) l.numbers.items
    × HasRest (words_between l.fn.text) (words_between l.rest)

abbrev pub decreases-loop-word : goal.decreases-loop-word
decreases-loop-word l = length l.rest
