-- What is kept where a round failed.
use Rattle.std.proofs.Common.{◌≡◌, ℕ, ◌+◌, ◌*◌, ◌≤◌, List, inr, sym, subst}
use Rattle.pv_interval.specs.Bounds.{Bounds}
use Rattle.pv_tree.specs.Trees.{Tree}
use Rattle.pv_tree.specs.Stages.{Rule}
use Rattle.pv_board.specs.Rules.{settled_in}
use Rattle.pv_scope.specs.declared.order.Order.{Order}
use Rattle.pv_keep.specs.Keeping.{Kept}
use Rattle.pv_keep.specs.Campaigns.{IsOpened}
use Rattle.pv_io.specs.declared.refused.IoRefused.{IoRefused}
use Rattle.pv_io.specs.declared.refused.IoRefused.TheVariants.{Memory, Failed}
use Rattle.pv_rounds.specs.declared.campaign.HoldRefused.{HoldRefused}
use Rattle.pv_rounds.specs.Going.{HasStopped}
use Rattle.pv_rounds.specs.Holding.{IsBroken, RefusesHold, after_round}

broken_refuses : (limit : ℕ) (rule : Rule) (depth : ℕ) (b : List Bounds) (order : Order) (identity : List ℕ) (boxes count : ℕ) (k0 k1 : Kept) (r : IoRefused)
    → IsBroken limit rule depth b order identity boxes count k0 k1 → RefusesHold limit rule depth b order identity boxes count k0 k1 (after_round r)
broken_refuses limit rule depth b order identity boxes count k0 k1 Memory h = inr h
broken_refuses limit rule depth b order identity boxes count k0 k1 Failed h = inr h

-- a round behind the opening of a box's campaign was refused
pub stopped_refuses : (limit : ℕ) (rule : Rule) (depth : ℕ) (b root : List Bounds) (order : Order) (identity : List ℕ) (boxes count : ℕ) (k0 k1 k2 : Kept) (t : Tree) (s : IoRefused) (r : HoldRefused)
    → root ≡ b → IsOpened limit k0 k1 identity b t → settled_in t + count * boxes ≤ limit
    → HasStopped rule depth root order t boxes count k1 k2 → r ≡ after_round s → RefusesHold limit rule depth b order identity boxes count k0 k2 r
stopped_refuses limit rule depth b root order identity boxes count k0 k1 k2 t s r same opened few stopped is =
    subst (RefusesHold limit rule depth b order identity boxes count k0 k2) (sym is)
    (broken_refuses limit rule depth b order identity boxes count k0 k2 s
    (record { opening = t; middle = k1; opened = opened; few = few; stopped = subst (λ (c : List Bounds). HasStopped rule depth c order t boxes count k1 k2) same stopped }))
