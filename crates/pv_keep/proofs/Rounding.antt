-- Rounds hold stages of an opening.
use Rattle.std.proofs.Common.{ℕ, List, [], ◌∷◌, refl, sym, subst, inl, inr}
use Rattle.pv_interval.specs.Bounds.{Bounds}
use Rattle.pv_tree.specs.Trees.{Tree}
use Rattle.pv_tree.specs.Stages.{Rule, IsStage}
use Rattle.pv_join.proofs.JoinLaws.{join_laws}
use Rattle.pv_keep.specs.Keeping.{Kept, untold, absent, holds}
use Rattle.pv_keep.specs.Campaigns.{KeepsTree, IsSaved}
use Rattle.pv_keep.specs.Rounds.{Held, IsHeldStage, IsRound, AreRounds, AllHeldStages}

pub saved_keeps : (before after : Kept) (t : Tree) → IsSaved before after t → KeepsTree after t
saved_keeps untold after t s = subst (λ (k : Kept). KeepsTree k t) (sym s) tt
saved_keeps absent after t s = absurd s
saved_keeps (holds identity rows) after t s = subst (λ (k : Kept). KeepsTree k t) (sym s) refl

held_after : (rule : Rule) (depth : ℕ) (b : List Bounds) (opening : Tree) (old new : Held) → IsHeldStage rule depth b opening old → IsRound rule depth b opening old new
    → IsHeldStage rule depth b opening new
held_after rule depth b opening old new h (inl r) = record {
  kept = saved_keeps old.kept new.kept new.tree r.saved;
  stage = (join_laws old.tree r.stage new.tree r.joined).stages rule depth b opening h.stage r.is_stage;
}
held_after rule depth b opening old new h (inr r) = record {
  kept = subst (λ (k : Kept). KeepsTree k new.tree) (sym r.0) (subst (λ (t : Tree). KeepsTree old.kept t) (sym r.1) h.kept);
  stage = subst (λ (t : Tree). IsStage rule depth b opening t) (sym r.1) h.stage;
}

pub all_held : (rule : Rule) (depth : ℕ) (b : List Bounds) (opening : Tree) (held : Held) (later : List Held) → IsHeldStage rule depth b opening held
    → AreRounds rule depth b opening held later → AllHeldStages rule depth b opening later
all_held rule depth b opening held [] h r = tt
all_held rule depth b opening held (next ∷ later) h r =
    let k = held_after rule depth b opening held next h r.0 in (k, all_held rule depth b opening next later k r.1)
