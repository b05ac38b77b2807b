-- The join of what calls for shares made.
use Rattle.std.proofs.Common.{◌≡◌, inl, inr, ℕ, ◌<◌, Bool, Some, List, [], ◌∷◌, refl, subst}
use Rattle.std.specs.Prelude.{◌≢◌}
use Rattle.pv_interval.specs.Bounds.{Bounds}
use Rattle.pv_tree.specs.Trees.{Tree, outcome_at}
use Rattle.pv_tree.specs.Stages.{Rule, Grows, IsStage, full_of}
use Rattle.pv_tree.specs.declared.outcome.Outcome.{Outcome}
use Rattle.pv_tree.proofs.StageLaws.{grows_on, grown_whole}
use Rattle.pv_scope.specs.Settlings.{IsClosed}
use Rattle.pv_scope.proofs.Joins.{closed_on, all_closed}
use Rattle.pv_product.specs.Files.{AllTrees, AnyTree, IsJoinOf}
use Rattle.pv_laws.specs.Shares.{IsDoneShare, IsJoinOfShares, SharesJoin, DoneSharesAreWhole}

module _ (rule : Rule) (depth : ℕ) (b : List Bounds) (opening : Tree) where
  some_stage : (ts : List Tree) (p : List Bool) (o : Outcome) → AllTrees (IsStage rule depth b opening) ts → AnyTree (λ s. outcome_at s p ≡ Some o) ts
      → outcome_at (full_of rule depth b opening 0) p ≡ Some o
  some_stage [] p o h any = absurd any
  some_stage (s ∷ ts) p o h (inl e) = h.0.grows p o e
  some_stage (s ∷ ts) p o h (inr any) = some_stage ts p o h.1 any

  from_first : (ts : List Tree) (t : Tree) → ts ≢ [] → AllTrees (IsStage rule depth b opening) ts → AllTrees (λ s. Grows s t) ts → Grows opening t
  from_first [] t some h g = absurd (some refl)
  from_first (s ∷ ts) t some h g = grows_on opening s t h.0.grown g.0

  -- the join of stages of an opening is one
  stage_of : (ts : List Tree) (t : Tree) → ts ≢ [] → AllTrees (IsStage rule depth b opening) ts → IsJoinOf ts t → IsStage rule depth b opening t
  stage_of ts t some h j = record { grown = from_first ts t some h j.each; grows = λ p o e. some_stage ts p o h (j.only p o e) }

  still_closed : (ts : List Tree) (t : Tree) (k n : ℕ) → AllTrees (IsStage rule depth b opening) ts → AllTrees (λ s. Grows s t) ts → AnyTree (IsClosed k n opening) ts → IsClosed k n opening t
  still_closed [] t k n h g any = absurd any
  still_closed (s ∷ ts) t k n h g (inl closed) = closed_on opening s t k n h.0.grown g.0 closed
  still_closed (s ∷ ts) t k n h g (inr any) = still_closed ts t k n h.1 g.1 any

  whole : (t : Tree) (n : ℕ) → IsStage rule depth b opening t → 0 < n → ((k : ℕ) → k < n → IsClosed k n opening t) → t ≡ full_of rule depth b opening 0
  whole t n stage few closed = grown_whole t (full_of rule depth b opening 0) stage.grows (all_closed opening t n few stage.grown closed)

  done_closed : (n k : ℕ) (ts : List Tree) → AnyTree (IsDoneShare rule depth b opening n k) ts → AnyTree (IsClosed k n opening) ts
  done_closed n k [] any = any
  done_closed n k (s ∷ ts) (inl d) =
      inl (subst (λ (m : ℕ). IsClosed k m opening s) d.of_is (subst (λ (j : ℕ). IsClosed j d.share.of opening s) d.number_is (d.run.closed.0 refl)))
  done_closed n k (s ∷ ts) (inr any) = inr (done_closed n k ts any)

  none_is_done : (n : ℕ) (ts : List Tree) → 0 < n → ((k : ℕ) → k < n → AnyTree (IsDoneShare rule depth b opening n k) ts) → ts ≢ []
  none_is_done n ts few each = λ e. subst (AnyTree (IsDoneShare rule depth b opening n 0)) e (each 0 few)

  join_of_shares : (ts : List Tree) (t : Tree) → ts ≢ [] → AllTrees (IsStage rule depth b opening) ts → IsJoinOf ts t → IsJoinOfShares rule depth b opening ts t
  join_of_shares ts t some h j =
      let stage : IsStage rule depth b opening t = stage_of ts t some h j in
      record {
        stage = stage;
        keeps = λ k n any. still_closed ts t k n h j.each any;
        whole = λ n few closed. whole t n stage few closed;
      }

pub shares_join : SharesJoin
shares_join rule depth b opening ts t some h j = join_of_shares rule depth b opening ts t some h j

pub done_shares_are_whole : DoneSharesAreWhole
done_shares_are_whole rule depth b opening n ts t few h each j =
    whole rule depth b opening t n (stage_of rule depth b opening ts t (none_is_done rule depth b opening n ts few each) h j) few
    (λ k less. still_closed rule depth b opening ts t k n h j.each (done_closed rule depth b opening n k ts (each k less)))
