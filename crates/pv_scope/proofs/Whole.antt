-- What is closed in a stage is what stands in the full tree.
use Rattle.std.proofs.Common.{◌≡◌, ℕ, Bool, true, false, Option, Some, None, List, [], ◌∷◌, refl, sym, ◌∙◌, ap, subst}
use Rattle.std.specs.Prelude.{IsSome, nat_eq, ◌%◌}
use Rattle.pv_interval.specs.Bounds.{Bounds}
use Rattle.pv_tree.specs.Trees.{Tree, leaf, removed, inner, small, cut, subtree, opens}
use Rattle.pv_tree.specs.Stages.{Rule, Grows, IsStage, full_of}
use Rattle.pv_tree.specs.declared.outcome.Outcome.TheVariants.{Cut}
use Rattle.pv_tree.proofs.StageLaws.{IsCut, top_cut, grows_low, grows_high, grown_whole}
use Rattle.pv_board.proofs.Fulls.{grows_there}
use Rattle.pv_scope.specs.Settlings.{IsClosed, IsFullThere}
use Rattle.pv_scope.proofs.Replaced.{subtree_below}
use Rattle.pv_scope.proofs.Lists.{in_open, picked_in, none_open}

pub there_whole : (t f : Tree) (p : List Bool) (s : Tree) → Grows t f → subtree t p ≡ Some s → opens s ≡ [] → subtree f p ≡ Some s
there_whole t f [] s g e n = let w : t ≡ s = cc in ap (λ (x : Tree). Some x) (sym (grown_whole s f (subst (λ (x : Tree). Grows x f) w g) n))
there_whole (cut x v a l r) f (false ∷ p) s g e n =
    let c : IsCut f x v a = top_cut f x v a (g [] (Cut x v a) refl) in
    let h : Grows (cut x v a l r) (cut x v a c.low c.high) = subst (Grows (cut x v a l r)) c.is g in
    ap (λ (z : Tree). subtree z (false ∷ p)) c.is ∙ there_whole l c.low p s (grows_low x x v v a a l r c.low c.high h) e n
there_whole (cut x v a l r) f (true ∷ p) s g e n =
    let c : IsCut f x v a = top_cut f x v a (g [] (Cut x v a) refl) in
    let h : Grows (cut x v a l r) (cut x v a c.low c.high) = subst (Grows (cut x v a l r)) c.is g in
    ap (λ (z : Tree). subtree z (true ∷ p)) c.is ∙ there_whole r c.high p s (grows_high x x v v a a l r c.low c.high h) e n
there_whole leaf f (b ∷ p) s g e n = cc
there_whole removed f (b ∷ p) s g e n = cc
there_whole (inner x) f (b ∷ p) s g e n = cc
there_whole (small x) f (b ∷ p) s g e n = cc

pub none_some : (o : Option Tree) → o ≡ None → IsSome o → ⊥
none_some None e h = cc
none_some (Some s) e h = cc

pub full_there : (rule : Rule) (depth : ℕ) (b : List Bounds) (k n : ℕ) (opening t : Tree) → IsStage rule depth b opening t → IsClosed k n opening t → IsFullThere rule depth b k n opening t
full_there rule depth b k n opening t stage closed p i =
    by_case (subtree t p) refl (grows_there opening t p stage.grown (subst IsSome (sym (in_open opening p (picked_in (λ j q. nat_eq (j % n) k) 0 (opens opening) p i))) refl))
  where
    by_case : (o : Option Tree) → subtree t p ≡ o → IsSome (subtree t p) → subtree t p ≡ subtree (full_of rule depth b opening 0) p
    by_case None e s = absurd (none_some (subtree t p) e s)
    by_case (Some s) e h = e ∙ sym (there_whole t (full_of rule depth b opening 0) p s stage.grows e (none_open s (λ r f. closed p r i (subtree_below t p r s e ∙ f))))
