-- The laws of joins.
use Rattle.std.proofs.Common.{◌≡◌, inl, inr, true, false, Option, Some, None, List, [], ◌∷◌, refl, sym, ◌∙◌, ap, subst}
use Rattle.pv_interval.specs.Bounds.{Bounds}
use Rattle.pv_tree.specs.Trees.{Tree, leaf, removed, inner, small, cut, outcome_at}
use Rattle.pv_tree.specs.Stages.{full_of, Grows}
use Rattle.pv_tree.specs.declared.outcome.Outcome.{Outcome}
use Rattle.pv_tree.specs.declared.outcome.Outcome.TheVariants.{Removed, Inner, Small, Cut}
use Rattle.pv_join.specs.Joins.{settled_side, Agree, IsJoin, IsJoinRefusal, HasJoinLaws, AreNoStages}
use Rattle.pv_join.specs.declared.merge.JoinRefused.{JoinRefused}
use Rattle.pv_join.specs.declared.merge.JoinRefused.TheVariants as refused
use Rattle.pv_join.proofs.JoinFacts.{join_unique, join_swap, join_self, join_leaf_left, join_leaf_right, join_cut, side_three, side_some, side_left}

joined : Tree → Tree → Tree
joined leaf t = t
joined removed t = removed
joined (inner x) t = inner x
joined (small x) t = small x
joined (cut x v a l r) (cut y w b m n) = cut x v a (joined l m) (joined r n)
joined (cut x v a l r) leaf = cut x v a l r
joined (cut x v a l r) removed = cut x v a l r
joined (cut x v a l r) (inner y) = cut x v a l r
joined (cut x v a l r) (small y) = cut x v a l r

-- trees that agree have a join
joined_is : (s t : Tree) → Agree s t → IsJoin s t (joined s t)
unfolding joined
joined_is leaf leaf h = join_leaf_left leaf
joined_is leaf removed h = join_leaf_left removed
joined_is leaf (inner y) h = join_leaf_left (inner y)
joined_is leaf (small y) h = join_leaf_left (small y)
joined_is leaf (cut y w b m n) h = join_leaf_left (cut y w b m n)
joined_is removed leaf h = join_leaf_right removed
joined_is removed removed h = join_self removed
joined_is removed (inner y) h = let e : Removed ≡ Inner y = h [] Removed (Inner y) refl refl in cc
joined_is removed (small y) h = let e : Removed ≡ Small y = h [] Removed (Small y) refl refl in cc
joined_is removed (cut y w b m n) h = let e : Removed ≡ Cut y w b = h [] Removed (Cut y w b) refl refl in cc
joined_is (inner x) leaf h = join_leaf_right (inner x)
joined_is (inner x) removed h = let e : Inner x ≡ Removed = h [] (Inner x) Removed refl refl in cc
joined_is (inner x) (inner y) h = let e : Inner x ≡ Inner y = h [] (Inner x) (Inner y) refl refl in let p : x ≡ y = cc in subst (λ (z : List Bounds). IsJoin (inner x) (inner z) (inner x)) p (join_self (inner x))
joined_is (inner x) (small y) h = let e : Inner x ≡ Small y = h [] (Inner x) (Small y) refl refl in cc
joined_is (inner x) (cut y w b m n) h = let e : Inner x ≡ Cut y w b = h [] (Inner x) (Cut y w b) refl refl in cc
joined_is (small x) leaf h = join_leaf_right (small x)
joined_is (small x) removed h = let e : Small x ≡ Removed = h [] (Small x) Removed refl refl in cc
joined_is (small x) (inner y) h = let e : Small x ≡ Inner y = h [] (Small x) (Inner y) refl refl in cc
joined_is (small x) (small y) h = let e : Small x ≡ Small y = h [] (Small x) (Small y) refl refl in let p : x ≡ y = cc in subst (λ (z : List Bounds). IsJoin (small x) (small z) (small x)) p (join_self (small x))
joined_is (small x) (cut y w b m n) h = let e : Small x ≡ Cut y w b = h [] (Small x) (Cut y w b) refl refl in cc
joined_is (cut x v a l r) leaf h = join_leaf_right (cut x v a l r)
joined_is (cut x v a l r) removed h = let e : Cut x v a ≡ Removed = h [] (Cut x v a) Removed refl refl in cc
joined_is (cut x v a l r) (inner y) h = let e : Cut x v a ≡ Inner y = h [] (Cut x v a) (Inner y) refl refl in cc
joined_is (cut x v a l r) (small y) h = let e : Cut x v a ≡ Small y = h [] (Cut x v a) (Small y) refl refl in cc
joined_is (cut x v a l r) (cut y w b m n) h =
    let e : Cut x v a ≡ Cut y w b = h [] (Cut x v a) (Cut y w b) refl refl in
    let p : x ≡ y = cc in let q : v ≡ w = cc in let s : a ≡ b = cc in
    subst (λ (z : Tree). IsJoin (cut x v a l r) z (cut x v a (joined l m) (joined r n))) (λ i. cut (p i) (q i) (s i) m n)
    (join_cut x v a l r m n (joined l m) (joined r n) (joined_is l m (λ z. h (false ∷ z))) (joined_is r n (λ z. h (true ∷ z))))

side_right : (x y : Option Outcome) (o : Outcome) → ((u : Outcome) → x ≡ Some u → u ≡ o) → y ≡ Some o → settled_side x y ≡ Some o
side_right None y o h e = e
side_right (Some u) y o h e = ap (λ (z : Outcome). Some z) (h u refl)

join_grows : (a b t f : Tree) → IsJoin a b t → Grows a f → Grows b f → Grows t f
join_grows a b t f j g h p o e = elim (side_some (outcome_at a p) (outcome_at b p) o (sym (j.takes p) ∙ e)) [ inl k ↦ g p o k | inr k ↦ h p o k ]

join_grown : (a b t s : Tree) → IsJoin a b t → Grows s a → Grows s t
join_grown a b t s j g p o e = j.takes p ∙ side_left (outcome_at a p) (outcome_at b p) o (g p o e)

associated : (a b t c u : Tree) → IsJoin a b t → IsJoin t c u → (v : Tree) × (IsJoin b c v × IsJoin a v u)
associated a b t c u j k =
    let bc : Agree b c = λ p o w e f. k.agree p o w (j.takes p ∙ side_right (outcome_at a p) (outcome_at b p) o (λ x g. j.agree p x o g e) e) f in
    let v : IsJoin b c (joined b c) = joined_is b c bc in (
      joined b c,
      (
        v,
        record {
          agree = λ p o w e f. elim (side_some (outcome_at b p) (outcome_at c p) w (sym (v.takes p) ∙ f)) [
            | inl x ↦ j.agree p o w e x
            | inr x ↦ k.agree p o w (j.takes p ∙ side_left (outcome_at a p) (outcome_at b p) o e) x
          ];
          takes = λ p. k.takes p ∙ ap (λ (x : Option Outcome). settled_side x (outcome_at c p)) (j.takes p) ∙ side_three (outcome_at a p) (outcome_at b p) (outcome_at c p)
              ∙ ap (settled_side (outcome_at a p)) (sym (v.takes p));
        },
      ),
    )

pub join_laws : (a b t : Tree) → IsJoin a b t → HasJoinLaws a b t
join_laws a b t j = record {
  exchanged = join_swap a b t j;
  alone = λ u k. join_unique a b u t k j;
  same = λ e. join_unique a a t a (subst (λ (z : Tree). IsJoin a z t) (sym e) j) (join_self a);
  associates = λ c u k. associated a b t c u j k;
  stages = λ rule depth root opening s z. record { grown = join_grown a b t opening j s.grown; grows = join_grows a b t (full_of rule depth root opening 0) j s.grows z.grows };
}

pub no_stages : (a b : Tree) (e : JoinRefused) → IsJoinRefusal a b e → AreNoStages a b e
no_stages a b refused.Memory h = tt
no_stages a b (refused.Disagree p) h = λ rule depth root opening s z.
    let w : Some h.here.left ≡ Some h.here.right = sym (s.grows p h.here.left h.here.left_is) ∙ z.grows p h.here.right h.here.right_is in
    h.here.differ (cc)
