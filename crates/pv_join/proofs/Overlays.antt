-- One step of laying a tree over another.
use Rattle.std.proofs.Common.{◌≡◌, ◌≢◌, ◌⊎◌, inl, inr, ℕ, ◌<◌, ◌≤◌, Bool, true, false, IsTrue, Option, Some, None, List, [], ◌∷◌, ◌++◌, length, refl, sym, ◌∙◌, ap, arith, subst, append_assoc, append-nil}
use Rattle.std.specs.Option.{IsSome}
use Rattle.std.specs.Prelude.{Result, Ok, Err, OnOk, IfErr}
use Rattle.pv_num.specs.Extended.{Extended}
use Rattle.pv_interval.specs.Bounds.{Bounds}
use Rattle.pv_tree.specs.Trees.{Tree, leaf, cut, top, subtree, outcome_at, graft, settled, precedes, height, Seen}
use Rattle.pv_tree.specs.declared.outcome.Outcome.{Outcome}
use Rattle.pv_tree.specs.declared.outcome.Outcome.TheVariants.{Removed, Inner, Small, Cut}
use Rattle.pv_tree.proofs.Halves.{box_child}
use Rattle.pv_join.specs.Joins.{IsJoin, DisagreeAt, IsFirstDisagreement, is_a_cut, IsOverlaid, HasPart, IsRefusal, IsReady, IsSettledAs, IsMismatch}
use Rattle.pv_join.specs.declared.merge.JoinRefused.{JoinRefused}
use Rattle.pv_join.specs.declared.merge.JoinRefused.TheVariants as refused
use Rattle.pv_join.proofs.JoinFacts.{join_unique, join_self, join_leaf_left, join_leaf_right, join_cut, graft_at, graft_same, graft_twice, subtree_low, subtree_high, graft_low, graft_high, cut_height, top_is, some_there, open_top, IsCutTree, cut_top, end_top, open_there}
use Rattle.pv_join.proofs.AuditFacts.{nothing_first}

some_same : (o : Option Tree) (s t : Tree) → o ≡ Some s → o ≡ Some t → s ≡ t
some_same o s t e f = let w : Some s ≡ Some t = sym e ∙ f in cc

pub overlaid_open : (old over : Tree) (p : List Bool) → outcome_at over p ≡ None → IsOverlaid old over old p
overlaid_open old over p e s t hs ht =
    let l : t ≡ leaf = open_top t (sym (top_is over p t ht) ∙ e) in
    record { part = s; is_join = subst (λ (x : Tree). IsJoin s x s) (sym l) (join_leaf_right s); new_is = sym (graft_same old p s hs) }

pub overlaid_end : (old mid over : Tree) (p : List Bool) (o : Outcome) → outcome_at over p ≡ Some o → is_a_cut o ≡ false → IsSettledAs old mid p o → IsOverlaid old over mid p
overlaid_end old mid over p o e c h s t hs ht =
    let is : t ≡ settled o = end_top t o (sym (top_is over p t ht) ∙ e) c in
    elim h [
      | inl k ↦
          let l : s ≡ leaf = open_top s (sym (top_is old p s hs) ∙ k.0) in
          record { part = t; is_join = subst (λ (x : Tree). IsJoin x t t) (sym l) (join_leaf_left t); new_is = k.1 ∙ ap (graft old p) (sym is) }
      | inr k ↦
          let same : s ≡ settled o = end_top s o (sym (top_is old p s hs) ∙ k.0) c in
          record { part = s; is_join = subst (λ (x : Tree). IsJoin s x s) (same ∙ sym is) (join_self s); new_is = k.1 ∙ sym (graft_same old p s hs) }
    ]

pub root_first : (s t : Tree) (u o : Outcome) → top s ≡ Some u → top t ≡ Some o → u ≢ o → IsFirstDisagreement s t []
root_first s t u o e f n = record {
  here = record { left = u; right = o; left_is = e; right_is = f; differ = n };
  before = λ q h d. nothing_first q h;
}

mismatch_disagree : (old over : Tree) (p : List Bool) (o : Outcome) (q : List Bool) → outcome_at over p ≡ Some o → IsMismatch old p o (refused.Disagree q) → IsRefusal old over p (refused.Disagree q)
mismatch_disagree old over p o q e h s t hs ht =
    ([], (h.0 ∙ sym (append-nil p), root_first s t h.1.0 o (sym (top_is old p s hs) ∙ h.1.1.0) (sym (top_is over p t ht) ∙ e) h.1.1.1))

pub mismatch_refusal : (old over : Tree) (p : List Bool) (o : Outcome) (e : JoinRefused) → outcome_at over p ≡ Some o → IsMismatch old p o e → IsRefusal old over p e
mismatch_refusal old over p o refused.Memory e h = tt
mismatch_refusal old over p o (refused.Disagree q) e h = mismatch_disagree old over p o q e h

pub record IsCutOutcome (o : Outcome) : Type 0 where
  pub to : List Bounds
  pub var : ℕ
  pub at : Extended
  pub is : o ≡ Cut to var at

pub cut_outcome : (o : Outcome) → is_a_cut o ≡ true → IsCutOutcome o
cut_outcome Removed e = cc
cut_outcome (Inner to) e = cc
cut_outcome (Small to) e = cc
cut_outcome (Cut to v a) e = record { to = to; var = v; at = a; is = refl }

-- after a cut was settled or found, and before its children
pub record IsMiddle (old mid over : Tree) (p : List Bool) : Type 0 where
  pub to : List Bounds
  pub var : ℕ
  pub at : Extended
  pub low : Tree
  pub high : Tree
  pub over_low : Tree
  pub over_high : Tree
  pub mid_at : subtree mid p ≡ Some (cut to var at low high)
  pub over_at : subtree over p ≡ Some (cut to var at over_low over_high)
  pub mid_is : mid ≡ graft old p (cut to var at low high)
  pub was : ((subtree old p ≡ Some leaf) × (low ≡ leaf) × (high ≡ leaf)) ⊎ (subtree old p ≡ Some (cut to var at low high))

pub middle : (old mid over : Tree) (p : List Bool) (o : Outcome) → IsSome (subtree old p) → IsSome (subtree over p) → outcome_at over p ≡ Some o → is_a_cut o ≡ true → IsSettledAs old mid p o → IsMiddle old mid over p
middle old mid over p o there over_there e c h =
    let k : IsCutOutcome o = cut_outcome o c in
    let x : (s : Tree) × (subtree over p ≡ Some s) = some_there (subtree over p) over_there in
    let t : IsCutTree x.0 k.to k.var k.at = cut_top x.0 k.to k.var k.at (sym (top_is over p x.0 x.1) ∙ e ∙ ap (λ (y : Outcome). Some y) k.is) in
    let over_at : subtree over p ≡ Some (cut k.to k.var k.at t.low t.high) = x.1 ∙ ap (λ (y : Tree). Some y) t.is in
    elim h [
      | inl m ↦
          let is : mid ≡ graft old p (cut k.to k.var k.at leaf leaf) = m.1 ∙ ap (λ (y : Outcome). graft old p (settled y)) k.is in
          let open_old : subtree old p ≡ Some leaf = open_there old p there m.0 in
          record {
            to = k.to;
            var = k.var;
            at = k.at;
            low = leaf;
            high = leaf;
            over_low = t.low;
            over_high = t.high;
            mid_at = ap (λ (y : Tree). subtree y p) is ∙ graft_at old p leaf (cut k.to k.var k.at leaf leaf) open_old;
            over_at = over_at;
            mid_is = is;
            was = inl (open_old, refl, refl);
          }
      | inr m ↦
          let y : (s : Tree) × (subtree old p ≡ Some s) = some_there (subtree old p) there in
          let s : IsCutTree y.0 k.to k.var k.at = cut_top y.0 k.to k.var k.at (sym (top_is old p y.0 y.1) ∙ m.0 ∙ ap (λ (z : Outcome). Some z) k.is) in
          let old_at : subtree old p ≡ Some (cut k.to k.var k.at s.low s.high) = y.1 ∙ ap (λ (z : Tree). Some z) s.is in
          record {
            to = k.to;
            var = k.var;
            at = k.at;
            low = s.low;
            high = s.high;
            over_low = t.low;
            over_high = t.high;
            mid_at = ap (λ (z : Tree). subtree z p) m.1 ∙ old_at;
            over_at = over_at;
            mid_is = m.1 ∙ sym (graft_same old p (cut k.to k.var k.at s.low s.high) old_at);
            was = inr old_at;
          }
    ]

pub some_is : (o : Option Tree) (t : Tree) → o ≡ Some t → IsSome o
some_is o t e = subst (λ (x : Option Tree). IsSome x) (sym e) refl

pub short_there : (old mid over : Tree) (p : List Bool) → IsMiddle old mid over p → height over ≤ 200 → length p < 200
short_there old mid over p m h = let k : length p < height over = cut_height over p m.to m.var m.at m.over_low m.over_high m.over_at in omega arith

pub ready_low : (mid over : Seen) (old : Tree) (p : List Bool) → IsMiddle old mid.tree over.tree p → IsReady mid over (p ++ false ∷ [])
ready_low mid over old p m = record {
  mine = some_is (subtree mid.tree (p ++ false ∷ [])) m.low (subtree_low mid.tree p m.to m.var m.at m.low m.high m.mid_at);
  theirs = some_is (subtree over.tree (p ++ false ∷ [])) m.over_low (subtree_low over.tree p m.to m.var m.at m.over_low m.over_high m.over_at);
  box = box_child mid.root mid.tree p false m.to m.var m.at m.low m.high m.mid_at ∙ sym (box_child over.root over.tree p false m.to m.var m.at m.over_low m.over_high m.over_at);
}

-- after the low children
pub record IsPast (old mid past over : Tree) (p : List Bool) (m : IsMiddle old mid over p) : Type 0 where
  pub part : Tree
  pub is_join : IsJoin m.low m.over_low part
  pub past_at : subtree past p ≡ Some (cut m.to m.var m.at part m.high)
  pub past_is : past ≡ graft old p (cut m.to m.var m.at part m.high)

pub past_low : (old mid past over : Tree) (p : List Bool) (m : IsMiddle old mid over p) → IsSome (subtree old p) → IsOverlaid mid over past (p ++ false ∷ []) → IsPast old mid past over p m
past_low old mid past over p m there h =
    let x : HasPart mid past (p ++ false ∷ []) m.low m.over_low =
    h m.low m.over_low (subtree_low mid p m.to m.var m.at m.low m.high m.mid_at) (subtree_low over p m.to m.var m.at m.over_low m.over_high m.over_at) in
    let s : (s : Tree) × (subtree old p ≡ Some s) = some_there (subtree old p) there in
    let is : past ≡ graft old p (cut m.to m.var m.at x.part m.high) =
    x.new_is ∙ graft_low mid p m.to m.var m.at m.low m.high x.part m.mid_at ∙ ap (λ (y : Tree). graft y p (cut m.to m.var m.at x.part m.high)) m.mid_is
    ∙ graft_twice old p (cut m.to m.var m.at m.low m.high) (cut m.to m.var m.at x.part m.high) in
    record { part = x.part; is_join = x.is_join; past_at = ap (λ (y : Tree). subtree y p) is ∙ graft_at old p s.0 (cut m.to m.var m.at x.part m.high) s.1; past_is = is }

pub ready_high : (past over : Seen) (old mid : Tree) (p : List Bool) (m : IsMiddle old mid over.tree p) → IsPast old mid past.tree over.tree p m → IsReady past over (p ++ true ∷ [])
ready_high past over old mid p m x = record {
  mine = some_is (subtree past.tree (p ++ true ∷ [])) m.high (subtree_high past.tree p m.to m.var m.at x.part m.high x.past_at);
  theirs = some_is (subtree over.tree (p ++ true ∷ [])) m.over_high (subtree_high over.tree p m.to m.var m.at m.over_low m.over_high m.over_at);
  box = box_child past.root past.tree p true m.to m.var m.at x.part m.high x.past_at ∙ sym (box_child over.root over.tree p true m.to m.var m.at m.over_low m.over_high m.over_at);
}

-- a join below a node that was open is the other side
pub part_of_leaf : (to : List Bounds) (v : ℕ) (a : Extended) (l r m n x y : Tree) → l ≡ leaf → r ≡ leaf → IsJoin l m x → IsJoin r n y → IsJoin leaf (cut to v a m n) (cut to v a x y)
part_of_leaf to v a l r m n x y e f h k =
    let low : m ≡ x = join_unique leaf m m x (join_leaf_left m) (subst (λ (z : Tree). IsJoin z m x) e h) in
    let high : n ≡ y = join_unique leaf n n y (join_leaf_left n) (subst (λ (z : Tree). IsJoin z n y) f k) in
    subst (IsJoin leaf (cut to v a m n)) (λ i. cut to v a (low i) (high i)) (join_leaf_left (cut to v a m n))

pub overlaid_cut : (old mid past new over : Tree) (p : List Bool) (m : IsMiddle old mid over p) → IsPast old mid past over p m → IsOverlaid past over new (p ++ true ∷ []) → IsOverlaid old over new p
overlaid_cut old mid past new over p m x h s t hs ht =
    let y : HasPart past new (p ++ true ∷ []) m.high m.over_high =
    h m.high m.over_high (subtree_high past p m.to m.var m.at x.part m.high x.past_at) (subtree_high over p m.to m.var m.at m.over_low m.over_high m.over_at) in
    let over_is : cut m.to m.var m.at m.over_low m.over_high ≡ t = some_same (subtree over p) (cut m.to m.var m.at m.over_low m.over_high) t m.over_at ht in
    record {
      part = cut m.to m.var m.at x.part y.part;
      is_join = subst (λ (z : Tree). IsJoin s z (cut m.to m.var m.at x.part y.part)) over_is (elim m.was [
        | inl k ↦ subst (λ (z : Tree). IsJoin z (cut m.to m.var m.at m.over_low m.over_high) (cut m.to m.var m.at x.part y.part)) (some_same (subtree old p) leaf s k.0 hs)
            (part_of_leaf m.to m.var m.at m.low m.high m.over_low m.over_high x.part y.part k.1 k.2 x.is_join y.is_join)
        | inr k ↦ subst (λ (z : Tree). IsJoin z (cut m.to m.var m.at m.over_low m.over_high) (cut m.to m.var m.at x.part y.part)) (some_same (subtree old p) (cut m.to m.var m.at m.low m.high) s k hs)
            (join_cut m.to m.var m.at m.low m.high m.over_low m.over_high x.part y.part x.is_join y.is_join)
      ]);
      new_is = y.new_is ∙ graft_high past p m.to m.var m.at x.part m.high y.part x.past_at ∙ ap (λ (z : Tree). graft z p (cut m.to m.var m.at x.part y.part)) x.past_is
          ∙ graft_twice old p (cut m.to m.var m.at x.part m.high) (cut m.to m.var m.at x.part y.part);
    }

-- disagreements below
pub leaf_agrees : (t : Tree) (p : List Bool) → DisagreeAt leaf t p → ⊥
leaf_agrees t [] d = let w : None ≡ Some d.left = d.left_is in cc
leaf_agrees t (b ∷ p) d = let w : None ≡ Some d.left = d.left_is in cc

low_before : (to : List Bounds) (v : ℕ) (a : Extended) (l r m n : Tree) (p : List Bool) → ((q : List Bool) → IsTrue (precedes q p) → DisagreeAt l m q → ⊥) → (q : List Bool) → IsTrue (precedes q (false ∷ p)) → DisagreeAt (cut to v a l r) (cut to v a m n) q → ⊥
low_before to v a l r m n p h [] k d = let w : Some d.left ≡ Some d.right = sym d.left_is ∙ d.right_is in d.differ (cc)
low_before to v a l r m n p h (false ∷ q) k d = h q k (record { left = d.left; right = d.right; left_is = d.left_is; right_is = d.right_is; differ = d.differ })
low_before to v a l r m n p h (true ∷ q) k d = let w : false ≡ true = k in cc

high_before : (to : List Bounds) (v : ℕ) (a : Extended) (l r m n x : Tree) (p : List Bool) → IsJoin l m x → ((q : List Bool) → IsTrue (precedes q p) → DisagreeAt r n q → ⊥) → (q : List Bool) → IsTrue (precedes q (true ∷ p)) → DisagreeAt (cut to v a l r) (cut to v a m n) q → ⊥
high_before to v a l r m n x p j h [] k d = let w : Some d.left ≡ Some d.right = sym d.left_is ∙ d.right_is in d.differ (cc)
high_before to v a l r m n x p j h (false ∷ q) k d = d.differ (j.agree q d.left d.right d.left_is d.right_is)
high_before to v a l r m n x p j h (true ∷ q) k d = h q k (record { left = d.left; right = d.right; left_is = d.left_is; right_is = d.right_is; differ = d.differ })

pub first_low : (to : List Bounds) (v : ℕ) (a : Extended) (l r m n : Tree) (p : List Bool) → IsFirstDisagreement l m p → IsFirstDisagreement (cut to v a l r) (cut to v a m n) (false ∷ p)
first_low to v a l r m n p h = record {
  here = record { left = h.here.left; right = h.here.right; left_is = h.here.left_is; right_is = h.here.right_is; differ = h.here.differ };
  before = low_before to v a l r m n p h.before;
}

pub first_high : (to : List Bounds) (v : ℕ) (a : Extended) (l r m n x : Tree) (p : List Bool) → IsJoin l m x → IsFirstDisagreement r n p → IsFirstDisagreement (cut to v a l r) (cut to v a m n) (true ∷ p)
first_high to v a l r m n x p j h = record {
  here = record { left = h.here.left; right = h.here.right; left_is = h.here.left_is; right_is = h.here.right_is; differ = h.here.differ };
  before = high_before to v a l r m n x p j h.before;
}

disagree_low : (old mid over : Tree) (p : List Bool) (m : IsMiddle old mid over p) (q : List Bool) → IsRefusal mid over (p ++ false ∷ []) (refused.Disagree q) → IsRefusal old over p (refused.Disagree q)
disagree_low old mid over p m q h s t hs ht =
    let x : (r : List Bool) × ((q ≡ (p ++ false ∷ []) ++ r) × IsFirstDisagreement m.low m.over_low r) =
    h m.low m.over_low (subtree_low mid p m.to m.var m.at m.low m.high m.mid_at) (subtree_low over p m.to m.var m.at m.over_low m.over_high m.over_at) in
    let over_is : cut m.to m.var m.at m.over_low m.over_high ≡ t = some_same (subtree over p) (cut m.to m.var m.at m.over_low m.over_high) t m.over_at ht in (
      false ∷ x.0,
      (
        x.1.0 ∙ append_assoc p (false ∷ []) x.0,
        subst (λ (z : Tree). IsFirstDisagreement s z (false ∷ x.0)) over_is (elim m.was [
          | inl k ↦ absurd (leaf_agrees m.over_low x.0 (subst (λ (z : Tree). DisagreeAt z m.over_low x.0) k.1 x.1.1.here))
          | inr k ↦ subst (λ (z : Tree). IsFirstDisagreement z (cut m.to m.var m.at m.over_low m.over_high) (false ∷ x.0)) (some_same (subtree old p) (cut m.to m.var m.at m.low m.high) s k hs)
              (first_low m.to m.var m.at m.low m.high m.over_low m.over_high x.0 x.1.1)
        ]),
      ),
    )

pub refusal_low : (old mid over : Tree) (p : List Bool) (m : IsMiddle old mid over p) (e : JoinRefused) → IsRefusal mid over (p ++ false ∷ []) e → IsRefusal old over p e
refusal_low old mid over p m refused.Memory h = tt
refusal_low old mid over p m (refused.Disagree q) h = disagree_low old mid over p m q h

disagree_high : (old mid past over : Tree) (p : List Bool) (m : IsMiddle old mid over p) (x : IsPast old mid past over p m) (q : List Bool) → IsRefusal past over (p ++ true ∷ []) (refused.Disagree q) → IsRefusal old over p (refused.Disagree q)
disagree_high old mid past over p m w q h s t hs ht =
    let x : (r : List Bool) × ((q ≡ (p ++ true ∷ []) ++ r) × IsFirstDisagreement m.high m.over_high r) =
    h m.high m.over_high (subtree_high past p m.to m.var m.at w.part m.high w.past_at) (subtree_high over p m.to m.var m.at m.over_low m.over_high m.over_at) in
    let over_is : cut m.to m.var m.at m.over_low m.over_high ≡ t = some_same (subtree over p) (cut m.to m.var m.at m.over_low m.over_high) t m.over_at ht in (
      true ∷ x.0,
      (
        x.1.0 ∙ append_assoc p (true ∷ []) x.0,
        subst (λ (z : Tree). IsFirstDisagreement s z (true ∷ x.0)) over_is (elim m.was [
          | inl k ↦ absurd (leaf_agrees m.over_high x.0 (subst (λ (z : Tree). DisagreeAt z m.over_high x.0) k.2 x.1.1.here))
          | inr k ↦ subst (λ (z : Tree). IsFirstDisagreement z (cut m.to m.var m.at m.over_low m.over_high) (true ∷ x.0)) (some_same (subtree old p) (cut m.to m.var m.at m.low m.high) s k hs)
              (first_high m.to m.var m.at m.low m.high m.over_low m.over_high w.part x.0 w.is_join x.1.1)
        ]),
      ),
    )

pub refusal_high : (old mid past over : Tree) (p : List Bool) (m : IsMiddle old mid over p) (x : IsPast old mid past over p m) (e : JoinRefused) → IsRefusal past over (p ++ true ∷ []) e → IsRefusal old over p e
refusal_high old mid past over p m w refused.Memory h = tt
refusal_high old mid past over p m w (refused.Disagree q) h = disagree_high old mid past over p m w q h

pub on_ok_map : {T E : Type 0} (r : Result T E) (P Q : Type 0) → (P → Q) → OnOk r P → OnOk r Q
on_ok_map (Ok x) P Q f h = f h
on_ok_map (Err e) P Q f h = tt

pub if_err_map : {T E : Type 0} (r : Result T E) (P Q : E → Type 0) → ((e : E) → P e → Q e) → IfErr r P → IfErr r Q
if_err_map (Ok x) P Q f h = tt
if_err_map (Err e) P Q f h = f e h
