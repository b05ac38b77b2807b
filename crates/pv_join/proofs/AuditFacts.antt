-- An audit node by node, and what it says of the whole tree.
use Rattle.std.proofs.Common.{◌⊎◌, inl, inr, ◌≡◌, ℕ, suc, ◌+◌, ◌-◌, ◌<◌, ◌≤◌, Bool, true, false, IsTrue, Some, None, List, [], ◌∷◌, ◌++◌, length, refl, sym, ◌∙◌, ap, arith, subst, append_assoc, append-nil}
use Rattle.std.specs.Option.{IsSome}
use Rattle.std.specs.Prelude.{Result, Ok, Err, IfOk}
use Rattle.pv_interval.specs.Bounds.{Bounds}
use Rattle.pv_interval.specs.Points.{Point}
use Rattle.pv_box.specs.Boxes.{IsBox, lower_half, upper_half}
use Rattle.pv_tree.specs.Pieces.{Piece, Walked, pieces_below, children_of, walk_from, IsVisit, IsPiece}
use Rattle.pv_tree.specs.declared.outcome.Shape.{Shape}
use Rattle.pv_tree.specs.Trees.{Tree, leaf, removed, inner, small, cut, top, subtree, outcome_at, settled, precedes, height, Paves, box_of}
use Rattle.pv_tree.specs.Stages.{Rule, full_of, Grows, IsStage}
use Rattle.pv_tree.specs.Laws.{IsLawful}
use Rattle.pv_tree.specs.declared.outcome.Outcome.{Outcome}
use Rattle.pv_tree.specs.declared.outcome.Outcome.TheVariants.{Removed, Inner, Small, Cut}
use Rattle.pv_tree.proofs.StageLaws.{grows_leaf, grows_cut, grows_low, grows_high, settled_grows, top_leaf, leaf_cut, half_box, stage_sound}
use Rattle.pv_tree.proofs.Wholes.{half_length, within_length}
use Rattle.pv_join.specs.Audits.{due_at, IsDue, IsFirstDifference, IsVerdict, due_of, IsChecked, IsSoundIfHonest}
use Rattle.pv_join.specs.declared.verdict.Audit.{Audit}
use Rattle.pv_join.specs.declared.verdict.Audit.TheVariants as verdict
use Rattle.pv_join.proofs.JoinFacts.{top_is}

pub outcome_below : (t : Tree) (p : List Bool) (s : Tree) (q : List Bool) → subtree t p ≡ Some s → outcome_at t (p ++ q) ≡ outcome_at s q
outcome_below t [] s q e = let w : t ≡ s = cc in ap (λ (x : Tree). outcome_at x q) w
outcome_below (cut to v a l r) (false ∷ p) s q e = outcome_below l p s q e
outcome_below (cut to v a l r) (true ∷ p) s q e = outcome_below r p s q e
outcome_below leaf (b ∷ p) s q e = cc
outcome_below removed (b ∷ p) s q e = cc
outcome_below (inner to) (b ∷ p) s q e = cc
outcome_below (small to) (b ∷ p) s q e = cc

pub not_false : IsTrue false → ⊥
not_false h = let w : false ≡ true = h in cc

pub nothing_first : (r : List Bool) → IsTrue (precedes r []) → ⊥
nothing_first [] h = let w : false ≡ true = h in cc
nothing_first (b ∷ r) h = let w : false ≡ true = h in cc

-- The path leads to, or below, a node that is still to come.
abbrev pub Later : List Bool → List Piece → Type 0
Later q [] = ⊥
Later q (piece ∷ pieces) = ((s : List Bool) × (q ≡ piece.path ++ s)) ⊎ Later q pieces

-- Nothing at or below the second node stands before anything at or below the first.
abbrev Follows : Piece → Piece → Type 0
Follows x y = (u s : List Bool) → IsTrue (precedes (y.path ++ s) (x.path ++ u)) → ⊥

abbrev AllFollow : Piece → List Piece → Type 0
AllFollow x [] = Unit {0}
AllFollow x (y ∷ ys) = Follows x y × AllFollow x ys

abbrev pub AreInOrder : List Piece → Type 0
AreInOrder [] = Unit {0}
AreInOrder (x ∷ xs) = AllFollow x xs × AreInOrder xs

precedes_past : (p q r : List Bool) → precedes (p ++ q) (p ++ r) ≡ precedes q r
precedes_past [] q r = refl
precedes_past (false ∷ p) q r = precedes_past p q r
precedes_past (true ∷ p) q r = precedes_past p q r

pub step_past : (p : List Bool) (c : Bool) (u : List Bool) → (p ++ c ∷ []) ++ u ≡ p ++ c ∷ u
step_past p c u = append_assoc p (c ∷ []) u

child_follows : (p : List Bool) (c : Bool) (x y : Piece) → x.path ≡ p ++ c ∷ [] → (y' : Piece) → y'.path ≡ p → Follows y' y → Follows x y
child_follows p c x y e y' f h u s k =
    h (c ∷ u) s (subst (λ (q : List Bool). IsTrue (precedes (y.path ++ s) q)) (ap (λ (q : List Bool). q ++ u) e ∙ step_past p c u ∙ ap (λ (q : List Bool). q ++ c ∷ u) (sym f)) k)

child_all : (p : List Bool) (c : Bool) (x : Piece) (rest : List Piece) → x.path ≡ p ++ c ∷ [] → (y' : Piece) → y'.path ≡ p → AllFollow y' rest → AllFollow x rest
child_all p c x [] e y' f h = tt
child_all p c x (y ∷ rest) e y' f h = (child_follows p c x y e y' f h.0, child_all p c x rest e y' f h.1)

high_follows : (p : List Bool) (x y : Piece) → x.path ≡ p ++ false ∷ [] → y.path ≡ p ++ true ∷ [] → Follows x y
high_follows p x y e f u s k =
    let w : IsTrue (precedes (p ++ true ∷ s) (p ++ false ∷ u)) =
    subst (λ (q : List Bool). IsTrue (precedes q (p ++ false ∷ u))) (ap (λ (q : List Bool). q ++ s) f ∙ step_past p true s)
    (subst (λ (q : List Bool). IsTrue (precedes (y.path ++ s) q)) (ap (λ (q : List Bool). q ++ u) e ∙ step_past p false u) k) in
    not_false (subst (λ (z : Bool). IsTrue z) (precedes_past p (true ∷ s) (false ∷ u)) w)

-- a step of the walk keeps the order
order_below : (t : Tree) (piece : Piece) (rest : List Piece) → piece.tree ≡ t → AllFollow piece rest → AreInOrder rest → AreInOrder (pieces_below piece.path t ++ rest)
order_below leaf piece rest e h k = k
order_below removed piece rest e h k = k
order_below (inner to) piece rest e h k = k
order_below (small to) piece rest e h k = k
order_below (cut to v a l r) piece rest e h k =
    let low : Piece = record { path = piece.path ++ false ∷ []; box = lower_half to v a; tree = l } in
    let high : Piece = record { path = piece.path ++ true ∷ []; box = upper_half to v a; tree = r } in (
      (high_follows piece.path low high refl refl, child_all piece.path false low rest refl piece refl h),
      (child_all piece.path true high rest refl piece refl h, k),
    )

-- What an audit knows before a step: what is no more to come is as the rule has it.
pub record IsAudited (rule : Rule) (depth : ℕ) (b : List Bounds) (t : Tree) (w : Walked) : Type 0 where
  pub root : w.root ≡ b
  pub tree : w.tree ≡ t
  pub order : AreInOrder w.pending
  pub due : (q : List Bool) (o : Outcome) → outcome_at t q ≡ Some o → (o ≡ due_at rule depth b t q) ⊎ Later q w.pending

module _ (rule : Rule) (depth : ℕ) (b : List Bounds) (t : Tree) where
  pub audit_ends : (w : Walked) → IsAudited rule depth b t w → w.pending ≡ [] → (q : List Bool) → IsDue rule depth b t q
  audit_ends w h e q o f = elim (h.due q o f) [ inl d ↦ d | inr l ↦ absurd (subst (Later q) e l) ]

  module _ (old new : Walked) (seen : Shape) (h : IsAudited rule depth b t old) (visit : IsVisit old new seen) (root : new.root ≡ old.root) (tree : new.tree ≡ old.tree) (piece : IsPiece new.root new.tree new.here) where
    at_root : new.root ≡ b
    at_root = root ∙ h.root

    at_tree : new.tree ≡ t
    at_tree = tree ∙ h.tree

    here_found : subtree t new.here.path ≡ Some new.here.tree
    here_found = ap (λ (x : Tree). subtree x new.here.path) (sym at_tree) ∙ piece.found

    pub here_outcome : outcome_at t new.here.path ≡ top new.here.tree
    here_outcome = top_is t new.here.path new.here.tree here_found

    pub here_due : due_of rule depth new.here ≡ due_at rule depth b t new.here.path
    here_due =
        let box : new.here.box ≡ box_of b t new.here.path = sym piece.box ∙ (λ i. box_of (at_root i) (at_tree i) new.here.path) in
        ap (λ (x : List Bounds). rule x (depth - length new.here.path) (length new.here.path)) box

    pending_was : AreInOrder (new.here ∷ visit.rest)
    pending_was = subst AreInOrder visit.was h.order

    below : (x : Tree) → new.here.tree ≡ x → (c : Bool) (s : List Bool) (o : Outcome) → outcome_at t (new.here.path ++ c ∷ s) ≡ Some o → Later (new.here.path ++ c ∷ s) (pieces_below new.here.path x)
    below leaf e c s o f = let k : None ≡ Some o = sym (outcome_below t new.here.path new.here.tree (c ∷ s) here_found ∙ ap (λ (y : Tree). outcome_at y (c ∷ s)) e) ∙ f in cc
    below removed e c s o f = let k : None ≡ Some o = sym (outcome_below t new.here.path new.here.tree (c ∷ s) here_found ∙ ap (λ (y : Tree). outcome_at y (c ∷ s)) e) ∙ f in cc
    below (inner to) e c s o f = let k : None ≡ Some o = sym (outcome_below t new.here.path new.here.tree (c ∷ s) here_found ∙ ap (λ (y : Tree). outcome_at y (c ∷ s)) e) ∙ f in cc
    below (small to) e c s o f = let k : None ≡ Some o = sym (outcome_below t new.here.path new.here.tree (c ∷ s) here_found ∙ ap (λ (y : Tree). outcome_at y (c ∷ s)) e) ∙ f in cc
    below (cut to v a l r) e false s o f = inl (s, sym (step_past new.here.path false s))
    below (cut to v a l r) e true s o f = inr (inl (s, sym (step_past new.here.path true s)))

    later_more : (q : List Bool) (ps rest : List Piece) → Later q ps → Later q (ps ++ rest)
    later_more q [] rest k = absurd k
    later_more q (p ∷ ps) rest k = elim k [ inl s ↦ inl s | inr l ↦ inr (later_more q ps rest l) ]

    later_rest : (q : List Bool) (ps rest : List Piece) → Later q rest → Later q (ps ++ rest)
    later_rest q [] rest k = k
    later_rest q (p ∷ ps) rest k = inr (later_rest q ps rest k)

    module _ (checked : (o : Outcome) → top new.here.tree ≡ Some o → o ≡ due_of rule depth new.here) where
      now_at : (q s : List Bool) → q ≡ new.here.path ++ s → (o : Outcome) → outcome_at t q ≡ Some o → (o ≡ due_at rule depth b t q) ⊎ Later q (children_of new.here ++ visit.rest)
      now_at q [] e o f =
          let same : q ≡ new.here.path = e ∙ append-nil new.here.path in
          inl (checked o (sym here_outcome ∙ ap (outcome_at t) (sym same) ∙ f) ∙ here_due ∙ ap (due_at rule depth b t) (sym same))
      now_at q (c ∷ s) e o f =
          inr (later_more q (children_of new.here) visit.rest (subst (λ (x : List Bool). Later x (children_of new.here)) (sym e) (below new.here.tree refl c s o (ap (outcome_at t) (sym e) ∙ f))))

      now_due : (q : List Bool) (o : Outcome) → outcome_at t q ≡ Some o → (o ≡ due_at rule depth b t q) ⊎ Later q (children_of new.here ++ visit.rest)
      now_due q o f = elim (h.due q o f) [
        | inl d ↦ inl d
        | inr l ↦ elim (subst (Later q) visit.was l) [ inl s ↦ now_at q s.0 s.1 o f | inr k ↦ inr (later_rest q (children_of new.here) visit.rest k) ]
      ]

      pub audit_goes_on : IsAudited rule depth b t new
      audit_goes_on = record {
        root = at_root;
        tree = at_tree;
        order = subst AreInOrder (sym visit.pending) (order_below new.here.tree new.here visit.rest refl pending_was.0 pending_was.1);
        due = λ q o f. subst (λ (ps : List Piece). (o ≡ due_at rule depth b t q) ⊎ Later q ps) (sym visit.pending) (now_due q o f);
      }

    not_before : (q : List Bool) (x : Piece) (ps : List Piece) → AllFollow x ps → IsTrue (precedes q x.path) → Later q ps → ⊥
    not_before q x [] k m l = l
    not_before q x (y ∷ ps) k m l = elim l [
      | inl s ↦ k.0 [] s.0 (subst (λ (z : List Bool). IsTrue (precedes z (x.path ++ []))) s.1 (subst (λ (z : List Bool). IsTrue (precedes q z)) (sym (append-nil x.path)) m))
      | inr r ↦ not_before q x ps k.1 m r
    ]

    not_here : (q s : List Bool) → q ≡ new.here.path ++ s → IsTrue (precedes q new.here.path) → ⊥
    not_here q s e m =
        let w : IsTrue (precedes (new.here.path ++ s) (new.here.path ++ [])) = subst (λ (z : List Bool). IsTrue (precedes z (new.here.path ++ []))) e (subst (λ (z : List Bool). IsTrue (precedes q z)) (sym (append-nil new.here.path)) m) in
        nothing_first s (subst (λ (z : Bool). IsTrue z) (precedes_past new.here.path s []) w)

    pub audit_before : (q : List Bool) → IsTrue (precedes q new.here.path) → IsDue rule depth b t q
    audit_before q m o f = elim (h.due q o f) [
      | inl d ↦ d
      | inr l ↦ elim (subst (Later q) visit.was l) [ inl s ↦ absurd (not_here q s.0 s.1 m) | inr k ↦ absurd (not_before q new.here visit.rest pending_was.0 m k) ]
    ]

    pub audit_differs : (due : Outcome) → IsChecked rule depth new.here (Some due) → IsFirstDifference rule depth b t new.here.path × (due ≡ due_at rule depth b t new.here.path)
    audit_differs due k = (
      record { found = k.1.0; is = here_outcome ∙ k.1.1.0; differ = λ e. k.1.1.1 (e ∙ sym here_due ∙ sym k.0); before = audit_before },
      k.0 ∙ here_due,
    )

-- of the whole tree
module _ (rule : Rule) (depth dims : ℕ) (inside : Point → Type 0) (laws : IsLawful rule depth dims inside) where
  abbrev AllDue : List Bounds → Tree → ℕ → Type 0
  AllDue b t k = (q : List Bool) (o : Outcome) → outcome_at t q ≡ Some o → (n : ℕ) → n ≡ length q + k → o ≡ rule (box_of b t q) (depth - n) n

  end_grows : (b : List Bounds) (o : Outcome) (k : ℕ) → o ≡ rule b (depth - k) k → Grows (settled o) (full_of rule depth b leaf k)
  end_grows b o k e = settled_grows (full_of rule depth b leaf k) o (top_leaf rule depth dims inside laws b k ∙ ap (λ (x : Outcome). Some x) (sym e))

  due_grows : (b : List Bounds) (t : Tree) (k : ℕ) → IsBox b → length b ≡ dims → Paves b t → AllDue b t k → Grows t (full_of rule depth b leaf k)
  due_grows b leaf k h e p d = grows_leaf (full_of rule depth b leaf k)
  due_grows b removed k h e p d = end_grows b Removed k (d [] Removed refl k (omega arith))
  due_grows b (inner to) k h e p d = end_grows b (Inner to) k (d [] (Inner to) refl k (omega arith))
  due_grows b (small to) k h e p d = end_grows b (Small to) k (d [] (Small to) refl k (omega arith))
  due_grows b (cut to v a l r) k h e p d =
      let is : Cut to v a ≡ rule b (depth - k) k = d [] (Cut to v a) refl k (omega arith) in
      let size : length to ≡ dims = within_length to b p.1 ∙ e in
      subst (Grows (cut to v a l r)) (sym (leaf_cut rule depth dims inside laws b k to v a h e (sym is)))
      (grows_cut to v a l r (full_of rule depth (lower_half to v a) leaf (suc k)) (full_of rule depth (upper_half to v a) leaf (suc k))
      (due_grows (lower_half to v a) l (suc k) (half_box true to v a p.0 p.2) (half_length true to v a ∙ size) p.3 (λ q o f n m. d (false ∷ q) o f n (omega (arith, m))))
      (due_grows (upper_half to v a) r (suc k) (half_box false to v a p.0 p.2) (half_length false to v a ∙ size) p.4 (λ q o f n m. d (true ∷ q) o f n (omega (arith, m)))))

  top_due : (b : List Bounds) (t : Tree) (k n : ℕ) (o : Outcome) → Grows t (full_of rule depth b leaf k) → top t ≡ Some o → n ≡ 0 + k → o ≡ rule b (depth - n) n
  top_due b t k n o g f m =
      let w : Some o ≡ Some (rule b (depth - k) k) = sym (g [] o f) ∙ top_leaf rule depth dims inside laws b k in
      let u : o ≡ rule b (depth - k) k = cc in
      let i : k ≡ n = omega (arith, m) in u ∙ ap (λ (j : ℕ). rule b (depth - j) j) i

  stage_due : (b : List Bounds) (t : Tree) (k : ℕ) → IsBox b → length b ≡ dims → Paves b t → Grows t (full_of rule depth b leaf k) → AllDue b t k
  stage_due b t k h e p g [] o f n m = top_due b t k n o g f m
  stage_due b (cut to v a l r) k h e p g (x ∷ q) o f n m =
      let is : Cut to v a ≡ rule b (depth - k) k = top_due b (cut to v a l r) k k (Cut to v a) g refl (omega arith) in
      let size : length to ≡ dims = within_length to b p.1 ∙ e in
      let g' : Grows (cut to v a l r) (cut to v a (full_of rule depth (lower_half to v a) leaf (suc k)) (full_of rule depth (upper_half to v a) leaf (suc k))) =
      subst (Grows (cut to v a l r)) (leaf_cut rule depth dims inside laws b k to v a h e (sym is)) g in
      elim x as (λ y. outcome_at (cut to v a l r) (y ∷ q) ≡ Some o → n ≡ suc (length q) + k → o ≡ rule (box_of b (cut to v a l r) (y ∷ q)) (depth - n) n) [
        | false ↦ λ f' m'. stage_due (lower_half to v a) l (suc k) (half_box true to v a p.0 p.2) (half_length true to v a ∙ size) p.3
            (grows_low to to v v a a l r (full_of rule depth (lower_half to v a) leaf (suc k)) (full_of rule depth (upper_half to v a) leaf (suc k)) g') q o f' n (omega (arith, m'))
        | true ↦ λ f' m'. stage_due (upper_half to v a) r (suc k) (half_box false to v a p.0 p.2) (half_length false to v a ∙ size) p.4
            (grows_high to to v v a a l r (full_of rule depth (lower_half to v a) leaf (suc k)) (full_of rule depth (upper_half to v a) leaf (suc k)) g') q o f' n (omega (arith, m'))
      ] f m
  stage_due b leaf k h e p g (x ∷ q) o f n m = cc
  stage_due b removed k h e p g (x ∷ q) o f n m = cc
  stage_due b (inner to) k h e p g (x ∷ q) o f n m = cc
  stage_due b (small to) k h e p g (x ∷ q) o f n m = cc

  pub honest_stage : (b : List Bounds) (t : Tree) → IsBox b → length b ≡ dims → Paves b t → ((q : List Bool) → IsDue rule depth b t q) → IsStage rule depth b leaf t
  honest_stage b t h e p d = record {
    grown = grows_leaf t;
    grows = due_grows b t 0 h e p (λ q o f n m. let i : length q ≡ n = omega (arith, m) in d q o f ∙ ap (λ (j : ℕ). rule (box_of b t q) (depth - j) j) i);
  }

  pub differs_verdict : (b : List Bounds) (t : Tree) (p : List Bool) (o : Outcome) → IsBox b → length b ≡ dims → Paves b t → IsFirstDifference rule depth b t p × (o ≡ due_at rule depth b t p) → IsVerdict rule depth b t (verdict.DiffersAt p o)
  differs_verdict b t p o h e q d = (d.0, d.1, λ stage. d.0.differ (stage_due b t 0 h e q stage.grows p d.0.found d.0.is (length p) (omega arith)))

  pub honest_sound : (b : List Bounds) (t : Tree) (v : Audit) → IsBox b → length b ≡ dims → IsVerdict rule depth b t v → IsSoundIfHonest inside b t v
  honest_sound b t verdict.Honest h e d = stage_sound rule depth dims inside laws b leaf t h e tt tt d
  honest_sound b t (verdict.DiffersAt z o) h e d = tt
