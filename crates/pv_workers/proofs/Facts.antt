-- What is known of a stage's leaves, and of the tickets that are given for them.
use Rattle.std.proofs.Common.{◌≡◌, ℕ, zero, suc, Bool, true, false, Some, List, [], ◌∷◌, ◌++◌, ◌≤◌, length, refl, sym, ap, ◌∙◌, subst, arith}
use Rattle.std.specs.Prelude.{IsSome, map, take, reverse}
use Rattle.std.proofs.lemmas.List.{reverse-append}
use Rattle.pv_num.specs.Extended.{Extended}
use Rattle.pv_interval.specs.Bounds.{Bounds}
use Rattle.pv_box.specs.Boxes.{lower_half, upper_half}
use Rattle.pv_tree.specs.Trees.{Tree, leaf, removed, inner, small, cut, opens, subtree, graft, settled, box_of}
use Rattle.pv_tree.specs.Stages.{Rule, Grows, full_of}
use Rattle.pv_tree.specs.Holes.{Growing, Hole, IsNext, growth_over, holes_below, settle_first, settle_next}
use Rattle.pv_tree.specs.KnownLeaves.{AreKnown}
use Rattle.pv_tree.specs.declared.outcome.Outcome.{Outcome}
use Rattle.pv_tree.specs.declared.outcome.Outcome.TheVariants.{Removed, Inner, Small, Cut}
use Rattle.pv_tree.proofs.KnownLeaves.{next_holes, next_root}
use Rattle.pv_board.specs.declared.mark.Mark.{Mark}
use Rattle.pv_board.specs.Events.{fresh}
use Rattle.pv_board.specs.Children.{AreHandedOut}
use Rattle.pv_board.specs.declared.ticket.Handed.{Handed}
use Rattle.pv_board.specs.declared.ticket.Handed.TheVariants.{Taken, Stale, Short}
use Rattle.pv_board.proofs.Fulls.{grows_box}
use Rattle.pv_workers.specs.Leaves.{paths_of}
use Rattle.pv_workers.specs.Facts.{AreFacts, AreLaid, HaveBoxes, paths}
use Rattle.pv_workers.proofs.GrownLeaves.{still_open}

-- ---- The leaves of a stage

abbrev half : Bool → List Bounds → ℕ → Extended → List Bounds
half false to v a = lower_half to v a
half true to v a = upper_half to v a

-- where a leaf is cut its children are open leaves
cut_there : (s : Bool) (t : Tree) (p : List Bool) (to : List Bounds) (v : ℕ) (a : Extended) → subtree t p ≡ Some leaf → subtree (graft t p (cut to v a leaf leaf)) (p ++ s ∷ []) ≡ Some leaf
cut_there false leaf [] to v a e = refl
cut_there true leaf [] to v a e = refl
cut_there s removed [] to v a e = cc
cut_there s (inner x) [] to v a e = cc
cut_there s (small x) [] to v a e = cc
cut_there s (cut x w c l r) [] to v a e = cc
cut_there s (cut x w c l r) (false ∷ p) to v a e = cut_there s l p to v a e
cut_there s (cut x w c l r) (true ∷ p) to v a e = cut_there s r p to v a e
cut_there s leaf (q ∷ p) to v a e = cc
cut_there s removed (q ∷ p) to v a e = cc
cut_there s (inner x) (q ∷ p) to v a e = cc
cut_there s (small x) (q ∷ p) to v a e = cc

-- and have the halves as their boxes
cut_box : (s : Bool) (b : List Bounds) (t : Tree) (p : List Bool) (to : List Bounds) (v : ℕ) (a : Extended) → subtree t p ≡ Some leaf → box_of b (graft t p (cut to v a leaf leaf)) (p ++ s ∷ []) ≡ half s to v a
cut_box false b leaf [] to v a e = refl
cut_box true b leaf [] to v a e = refl
cut_box s b removed [] to v a e = cc
cut_box s b (inner x) [] to v a e = cc
cut_box s b (small x) [] to v a e = cc
cut_box s b (cut x w c l r) [] to v a e = cc
cut_box s b (cut x w c l r) (false ∷ p) to v a e = cut_box s (lower_half x w c) l p to v a e
cut_box s b (cut x w c l r) (true ∷ p) to v a e = cut_box s (upper_half x w c) r p to v a e
cut_box s b leaf (q ∷ p) to v a e = cc
cut_box s b removed (q ∷ p) to v a e = cc
cut_box s b (inner x) (q ∷ p) to v a e = cc
cut_box s b (small x) (q ∷ p) to v a e = cc

-- so the full tree has them there too
half_box : (s : Bool) (b : List Bounds) (t full : Tree) (p : List Bool) (to : List Bounds) (v : ℕ) (a : Extended) → subtree t p ≡ Some leaf → Grows (graft t p (cut to v a leaf leaf)) full
    → half s to v a ≡ box_of b full (p ++ s ∷ [])
half_box s b t full p to v a e g =
    sym (cut_box s b t p to v a e) ∙ grows_box b (graft t p (cut to v a leaf leaf)) full (p ++ s ∷ []) g (subst IsSome (sym (cut_there s t p to v a e)) refl)

below_boxes : (b : List Bounds) (t full : Tree) (hole : Hole) (rest : List Hole) (o : Outcome) → subtree t hole.path ≡ Some leaf → Grows (graft t hole.path (settled o)) full → HaveBoxes b full rest
    → HaveBoxes b full (holes_below hole o ++ rest)
below_boxes b t full hole rest Removed e g h = h
below_boxes b t full hole rest (Inner to) e g h = h
below_boxes b t full hole rest (Small to) e g h = h
below_boxes b t full hole rest (Cut to v a) e g h = (half_box false b t full hole.path to v a e g, (half_box true b t full hole.path to v a e g, h))

-- a growth that is one open leaf
pub laid_first : (b : List Bounds) (full : Tree) (g : Growing) → g ≡ growth_over b → AreLaid full g
laid_first b full g e = subst (AreLaid full) (sym e) (record { are_open = refl; boxes = (refl, tt) })

-- a growth's next leaf is settled
pub still_laid : (full : Tree) (g : Growing) (p : List Bool) (o : Outcome) → IsNext g p → AreLaid full g → Grows (settle_next g o).tree full → AreLaid full (settle_next g o)
still_laid full g p o n h grows =
    let tree : (settle_next g o).tree ≡ graft g.tree n.hole.path (settled o) = ap (λ (hs : List Hole). (settle_first g.root g.tree hs o).tree) n.is in
    let were : HaveBoxes g.root full (n.hole ∷ n.rest) = subst (HaveBoxes g.root full) n.is h.boxes in
    let are : HaveBoxes g.root full (holes_below n.hole o ++ n.rest) =
    below_boxes g.root g.tree full n.hole n.rest o n.is_leaf (subst (λ (t : Tree). Grows t full) tree grows) were.1 in
    record {
      are_open = still_open g p o n h.are_open;
      boxes = subst (λ (b : List Bounds). HaveBoxes b full (settle_next g o).holes) (sym (next_root g o)) (subst (HaveBoxes g.root full) (sym (next_holes g p o n)) are);
    }

module _ {K : Type 0} (knows : K → List Bounds → Type 0) where
  laid_facts : (b : List Bounds) (full : Tree) (holes : List Hole) (ks : List K) → HaveBoxes b full holes → AreKnown knows ks holes → AreFacts knows (box_of b full) (paths_of holes) ks
  laid_facts b full [] ks h known = tt
  laid_facts b full (hole ∷ holes) [] h known = absurd known
  laid_facts b full (hole ∷ holes) (k ∷ ks) h known = (subst (knows k) h.0 known.0, laid_facts b full holes ks h.1 known.1)

  -- there are no more leaves than facts
  pub few_facts : (box : List Bool → List Bounds) (ps : List (List Bool)) (ks : List K) → AreFacts knows box ps ks → length ps ≤ length ks
  few_facts box [] ks h = omega arith
  few_facts box (p ∷ ps) [] h = absurd h
  few_facts box (p ∷ ps) (k ∷ ks) h = let r = few_facts box ps ks h.1 in omega (arith, r)

  -- what is known of the open leaves of a stage that was grown
  pub stage_facts : (rule : Rule) (depth k : ℕ) (g : Growing) (b : List Bounds) (t : Tree) (ks : List K) → t ≡ g.tree → g.root ≡ b → AreLaid (full_of rule depth g.root leaf k) g → AreKnown knows ks g.holes
      → AreFacts knows (box_of b (full_of rule depth b leaf k)) (opens t) ks
  stage_facts rule depth k g b t ks e at_root h known =
      subst (λ (x : List Bounds). AreFacts knows (box_of x (full_of rule depth x leaf k)) (opens t) ks) at_root
      (subst (λ (ps : List (List Bool)). AreFacts knows (box_of g.root (full_of rule depth g.root leaf k)) ps ks) (sym (ap opens e ∙ h.are_open))
      (laid_facts g.root (full_of rule depth g.root leaf k) g.holes ks h.boxes known))

-- ---- The tickets of a stage's leaves

-- the box of a path that goes on below another
box_below : (b : List Bounds) (t : Tree) (p q : List Bool) (s : Tree) → subtree t p ≡ Some s → box_of b t (p ++ q) ≡ box_of (box_of b t p) s q
box_below b t [] q s e = let w : t ≡ s = cc in ap (λ (x : Tree). box_of b x q) w
box_below b (cut to v a l r) (false ∷ p) q s e = box_below (lower_half to v a) l p q s e
box_below b (cut to v a l r) (true ∷ p) q s e = box_below (upper_half to v a) r p q s e
box_below b leaf (c ∷ p) q s e = cc
box_below b removed (c ∷ p) q s e = cc
box_below b (inner to) (c ∷ p) q s e = cc
box_below b (small to) (c ∷ p) q s e = cc

module _ {K : Type 0} (knows : K → List Bounds → Type 0) (root : List Bounds) (full : Tree) where
  first_facts : (p : List Bool) (b : List Bounds) (f : Tree) → b ≡ box_of root full p → subtree full p ≡ Some f → (n : ℕ) (qs : List (List Bool)) (ks : List K) → AreFacts knows (box_of b f) qs ks
      → AreFacts knows (box_of root full) (paths (map fresh (take n (map (λ q. p ++ q) qs)))) ks
  first_facts p b f is e zero [] ks h = tt
  first_facts p b f is e zero (q ∷ qs) ks h = tt
  first_facts p b f is e (suc n) [] ks h = tt
  first_facts p b f is e (suc n) (q ∷ qs) [] h = absurd h
  first_facts p b f is e (suc n) (q ∷ qs) (k ∷ ks) h =
      let same : box_of b f q ≡ box_of root full (p ++ q) = ap (λ (x : List Bounds). box_of x f q) is ∙ sym (box_below root full p q f e) in
      (subst (knows k) same h.0, first_facts p b f is e n qs ks h.1)

  -- what is known of a stage's leaves is known of their tickets
  pub handed_facts : (p : List Bool) (b : List Bounds) (f s : Tree) (marks : List Mark) (ks : List K) (r : Handed) → b ≡ box_of root full p → AreHandedOut p s marks r
      → (r ≡ Taken → subtree full p ≡ Some f) → AreFacts knows (box_of b f) (opens s) ks → AreFacts knows (box_of root full) (paths marks) ks
  handed_facts p b f s marks ks Taken is first there h =
      subst (λ (ms : List Mark). AreFacts knows (box_of root full) (paths ms) ks) (sym first.are) (first_facts p b f is (there refl) first.count (opens s) ks h)
  handed_facts p b f s marks ks Stale is none there h = subst (λ (ms : List Mark). AreFacts knows (box_of root full) (paths ms) ks) (sym none) tt
  handed_facts p b f s marks ks Short is none there h = subst (λ (ms : List Mark). AreFacts knows (box_of root full) (paths ms) ks) (sym none) tt

module _ {K : Type 0} (holds : K → List Bounds → Type 0) (box : List Bool → List Bounds) where
  -- the first paths of a list have facts too
  pub front_facts : (ms : List Mark) (m : Mark) (ks : List K) → AreFacts holds box (paths (ms ++ m ∷ [])) ks → AreFacts holds box (paths ms) ks
  front_facts [] m ks h = tt
  front_facts (x ∷ ms) m [] h = h
  front_facts (x ∷ ms) m (k ∷ ks) h = (h.0, front_facts ms m ks h.1)

  last_first : (front : List K) (k : K) → reverse (front ++ k ∷ []) ≡ k ∷ reverse front
  last_first front k = reverse-append front (k ∷ [])

  pub none_known : (m : Mark) (ms : List Mark) (items : List K) → items ≡ [] → AreFacts holds box (paths (m ∷ ms)) (reverse items) → ⊥
  none_known m ms items e h = subst (λ (ks : List K). AreFacts holds box (paths (m ∷ ms)) (reverse ks)) e h

  -- the last of the facts is the first path's
  pub first_known : (m : Mark) (ms : List Mark) (items front : List K) (k : K) → items ≡ front ++ k ∷ [] → AreFacts holds box (paths (m ∷ ms)) (reverse items) → holds k (box m.path)
  first_known m ms items front k e h = (subst (AreFacts holds box (paths (m ∷ ms))) (ap reverse e ∙ last_first front k) h).0

  pub rest_known : (m : Mark) (ms : List Mark) (items front : List K) (k : K) → items ≡ front ++ k ∷ [] → AreFacts holds box (paths (m ∷ ms)) (reverse items) → AreFacts holds box (paths ms) (reverse front)
  rest_known m ms items front k e h = (subst (AreFacts holds box (paths (m ∷ ms))) (ap reverse e ∙ last_first front k) h).1
