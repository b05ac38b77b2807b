-- What settling a ticket's leaf does to a board.
use Rattle.std.proofs.Common.{◌≡◌, ℕ, zero, suc, ◌+◌, ◌-◌, ◌<◌, ◌≤◌, Bool, true, false, IsTrue, Option, Some, List, [], ◌∷◌, ◌++◌, map, take, drop, length, refl, sym, ◌∙◌, ap, arith, subst, inl, inr}
use Rattle.std.specs.Prelude.{IsSome, nat_eq}
use Rattle.std.proofs.lemmas.Bool.Decides.{eqb_tells}
use Rattle.pv_interval.specs.Bounds.{Bounds}
use Rattle.pv_box.specs.Boxes.{IsBox}
use Rattle.pv_tree.specs.Trees.{Tree, Seen, leaf, removed, inner, small, cut, subtree, graft, opens, box_of, settled, height, counts_of, Fits, CutsAbove, HasDepth, IsPaving}
use Rattle.pv_tree.specs.Arena.{Adds, is_a_cut}
use Rattle.pv_tree.specs.Stages.{Rule, IsStage, Grows, full_of}
use Rattle.pv_tree.specs.declared.outcome.Outcome.{Outcome}
use Rattle.pv_tree.specs.declared.outcome.Outcome.TheVariants as outcome
use Rattle.pv_tree.proofs.TreeFacts.{graft_counts, settled_one}
use Rattle.pv_tree.proofs.Wholes.{box_length}
use Rattle.pv_tree.proofs.StageLaws.{settled_grows, depth_from}
use Rattle.pv_board.specs.declared.mark.Mark.{Mark}
use Rattle.pv_board.specs.declared.leaves.Leaves.{Leaves}
use Rattle.pv_board.specs.Marks.{weigh, holds}
use Rattle.pv_board.specs.Rules.{settled_in}
use Rattle.pv_board.specs.Events.{fresh, free_units, next_step, leaves_at, left_over, IsSettling, HasRisen}
use Rattle.pv_board.specs.Leaves.{marks_of, AreOpen, AreOffered, IsClosed, IsBoard, seen, children_of}
use Rattle.pv_board.proofs.Paths.{weigh-append, weigh-map, weigh-ones}
use Rattle.pv_board.proofs.Growth.{graft_opens, zero_low}
use Rattle.pv_board.proofs.Fulls.{grows_box, graft_stage, stage_height, top_leaf}
use Rattle.pv_board.proofs.Boards.{core_of}
use Rattle.pv_board.proofs.Takes.{held_open}
use Rattle.pv_tree.proofs.Stacks.{box_below}

pub is_equal : (a b : ℕ) → true ≡ nat_eq a b → a ≡ b
is_equal a b e = elim (eqb_tells a b) [ inl h ↦ h.1 | inr h ↦ let w : true ≡ false = e ∙ h.0 in cc ]

weigh_split : (f : List Bool → ℕ) (n : ℕ) (ps : List (List Bool)) → weigh f (take n ps) + weigh f (drop n ps) ≡ weigh f ps
weigh_split f zero ps = omega arith
weigh_split f (suc n) [] = omega arith
weigh_split f (suc n) (p ∷ ps) = let r = weigh_split f n ps in omega (arith, r)

pub graft_settled : (t : Tree) (p : List Bool) (s : Tree) → subtree t p ≡ Some leaf → settled_in (graft t p s) ≡ settled_in t + settled_in s
graft_settled t p s e =
    let h : Adds (counts_of t) (counts_of s) (counts_of (graft t p s)) = graft_counts t p s e in
    omega (arith, h.cut, h.removed, h.inner, h.small)

module _ (rule : Rule) (depth dims : ℕ) (root : List Bounds) (opening : Tree) (budget limit : ℕ) where
  abbrev Is : Seen → Leaves → ℕ → ℕ → Type 0
  Is p l used steps = IsBoard rule depth dims root opening budget limit (seen p l used steps) l

  -- a ticket's mark was closed, its leaf became a stage of the leaf, and the stage's open leaves were offered
  pub record WasSettled (p p' : Seen) (old mid new : Leaves) (t : Mark) (s : Tree) : Type 0 where
    pub held : holds (marks_of old) t.path ≡ suc t.grant
    pub grows : Grows s (full_of rule depth (box_of p.root p.tree t.path) leaf (length t.path))
    pub few : settled_in s ≤ old.left + t.grant + 1
    pub root_is : p'.root ≡ p.root
    pub tree : p'.tree ≡ graft p.tree t.path s
    pub spare : p.spare ≤ p'.spare + settled_in s
    pub closed : IsClosed old mid t (settled_in s)
    pub offered : AreOffered mid new (leaves_at t.path s)

  module _ (p p' : Seen) (old mid new : Leaves) (used steps : ℕ) (t : Mark) (s : Tree) (h : Is p old used steps) (w : WasSettled p p' old mid new t s) where
    is_open : subtree p.tree t.path ≡ Some leaf
    is_open = held_open old p.tree t.path t.grant h.leaves w.held

    given : List (List Bool)
    given = take (free_units mid.stopped mid.left) (leaves_at t.path s)

    open_now : AreOpen new (graft p.tree t.path s)
    unfolding given
    open_now f =
        let a = h.leaves f in
        let g = graft_opens f p.tree t.path s is_open in
        let m = w.closed.marks (λ (m : Mark). f m.path) in
        let o = w.offered.marks (λ (m : Mark). f m.path) in
        let x : weigh f new.free.items ≡ weigh f (mid.free.items ++ drop (free_units mid.stopped mid.left) (leaves_at t.path s)) = ap (weigh f) w.offered.free in
        let y = weigh-append f mid.free.items (drop (free_units mid.stopped mid.left) (leaves_at t.path s)) in
        let z : weigh f mid.free.items ≡ weigh f old.free.items = ap (weigh f) w.closed.free in
        let c = weigh_split f (free_units mid.stopped mid.left) (leaves_at t.path s) in
        let l = weigh-map f (λ (q : List Bool). t.path ++ q) (opens s) in
        omega (arith, a, g, m, o, x, y, z, c, l)

    grants_now : weigh (λ m. m.grant - 15) (marks_of new) ≡ 0
    unfolding given
    grants_now =
        let m = w.closed.marks (λ (m : Mark). m.grant - 15) in let o = w.offered.marks (λ (m : Mark). m.grant - 15) in
        let z = zero_low given in let e = h.few_grants in omega (arith, m, o, z, e)

    pub settled_board : (steps' : ℕ) → Is p' new (used + settled_in s) steps'
    unfolding given
    settled_board steps' =
        let tree = sym w.tree in
        let are : AreOpen new p'.tree = subst (AreOpen new) tree open_now in
        let a = w.closed.marks (λ (m : Mark). 1) in let b = w.closed.marks (λ (m : Mark). m.grant) in
        let c = w.offered.marks (λ (m : Mark). 1) in let d = w.offered.marks (λ (m : Mark). m.grant) in
        let z = zero_low given in let u = weigh-ones given in
        let l = w.closed.left in let k = w.offered.left in
        let n = h.core.conserved in let f = h.core.few in let r = h.core.room in let e = h.core.settled in
        let g : settled_in p'.tree ≡ settled_in p.tree + settled_in s = ap settled_in w.tree ∙ graft_settled p.tree t.path s is_open in
        let sp = w.spare in
        record {
          opens_right = h.opens_right;
          core = core_of rule depth root opening budget limit (seen p' new (used + settled_in s) steps') new (w.root_is ∙ h.core.root_is)
              (subst (IsStage rule depth root opening) tree
              (graft_stage rule depth dims h.opens_right.rule_fits opening p.tree root t.path s h.opens_right.box h.opens_right.places h.opens_right.paves h.core.stage is_open
              (subst (λ (b : List Bounds). Grows s (full_of rule depth (box_of b p.tree t.path) leaf (length t.path))) h.core.root_is w.grows)))
              refl are grants_now (omega (arith, a, b, c, d, z, u, l, k, n)) (omega (arith, e, g)) (omega (arith, a, b, c, d, z, u, l, k, f, g)) (omega (arith, a, b, c, d, z, u, l, k, r, sp));
          leaves = are;
          few_grants = grants_now;
          room = w.offered.room;
          for_free = let s = h.for_free in let v = w.closed.for_free in let x = w.offered.for_free in omega (arith, a, b, c, d, z, u, l, k, g, s, v, x);
        }

    over_left : left_over (seen p old used steps) t s ≡ mid.left
    over_left = let l = w.closed.left in omega (arith, l)

    pub settled_is : (children : List Mark) → children ≡ map fresh (take (free_units mid.stopped mid.left) (leaves_at t.path s)) → IsSettling (seen p old used steps) (seen p' new (used + settled_in s) (next_step steps)) t s children
    settled_is children e =
        let same : free_units mid.stopped mid.left ≡ free_units old.stopped (left_over (seen p old used steps) t s) =
        λ i. free_units (w.closed.stopped i) (sym over_left i) in
        let is = e ∙ ap (λ (n : ℕ). map fresh (take n (leaves_at t.path s))) same in
        let count : length children ≡ length (take (free_units mid.stopped mid.left) (leaves_at t.path s)) = ap length e ∙ length_map (take (free_units mid.stopped mid.left) (leaves_at t.path s)) in
        record {
          tree = w.tree;
          used = refl;
          first = is;
          left = let k = w.offered.left in let l = over_left in omega (arith, k, l, count);
          marks = λ f.
              let m = w.closed.marks f in let o = w.offered.marks f in
              let x = weigh-map f fresh (take (free_units mid.stopped mid.left) (leaves_at t.path s)) in
              let y = ap (weigh f) e in omega (arith, m, o, x, y);
          steps = refl;
          root = w.root_is;
          stopped = w.offered.stopped ∙ w.closed.stopped;
          spare = w.spare;
        }
      where
        length_map : (ps : List (List Bool)) → length (map fresh ps) ≡ length ps
        length_map [] = refl
        length_map (p ∷ ps) = ap suc (length_map ps)

  -- what is due at a ticket's path fits the path's box, and is a stage of it
  pub record IsDue (p : Seen) (path : List Bool) (o : Outcome) : Type 0 where
    pub fits : Fits (box_of p.root p.tree path) o
    pub depth_is : HasDepth path o
    pub grows : Grows (settled o) (full_of rule depth (box_of p.root p.tree path) leaf (length path))

  pub due_is : (p : Seen) (l : Leaves) (used steps : ℕ) (path : List Bool) (o : Outcome) → Is p l used steps → IsPaving p.root p.tree → subtree p.tree path ≡ Some leaf
      → o ≡ rule (box_of root (full_of rule depth root opening 0) path) (depth - length path) (length path) → IsDue p path o
  due_is p l used steps path o h paving e due =
      let there : IsSome (subtree p.tree path) = subst IsSome (sym e) refl in
      let same_root : box_of p.root p.tree path ≡ box_of root p.tree path = ap (λ (b : List Bounds). box_of b p.tree path) h.core.root_is in
      let same : box_of p.root p.tree path ≡ box_of root (full_of rule depth root opening 0) path = same_root ∙ grows_box root p.tree (full_of rule depth root opening 0) path h.core.stage.grows there in
      let is : rule (box_of p.root p.tree path) (depth - length path) (length path) ≡ o = ap (λ (b : List Bounds). rule b (depth - length path) (length path)) same ∙ sym due in
      let box : IsBox (box_of p.root p.tree path) = box_below p.root p.tree path paving.box paving.paves in
      let size : length (box_of p.root p.tree path) ≡ dims = box_length p.root p.tree path paving.paves ∙ ap length h.core.root_is ∙ h.opens_right.places in
      let laws = h.opens_right.rule_fits in
      record {
        fits = subst (Fits (box_of p.root p.tree path)) is (laws.fits (box_of p.root p.tree path) (depth - length path) (length path) box size);
        depth_is = depth_from path o depth (depth - length path) laws.few refl (subst (CutsAbove (depth - length path)) is (laws.ends (box_of p.root p.tree path) (depth - length path) (length path) box size));
        grows = settled_grows (full_of rule depth (box_of p.root p.tree path) leaf (length path)) o (top_leaf rule depth dims laws (box_of p.root p.tree path) (length path) ∙ ap (λ (x : Outcome). Some x) is);
      }

-- the open leaves that a settled outcome brings
pub outcome_leaves : (p : List Bool) (o : Outcome) → leaves_at p (settled o) ≡ children_of p (is_a_cut o)
outcome_leaves p outcome.Removed = refl
outcome_leaves p (outcome.Inner to) = refl
outcome_leaves p (outcome.Small to) = refl
outcome_leaves p (outcome.Cut to v a) = refl

pub cut_depth : (p : List Bool) (o : Outcome) → HasDepth p o → IsTrue (is_a_cut o) → length p < 200
cut_depth p outcome.Removed h e = cc
cut_depth p (outcome.Inner to) h e = cc
cut_depth p (outcome.Small to) h e = cc
cut_depth p (outcome.Cut to v a) h e = h

-- where a stage takes no more units than its ticket and the board have
pub enough_units : (left n own grant settled more : ℕ) → n ≡ settled → own ≡ grant → more ≡ n - (1 + own) → more ≤ left → settled ≤ left + grant + 1
enough_units left n own grant settled more e o m h = omega (arith, e, o, m, h)

pub same_mark : (m n : Mark) (o : Option Mark) → o ≡ Some m → o ≡ Some n → m ≡ n
same_mark m n o e f = let w : Some m ≡ Some n = sym e ∙ f in cc

module _ (rule : Rule) (depth dims : ℕ) (root : List Bounds) (opening : Tree) (budget limit : ℕ) where
  -- the same of one outcome
  pub was_settled : (p p' : Seen) (old mid new : Leaves) (used steps : ℕ) (t r : Mark) (path : List Bool) (o : Outcome) (cuts : Bool) → path ≡ t.path → r ≡ t → cuts ≡ is_a_cut o
      → IsDue rule depth dims root opening budget limit p path o → holds (marks_of old) t.path ≡ suc t.grant → IsClosed old mid r 1 → p'.root ≡ p.root → p'.tree ≡ graft p.tree path (settled o) → p.spare ≤ p'.spare + 1
      → AreOffered mid new (children_of path cuts) → WasSettled rule depth dims root opening budget limit p p' old mid new t (settled o)
  was_settled p p' old mid new used steps t r path o cuts at_path same cuts_is due held closed root_is tree spare offered =
      let one = settled_one o in
      record {
        held = held;
        grows = subst (λ (q : List Bool). Grows (settled o) (full_of rule depth (box_of p.root p.tree q) leaf (length q))) at_path due.grows;
        few = omega (arith, one);
        root_is = root_is;
        tree = tree ∙ ap (λ (q : List Bool). graft p.tree q (settled o)) at_path;
        spare = omega (arith, one, spare);
        closed = subst (λ (m : Mark). IsClosed old mid m (settled_in (settled o))) same (subst (IsClosed old mid r) (sym one) closed);
        offered = subst (AreOffered mid new) ((λ i. children_of (at_path i) (cuts_is i)) ∙ sym (outcome_leaves t.path o)) offered;
      }

  pub one_board : (p p' : Seen) (old mid new : Leaves) (used steps : ℕ) (t : Mark) (o : Outcome) → IsBoard rule depth dims root opening budget limit (seen p old used steps) old → WasSettled rule depth dims root opening budget limit p p' old mid new t (settled o)
      → (steps' : ℕ) → IsBoard rule depth dims root opening budget limit (seen p' new (used + 1) steps') new
  one_board p p' old mid new used steps t o h w steps' =
      subst (λ (n : ℕ). IsBoard rule depth dims root opening budget limit (seen p' new (used + n) steps') new) (settled_one o) (settled_board rule depth dims root opening budget limit p p' old mid new used steps t (settled o) h w steps')

  pub one_is : (p p' : Seen) (old mid new : Leaves) (used steps : ℕ) (t : Mark) (o : Outcome) (path : List Bool) (cuts : Bool) (children : List Mark) → IsBoard rule depth dims root opening budget limit (seen p old used steps) old → WasSettled rule depth dims root opening budget limit p p' old mid new t (settled o)
      → path ≡ t.path → cuts ≡ is_a_cut o → children ≡ map fresh (take (free_units mid.stopped mid.left) (children_of path cuts)) → IsSettling (seen p old used steps) (seen p' new (used + 1) (next_step steps)) t (settled o) children
  one_is p p' old mid new used steps t o path cuts children h w at_path cuts_is e =
      subst (λ (n : ℕ). IsSettling (seen p old used steps) (seen p' new (used + n) (next_step steps)) t (settled o) children) (settled_one o)
      (settled_is rule depth dims root opening budget limit p p' old mid new used steps t (settled o) h w children
      (e ∙ ap (λ (ps : List (List Bool)). map fresh (take (free_units mid.stopped mid.left) ps)) ((λ i. children_of (at_path i) (cuts_is i)) ∙ sym (outcome_leaves t.path o))))

  pub one_risen : (p p' : Seen) (old mid new : Leaves) (used steps steps' : ℕ) (t : Mark) (o : Outcome) → IsBoard rule depth dims root opening budget limit (seen p old used steps) old → WasSettled rule depth dims root opening budget limit p p' old mid new t (settled o)
      → HasRisen (seen p old used steps) (seen p' new (used + 1) steps') 1
  one_risen p p' old mid new used steps steps' t o h w =
      let open_leaf = held_open old p.tree t.path t.grant h.leaves w.held in
      record { used = refl; settled = ap settled_in w.tree ∙ graft_settled p.tree t.path (settled o) open_leaf ∙ ap (λ n. settled_in p.tree + n) (settled_one o) }

  -- a stage of a ticket's leaf fits there
  pub record IsStaged (p : Seen) (path : List Bool) (st : Seen) : Type 0 where
    pub root_is : st.root ≡ box_of p.root p.tree path
    pub grows : Grows st.tree (full_of rule depth (box_of p.root p.tree path) leaf (length path))
    pub depth_is : length path + height st.tree ≤ 200

  pub staged_is : (p : Seen) (l : Leaves) (used steps : ℕ) (path : List Bool) (st : Seen) → IsBoard rule depth dims root opening budget limit (seen p l used steps) l → IsPaving p.root p.tree → subtree p.tree path ≡ Some leaf
      → st.root ≡ box_of root (full_of rule depth root opening 0) path → Grows st.tree (full_of rule depth st.root leaf (length path)) → length path ≤ 200 → IsStaged p path st
  staged_is p l used steps path st h paving e at_root grows few =
      let there : IsSome (subtree p.tree path) = subst IsSome (sym e) refl in
      let same_root : box_of p.root p.tree path ≡ box_of root p.tree path = ap (λ (b : List Bounds). box_of b p.tree path) h.core.root_is in
      let same : box_of p.root p.tree path ≡ box_of root (full_of rule depth root opening 0) path = same_root ∙ grows_box root p.tree (full_of rule depth root opening 0) path h.core.stage.grows there in
      let is : st.root ≡ box_of p.root p.tree path = at_root ∙ sym same in
      let box : IsBox (box_of p.root p.tree path) = box_below p.root p.tree path paving.box paving.paves in
      let size : length (box_of p.root p.tree path) ≡ dims = box_length p.root p.tree path paving.paves ∙ ap length h.core.root_is ∙ h.opens_right.places in
      let grown = subst (λ (b : List Bounds). Grows st.tree (full_of rule depth b leaf (length path))) is grows in
      record {
        root_is = is;
        grows = grown;
        depth_is = stage_height rule depth dims h.opens_right.rule_fits (box_of p.root p.tree path) st.tree (length path) box size few grown;
      }

  pub was_staged : (p p' : Seen) (old mid new : Leaves) (t r : Mark) (path : List Bool) (ps : List (List Bool)) (st : Seen) (n : ℕ) → path ≡ t.path → r ≡ t → n ≡ settled_in st.tree → IsStaged p path st → holds (marks_of old) t.path ≡ suc t.grant
      → settled_in st.tree ≤ old.left + t.grant + 1 → IsClosed old mid r n → p'.root ≡ p.root → p'.tree ≡ graft p.tree path st.tree → p.spare ≤ p'.spare + settled_in st.tree → AreOffered mid new ps → ps ≡ leaves_at t.path st.tree
      → WasSettled rule depth dims root opening budget limit p p' old mid new t st.tree
  was_staged p p' old mid new t r path ps st n at_path same count staged held few closed root_is tree spare offered are = record {
    held = held;
    grows = subst (λ (q : List Bool). Grows st.tree (full_of rule depth (box_of p.root p.tree q) leaf (length q))) at_path staged.grows;
    few = omega (arith, few);
    root_is = root_is;
    tree = tree ∙ ap (λ (q : List Bool). graft p.tree q st.tree) at_path;
    spare = spare;
    closed = subst (λ (m : Mark). IsClosed old mid m (settled_in st.tree)) same (subst (IsClosed old mid r) count closed);
    offered = subst (AreOffered mid new) are offered;
  }

  pub stage_board : (p p' : Seen) (old mid new : Leaves) (used steps n : ℕ) (t : Mark) (s : Tree) → IsBoard rule depth dims root opening budget limit (seen p old used steps) old → WasSettled rule depth dims root opening budget limit p p' old mid new t s → n ≡ settled_in s
      → (steps' : ℕ) → IsBoard rule depth dims root opening budget limit (seen p' new (used + n) steps') new
  stage_board p p' old mid new used steps n t s h w e steps' =
      subst (λ (m : ℕ). IsBoard rule depth dims root opening budget limit (seen p' new (used + m) steps') new) (sym e) (settled_board rule depth dims root opening budget limit p p' old mid new used steps t s h w steps')

  pub stage_settles : (p p' : Seen) (old mid new : Leaves) (used steps n : ℕ) (t : Mark) (s : Tree) (ps : List (List Bool)) (before children : List Mark) → IsBoard rule depth dims root opening budget limit (seen p old used steps) old → WasSettled rule depth dims root opening budget limit p p' old mid new t s → n ≡ settled_in s
      → ps ≡ leaves_at t.path s → before ≡ [] → children ≡ before ++ map fresh (take (free_units mid.stopped mid.left) ps) → IsSettling (seen p old used steps) (seen p' new (used + n) (next_step steps)) t s children
  stage_settles p p' old mid new used steps n t s ps before children h w e are none is =
      subst (λ (m : ℕ). IsSettling (seen p old used steps) (seen p' new (used + m) (next_step steps)) t s children) (sym e)
      (settled_is rule depth dims root opening budget limit p p' old mid new used steps t s h w children
      (is ∙ ap (λ (ms : List Mark). ms ++ map fresh (take (free_units mid.stopped mid.left) ps)) none
      ∙ ap (λ (qs : List (List Bool)). map fresh (take (free_units mid.stopped mid.left) qs)) are))

  pub stage_risen : (p p' : Seen) (old mid new : Leaves) (used steps steps' n : ℕ) (t : Mark) (s : Tree) → IsBoard rule depth dims root opening budget limit (seen p old used steps) old → WasSettled rule depth dims root opening budget limit p p' old mid new t s → n ≡ settled_in s
      → HasRisen (seen p old used steps) (seen p' new (used + n) steps') (settled_in s)
  stage_risen p p' old mid new used steps steps' n t s h w e =
      let open_leaf = held_open old p.tree t.path t.grant h.leaves w.held in
      record { used = ap (λ (m : ℕ). used + m) e; settled = ap settled_in w.tree ∙ graft_settled p.tree t.path s open_leaf }
