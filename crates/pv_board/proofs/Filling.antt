-- Trees whose open leaves were filled.
use Rattle.std.proofs.Common.{◌≡◌, ℕ, zero, suc, ◌+◌, ◌<◌, ◌≤◌, Bool, true, false, Option, Some, None, List, [], ◌∷◌, ◌++◌, take, take_all, length, get_or, refl, sym, ◌∙◌, ap, arith, subst}
use Rattle.std.specs.Prelude.{IsSome}
use Rattle.std.proofs.lemmas.List.{take_more}
use Rattle.pv_interval.specs.Bounds.{Bounds}
use Rattle.pv_box.specs.Boxes.{lower_half, upper_half}
use Rattle.pv_tree.specs.Trees.{Tree, Seen, leaf, removed, inner, small, cut, top, subtree, outcome_at, graft, box_of, opens}
use Rattle.pv_tree.specs.Stages.{Grows}
use Rattle.pv_tree.specs.declared.outcome.Outcome.{Outcome}
use Rattle.pv_tree.specs.declared.outcome.Outcome.TheVariants.{Removed, Inner, Small, Cut}
use Rattle.pv_tree.proofs.StageLaws.{IsCut, top_cut, grows_leaf, grows_self, grows_low, grows_high, grows_cut}
use Rattle.pv_tree.specs.Trees.{shape_of, height}
use Rattle.pv_tree.specs.declared.outcome.Shape.{Shape}
use Rattle.pv_tree.specs.declared.outcome.Shape.TheVariants.{Absent}
use Rattle.pv_join.specs.Joins.{settled_side, Agree, HasPart, IsOverlaid, IsRefusal, IsFirstDisagreement, is_a_cut}
use Rattle.pv_join.specs.declared.merge.JoinRefused.{JoinRefused}
use Rattle.pv_join.specs.declared.merge.JoinRefused.TheVariants as refused
use Rattle.pv_join.proofs.JoinFacts.{join_unique, join_leaf_left, graft_same, some_there, outcome_leaf}
use Rattle.pv_board.specs.Marks.{weigh, at, times}
use Rattle.pv_board.specs.Absorbing.{part_at, filled, if_some, filling, CanFill, CanPileAll}
use Rattle.pv_board.proofs.Paths.{at_self, weigh-append, weigh-ones}
use Rattle.pv_board.specs.Piles.{piled, CanPile}
use Rattle.pv_board.proofs.Growth.{weigh_cut}
use Rattle.pv_board.proofs.Piling.{pile_weighs}
use Rattle.pv_tree.proofs.Stacks.{height_below}

abbrev low_of : (List Bool → Tree) → List Bool → Tree
low_of g p = g (false ∷ p)

abbrev high_of : (List Bool → Tree) → List Bool → Tree
high_of g p = g (true ∷ p)

filled_same : (t : Tree) (g h : List Bool → Tree) → ((p : List Bool) → g p ≡ h p) → filled t g ≡ filled t h
filled_same leaf g h e = e []
filled_same removed g h e = refl
filled_same (inner to) g h e = refl
filled_same (small to) g h e = refl
filled_same (cut to v a l r) g h e = λ i. cut to v a (filled_same l (low_of g) (low_of h) (λ p. e (false ∷ p)) i) (filled_same r (high_of g) (high_of h) (λ p. e (true ∷ p)) i)

-- a tree filled with open leaves is the tree
pub filled_none : (t : Tree) (g : List Bool → Tree) → ((p : List Bool) → g p ≡ leaf) → filled t g ≡ t
filled_none leaf g e = e []
filled_none removed g e = refl
filled_none (inner to) g e = refl
filled_none (small to) g e = refl
filled_none (cut to v a l r) g e = λ i. cut to v a (filled_none l (low_of g) (λ p. e (false ∷ p)) i) (filled_none r (high_of g) (λ p. e (true ∷ p)) i)

-- where an open leaf was stands what it was filled with
pub filled_at : (t : Tree) (g : List Bool → Tree) (p : List Bool) → subtree t p ≡ Some leaf → subtree (filled t g) p ≡ Some (g p)
filled_at leaf g [] e = refl
filled_at removed g [] e = cc
filled_at (inner to) g [] e = cc
filled_at (small to) g [] e = cc
filled_at (cut to v a l r) g [] e = cc
filled_at (cut to v a l r) g (false ∷ p) e = filled_at l (low_of g) p e
filled_at (cut to v a l r) g (true ∷ p) e = filled_at r (high_of g) p e
filled_at leaf g (b ∷ p) e = cc
filled_at removed g (b ∷ p) e = cc
filled_at (inner to) g (b ∷ p) e = cc
filled_at (small to) g (b ∷ p) e = cc

-- one leaf more is filled by a graft
pub filled_graft : (t : Tree) (g h : List Bool → Tree) (p : List Bool) (s : Tree) → subtree t p ≡ Some leaf → h p ≡ s → ((q : List Bool) → at p q 1 ≡ 0 → h q ≡ g q) → graft (filled t g) p s ≡ filled t h
filled_graft leaf g h [] s e here others = sym here
filled_graft removed g h [] s e here others = cc
filled_graft (inner to) g h [] s e here others = cc
filled_graft (small to) g h [] s e here others = cc
filled_graft (cut to v a l r) g h [] s e here others = cc
filled_graft (cut to v a l r) g h (false ∷ p) s e here others = λ i.
    cut to v a (filled_graft l (low_of g) (low_of h) p s e here (λ q. others (false ∷ q)) i) (filled_same r (high_of g) (high_of h) (λ q. sym (others (true ∷ q) refl)) i)
filled_graft (cut to v a l r) g h (true ∷ p) s e here others = λ i.
    cut to v a (filled_same l (low_of g) (low_of h) (λ q. sym (others (false ∷ q) refl)) i) (filled_graft r (high_of g) (high_of h) p s e here (λ q. others (true ∷ q)) i)
filled_graft leaf g h (b ∷ p) s e here others = cc
filled_graft removed g h (b ∷ p) s e here others = cc
filled_graft (inner to) g h (b ∷ p) s e here others = cc
filled_graft (small to) g h (b ∷ p) s e here others = cc

-- the boxes of its open leaves stay
pub filled_box : (b : List Bounds) (t : Tree) (g : List Bool → Tree) (p : List Bool) → subtree t p ≡ Some leaf → box_of b (filled t g) p ≡ box_of b t p
filled_box b t g [] e = refl
filled_box b (cut to v a l r) g (false ∷ p) e = filled_box (lower_half to v a) l (low_of g) p e
filled_box b (cut to v a l r) g (true ∷ p) e = filled_box (upper_half to v a) r (high_of g) p e
filled_box b leaf g (c ∷ p) e = cc
filled_box b removed g (c ∷ p) e = cc
filled_box b (inner to) g (c ∷ p) e = cc
filled_box b (small to) g (c ∷ p) e = cc

-- its open leaves are those of what it was filled with
pub filled_opens : (f : List Bool → ℕ) (t : Tree) (g : List Bool → Tree) → weigh f (opens (filled t g)) ≡ weigh (λ p. weigh (λ q. f (p ++ q)) (opens (g p))) (opens t)
filled_opens f leaf g = omega arith
filled_opens f removed g = refl
filled_opens f (inner to) g = refl
filled_opens f (small to) g = refl
filled_opens f (cut to v a l r) g =
    let x = filled_opens (λ (p : List Bool). f (false ∷ p)) l (low_of g) in let y = filled_opens (λ (p : List Bool). f (true ∷ p)) r (high_of g) in
    let w = weigh_cut f (filled l (low_of g)) (filled r (high_of g)) in
    let z = weigh_cut (λ (p : List Bool). weigh (λ (q : List Bool). f (p ++ q)) (opens (g p))) l r in
    omega (arith, x, y, w, z)

-- a tree grows to what it is filled to
pub filled_grows : (t : Tree) (g : List Bool → Tree) → Grows t (filled t g)
filled_grows leaf g = grows_leaf (g [])
filled_grows removed g = grows_self removed
filled_grows (inner to) g = grows_self (inner to)
filled_grows (small to) g = grows_self (small to)
filled_grows (cut to v a l r) g = grows_cut to v a l r (filled l (low_of g)) (filled r (high_of g)) (filled_grows l (low_of g)) (filled_grows r (high_of g))

-- and that grows to what the tree and the fillings grow to
pub filled_within : (t : Tree) (g : List Bool → Tree) (f : Tree) → Grows t f → ((p q : List Bool) (o : Outcome) → subtree t p ≡ Some leaf → outcome_at (g p) q ≡ Some o → outcome_at f (p ++ q) ≡ Some o) → Grows (filled t g) f
filled_within leaf g f h k = λ p o e. k [] p o refl e
filled_within removed g f h k = h
filled_within (inner to) g f h k = h
filled_within (small to) g f h k = h
filled_within (cut to v a l r) g f h k =
    let c : IsCut f to v a = top_cut f to v a (h [] (Cut to v a) refl) in
    let n : Grows (cut to v a l r) (cut to v a c.low c.high) = subst (Grows (cut to v a l r)) c.is h in
    subst (Grows (cut to v a (filled l (low_of g)) (filled r (high_of g)))) (sym c.is)
    (grows_cut to v a (filled l (low_of g)) (filled r (high_of g)) c.low c.high
    (filled_within l (low_of g) c.low (grows_low to to v v a a l r c.low c.high n) (λ p q o e m. ap (λ (z : Tree). outcome_at z (false ∷ (p ++ q))) (sym c.is) ∙ k (false ∷ p) q o e m))
    (filled_within r (high_of g) c.high (grows_high to to v v a a l r c.low c.high n) (λ p q o e m. ap (λ (z : Tree). outcome_at z (true ∷ (p ++ q))) (sym c.is) ∙ k (true ∷ p) q o e m)))

part_leaf : (p : List Bool) → part_at leaf p ≡ leaf
part_leaf [] = refl
part_leaf (b ∷ p) = refl

-- below a settled node that is no cut the other tree has nothing
end_below : (t over : Tree) (o : Outcome) → top t ≡ Some o → is_a_cut o ≡ false → Agree t over → (b : Bool) (p : List Bool) → None ≡ outcome_at over (b ∷ p)
end_below t leaf o e c h b p = refl
end_below t removed o e c h b p = refl
end_below t (inner to) o e c h b p = refl
end_below t (small to) o e c h b p = refl
end_below t (cut to v a l r) o e c h b p = let w : o ≡ Cut to v a = h [] o (Cut to v a) e refl in let x : true ≡ false = ap is_a_cut (sym w) ∙ c in cc

leaf_agrees : (t : Tree) → Agree t leaf
leaf_agrees t p o u e f = let w : None ≡ Some u = sym (outcome_leaf p) ∙ f in cc

-- at a path whose open leaf was filled with what the other tree has stands the settled side of both
pub filled_side : (t over : Tree) (g : List Bool → Tree) (p : List Bool) → Agree t over → ((q r : List Bool) → p ≡ q ++ r → subtree t q ≡ Some leaf → g q ≡ part_at over q)
    → outcome_at (filled t g) p ≡ settled_side (outcome_at t p) (outcome_at over p)
filled_side leaf over g p h k = ap (λ (z : Tree). outcome_at z p) (k [] p refl refl) ∙ ap (λ (x : Option Outcome). settled_side x (outcome_at over p)) (sym (outcome_leaf p))
filled_side removed over g [] h k = refl
filled_side (inner to) over g [] h k = refl
filled_side (small to) over g [] h k = refl
filled_side (cut to v a l r) over g [] h k = refl
filled_side removed over g (b ∷ p) h k = end_below removed over Removed refl refl h b p
filled_side (inner to) over g (b ∷ p) h k = end_below (inner to) over (Inner to) refl refl h b p
filled_side (small to) over g (b ∷ p) h k = end_below (small to) over (Small to) refl refl h b p
filled_side (cut to v a l r) leaf g (false ∷ p) h k =
    filled_side l leaf (low_of g) p (leaf_agrees l) (λ q s e m. k (false ∷ q) s (ap (λ (z : List Bool). false ∷ z) e) m ∙ sym (part_leaf q)) ∙ ap (settled_side (outcome_at l p)) (outcome_leaf p)
filled_side (cut to v a l r) leaf g (true ∷ p) h k =
    filled_side r leaf (high_of g) p (leaf_agrees r) (λ q s e m. k (true ∷ q) s (ap (λ (z : List Bool). true ∷ z) e) m ∙ sym (part_leaf q)) ∙ ap (settled_side (outcome_at r p)) (outcome_leaf p)
filled_side (cut to v a l r) (cut x w b m n) g (false ∷ p) h k = filled_side l m (low_of g) p (λ q. h (false ∷ q)) (λ q s e i. k (false ∷ q) s (ap (λ (z : List Bool). false ∷ z) e) i)
filled_side (cut to v a l r) (cut x w b m n) g (true ∷ p) h k = filled_side r n (high_of g) p (λ q. h (true ∷ q)) (λ q s e i. k (true ∷ q) s (ap (λ (z : List Bool). true ∷ z) e) i)
filled_side (cut to v a l r) removed g (b ∷ p) h k = let w : Cut to v a ≡ Removed = h [] (Cut to v a) Removed refl refl in cc
filled_side (cut to v a l r) (inner x) g (b ∷ p) h k = let w : Cut to v a ≡ Inner x = h [] (Cut to v a) (Inner x) refl refl in cc
filled_side (cut to v a l r) (small x) g (b ∷ p) h k = let w : Cut to v a ≡ Small x = h [] (Cut to v a) (Small x) refl refl in cc

-- the part at a path has there what the tree has behind the path
pub part_outcome : (t : Tree) (p q : List Bool) → outcome_at (part_at t p) q ≡ outcome_at t (p ++ q)
part_outcome t [] q = refl
part_outcome (cut to v a l r) (false ∷ p) q = part_outcome l p q
part_outcome (cut to v a l r) (true ∷ p) q = part_outcome r p q
part_outcome leaf (b ∷ p) q = outcome_leaf q
part_outcome removed (b ∷ p) q = outcome_leaf q
part_outcome (inner to) (b ∷ p) q = outcome_leaf q
part_outcome (small to) (b ∷ p) q = outcome_leaf q

pub some_part : (t : Tree) (p : List Bool) (s : Tree) → subtree t p ≡ Some s → part_at t p ≡ s
some_part t p s e = ap (λ (o : Option Tree). elim o [ None ↦ leaf | Some x ↦ x ]) e

-- which leaves are filled
pub filling_in : (stage : Tree) (ps : List (List Bool)) (p : List Bool) → 0 < times p ps → filling stage ps p ≡ part_at stage p
filling_in stage ps p h = go (times p ps) h
  where
    go : (n : ℕ) → 0 < n → if_some n (part_at stage p) ≡ part_at stage p
    go zero h = absurd (omega (arith, h))
    go (suc n) h = refl

pub filling_out : (stage : Tree) (ps : List (List Bool)) (p : List Bool) → times p ps ≡ 0 → filling stage ps p ≡ leaf
filling_out stage ps p e = ap (λ (n : ℕ). if_some n (part_at stage p)) e

-- one path more of a list
weigh_more : (f : List Bool → ℕ) (ps : List (List Bool)) (i : ℕ) (d : List Bool) → i < length ps → weigh f (take (i + 1) ps) ≡ weigh f (take i ps) + f (get_or ps i d)
weigh_more f ps i d l = let e = ap (weigh f) (take_more ps i d l) in let w = weigh-append f (take i ps) (get_or ps i d ∷ []) in omega (arith, e, w)

pub take_weigh : (f : List Bool → ℕ) (n : ℕ) (ps : List (List Bool)) → weigh f (take n ps) ≤ weigh f ps
take_weigh f zero ps = omega arith
take_weigh f (suc n) [] = omega arith
take_weigh f (suc n) (p ∷ ps) = let r = take_weigh f n ps in omega (arith, r)

times_more : (ps : List (List Bool)) (i : ℕ) (d q : List Bool) → i < length ps → times q (take (i + 1) ps) ≡ times q (take i ps) + at (get_or ps i d) q 1
times_more ps i d q l = weigh_more (λ (p : List Bool). at p q 1) ps i d l

take_times : (n : ℕ) (ps : List (List Bool)) (q : List Bool) → times q (take n ps) ≤ times q ps
take_times n ps q = take_weigh (λ (p : List Bool). at p q 1) n ps

-- a path of the list that was not filled yet
pub times_at : (ps : List (List Bool)) (i : ℕ) (d : List Bool) → i < length ps → 0 < times (get_or ps i d) ps
times_at ps i d l =
    let m = times_more ps i d (get_or ps i d) l in let s = at_self (get_or ps i d) 1 in let t = take_times (i + 1) ps (get_or ps i d) in omega (arith, m, s, t)

pub times_before : (ps : List (List Bool)) (i : ℕ) (d : List Bool) → i < length ps → times (get_or ps i d) ps ≤ 1 → times (get_or ps i d) (take i ps) ≡ 0
times_before ps i d l few =
    let m = times_more ps i d (get_or ps i d) l in let s = at_self (get_or ps i d) 1 in let t = take_times (i + 1) ps (get_or ps i d) in omega (arith, m, s, t, few)

module _ (old stage : Seen) (ps : List (List Bool)) (h : CanFill old stage ps) (i : ℕ) (x : List Bool) (l : i < length ps) (is : x ≡ get_or ps i x) where
  one_of : 0 < times x ps
  one_of = subst (λ (p : List Bool). 0 < times p ps) (sym is) (times_at ps i x l)

  none_yet : times x (take i ps) ≡ 0
  none_yet = subst (λ (p : List Bool). times p (take i ps) ≡ 0) (sym is) (times_before ps i x l (h.distinct (get_or ps i x)))

  more_of : (q : List Bool) → times q (take (i + 1) ps) ≡ times q (take i ps) + at x q 1
  more_of q = let m = times_more ps i x q l in let e = ap (λ (p : List Bool). at p q 1) is in omega (arith, m, e)

  was_open : subtree old.tree x ≡ Some leaf
  was_open = h.are_open x one_of

  pub still_open : (t : Tree) → t ≡ filled old.tree (filling stage.tree (take i ps)) → subtree t x ≡ Some leaf
  still_open t e =
      ap (λ (z : Tree). subtree z x) e ∙ filled_at old.tree (filling stage.tree (take i ps)) x was_open
      ∙ ap (λ (z : Tree). Some z) (filling_out stage.tree (take i ps) x none_yet)

  pub same_box : (s : Seen) → s.root ≡ old.root → s.tree ≡ filled old.tree (filling stage.tree (take i ps)) → IsSome (subtree stage.tree x) → box_of s.root s.tree x ≡ box_of stage.root stage.tree x
  same_box s r e there =
      (λ k. box_of (r k) (e k) x) ∙ filled_box old.root old.tree (filling stage.tree (take i ps)) x was_open ∙ h.box_is x one_of there

  pub fill_more : (t u : Tree) → t ≡ filled old.tree (filling stage.tree (take i ps)) → u ≡ graft t x (part_at stage.tree x) → u ≡ filled old.tree (filling stage.tree (take (i + 1) ps))
  fill_more t u e grafted =
      grafted ∙ ap (λ (z : Tree). graft z x (part_at stage.tree x)) e
      ∙ filled_graft old.tree (filling stage.tree (take i ps)) (filling stage.tree (take (i + 1) ps)) x (part_at stage.tree x) was_open
      (filling_in stage.tree (take (i + 1) ps) x (let m = more_of x in let s = at_self x 1 in omega (arith, m, s)))
      (λ q z. ap (λ (n : ℕ). if_some n (part_at stage.tree q)) (let m = more_of q in omega (arith, m, z)))

pub fill_none : (stage t : Tree) (ps : List (List Bool)) → t ≡ filled t (filling stage (take 0 ps))
fill_none stage t ps = sym (filled_none t (filling stage (take 0 ps)) (λ p. refl))

-- weights that agree on a list
pub weigh_on : (f g : List Bool → ℕ) (ps : List (List Bool)) → ((p : List Bool) → 0 < times p ps → f p ≡ g p) → weigh f ps ≡ weigh g ps
weigh_on f g [] h = refl
weigh_on f g (p ∷ ps) h =
    let e = h p (let s = at_self p 1 in omega (arith, s)) in let r = weigh_on f g ps (λ q m. h q (omega (arith, m))) in omega (arith, e, r)

-- an open leaf of whose path the other tree has nothing
absent_path : (o : Option Tree) → Absent ≡ shape_of o → o ≡ None
absent_path None e = refl
absent_path (Some leaf) e = cc
absent_path (Some removed) e = cc
absent_path (Some (inner to)) e = cc
absent_path (Some (small to)) e = cc
absent_path (Some (cut to v a l r)) e = cc

pub absent_part : (t over : Tree) (p : List Bool) (s : Shape) → s ≡ shape_of (subtree over p) → s ≡ Absent → subtree t p ≡ Some leaf → t ≡ graft t p (part_at over p)
absent_part t over p s e is o =
    let none : subtree over p ≡ None = absent_path (subtree over p) (sym is ∙ e) in
    let part : part_at over p ≡ leaf = ap (λ (x : Option Tree). elim x [ None ↦ leaf | Some y ↦ y ]) none in
    sym (ap (graft t p) part ∙ graft_same t p leaf o)

-- what is laid over an open leaf is the part of the other tree there
pub overlaid_leaf : (old over new : Tree) (p : List Bool) → subtree old p ≡ Some leaf → IsSome (subtree over p) → IsOverlaid old over new p → new ≡ graft old p (part_at over p)
overlaid_leaf old over new p o there h =
    let x : (s : Tree) × (subtree over p ≡ Some s) = some_there (subtree over p) there in
    let y : HasPart old new p leaf x.0 = h leaf x.0 o x.1 in
    y.new_is ∙ ap (graft old p) (join_unique leaf x.0 y.part x.0 y.is_join (join_leaf_left x.0) ∙ sym (some_part over p x.0 x.1))

-- and it does not disagree
leaf_disagrees : (old over : Tree) (p q : List Bool) → subtree old p ≡ Some leaf → IsSome (subtree over p) → IsRefusal old over p (refused.Disagree q) → ⊥
leaf_disagrees old over p q o there h =
    let x : (s : Tree) × (subtree over p ≡ Some s) = some_there (subtree over p) there in
    let y : (r : List Bool) × ((q ≡ p ++ r) × IsFirstDisagreement leaf x.0 r) = h leaf x.0 o x.1 in
    let w : None ≡ Some y.1.1.here.left = sym (outcome_leaf y.0) ∙ y.1.1.here.left_is in cc

pub leaf_refusal : (old over : Tree) (p q : List Bool) (e : JoinRefused) → subtree old p ≡ Some leaf → IsSome (subtree over p) → e ≡ refused.Disagree q → IsRefusal old over p e → ⊥
leaf_refusal old over p q e o there is h = leaf_disagrees old over p q o there (subst (IsRefusal old over p) is h)

-- piling up the leaves below the paths of a list
part_is : (t : Tree) (p : List Bool) → IsSome (subtree t p) → subtree t p ≡ Some (part_at t p)
part_is t p there = let x : (s : Tree) × (subtree t p ≡ Some s) = some_there (subtree t p) there in x.1 ∙ ap (λ (z : Tree). Some z) (sym (some_part t p x.0 x.1))

abbrev below : (List Bool → ℕ) → Tree → List Bool → ℕ
below f t p = weigh (λ q. f (p ++ q)) (opens (part_at t p))

module _ (t : Tree) (ps : List (List Bool)) (room : ℕ) (h : CanPileAll t ps room) (i : ℕ) (x : List Bool) (l : i < length ps) (is : x ≡ get_or ps i x) where
  there_now : subtree t x ≡ Some (part_at t x)
  there_now = part_is t x (h.there x (subst (λ (p : List Bool). 0 < times p ps) (sym is) (times_at ps i x l)))

  more_now : (f : List Bool → ℕ) → weigh f (take (i + 1) ps) ≡ weigh f (take i ps) + f x
  more_now f = let m = weigh_more f ps i x l in let e = ap f is in omega (arith, m, e)

  pub can_pile : (leaves : List (List Bool)) (len cap : ℕ) → height t ≤ 200 → ((f : List Bool → ℕ) → weigh f leaves ≡ weigh (λ p. weigh (λ q. f (p ++ q)) (opens (part_at t p))) (take i ps)) → len ≡ length leaves → room ≤ cap → CanPile t x x len cap
  can_pile leaves len cap high so_far size fits =
      let d = height_below t x (part_at t x) there_now in
      let c = so_far (λ (q : List Bool). 1) in
      let m = more_now (below (λ (q : List Bool). 1) t) in
      let all = take_weigh (below (λ (q : List Bool). 1) t) (i + 1) ps in
      let few = h.few in
      let n = weigh-ones leaves in let o = weigh-ones (opens (part_at t x)) in
      record { part = part_at t x; is = there_now; depth = omega (arith, d, high); fits = omega (arith, c, m, all, few, n, o, size, fits) }

  pub piled_more : (old new : List (List Bool)) → ((f : List Bool → ℕ) → weigh f old ≡ weigh (λ p. weigh (λ q. f (p ++ q)) (opens (part_at t p))) (take i ps)) → ((s : Tree) → subtree t x ≡ Some s → new ≡ old ++ piled x s)
      → (f : List Bool → ℕ) → weigh f new ≡ weigh (λ p. weigh (λ q. f (p ++ q)) (opens (part_at t p))) (take (i + 1) ps)
  piled_more old new so_far more f =
      let c = so_far f in let m = more_now (below f t) in
      let e = ap (weigh f) (more (part_at t x) there_now) in let a = weigh-append f old (piled x (part_at t x)) in
      let w = pile_weighs f x (part_at t x) in omega (arith, c, m, e, a, w)

pub piled_all : (t : Tree) (leaves ps : List (List Bool)) (i : ℕ) → length ps ≤ i → ((f : List Bool → ℕ) → weigh f leaves ≡ weigh (λ p. weigh (λ q. f (p ++ q)) (opens (part_at t p))) (take i ps))
    → (f : List Bool → ℕ) → weigh f leaves ≡ weigh (λ p. weigh (λ q. f (p ++ q)) (opens (part_at t p))) ps
piled_all t leaves ps i n h f = h f ∙ ap (weigh (below f t)) (take_all i ps n)
