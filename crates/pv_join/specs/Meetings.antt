-- Two walks over trees of one box whose nodes are laid into a growing tree, leaf by leaf.
use Rattle.std.specs.Prelude.{◌≡◌, ◌≢◌, ◌⊎◌, ℕ, ◌+◌, ◌<◌, Bool, Option, Some, None, List, [], ◌∷◌, ◌++◌, length}
use Rattle.pv_tree.specs.Trees.{Tree, leaf, subtree, outcome_at, graft, settled, shape_of}
use Rattle.pv_tree.specs.Holes.{Hole, Growing, Takes, holes_below, settle_next, pass_next, fill}
use Rattle.pv_tree.specs.Pieces.{Piece, Walked, IsVisit, IsPiece, children_of, to_come}
use Rattle.pv_tree.specs.declared.outcome.Outcome.{Outcome}
use Rattle.pv_tree.specs.declared.outcome.Shape.{Shape}
use Rattle.pv_join.specs.Joins.{settled_side, IsJoin, IsFirstDisagreement}
use Rattle.pv_join.specs.declared.merge.JoinRefused.{JoinRefused}
use Rattle.pv_join.specs.declared.merge.JoinRefused.TheVariants as refused

-- ---- A step at one leaf

-- A walk visited a node of this shape.
pub record IsSeen (w : Walked) (s : Shape) : Type 0 where
  pub shape : s ≡ shape_of (Some w.here.tree)
  pub piece : IsPiece w.root w.tree w.here

-- The node that a walk has visited is the one at a path, or the tree is not settled there.
abbrev pub IsMet : Walked → Option Shape → List Bool → Type 0
IsMet w None p = outcome_at w.tree p ≡ None
IsMet w (Some s) p = IsSeen w s × ((w.here.path ≡ p → ⊥) → outcome_at w.tree p ≡ None)

-- The one of two outcomes that is there, or both, where they are the same.
pub record IsOneOf (l r o : Option Outcome) : Type 0 where
  pub takes : o ≡ settled_side l r
  pub agree : (x y : Outcome) → l ≡ Some x → r ≡ Some y → x ≡ y

-- Both are there, and they differ.
pub record AreApart (l r : Option Outcome) : Type 0 where
  pub left : Outcome
  pub right : Outcome
  pub left_is : l ≡ Some left
  pub right_is : r ≡ Some right
  pub differ : left ≢ right

abbrev pub IsApart : Option Outcome → Option Outcome → List Bool → JoinRefused → Type 0
IsApart l r p refused.Memory = Unit {0}
IsApart l r p (refused.Disagree q) = (q ≡ p) × AreApart l r

-- The leaf that comes next is settled, or left open.
abbrev pub laid_next : Growing → Option Outcome → Growing
laid_next g None = pass_next g
laid_next g (Some o) = settle_next g o

abbrev pub CanLay : Growing → Option Outcome → Type 0
CanLay g None = 0 < length g.holes
CanLay g (Some o) = Takes g.holes o

-- A walk that stood at a path's node goes on to the next node, and another one stays.
abbrev pub IsPassed : Walked → Walked → Option Shape → Type 0
IsPassed old new None = (old.pending ≡ []) × (new ≡ old)
IsPassed old new (Some s) = IsVisit old new s × IsSeen new s × (new.tree ≡ old.tree)

abbrev pub HasStepped : Walked → Option Shape → List Bool → Walked → Option Shape → Type 0
HasStepped old None p new next = (new ≡ old) × (next ≡ None)
HasStepped old (Some s) p new next =
    ((old.here.path ≡ p → ⊥) × (new ≡ old) × (next ≡ Some s)) ⊎ ((old.here.path ≡ p) × IsPassed old new next)

-- How many nodes a walk is still to hand over.
abbrev pub left_of : Walked → Option Shape → ℕ
left_of w None = 0
left_of w (Some s) = 1 + to_come w.pending

-- ---- The leaves to come

-- The nodes that a tree has at the paths of leaves.
abbrev pub piece_at : Hole → Option Tree → List Piece
piece_at hole None = []
piece_at hole (Some t) = record { path = hole.path; box = hole.box; tree = t } ∷ []

abbrev pub nodes_at : Tree → List Hole → List Piece
nodes_at t [] = []
nodes_at t (hole ∷ holes) = piece_at hole (subtree t hole.path) ++ nodes_at t holes

-- A walk is still to hand over what its tree has at the leaves to come, and below: the node that it visited, and then others.
pub record IsStanding (w : Walked) (s : Shape) (holes : List Hole) : Type 0 where
  pub rest : List Piece
  pub pending : w.pending ≡ children_of w.here ++ rest
  pub seen : IsSeen w s
  pub nodes : nodes_at w.tree holes ≡ w.here ∷ rest

abbrev pub IsFront : Walked → Option Shape → List Hole → Type 0
IsFront w None holes = nodes_at w.tree holes ≡ []
IsFront w (Some s) holes = IsStanding w s holes

-- What a tree has at a path: an open leaf where it has none.
abbrev pub or_leaf : Option Tree → Tree
or_leaf None = leaf
or_leaf (Some t) = t

abbrev pub sub : Tree → List Bool → Tree
sub t p = or_leaf (subtree t p)

pub record HaveJoin (s t : Tree) : Type 0 where
  pub part : Tree
  pub is_join : IsJoin s t part

-- Each tree is the join of what two trees have at a leaf to come.
abbrev pub AllJoin : Tree → Tree → List Hole → List Tree → Type 0
AllJoin a b [] [] = Unit {0}
AllJoin a b [] (s ∷ ss) = ⊥
AllJoin a b (hole ∷ holes) [] = ⊥
AllJoin a b (hole ∷ holes) (s ∷ ss) = IsJoin (sub a hole.path) (sub b hole.path) s × AllJoin a b holes ss

-- The first leaf to come at or below which two trees disagree has its first disagreement at a path.
pub record IsBelow (a b : Tree) (hole : Hole) (p : List Bool) : Type 0 where
  pub tail : List Bool
  pub is : p ≡ hole.path ++ tail
  pub first : IsFirstDisagreement (sub a hole.path) (sub b hole.path) tail

abbrev pub RefusesAt : Tree → Tree → List Hole → List Bool → Type 0
RefusesAt a b [] p = ⊥
RefusesAt a b (hole ∷ holes) p = IsBelow a b hole p ⊎ (HaveJoin (sub a hole.path) (sub b hole.path) × RefusesAt a b holes p)

-- With the joins of what is to come the tree is the join, and the first disagreement to come is the first one.
pub record IsJoining (a b t : Tree) (holes : List Hole) : Type 0 where
  pub joins : (ss : List Tree) → AllJoin a b holes ss → IsJoin a b (fill t holes ss)
  pub refuses : (p : List Bool) → RefusesAt a b holes p → IsFirstDisagreement a b p

pub record IsMeeting (v : Walked) (s : Option Shape) (w : Walked) (u : Option Shape) (g : Growing) : Type 0 where
  pub joining : IsJoining v.tree w.tree g.tree g.holes
  pub left : IsFront v s g.holes
  pub right : IsFront w u g.holes
