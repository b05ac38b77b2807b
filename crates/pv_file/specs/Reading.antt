-- What the lines of a file say of its nodes, and how a reading goes from one line to the next.
use Rattle.std.specs.Prelude.{◌≡◌, ◌≢◌, ◌⊎◌, ℕ, suc, ◌+◌, ◌<◌, ◌≤◌, Bool, Option, Some, None, List, [], ◌∷◌, ◌++◌, length, codes}
use Rattle.pv_interval.specs.Bounds.{Bounds}
use Rattle.pv_tree.specs.Trees.{Tree, leaf, HasDepth, subtree, graft, settled}
use Rattle.pv_tree.specs.Holes.{Hole, Growing, holes_below, Takes, pass_next, settle_next}
use Rattle.pv_tree.specs.declared.outcome.Outcome.{Outcome}
use Rattle.pv_file.specs.declared.version.Version.{Version}
use Rattle.pv_file.specs.declared.reader.NodeLine.{NodeLine}
use Rattle.pv_file.specs.declared.reader.NodeLine.TheVariants as node
use Rattle.pv_file.specs.Lines.{kept_text, node_line_with, lines_of}
use Rattle.pv_file.specs.Texts.{IsDigest, version_text, identity_text}
use Rattle.pv_file.specs.Readings.{IsFree, IsRightFor, IsPavingInFormat, BeginAlike, settled_count}

-- ---- The first two lines

-- no line is there that names an identity
abbrev pub HasNoIdentity : List ℕ → Type 0
HasNoIdentity text = (d more : List ℕ) → IsDigest d → text ≡ identity_text d ++ 10 ∷ more → ⊥

-- line 1 is no version's, or line 2 is no identity's
abbrev pub IsBadHeader : ℕ → List ℕ → Type 0
IsBadHeader n bytes =
    ((n ≡ 1) × ((v : Version) (rest : List ℕ) → bytes ≡ version_text v ++ 10 ∷ rest → ⊥))
    ⊎ ((n ≡ 2) × (v : Version) × (rest : List ℕ) × (bytes ≡ version_text v ++ 10 ∷ rest) × HasNoIdentity rest)

-- a line is there that names another identity
pub record HasOtherSecond (text identity : List ℕ) : Type 0 where
  pub other : List ℕ
  pub rest : List ℕ
  pub is_digest : IsDigest other
  pub differs : other ≢ identity
  pub second : text ≡ identity_text other ++ 10 ∷ rest

-- both lines are those of a file with another identity
pub record HasOtherHeader (bytes identity : List ℕ) : Type 0 where
  pub version : Version
  pub rest : List ℕ
  pub first : bytes ≡ version_text version ++ 10 ∷ rest
  pub second : HasOtherSecond rest identity

-- ---- The lines of nodes

-- A node that is right at a path and for a box; None is an open leaf.
abbrev pub IsRightNode : List Bool → List Bounds → Option Outcome → Type 0
IsRightNode p b None = Unit {0}
IsRightNode p b (Some o) = IsRightFor b o × HasDepth p o

abbrev pub node_of : Option Outcome → NodeLine
node_of None = node.Open
node_of (Some o) = node.Settled o

-- what a line says of a node is right
abbrev pub SaysNode : Version → List Bool → List Bounds → List ℕ → NodeLine → Type 0
SaysNode v p b line node.Open = line ≡ codes "O"
SaysNode v p b line (node.Settled o) = (line ≡ node_line_with (kept_text v b) (Some o)) × IsRightNode p b (Some o)
SaysNode v p b line node.Bad = Unit {0}

-- an outcome is said of a node only where it may stand
abbrev pub StandsAt : List Bool → Outcome → NodeLine → Type 0
StandsAt p o node.Open = ⊥
StandsAt p o (node.Settled said) = (said ≡ o) × HasDepth p o
StandsAt p o node.Bad = HasDepth p o → ⊥

-- ---- One line

abbrev pub holes_after : Hole → Option Outcome → List Hole
holes_after hole None = []
holes_after hole (Some o) = holes_below hole o

abbrev pub tree_after : Tree → Hole → Option Outcome → Tree
tree_after t hole None = t
tree_after t hole (Some o) = graft t hole.path (settled o)

abbrev pub count_of : Option Outcome → ℕ
count_of None = 0
count_of (Some o) = 1

-- the leaf that comes next can be given what a line says
abbrev pub TakesNode : List Hole → NodeLine → Type 0
TakesNode holes node.Open = 0 < length holes
TakesNode holes (node.Settled o) = Takes holes o
TakesNode holes node.Bad = Unit {0}

-- what a line says was put at the leaf that came next
abbrev pub IsPut : Growing → Growing → ℕ → ℕ → NodeLine → Type 0
IsPut old new count total node.Open = (new ≡ pass_next old) × (total ≡ count)
IsPut old new count total (node.Settled o) = (new ≡ settle_next old o) × (total ≡ count + 1)
IsPut old new count total node.Bad = ⊥

-- a settled node more than the limit
abbrev pub IsMany : ℕ → NodeLine → ℕ → ℕ → ℕ → Type 0
IsMany limit node.Open n line count = ⊥
IsMany limit (node.Settled o) n line count = (n ≡ line) × (count ≡ limit)
IsMany limit node.Bad n line count = ⊥

-- A line is one node's at a hole, and no other's.
pub record IsLineOf (v : Version) (hole : Hole) (line : List ℕ) (q : Option Outcome) : Type 0 where
  pub right : IsRightNode hole.path hole.box q
  pub text : line ≡ node_line_with (kept_text v hole.box) q
  pub only : (other : Option Outcome) → IsRightNode hole.path hole.box other → line ≡ node_line_with (kept_text v hole.box) other → other ≡ q

-- A good line was read.
pub record IsStep (v : Version) (old new : Growing) (rest more : List ℕ) (count total : ℕ) : Type 0 where
  pub hole : Hole
  pub others : List Hole
  pub was : old.holes ≡ hole ∷ others
  pub is_leaf : subtree old.tree hole.path ≡ Some leaf
  pub node : Option Outcome
  pub line : List ℕ
  pub free : IsFree 10 line
  pub is_line : IsLineOf v hole line node
  pub text : rest ≡ line ++ 10 ∷ more
  pub root : new.root ≡ old.root
  pub tree : new.tree ≡ tree_after old.tree hole node
  pub holes : new.holes ≡ holes_after hole node ++ others
  pub counted : total ≡ count + count_of node

-- No line that is there is right.
pub record IsStuck (v : Version) (g : Growing) (rest : List ℕ) : Type 0 where
  pub hole : Hole
  pub others : List Hole
  pub was : g.holes ≡ hole ∷ others
  pub none : (line more : List ℕ) (q : Option Outcome) → IsFree 10 line → rest ≡ line ++ 10 ∷ more → IsRightNode hole.path hole.box q
      → line ≡ node_line_with (kept_text v hole.box) q → ⊥

-- The line is right, and one settled node more than the limit.
pub record IsFull (limit : ℕ) (v : Version) (g : Growing) (rest : List ℕ) (count : ℕ) : Type 0 where
  pub hole : Hole
  pub others : List Hole
  pub was : g.holes ≡ hole ∷ others
  pub is_leaf : subtree g.tree hole.path ≡ Some leaf
  pub outcome : Outcome
  pub line : List ℕ
  pub more : List ℕ
  pub free : IsFree 10 line
  pub is_line : IsLineOf v hole line (Some outcome)
  pub text : rest ≡ line ++ 10 ∷ more
  pub full : count ≡ limit

-- ---- All lines

-- The first bad line of the nodes, where the first line of the file is 1. Before it there are at most so many settled nodes as the limit.
pub record IsBadBody (limit : ℕ) (v : Version) (b : List Bounds) (body : List ℕ) (n : ℕ) : Type 0 where
  pub before : ℕ
  pub next : n ≡ before + 3
  pub tree : Tree
  pub paving : IsPavingInFormat b tree
  pub few : settled_count tree ≤ limit
  pub alike : BeginAlike before body (lines_of v b tree)
  pub bad : (t : Tree) → IsPavingInFormat b t → BeginAlike (suc before) body (lines_of v b t) → ⊥

-- The line of the first settled node more than the limit.
pub record IsManyBody (limit : ℕ) (v : Version) (b : List Bounds) (body : List ℕ) (n : ℕ) : Type 0 where
  pub before : ℕ
  pub next : n ≡ before + 3
  pub tree : Tree
  pub paving : IsPavingInFormat b tree
  pub few : settled_count tree ≤ limit
  pub alike : BeginAlike before body (lines_of v b tree)
  pub large : Tree
  pub large_paving : IsPavingInFormat b large
  pub large_alike : BeginAlike (suc before) body (lines_of v b large)
  pub many : (t : Tree) → IsPavingInFormat b t → BeginAlike (suc before) body (lines_of v b t) → limit < settled_count t
