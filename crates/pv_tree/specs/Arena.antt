-- The tree that an arena of numbered nodes stands for.
use Rattle.pv_tree.specs.declared.outcome.Outcome.{Outcome}
use Rattle.pv_tree.specs.declared.outcome.Outcome.TheVariants as outcome
use Rattle.std.specs.Prelude.{if◌then◌else◌, ◌≢◌, ◌≡◌, ℕ, zero, suc, ◌+◌, ◌*◌, ◌^◌, ◌<◌, ◌≤◌, Bool, true, false, Option, Some, None, List, [], ◌∷◌, ◌++◌, length, take, drop, slice_index_or}
use Rattle.std.specs.Option.{option_map}
use Rattle.pv_interval.specs.Bounds.{Bounds}
use Rattle.pv_tree.specs.Trees.{Tree, leaf, removed, inner, small, cut, IsPaving, counts_of, settled_of, IsStrictlyInside, half_of}
use Rattle.pv_tree.specs.declared.cell.Cell.{Cell}
use Rattle.pv_tree.specs.declared.cell.Cell.TheVariants.{Open, Removed, Inner, Small, Cut}
use Rattle.pv_tree.specs.declared.cell.Node.{Node}
use Rattle.pv_tree.specs.declared.outcome.Counts.{Counts}
use Rattle.pv_tree.specs.declared.outcome.Shape.{Shape}
use Rattle.pv_tree.specs.declared.outcome.Shape.TheVariants as shape
use Rattle.pv_tree.specs.declared.path.TheConstants.{MOST_STEPS, MOST_LEVELS}

abbrev pub open_node : Node
open_node = record { cell = Open; closed = false }

-- A node that is not there reads as an open leaf.
abbrev pub cell_at : List Node → ℕ → Cell
cell_at ns k = (slice_index_or ns k open_node).cell

abbrev pub closed_at : List Node → ℕ → Bool
closed_at ns k = (slice_index_or ns k open_node).closed

-- The box of `d` places whose ends begin at a place of the flat list.
abbrev pub kept : ℕ → List Bounds → ℕ → List Bounds
kept d es start = take d (drop start es)

-- The tree at a node, read to a depth that no path of a paving reaches.
unfoldable pub tree_at : ℕ → List Bounds → List Node → ℕ → ℕ → Tree
tree_at d es ns zero k = removed
tree_at d es ns (suc f) k = elim (cell_at ns k) [
  | Open ↦ leaf
  | Removed ↦ removed
  | Inner s ↦ inner (kept d es s)
  | Small s ↦ small (kept d es s)
  | Cut s var at c ↦ cut (kept d es s) var at (tree_at d es ns f c) (tree_at d es ns f (c + 1))
]

abbrev pub kids_of : Cell → Option ℕ
kids_of Open = None
kids_of Removed = None
kids_of (Inner s) = None
kids_of (Small s) = None
kids_of (Cut s var at c) = Some c

abbrev pub start_of : Cell → Option ℕ
start_of Open = None
start_of Removed = None
start_of (Inner s) = Some s
start_of (Small s) = Some s
start_of (Cut s var at c) = Some s

abbrev pub side : Bool → ℕ → ℕ
side false c = c
side true c = c + 1

-- The node that a path leads to.
abbrev pub reach : List Node → ℕ → List Bool → Option ℕ
reach ns k [] = Some k
reach ns k (b ∷ p) = elim (kids_of (cell_at ns k)) [ None ↦ None | Some c ↦ reach ns (side b c) p ]

-- A node and its children, each with the path that leads to it.
pub record Family (ns : List Node) (label : ℕ → List Bool) (k c : ℕ) : Type 0 where
  pub there : c + 1 < length ns
  pub low : label c ≡ label k ++ false ∷ []
  pub high : label (c + 1) ≡ label k ++ true ∷ []
  pub short : length (label k) < MOST_STEPS

abbrev pub IsClosed : List Node → Cell → Type 0
IsClosed ns Open = ⊥
IsClosed ns Removed = Unit {0}
IsClosed ns (Inner s) = Unit {0}
IsClosed ns (Small s) = Unit {0}
IsClosed ns (Cut s var at c) = (closed_at ns c ≡ true) × (closed_at ns (c + 1) ≡ true)

-- Every node has a path of its own that leads to it, so none is shared and none is its own child.
pub record IsLinked (d : ℕ) (es : List Bounds) (ns : List Node) (label : ℕ → List Bool) : Type 0 where
  pub some : 0 < length ns
  pub root : label 0 ≡ []
  pub reached : (k : ℕ) → k < length ns → reach ns 0 (label k) ≡ Some k
  pub kids : (k c : ℕ) → kids_of (cell_at ns k) ≡ Some c → Family ns label k c
  pub starts : (k s : ℕ) → start_of (cell_at ns k) ≡ Some s → s + d ≤ length es
  pub closed : (k : ℕ) → closed_at ns k ≡ true → IsClosed ns (cell_at ns k)

pub record IsArena (d : ℕ) (es : List Bounds) (ns : List Node) : Type 0 where
  pub label : ℕ → List Bool
  pub linked : IsLinked d es ns label

abbrev pub whole_tree : ℕ → List Bounds → List Node → Tree
whole_tree d es ns = tree_at d es ns MOST_LEVELS 0

-- What is true of the parts of every paving.
pub record IsWhole (b : List Bounds) (es : List Bounds) (ns : List Node) (counts : Counts) : Type 0 where
  pub arena : IsArena (length b) es ns
  pub paving : IsPaving b (whole_tree (length b) es ns)
  pub counted : counts ≡ counts_of (whole_tree (length b) es ns)
  pub bound : settled_of counts + counts.open_leaves ≤ length ns
  pub few_nodes : length ns ≤ 1 + 2 * settled_of counts
  pub few_ends : length es ≤ length b * settled_of counts

-- There is room for so many settlings.
pub record HasRoom (d spare nodes nodes_room ends ends_room : ℕ) : Type 0 where
  pub for_nodes : nodes + 2 * spare ≤ nodes_room
  pub for_ends : ends + d * spare ≤ ends_room
  pub few : spare ≤ 2 ^ 40

abbrev pub is_cut : Cell → Bool
is_cut Open = false
is_cut Removed = false
is_cut (Inner s) = false
is_cut (Small s) = false
is_cut (Cut s var at c) = true

-- One node now holds a cell, and a cut's two children stand open at the end.
pub record IsPlaced (ns ms : List Node) (j : ℕ) (x : Cell) : Type 0 where
  pub here : cell_at ms j ≡ x
  pub others : (k : ℕ) → k ≢ j → cell_at ms k ≡ cell_at ns k
  pub flags : (k : ℕ) → k ≢ j → closed_at ms k ≡ closed_at ns k
  pub flag_here : closed_at ms j ≡ true → is_cut x ≡ false
  pub size : length ms ≡ length ns + (if is_cut x then 2 else 0)

-- The outcome that a cell shows.
abbrev pub outcome_of : ℕ → List Bounds → Cell → Option Outcome
outcome_of d es Open = None
outcome_of d es Removed = Some outcome.Removed
outcome_of d es (Inner s) = Some (outcome.Inner (kept d es s))
outcome_of d es (Small s) = Some (outcome.Small (kept d es s))
outcome_of d es (Cut s var at c) = Some (outcome.Cut (kept d es s) var at)

-- A cell shows an outcome, with its own ends in the flat list and its children at a place.
pub record Shows (d : ℕ) (es : List Bounds) (x : Cell) (o : Outcome) (kids : ℕ) : Type 0 where
  pub outcome : outcome_of d es x ≡ Some o
  pub kids_there : (c : ℕ) → kids_of x ≡ Some c → c ≡ kids
  pub start_there : (s : ℕ) → start_of x ≡ Some s → s + d ≤ length es

-- The flat list only grew.
pub record IsLonger (es fs : List Bounds) : Type 0 where
  pub more : List Bounds
  pub longer : fs ≡ es ++ more

-- The same cells under other marks, which are right.
pub record IsRemarked (ns ms : List Node) : Type 0 where
  pub cells : (k : ℕ) → cell_at ms k ≡ cell_at ns k
  pub size : length ms ≡ length ns
  pub right : (k : ℕ) → closed_at ms k ≡ true → IsClosed ms (cell_at ms k)

-- Every node's children are there.
pub record HasKids (ns : List Node) : Type 0 where
  pub some : 0 < length ns
  pub kids : (k c : ℕ) → kids_of (cell_at ns k) ≡ Some c → c + 1 < length ns

abbrev pub MarksRight : List Node → Type 0
MarksRight ns = (k : ℕ) → closed_at ns k ≡ true → IsClosed ns (cell_at ns k)

abbrev pub is_a_cut : Outcome → Bool
is_a_cut outcome.Removed = false
is_a_cut (outcome.Inner to) = false
is_a_cut (outcome.Small to) = false
is_a_cut (outcome.Cut to var at) = true

-- How many ends the flat list takes in for an outcome.
abbrev pub places_of : Outcome → ℕ
places_of outcome.Removed = 0
places_of (outcome.Inner to) = length to
places_of (outcome.Small to) = length to
places_of (outcome.Cut to var at) = length to

abbrev pub HasPlaces : ℕ → Outcome → Type 0
HasPlaces d outcome.Removed = Unit {0}
HasPlaces d (outcome.Inner to) = length to ≡ d
HasPlaces d (outcome.Small to) = length to ≡ d
HasPlaces d (outcome.Cut to var at) = length to ≡ d

-- The counts of a tree in which an open leaf became a tree of other counts.
pub record Adds (old part new : Counts) : Type 0 where
  pub cut : new.cut ≡ old.cut + part.cut
  pub removed : new.removed ≡ old.removed + part.removed
  pub inner : new.inner ≡ old.inner + part.inner
  pub small : new.small ≡ old.small + part.small
  pub open_leaves : new.open_leaves + 1 ≡ old.open_leaves + part.open_leaves

abbrev pub shape_of_cell : Cell → Shape
shape_of_cell Open = shape.OpenLeaf
shape_of_cell Removed = shape.Removed
shape_of_cell (Inner s) = shape.Inner
shape_of_cell (Small s) = shape.Small
shape_of_cell (Cut s var at c) = shape.Cut var at

abbrev pub is_open_cell : Cell → Bool
is_open_cell Open = true
is_open_cell Removed = false
is_open_cell (Inner s) = false
is_open_cell (Small s) = false
is_open_cell (Cut s var at c) = false

-- The cell that the first steps of a path lead to.
abbrev pub cell_along : List Node → List Bool → ℕ → Option Cell
cell_along ns p steps = option_map (cell_at ns) (reach ns 0 (take steps p))

abbrev pub shape_of_found : Option Cell → Shape
shape_of_found None = shape.Absent
shape_of_found (Some x) = shape_of_cell x

-- A cut's ends are in the flat list, and it cuts strictly inside them.
abbrev pub HasHalves : ℕ → List Bounds → Cell → Type 0
HasHalves d es Open = ⊥
HasHalves d es Removed = ⊥
HasHalves d es (Inner s) = ⊥
HasHalves d es (Small s) = ⊥
HasHalves d es (Cut s var at c) = (s + d ≤ length es) × IsStrictlyInside at var (kept d es s)

abbrev pub half_at : ℕ → List Bounds → Cell → Bool → Option (List Bounds)
half_at d es Open high = None
half_at d es Removed high = None
half_at d es (Inner s) high = None
half_at d es (Small s) high = None
half_at d es (Cut s var at c) high = Some (half_of high (kept d es s) var at)

abbrev pub start_along : List Node → Option ℕ → Option ℕ
start_along ns None = None
start_along ns (Some k) = start_of (cell_at ns k)
