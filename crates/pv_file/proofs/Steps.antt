-- One line of a reading.
use Rattle.std.proofs.Common.{◌≡◌, ℕ, Bool, List, [], ◌∷◌, ◌++◌, Option, Some, None, refl, sym, ◌∙◌, ap, subst, arith}
use Rattle.pv_interval.specs.Bounds.{Bounds}
use Rattle.pv_tree.specs.Trees.{graft, settled}
use Rattle.pv_tree.specs.Holes.{Hole, Growing, IsNext, IsFirstBox, holes_below, rest_of, pass_next, settle_next, settle_first}
use Rattle.pv_tree.specs.declared.outcome.Outcome.{Outcome}
use Rattle.pv_file.specs.declared.version.Version.{Version}
use Rattle.pv_file.specs.declared.reader.NodeLine.{NodeLine}
use Rattle.pv_file.specs.declared.reader.NodeLine.TheVariants as node
use Rattle.pv_file.specs.Lines.{kept_text, node_line_with}
use Rattle.pv_file.specs.Readings.{IsFree}
use Rattle.pv_file.specs.Reading.{IsRightNode, node_of, SaysNode, IsPut, IsMany, IsLineOf, IsStep, IsStuck, IsFull}
use Rattle.pv_file.proofs.Bytes.{tails_same, split_once}

-- ---- Lines are split at line feeds in one way

no_mark : (mark : ℕ) (line more : List ℕ) → IsFree mark (line ++ mark ∷ more) → ⊥
no_mark mark [] more f = f.0 refl
no_mark mark (c ∷ cs) more f = no_mark mark cs more f.1

pub free_no_mark : (mark : ℕ) (text line more : List ℕ) → IsFree mark text → text ≡ line ++ mark ∷ more → ⊥
free_no_mark mark text line more f e = no_mark mark line more (subst (λ (x : List ℕ). IsFree mark x) e f)

pub same_line : (text a b r s : List ℕ) → IsFree 10 a → IsFree 10 b → text ≡ a ++ 10 ∷ r → text ≡ b ++ 10 ∷ s → (a ≡ b) × (r ≡ s)
same_line text a b r s fa fb e f =
    let split : (a ≡ b) × (10 ∷ r ≡ 10 ∷ s) = split_once 10 a b (10 ∷ r) (10 ∷ s) fa fb refl refl (sym e ∙ f) in
    (split.0, tails_same 10 10 r s split.1)

-- ---- What a line says of the leaf that comes next

first_box : (holes : List Hole) (hole : Hole) (others : List Hole) (bx : List Bounds) → holes ≡ hole ∷ others → IsFirstBox holes bx → bx ≡ hole.box
first_box holes hole others bx e f = subst (λ (hs : List Hole). IsFirstBox hs bx) e f

open_none : (q : Option Outcome) → node.Open ≡ node_of q → q ≡ None
open_none None e = refl
open_none (Some o) e = cc

settled_some : (o : Outcome) (q : Option Outcome) → node.Settled o ≡ node_of q → q ≡ Some o
settled_some o None e = cc
settled_some o (Some p) e = cc

pub bad_none : (q : Option Outcome) → node.Bad ≡ node_of q → ⊥
bad_none None e = cc
bad_none (Some o) e = cc

-- Each node that a line may be is the one that was found.
abbrev pub Only : Version → List Bool → List Bounds → List ℕ → NodeLine → Type 0
Only v p b line n = (q : Option Outcome) → IsRightNode p b q → line ≡ node_line_with (kept_text v b) q → n ≡ node_of q

at_hole : (v : Version) (p : List Bool) (b : List Bounds) (hole : Hole) (line : List ℕ) (n : NodeLine) → p ≡ hole.path → b ≡ hole.box
    → SaysNode v p b line n → Only v p b line n → SaysNode v hole.path hole.box line n × Only v hole.path hole.box line n
at_hole v p b hole line n e f says only = (
  subst (λ (x : List Bool). SaysNode v x hole.box line n) e (subst (λ (y : List Bounds). SaysNode v p y line n) f says),
  subst (λ (x : List Bool). Only v x hole.box line n) e (subst (λ (y : List Bounds). Only v p y line n) f only),
)

open_line : (v : Version) (hole : Hole) (line : List ℕ) → SaysNode v hole.path hole.box line node.Open → Only v hole.path hole.box line node.Open → IsLineOf v hole line None
open_line v hole line says only = record { right = tt; text = says; only = λ q r e. open_none q (only q r e) }

settled_line : (v : Version) (hole : Hole) (line : List ℕ) (o : Outcome) → SaysNode v hole.path hole.box line (node.Settled o)
    → Only v hole.path hole.box line (node.Settled o) → IsLineOf v hole line (Some o)
settled_line v hole line o says only = record { right = says.1; text = says.0; only = λ q r e. settled_some o q (only q r e) }

pass_holes : (g : Growing) (hole : Hole) (others : List Hole) → g.holes ≡ hole ∷ others → (pass_next g).holes ≡ others
pass_holes g hole others e = ap rest_of e

settle_is : (g : Growing) (hole : Hole) (others : List Hole) (o : Outcome) → g.holes ≡ hole ∷ others
    → settle_next g o ≡ record { root = g.root; tree = graft g.tree hole.path (settled o); holes = holes_below hole o ++ others }
settle_is g hole others o e = ap (λ (hs : List Hole). settle_first g.root g.tree hs o) e

pub step_of : (v : Version) (old new : Growing) (p : List Bool) (bx : List Bounds) (rest line more : List ℕ) (count total : ℕ) (n : NodeLine) → IsNext old p
    → IsFirstBox old.holes bx → IsFree 10 line → rest ≡ line ++ 10 ∷ more → SaysNode v p bx line n → Only v p bx line n → IsPut old new count total n
    → IsStep v old new rest more count total
step_of v old new p bx rest line more count total node.Open next first free text says only put =
    let box : bx ≡ next.hole.box = first_box old.holes next.hole next.rest bx next.is first in
    let here = at_hole v p bx next.hole line node.Open next.path box says only in record {
      hole = next.hole;
      others = next.rest;
      was = next.is;
      is_leaf = next.is_leaf;
      node = None;
      line = line;
      free = free;
      is_line = open_line v next.hole line here.0 here.1;
      text = text;
      root = ap (λ (g : Growing). g.root) put.0;
      tree = ap (λ (g : Growing). g.tree) put.0;
      holes = ap (λ (g : Growing). g.holes) put.0 ∙ pass_holes old next.hole next.rest next.is;
      counted = omega (arith, put.1);
    }
step_of v old new p bx rest line more count total (node.Settled o) next first free text says only put =
    let box : bx ≡ next.hole.box = first_box old.holes next.hole next.rest bx next.is first in
    let here = at_hole v p bx next.hole line (node.Settled o) next.path box says only in
    let grown = put.0 ∙ settle_is old next.hole next.rest o next.is in record {
      hole = next.hole;
      others = next.rest;
      was = next.is;
      is_leaf = next.is_leaf;
      node = Some o;
      line = line;
      free = free;
      is_line = settled_line v next.hole line o here.0 here.1;
      text = text;
      root = ap (λ (g : Growing). g.root) grown;
      tree = ap (λ (g : Growing). g.tree) grown;
      holes = ap (λ (g : Growing). g.holes) grown;
      counted = put.1;
    }
step_of v old new p bx rest line more count total node.Bad next first free text says only put = absurd put

pub stuck_at_end : (v : Version) (g : Growing) (p : List Bool) (rest : List ℕ) → IsNext g p → IsFree 10 rest → IsStuck v g rest
stuck_at_end v g p rest next free = record {
  hole = next.hole;
  others = next.rest;
  was = next.is;
  none = λ line more q f e r t. free_no_mark 10 rest line more free e;
}

pub stuck_at_line : (v : Version) (g : Growing) (p : List Bool) (bx : List Bounds) (rest line more : List ℕ) (n : NodeLine) → IsNext g p → IsFirstBox g.holes bx
    → IsFree 10 line → rest ≡ line ++ 10 ∷ more → SaysNode v p bx line n → Only v p bx line n → n ≡ node.Bad → IsStuck v g rest
stuck_at_line v g p bx rest line more n next first free text says only bad =
    let box : bx ≡ next.hole.box = first_box g.holes next.hole next.rest bx next.is first in
    let here = at_hole v p bx next.hole line n next.path box says only in record {
      hole = next.hole;
      others = next.rest;
      was = next.is;
      none = λ other more' q f e r t.
          let same : other ≡ line = (same_line rest other line more' more f free e text).0 in
          bad_none q (sym bad ∙ here.1 q r (sym same ∙ t));
    }

pub full_at : (limit : ℕ) (v : Version) (g : Growing) (p : List Bool) (bx : List Bounds) (rest line more : List ℕ) (n : NodeLine) (at here count : ℕ) → IsNext g p
    → IsFirstBox g.holes bx → IsFree 10 line → rest ≡ line ++ 10 ∷ more → SaysNode v p bx line n → Only v p bx line n → IsMany limit n at here count
    → (at ≡ here) × IsFull limit v g rest count
full_at limit v g p bx rest line more node.Open at here' count next first free text says only many = absurd many
full_at limit v g p bx rest line more (node.Settled o) at here' count next first free text says only many =
    let box : bx ≡ next.hole.box = first_box g.holes next.hole next.rest bx next.is first in
    let here = at_hole v p bx next.hole line (node.Settled o) next.path box says only in (
      many.0,
      record {
        hole = next.hole;
        others = next.rest;
        was = next.is;
        is_leaf = next.is_leaf;
        outcome = o;
        line = line;
        more = more;
        free = free;
        is_line = settled_line v next.hole line o here.0 here.1;
        text = text;
        full = many.1;
      },
    )
full_at limit v g p bx rest line more node.Bad at here' count next first free text says only many = absurd many
