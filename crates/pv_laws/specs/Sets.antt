-- Of which set a paving speaks, in the words of the text, and what centered forms take off it.
use Rattle.std.specs.Prelude.{◌≡◌, ◌≢◌, ◌≤◌, Option, Some, None, List, codes}
use Rattle.clap.specs.Words.{Text}
use Rattle.pv_interval.specs.Bounds.{Bounds}
use Rattle.pv_expr.specs.Systems.{Parts}
use Rattle.pv_tree.specs.Trees.{Tree, leaf, removed, inner, small, cut, counts_of, settled_of}
use Rattle.pv_slope.specs.Methods.{Method}
use Rattle.pv_slope.specs.declared.form.Form.TheVariants.{Plain, Centered}
use Rattle.pv_io.specs.Outside.{untold}
use Rattle.pv_rule.specs.Systems.{Files, HasRule, SpellsProp}
use Rattle.pv_product.specs.Products.{full_by}
use Rattle.pv_request.specs.declared.request.Settings.{Settings}

-- The program that is taken where none is given is `prop(8)`: what is said of `prop(n)` holds by it.
abbrev pub DefaultIsProp : Type 0
DefaultIsProp = (system : Parts) (s : Settings) → s.contract.now ≡ codes "prop(8)" → SpellsProp system s 8

-- the part of its box that a tree's root kept
abbrev pub kept_by : Tree → Option (List Bounds)
kept_by leaf = None
kept_by removed = None
kept_by (inner to) = Some to
kept_by (small to) = Some to
kept_by (cut to var at low high) = Some to

-- The first tree is the second one with subtrees replaced, each by a removed leaf, or by an inner one of the part that the
-- subtree's root kept.
abbrev pub IsPruned : Tree → Tree → Type 0
IsPruned removed leaf = ⊥
IsPruned removed t = Unit {0}
IsPruned (inner to) t = kept_by t ≡ Some to
IsPruned leaf leaf = Unit {0}
IsPruned (small to) (small other) = to ≡ other
IsPruned (cut to var at low high) (cut other var' at' low' high') =
    (to ≡ other) × (var ≡ var') × (at ≡ at') × IsPruned low low' × IsPruned high high'
IsPruned s t = ⊥

-- no more nodes are settled, and no more of them are small
pub record HasNoMore (s t : Tree) : Type 0 where
  pub settled : settled_of (counts_of s) ≤ settled_of (counts_of t)
  pub small : (counts_of s).small ≤ (counts_of t).small

-- By centered forms the full tree of a system is the plain one with subtrees replaced by leaves that are removed or inner.
abbrev pub CenteredPrunes : Type 0
CenteredPrunes =
    (before : Files) (system : Text) (s : Settings) (plain centered : Method) → before.content system ≢ untold
    → HasRule before system (record s { form = Plain }) plain → HasRule before system (record s { form = Centered }) centered
    → IsPruned (full_by centered leaf) (full_by plain leaf)

abbrev pub PrunedHaveNoMore : Type 0
PrunedHaveNoMore = (s t : Tree) → IsPruned s t → HasNoMore s t
