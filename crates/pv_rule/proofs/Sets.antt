-- The set that a program's text and the constraints mean.
use Rattle.std.proofs.Common.{◌≡◌, ◌<◌, ◌^◌, ◌++◌, ◌↔◌, ℕ, List, [], ◌∷◌, map, length, sym, ap, subst, codes, arith}
use Rattle.std.proofs.lemmas.Fmt.{decimal_digit}
use Rattle.pv_interval.specs.Bounds.{Bounds}
use Rattle.pv_interval.specs.Points.{Point}
use Rattle.pv_box.specs.Boxes.{lower_half, upper_half}
use Rattle.pv_expr.specs.declared.constraint.Constraint.{Constraint}
use Rattle.pv_hc4.specs.Graphs.{sides_named}
use Rattle.pv_hc4.specs.Revise.{Sides}
use Rattle.pv_ctc.specs.Members.{IsMember, AllHold}
use Rattle.pv_ctc.specs.Plans.{Plan, prop}
use Rattle.pv_ctc.specs.Texts.{program_text}
use Rattle.pv_ctc.specs.Refusals.{IsSpelling}
use Rattle.pv_ctc.proofs.OneSpelling.{one_spelling}
use Rattle.pv_tree.specs.Trees.{Tree, leaf, removed, inner, small, cut}
use Rattle.pv_tree.specs.Sets.{LosesNone, IsSound}
use Rattle.pv_rule.specs.Systems.{EachHolds, Solves}

each_holds : (cs : List Constraint) (x : Point) → AllHold (map sides_named cs) x ↔ EachHolds cs x
each_holds [] x = (λ h. tt, λ h. tt)
each_holds (c ∷ cs) x = (λ h. (h.0, (each_holds cs x).0 h.1), λ h. (h.0, (each_holds cs x).1 h.1))

-- a program's set over the sides of constraints is what it wants of these
pub set_of : (cs : List Constraint) (p : Plan) (ss : List Sides) → ss ≡ map sides_named cs → (x : Point) → IsMember ss p x ↔ Solves cs p x
set_of cs p ss sides x = subst (λ (s : List Sides). IsMember s p x ↔ Solves cs p x) (sym sides) (λ h. h, λ h. h)

-- the set of a text that spells `prop(n)` is that of all constraints
pub prop_set : (cs : List Constraint) (text : List ℕ) (p : Plan) (ss : List Sides) (n : ℕ) → length cs < 2 ^ 32 → IsSpelling (length cs) text p → ss ≡ map sides_named cs
    → IsSpelling (length cs) text (prop n) → (x : Point) → IsMember ss p x ↔ EachHolds cs x
prop_set cs text p ss n few spells sides spelled x =
    subst (λ (q : Plan). IsMember ss q x ↔ EachHolds cs x) (sym (one_spelling (length cs) text p (prop n) few spells spelled))
    (subst (λ (s : List Sides). AllHold s x ↔ EachHolds cs x) (sym sides) (each_holds cs x))

default_text : program_text (prop 8) ≡ codes "prop(8)"
default_text = ap (λ (d : List ℕ). codes "prop(" ++ d ++ codes ")") (decimal_digit 8 (omega arith))

-- the text that is taken where none is given
pub default_spelling : (n : ℕ) → IsSpelling n (codes "prop(8)") (prop 8)
default_spelling n = record { fits = (omega arith, omega arith); few = omega arith; short = omega arith; spelled = sym default_text }

-- ---- What is sound for a set is sound for each that has the same points

module _ (inside other : Point → Type 0) (same : (x : Point) → inside x ↔ other x) where
  loses_alike : (b to : List Bounds) → LosesNone inside b to → LosesNone other b to
  loses_alike b to h x within out there = h x within out ((same x).1 there)

  pub sound_alike : (b : List Bounds) (t : Tree) → IsSound inside b t → IsSound other b t
  sound_alike b leaf h = tt
  sound_alike b removed h = λ x within there. h x within ((same x).1 there)
  sound_alike b (inner to) h = (loses_alike b to h.0, λ x within. (same x).0 (h.1 x within))
  sound_alike b (small to) h = loses_alike b to h
  sound_alike b (cut to var at low high) h =
      (loses_alike b to h.0, sound_alike (lower_half to var at) low h.1, sound_alike (upper_half to var at) high h.2)
