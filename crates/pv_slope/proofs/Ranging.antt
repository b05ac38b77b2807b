-- What the passes over the nodes say of the expression, and when its centered form is empty.
use Rattle.std.proofs.Common.{◌≡◌, ℕ, List, length, refl, ap, sym, ◌∙◌, subst}
use Rattle.std.specs.Prelude.{◌↔◌, Option, Some, None, Bool, true, false, ◌&&◌, if◌then◌else◌}
use Rattle.pv_interval.specs.Bounds.{Bounds}
use Rattle.pv_interval.specs.Points.{LiesInSome}
use Rattle.pv_interval.specs.Tables.{meet_of}
use Rattle.pv_box.specs.Boxes.{IsBox}
use Rattle.pv_expr.specs.Systems.{IsOver}
use Rattle.pv_expr.specs.Terms.{Term}
use Rattle.pv_hc4.specs.Chain.{chain}
use Rattle.pv_hc4.specs.Forward.{forward_of}
use Rattle.pv_hc4.specs.declared.node.Node.{Node}
use Rattle.pv_hc4.specs.Nodes.{terms, term_at}
use Rattle.pv_hc4.specs.Pass.{IsEmptyPass, IsTotality}
use Rattle.pv_hc4.specs.Totality.{total_of}
use Rattle.pv_hc4.proofs.Downward.{chain_assoc}
use Rattle.pv_hc4.proofs.Revising.{part_none}
use Rattle.pv_hc4.proofs.Sureness.{value_defined}
use Rattle.pv_hc4.proofs.Totals.{part_partial}
use Rattle.pv_slope.specs.declared.slopes.Ranged.{Ranged}
use Rattle.pv_slope.specs.SlopeTable.{slope_of}
use Rattle.pv_slope.specs.Centered.{has_finite_ends, linear_of, centered_from, centered_of, slope_where}
use Rattle.pv_slope.specs.Flat.{IsFlat}
use Rattle.pv_slope.specs.Ranges.{ranged_of}
use Rattle.pv_slope.proofs.Centring.{both_true, centre_point, centre_in_box}
use Rattle.pv_slope.proofs.Enclosing.{encloses}
use Rattle.pv_num.proofs.Texts.{none_some}

pub flat_total : (ns : List Node) (root d : ℕ) (b : List Bounds) (r : Bool) → IsFlat ns root d → IsTotality b ns r → r ≡ total_of b (term_at (terms ns) root)
flat_total ns root d b true h t = sym (t root h.root_in)
flat_total ns root d b false h q = sym (part_partial b (term_at (terms ns) q.node) (term_at (terms ns) root) (h.used q.node q.within) q.is)

pub flat_none : (ns : List Node) (root d : ℕ) (b : List Bounds) → IsFlat ns root d → IsEmptyPass b ns → forward_of b (term_at (terms ns) root) ≡ None
flat_none ns root d b h q = part_none b (term_at (terms ns) q.node) (term_at (terms ns) root) (h.used q.node q.within) q.none

-- the range is the centered form, and whether the expression is total
pub ranged_is : (b : List Bounds) (t : Term) → ranged_of b t ≡ chain (centered_of b t) (λ x. Some (record { interval = x; total = total_of b t }))
ranged_is b t = sym (chain_assoc (forward_of b t) (centered_from b t) (λ x. Some (record { interval = x; total = total_of b t })))

pub ranged_none : (b : List Bounds) (t : Term) → forward_of b t ≡ None → ranged_of b t ≡ None
ranged_none b t e = ap (λ o. chain o (λ f. chain (centered_from b t f) (λ x. Some (record { interval = x; total = total_of b t })))) e

-- there is no slope where a divisor is [0,0]
pub slope_none : (b : List Bounds) (i : ℕ) (t : Term) → forward_of b t ≡ None → None ≡ slope_where b i t
slope_none b i t e = sym (ap (λ o. chain o (λ f. if has_finite_ends b && total_of b t then Some (slope_of b i t) else None)) e)

one_range : (q r : Ranged) → Some q ≡ Some r → q ≡ r
one_range q r e = cc

-- what a range says of the centered form
pub centered_none_of : (b : List Bounds) (t : Term) (o : Option Ranged) → o ≡ ranged_of b t → o ≡ None → centered_of b t ≡ None
centered_none_of b t o e h = go (centered_of b t) (sym (ranged_is b t) ∙ sym e ∙ h)
  where
    go : (p : Option Bounds) → chain {B = Ranged} p (λ x. Some (record { interval = x; total = total_of b t })) ≡ None → p ≡ None
    go None h = refl
    go (Some x) h = absurd (cc)

-- the centered form and totality that a range is of
pub record IsRange (b : List Bounds) (t : Term) (r : Ranged) : Type 0 where
  pub interval : centered_of b t ≡ Some r.interval
  pub total : total_of b t ≡ r.total

pub centered_some_of : (b : List Bounds) (t : Term) (o : Option Ranged) (r : Ranged) → o ≡ ranged_of b t → o ≡ Some r → IsRange b t r
centered_some_of b t o r e h = go (centered_of b t) refl (sym (ranged_is b t) ∙ sym e ∙ h)
  where
    go : (p : Option Bounds) → centered_of b t ≡ p → chain {B = Ranged} p (λ x. Some (record { interval = x; total = total_of b t })) ≡ Some r → IsRange b t r
    go None c h = absurd (cc)
    go (Some x) c h =
        let same : record { interval = x; total = total_of b t } ≡ r = one_range (record { interval = x; total = total_of b t }) r h in
        record { interval = c ∙ ap (λ (q : Ranged). Some q.interval) same; total = ap (λ (q : Ranged). q.total) same }

-- ---- the centered form is empty where the forward interval is, and nowhere else

not_empty : (b : List Bounds) (t : Term) (f : Bounds) → IsOver (length b) t → IsBox b → forward_of b t ≡ Some f → centered_of b t ≡ None → ⊥
not_empty b t f o i e n = go (has_finite_ends b && total_of b t) refl
  where
    go : (r : Bool) → (has_finite_ends b && total_of b t) ≡ r → ⊥
    go true h =
        let s = both_true (has_finite_ends b) (total_of b t) h in
        let k = centre_in_box b i.intervals s.0 in
        let q = value_defined (centre_point b) b t o k s.1 in
        subst (LiesInSome q.v.top q.v.under) n (encloses t b o i (centre_point b) q.v k q.is)
    go false h =
        let c : centered_of b t ≡ Some f = ap (λ p. chain p (centered_from b t)) e ∙ ap (λ r. if r then meet_of f (linear_of b t (length b)) else Some f) h in
        none_some f (sym n ∙ c)

pub none_where : (b : List Bounds) (t : Term) → IsOver (length b) t → IsBox b → (centered_of b t ≡ None) ↔ (forward_of b t ≡ None)
none_where b t o i = (to (forward_of b t) refl, λ e. ap (λ p. chain p (centered_from b t)) e)
  where
    to : (p : Option Bounds) → forward_of b t ≡ p → centered_of b t ≡ None → forward_of b t ≡ None
    to None e n = e
    to (Some f) e n = absurd (not_empty b t f o i e n)
