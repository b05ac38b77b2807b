-- What is found of a constraint is what the tests say.
use Rattle.std.proofs.Common.{◌≡◌, ℕ, zero, suc, ◌+◌, ◌<◌, List, [], ◌∷◌, ◌++◌, length, take, refl, ap, sym, ◌∙◌, arith}
use Rattle.std.specs.Prelude.{ℤ, Bool, true, false, ◌&&◌, ◌||◌, All, Some, map, slice_get}
use Rattle.std.proofs.lemmas.List.Elements.{All-head, All-tail}
use Rattle.pv_num.specs.Grid.{unit}
use Rattle.pv_interval.specs.Bounds.{Bounds, IsInterval}
use Rattle.pv_interval.specs.Points.{Point}
use Rattle.pv_interval.proofs.Intervals.{member}
use Rattle.pv_box.specs.Boxes.{IsBox, LieIn}
use Rattle.pv_hc4.specs.Members.{AreOver}
use Rattle.pv_hc4.specs.Revise.{Sides}
use Rattle.pv_hc4.specs.Totality.{total_of, sure_of}
use Rattle.pv_hc4.proofs.Sureness.{sure-holds}
use Rattle.pv_ctc.specs.Contracting.{side_at}
use Rattle.pv_settle.proofs.Making.{take_more}
use Rattle.pv_slope.specs.Centered.{centered_of}
use Rattle.pv_slope.specs.Flat.{Parts, term_in}
use Rattle.pv_slope.specs.Tests.{none_in, all_in, centered_none, centered_sure, counts_as_sure}
use Rattle.pv_slope.specs.Excluding.{none_holds}
use Rattle.pv_slope.proofs.Enclosing.{encloses}
use Rattle.pv_slope.proofs.Matched.{IsMatch}

-- ---- from the slopes to the constraint

pub none_of_match : (d : ℕ) (p : Parts) (s : Sides) (b : List Bounds) → IsMatch d p s → none_in p.relation (centered_of b (term_in p)) ≡ centered_none s b
none_of_match d p s b h =
    ap (λ r. none_in r (centered_of b (term_in p))) h.relation ∙ ap (λ t. none_in s.relation (centered_of b t)) h.term

pub sure_of_match : (d : ℕ) (p : Parts) (s : Sides) (b : List Bounds) → IsMatch d p s
    → (total_of b (term_in p) && all_in p.relation (centered_of b (term_in p))) ≡ centered_sure s b
sure_of_match d p s b h =
    ap (λ r. total_of b (term_in p) && all_in r (centered_of b (term_in p))) h.relation
    ∙ ap (λ t. total_of b t && all_in s.relation (centered_of b t)) h.term

-- ---- a constraint that is sure on a box is not centered-none there

record HasPoint (b : List Bounds) : Type 0 where
  pub places : List ℤ
  pub lie : LieIn places unit b

some_point : (b : List Bounds) → All IsInterval b → HasPoint b
some_point [] i = record { places = []; lie = tt }
some_point (x ∷ b) i =
    let m = member x (All-head IsInterval x b i) in
    let p = some_point b (All-tail IsInterval x b i) in
    record { places = m.number ∷ p.places; lie = (m.lies, p.lie) }

pub truth : (t : Bool) → (t ≡ true → ⊥) → t ≡ false
truth true h = absurd (h refl)
truth false h = refl

pub sure_not_none : (s : Sides) (b : List Bounds) → AreOver (length b) s → IsBox b → sure_of s b ≡ true → centered_none s b ≡ false
sure_not_none s b o i e =
    let p = some_point b i.intervals in
    let x : Point = record { places = p.places; under = unit } in
    truth (centered_none s b) (λ t. none_holds encloses s b x o i p.lie t (sure-holds s b x o.0 o.1 p.lie e))

pub unsure_other : (s : Sides) (b : List Bounds) (t : Bool) → sure_of s b ≡ t → t ≡ false → counts_as_sure s b ≡ centered_sure s b
unsure_other s b t e h = ap (λ u. u || centered_sure s b) (e ∙ h)

-- ---- one more test

there : (f : Sides → Bool) (ss : List Sides) (i : ℕ) → i < length ss → slice_get (map f ss) i ≡ Some (f (side_at ss i))
there f [] i h = absurd (omega arith)
there f (s ∷ ss) zero h = refl
there f (s ∷ ss) (suc i) h = let less : i < length ss = omega arith in there f ss i less

pub test_more : (f : Sides → Bool) (ss : List Sides) (i : ℕ) (ts : List Bool) (t : Bool) → i < length ss → ts ≡ take i (map f ss) → t ≡ f (side_at ss i)
    → ts ++ t ∷ [] ≡ take (i + 1) (map f ss)
test_more f ss i ts t h e g =
    ap (λ us. us ++ t ∷ []) e ∙ ap (λ u. take i (map f ss) ++ u ∷ []) g ∙ sym (take_more (map f ss) i (f (side_at ss i)) (there f ss i h))
