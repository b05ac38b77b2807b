-- Outcomes that are right for a box, and the lines that are theirs.
use Rattle.std.proofs.Common.{◌≡◌, ℕ, ◌<◌, List, [], ◌∷◌, length, Option, Some, None, refl, sym, ◌∙◌, ap, subst, arith}
use Rattle.std.specs.Prelude.{IfSome}
use Rattle.pv_num.specs.Extended.{Extended}
use Rattle.pv_num.specs.Parts.{IsNumber}
use Rattle.pv_interval.specs.Bounds.{Bounds}
use Rattle.pv_box.specs.Boxes.{IsBox}
use Rattle.pv_tree.specs.Trees.{IsStrictlyInside}
use Rattle.pv_tree.specs.declared.outcome.Outcome.{Outcome}
use Rattle.pv_tree.specs.declared.outcome.Outcome.TheVariants.{Removed, Inner, Small, Cut}
use Rattle.pv_file.specs.declared.version.Version.{Version}
use Rattle.pv_file.specs.Lines.{kept_text, line_with}
use Rattle.pv_file.specs.Readings.{IsRightFor}
use Rattle.pv_file.specs.Words.{IsKeptOf}
use Rattle.pv_file.proofs.Bytes.{heads_same, tails_same}
use Rattle.pv_file.proofs.Places.{kept_within, kept_numbers, kept_from, strictly_there}

pub right_inner : (b to : List Bounds) → IsKeptOf b to → IsBox to → IsRightFor b (Inner to)
right_inner b to k box = record { fits = kept_within b to k; keeps = box; numbers = kept_numbers b to k }

pub right_small : (b to : List Bounds) → IsKeptOf b to → IsBox to → IsRightFor b (Small to)
right_small b to k box = record { fits = kept_within b to k; keeps = box; numbers = kept_numbers b to k }

pub right_cut : (b to : List Bounds) (var : ℕ) (at : Extended) → IsKeptOf b to → IsBox to → IsStrictlyInside at var to → IsNumber at → IsRightFor b (Cut to var at)
right_cut b to var at k box inside number = record { fits = (kept_within b to k, inside); keeps = box; numbers = (kept_numbers b to k, number) }

pub kept_inner : (b to : List Bounds) → IsRightFor b (Inner to) → IsKeptOf b to
kept_inner b to h = kept_from b to h.fits h.keeps.intervals h.numbers

pub kept_small : (b to : List Bounds) → IsRightFor b (Small to) → IsKeptOf b to
kept_small b to h = kept_from b to h.fits h.keeps.intervals h.numbers

pub kept_cut : (b to : List Bounds) (var : ℕ) (at : Extended) → IsRightFor b (Cut to var at) → IsKeptOf b to
kept_cut b to var at h = kept_from b to h.fits.0 h.keeps.intervals h.numbers.0

pub few_places : (b to : List Bounds) (var : ℕ) (at : Extended) → IsRightFor b (Cut to var at) → var < 12
few_places b to var at h = let there : var < length to = strictly_there at var to h.fits.1 in omega (arith, there, h.keeps.few)

pub same_cut : (to to' : List Bounds) (var var' : ℕ) (at at' : Extended) → to ≡ to' → var ≡ var' → at ≡ at' → Some (Cut to var at) ≡ Some (Cut to' var' at')
same_cut to to' var var' at at' e f g =
    ap (λ (x : List Bounds). Some (Cut x var at)) e ∙ ap (λ (x : ℕ). Some (Cut to' x at)) f ∙ ap (λ (x : Extended). Some (Cut to' var' x)) g

pub inside_same : (to to' : List Bounds) (var var' : ℕ) (at at' : Extended) → to ≡ to' → var ≡ var' → at ≡ at' → IsStrictlyInside at' var' to' → IsStrictlyInside at var to
inside_same to to' var var' at at' e f g h =
    subst (λ (x : List Bounds). IsStrictlyInside at var x) (sym e)
    (subst (λ (x : ℕ). IsStrictlyInside at x to') (sym f) (subst (λ (x : Extended). IsStrictlyInside x var' to') (sym g) h))

-- ---- The letter of a line

other_letter : (a b : ℕ) (line xs ys : List ℕ) → a < b → line ≡ a ∷ xs → line ≡ b ∷ ys → ⊥
other_letter a b line xs ys l e f = let k : a ≡ b = heads_same a b xs ys (sym e ∙ f) in omega (arith, k, l)

pub line_inner : (v : Version) (b : List Bounds) (line rest : List ℕ) (o : Outcome) → line ≡ 73 ∷ rest → line ≡ line_with (kept_text v b) o
    → (to : List Bounds) × (o ≡ Inner to) × (rest ≡ kept_text v b to)
line_inner v b line rest Removed e f = absurd (other_letter 73 88 line rest [] (omega arith) e f)
line_inner v b line rest (Inner to) e f = (to, refl, tails_same 73 73 rest (kept_text v b to) (sym e ∙ f))
line_inner v b line rest (Small to) e f = absurd (other_letter 73 83 line rest (kept_text v b to) (omega arith) e f)
line_inner v b line rest (Cut to var at) e f = absurd (other_letter 67 73 line _ rest (omega arith) f e)

pub line_small : (v : Version) (b : List Bounds) (line rest : List ℕ) (o : Outcome) → line ≡ 83 ∷ rest → line ≡ line_with (kept_text v b) o
    → (to : List Bounds) × (o ≡ Small to) × (rest ≡ kept_text v b to)
line_small v b line rest Removed e f = absurd (other_letter 83 88 line rest [] (omega arith) e f)
line_small v b line rest (Inner to) e f = absurd (other_letter 73 83 line (kept_text v b to) rest (omega arith) f e)
line_small v b line rest (Small to) e f = (to, refl, tails_same 83 83 rest (kept_text v b to) (sym e ∙ f))
line_small v b line rest (Cut to var at) e f = absurd (other_letter 67 83 line _ rest (omega arith) f e)

pub line_cut : (v : Version) (b : List Bounds) (line rest : List ℕ) (o : Outcome) → line ≡ 67 ∷ rest → line ≡ line_with (kept_text v b) o
    → (to : List Bounds) × (var : ℕ) × (at : Extended) × (o ≡ Cut to var at)
line_cut v b line rest Removed e f = absurd (other_letter 67 88 line rest [] (omega arith) e f)
line_cut v b line rest (Inner to) e f = absurd (other_letter 67 73 line rest (kept_text v b to) (omega arith) e f)
line_cut v b line rest (Small to) e f = absurd (other_letter 67 83 line rest (kept_text v b to) (omega arith) e f)
line_cut v b line rest (Cut to var at) e f = (to, var, at, refl)

-- ---- A cut that was found

pub is_right_cut : (b to : List Bounds) (var : ℕ) (at : Extended) (r : Option Outcome) → IsKeptOf b to → IsBox to → IsNumber at
    → IfSome r (λ o. o ≡ Cut to var at) → IfSome r (λ _. IsStrictlyInside at var to) → IfSome r (λ o. IsRightFor b o)
is_right_cut b to var at None k box number cut inside = tt
is_right_cut b to var at (Some o) k box number cut inside =
    subst (λ (x : Outcome). IsRightFor b x) (sym cut) (right_cut b to var at k box inside number)

pub the_cut : (b to to' : List Bounds) (var var' : ℕ) (at at' : Extended) (r : Option Outcome) → to ≡ to' → var ≡ var' → at ≡ at' → IsRightFor b (Cut to' var' at')
    → IfSome r (λ o. o ≡ Cut to var at) → (r ≡ None → IsStrictlyInside at var to → ⊥) → r ≡ Some (Cut to' var' at')
the_cut b to to' var var' at at' None e f g right cut none = absurd (none refl (inside_same to to' var var' at at' e f g right.fits.1))
the_cut b to to' var var' at at' (Some o) e f g right cut none = ap Some cut ∙ same_cut to to' var var' at at' e f g
