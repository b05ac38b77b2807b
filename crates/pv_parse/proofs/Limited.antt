-- A code is expanded part by part, and its constraints are within the limits, one by one.
use Rattle.std.proofs.lemmas.Option.{slice_get-get_or}
use Rattle.std.proofs.Common.{◌≡◌, ℕ, List, [], ◌∷◌, ◌++◌, ◌+◌, ◌<◌, ◌≤◌, map, take, drop, get_or, slice_range, refl, ap, sym, subst, ◌∙◌, length, arith}
use Rattle.std.specs.Prelude.{Some, None, Option, sum_by}
use Rattle.std.proofs.lemmas.List.{append_assoc, get_or_push, length-append, map-append, take_at}
use Rattle.std.proofs.lemmas.List.Elements.{All-push}
use Rattle.std.proofs.lemmas.List.Sums.{sum_by_push}
use Rattle.pv_expr.specs.declared.constraint.Constraint.{Constraint}
use Rattle.pv_expr.specs.declared.constraint.Relation.{Relation}
use Rattle.pv_code.specs.declared.code.Op.{Op}
use Rattle.pv_code.specs.declared.code.Op.TheVariants.{Define, Relate}
use Rattle.pv_code.specs.declared.expand.Function.{Function}
use Rattle.pv_code.specs.Expansion.{IsValue, KeepsBody, Meaning, Sides, Stand, body_meaning, constraints_behind, constraints_of, part_sides, sides_of}
use Rattle.pv_code.specs.Sizes.{AreMeasured, IsMeasured, AreWithin, IsFirstLarge, IsRoom, IsShallow, nodes_of}
use Rattle.pv_code.proofs.Building.{length-map}
use Rattle.pv_code.proofs.Constraints.{IsPart, Made, made-at, made-constraint, made-function, part-more, part-none}
use Rattle.pv_grammar.specs.declared.cause.Cause.TheVariants.{TooLarge}
use Rattle.pv_parse.specs.declared.refused.ParseRefused.{ParseRefused}
use Rattle.pv_parse.specs.declared.refused.ParseRefused.TheVariants.{Memory, Fault}
use Rattle.pv_parse.specs.ByItems.{IsAt, IsAtStart, IsLargeAt}

-- ---- Sums and limits of lists

-- the constraints so far are within the limits, and have so many nodes
pub record IsRoomed (sides : List Sides) (nodes : ℕ) : Type 0 where
  pub total : nodes ≡ sum_by nodes_of sides
  pub within : AreWithin sides

pub roomed-none : (cs : List Constraint) → cs ≡ [] → IsRoomed (map sides_of cs) 0
roomed-none [] e = record { total = refl; within = record { few_nodes = omega arith; shallow = λ k d h. absurd (omega (arith, h)) } }
roomed-none (c ∷ cs) e = absurd (omega (arith, ap length e))

roomed-more : (before : List Sides) (s : Sides) (nodes with_it : ℕ) → IsRoomed before nodes → IsRoom nodes s (Some with_it) → IsRoomed (before ++ s ∷ []) with_it
roomed-more before s nodes with_it room more =
    let all : with_it ≡ sum_by nodes_of (before ++ s ∷ []) = more.1 ∙ ap (λ k. k + nodes_of s) room.total ∙ sym (sum_by_push nodes_of before s) in
    record { total = all; within = record { few_nodes = subst (λ k. k ≤ 65536) all more.2; shallow = All-push IsShallow before s room.within.shallow more.0 } }

first-large : (before : List Sides) (s : Sides) (rest : List Sides) (nodes : ℕ) → IsRoomed before nodes → IsRoom nodes s None → IsFirstLarge (before ++ s ∷ rest) (length before)
first-large before s rest nodes room none = record {
  present = omega (arith, length-append before (s ∷ rest));
  before = subst (λ (z : List Sides). AreWithin z) (sym (take_at before (s ∷ rest) (length before) refl)) room.within;
  with_it = λ more.
      let next = ap (take (length before + 1)) (sym (append_assoc before (s ∷ []) rest)) ∙ take_at (before ++ s ∷ []) rest (length before + 1) (length-append before (s ∷ [])) in
      let whole = subst (λ (z : List Sides). AreWithin z) next more in
      none (
        subst (λ (z : Sides). IsShallow z) (get_or_push before s s (length before) refl) (whole.shallow (length before) s (omega (arith, length-append before (s ∷ [])))),
        omega (arith, whole.few_nodes, sum_by_push nodes_of before s, room.total),
      );
}

-- ---- What is expanded so far

pub record IsExpanded (fs : List Function) (code : List Op) (from i : ℕ) (cs : List Constraint) (nodes : ℕ) : Type 0 where
  pub part : IsPart code from i
  pub made : Made fs code from cs
  pub room : IsRoomed (map sides_of cs) nodes

pub expanded-same : {fs fs' : List Function} {code : List Op} {from from' i : ℕ} {cs cs' : List Constraint} {nodes nodes' : ℕ} → fs' ≡ fs → from' ≡ from → cs' ≡ cs → nodes' ≡ nodes →
    IsExpanded fs code from i cs nodes → IsExpanded fs' code from' i cs' nodes'
expanded-same a b c d so = rw (a, b, c, d) so

pub value-next : {fs : List Function} {code : List Op} {from i : ℕ} {cs : List Constraint} {nodes : ℕ} (d : Op) → i < length code → IsValue (get_or code i d) → IsExpanded fs code from i cs nodes →
    IsExpanded fs code from (i + 1) cs nodes
value-next {code = code} {from = from} {i = i} d h v so = record { part = part-more code from i d h v so.part; made = so.made; room = so.room }

pub function-next : (seen fs fs' : List Function) (f : Function) (code : List Op) (from i : ℕ) (cs : List Constraint) (nodes : ℕ) (d : Op) → i < length code → get_or code i d ≡ Define →
    IsExpanded fs code from i cs nodes → seen ≡ fs → KeepsBody seen (slice_range code from i) f →
    ((ms : List Meaning) → AreMeasured seen ms → IsMeasured f.measure (body_meaning ms (slice_range code from i))) → fs' ≡ fs ++ f ∷ [] → IsExpanded fs' code (i + 1) (i + 1) cs nodes
function-next seen fs fs' f code from i cs nodes d h is so same keeps sizes e =
    let part = slice_range code from i in
    record {
      part = part-none code (i + 1);
      made = made-function fs fs' f code from i cs d h is so.part so.made (subst (λ (z : List Function). KeepsBody z part f) same keeps)
          (subst (λ (z : List Function). (ms : List Meaning) → AreMeasured z ms → IsMeasured f.measure (body_meaning ms part)) same sizes) e;
      room = so.room;
    }

-- how many nodes there are with the sides of a part, over functions with these meanings
abbrev pub FindsRoom : List Function → List Op → ℕ → Option ℕ → Type 0
FindsRoom fs part nodes o = (ms : List Meaning) → AreMeasured fs ms → (r : Relation) → IsRoom nodes (part_sides ms part r) o

abbrev pub HasSides : List Function → List Op → Relation → Constraint → Type 0
HasSides fs part r c = (ms : List Meaning) → Stand fs ms → sides_of c ≡ part_sides ms part r

pub constraint-next : (seen seen' fs : List Function) (code : List Op) (from i : ℕ) (cs cs' : List Constraint) (c : Constraint) (nodes with_it : ℕ) (o : Option ℕ) (r : Relation) (d : Op) → i < length code →
    get_or code i d ≡ Relate r → IsExpanded fs code from i cs nodes → seen ≡ fs → FindsRoom seen (slice_range code from i) nodes o → o ≡ Some with_it → seen' ≡ fs →
    HasSides seen' (slice_range code from i) r c → cs' ≡ cs ++ c ∷ [] → IsExpanded fs code (i + 1) (i + 1) cs' with_it
constraint-next seen seen' fs code from i cs cs' c nodes with_it o r d h is so same room some same' sides e =
    let part = slice_range code from i in
    let sides' = subst (λ (z : List Function). HasSides z part r c) same' sides in
    let room' = subst (λ (z : List Function). FindsRoom z part nodes o) same room so.made.ms so.made.measured r in
    record {
      part = part-none code (i + 1);
      made = made-constraint fs code from i cs cs' c r d h is so.part so.made sides' e;
      room = subst (λ (z : List Sides). IsRoomed z with_it) (ap (λ (z : Sides). map sides_of cs ++ z ∷ []) (sym (sides' so.made.ms so.made.stand)) ∙ sym (map-append sides_of cs (c ∷ [])) ∙ ap (map sides_of) (sym e))
          (roomed-more (map sides_of cs) (part_sides so.made.ms part r) nodes with_it so.room (subst (IsRoom nodes (part_sides so.made.ms part r)) some room'));
    }

-- the constraint that ends here is the first that is too large
pub first-too-large : (seen fs : List Function) (code : List Op) (from i : ℕ) (cs : List Constraint) (nodes : ℕ) (o : Option ℕ) (r : Relation) (d : Op) → i < length code → get_or code i d ≡ Relate r →
    IsExpanded fs code from i cs nodes → seen ≡ fs → FindsRoom seen (slice_range code from i) nodes o → o ≡ None → IsFirstLarge (constraints_of code) (length cs)
first-too-large seen fs code from i cs nodes o r d h is so same room none =
    let part = slice_range code from i in
    let room' = subst (λ (z : List Function). FindsRoom z part nodes o) same room so.made.ms so.made.measured r in
    subst (λ (k : ℕ). IsFirstLarge (constraints_of code) k) (length-map sides_of cs)
    (subst (λ (z : List Sides). IsFirstLarge z (length (map sides_of cs))) (made-at fs code from i cs d (Relate r) h is so.part so.made)
    (first-large (map sides_of cs) (part_sides so.made.ms part r) (constraints_behind so.made.ms [] (drop (i + 1) code)) nodes so.room (subst (IsRoom nodes (part_sides so.made.ms part r)) none room')))

pub large-at : (starts : List ℕ) (code : List Op) (i : ℕ) (e : ParseRefused) → IsAtStart starts i e → IsFirstLarge (constraints_of code) i → IsLargeAt starts code e
large-at starts code i Memory h f = tt
large-at starts code i (Fault byte line column cause) h f = (h.0, i, f, h.1)

pub fault_at_start : (starts : List ℕ) (i : ℕ) (e : ParseRefused) → i < length starts → IsAt (get_or starts i 0) TooLarge e → IsAtStart starts i e
fault_at_start starts i Memory h f = tt
fault_at_start starts i (Fault byte line column cause) h f = (f.1, slice_get-get_or starts i 0 h ∙ ap Some (sym f.0))
