-- The constraints of a code, step by step.
use Rattle.std.proofs.Common.{◌≡◌, ℕ, zero, suc, List, [], ◌∷◌, ◌++◌, ◌+◌, ◌-◌, ◌<◌, ◌≤◌, map, take, drop, get_or, slice_range, refl, ap, sym, subst, ◌∙◌, length, arith}
use Rattle.std.specs.List.{AllByRecursion}
use Rattle.std.proofs.lemmas.List.Folds.{drop_split}
use Rattle.std.proofs.lemmas.List.{length-append, length-drop, length-map, map-append, append_assoc, append-nil, drop_all, drop_more, get_or-drop, take_more}
use Rattle.pv_expr.specs.declared.constraint.Relation.{Relation}
use Rattle.pv_expr.specs.declared.constraint.Constraint.{Constraint}
use Rattle.pv_expr.specs.Terms.{Term}
use Rattle.pv_code.specs.declared.code.Op.{Op}
use Rattle.pv_code.specs.declared.code.Op.TheVariants.{Define, Relate}
use Rattle.pv_code.specs.declared.expand.Function.{Function}
use Rattle.pv_code.specs.Expansion.{Meaning, meaning_of, meanings, meanings_behind, body_meaning, code_of, filtered, callee, IsValue, Stand, KeepsBody, Sides, sides_of, part_sides, constraints_behind, constraints_of}
use Rattle.pv_code.specs.Sizes.{AreMeasured, IsMeasured}
use Rattle.pv_code.proofs.Building.{count-of}
use Rattle.pv_code.proofs.Sizing.{measured-more}

behind-append : (cs : List (List Op)) (ms : List Meaning) (c : List Op) →
    meanings_behind ms (cs ++ c ∷ []) ≡ meanings_behind ms cs ++ body_meaning (meanings_behind ms cs) c ∷ []
behind-append [] ms c = refl
behind-append (d ∷ cs) ms c = behind-append cs (ms ++ body_meaning ms d ∷ []) c

-- the functions with one more
with-one : (fs : List Function) (f : Function) →
    meanings (map code_of (fs ++ f ∷ [])) ≡ meanings (map code_of fs) ++ body_meaning (meanings (map code_of fs)) (code_of f) ∷ []
with-one fs f = ap meanings (map-append code_of fs (f ∷ [])) ∙ behind-append (map code_of fs) [] (code_of f)

-- where the meanings of one function more agree over the arguments that it uses, those of all still do
stand-at : (fs : List Function) (f : Function) (ms ns : List Meaning) (m n : Meaning) → length ms ≡ length fs → length ns ≡ length fs →
    ((k : ℕ) (args : List Term) → meaning_of ms k args ≡ meaning_of ns k (filtered (callee fs k) args)) → ((args : List Term) → m args ≡ n (filtered f.uses.items args)) →
    (k : ℕ) (args : List Term) → meaning_of (ms ++ m ∷ []) k args ≡ meaning_of (ns ++ n ∷ []) k (filtered (callee (fs ++ f ∷ []) k) args)
stand-at [] f [] [] m n a b stand last zero args = last args
stand-at [] f [] [] m n a b stand last (suc k) args = refl
stand-at (g ∷ fs) f (x ∷ ms) (y ∷ ns) m n a b stand last zero args = stand 0 args
stand-at (g ∷ fs) f (x ∷ ms) (y ∷ ns) m n a b stand last (suc k) args = stand-at fs f ms ns m n (omega (arith, a)) (omega (arith, b)) (λ j. stand (suc j)) last k args
stand-at fs f ms ns m n a b stand last k args = absurd (omega (arith, a, b))

stand-more : (fs : List Function) (f : Function) (ms : List Meaning) (body : List Op) → Stand fs ms → length ms ≡ length fs → KeepsBody fs body f → Stand (fs ++ f ∷ []) (ms ++ body_meaning ms body ∷ [])
stand-more fs f ms body stand many keeps = λ k args.
    subst (λ (z : List Meaning). meaning_of (ms ++ body_meaning ms body ∷ []) k args ≡ meaning_of z k (filtered (callee (fs ++ f ∷ []) k) args)) (sym (with-one fs f))
    (stand-at fs f ms (meanings (map code_of fs)) (body_meaning ms body) (body_meaning (meanings (map code_of fs)) (code_of f)) many (count-of fs) stand (λ a. sym (keeps ms a stand)) k args)

-- ---- The steps up to a place, from the end of the function or the constraint before it on

pub record IsPart (code : List Op) (from i : ℕ) : Type 0 where
  pub within : from ≤ i
  pub values : AllByRecursion IsValue (slice_range code from i)

pub part-none : (code : List Op) (i : ℕ) → IsPart code i i
part-none code i =
    let none : i - i ≡ 0 = omega arith in
    record { within = omega arith; values = subst (λ (k : ℕ). AllByRecursion IsValue (take k (drop i code))) (sym none) tt }

values-and : (part : List Op) (o : Op) → AllByRecursion IsValue part → IsValue o → AllByRecursion IsValue (part ++ o ∷ [])
values-and [] o v w = (w, tt)
values-and (p ∷ part) o v w = (v.0, values-and part o v.1 w)

pub part-more : (code : List Op) (from i : ℕ) (d : Op) → i < length code → IsValue (get_or code i d) → IsPart code from i → IsPart code from (i + 1)
part-more code from i d h v p =
    let w : from ≤ i = p.within in
    let next : (i + 1) - from ≡ i - from + 1 = omega arith in
    let at : from + (i - from) ≡ i = omega arith in
    let more : slice_range code from (i + 1) ≡ slice_range code from i ++ get_or code i d ∷ [] =
    ap (λ k. take k (drop from code)) next ∙ take_more (drop from code) (i - from) d (omega (arith, length-drop from code))
    ∙ ap (λ (o : Op). slice_range code from i ++ o ∷ []) (get_or-drop from code (i - from) d ∙ ap (λ k. get_or code k d) at) in
    record { within = omega (arith, w); values = subst (AllByRecursion IsValue) (sym more) (values-and (slice_range code from i) (get_or code i d) p.values v) }

-- the part, and the step behind it
part-end : (code : List Op) (from i : ℕ) (d o : Op) → i < length code → get_or code i d ≡ o → IsPart code from i → drop from code ≡ slice_range code from i ++ o ∷ drop (i + 1) code
part-end code from i d o h is p = drop_split code from i p.within ∙ ap (λ z. slice_range code from i ++ z) (drop_more code i d h ∙ ap (λ (z : Op). z ∷ drop (i + 1) code) is)

behind-part : (ms : List Meaning) (done part rest : List Op) → AllByRecursion IsValue part → constraints_behind ms done (part ++ rest) ≡ constraints_behind ms (done ++ part) rest
behind-part ms done [] rest v = ap (λ z. constraints_behind ms z rest) (sym (append-nil done))
behind-part ms done (Define ∷ part) rest v = absurd v.0
behind-part ms done (Relate r ∷ part) rest v = absurd v.0
behind-part ms done (o ∷ part) rest v = behind-part ms (done ++ o ∷ []) part rest v.1 ∙ ap (λ z. constraints_behind ms z rest) (append_assoc done (o ∷ []) part)

-- ---- The constraints so far, and what the rest of the code writes

pub record Made (fs : List Function) (code : List Op) (from : ℕ) (cs : List Constraint) : Type 0 where
  pub ms : List Meaning
  pub stand : Stand fs ms
  pub many : length ms ≡ length fs
  pub measured : AreMeasured fs ms
  pub whole : map sides_of cs ++ constraints_behind ms [] (drop from code) ≡ constraints_of code

pub made-nothing : (fs : List Function) (cs : List Constraint) (code : List Op) → fs ≡ [] → cs ≡ [] → Made fs code 0 cs
made-nothing [] [] code e d = record { ms = []; stand = λ k args. refl; many = refl; measured = tt; whole = refl }
made-nothing (f ∷ fs) cs code e d = absurd (omega (arith, ap length e))
made-nothing [] (c ∷ cs) code e d = absurd (omega (arith, ap length d))

-- at the end of a part
pub made-at : (fs : List Function) (code : List Op) (from i : ℕ) (cs : List Constraint) (d o : Op) → i < length code → get_or code i d ≡ o → IsPart code from i → (made : Made fs code from cs) →
    map sides_of cs ++ constraints_behind made.ms (slice_range code from i) (o ∷ drop (i + 1) code) ≡ constraints_of code
made-at fs code from i cs d o h is p made =
    ap (λ z. map sides_of cs ++ z) (sym (ap (constraints_behind made.ms []) (part-end code from i d o h is p) ∙ behind-part made.ms [] (slice_range code from i) (o ∷ drop (i + 1) code) p.values)) ∙ made.whole

pub made-function : (fs fs' : List Function) (f : Function) (code : List Op) (from i : ℕ) (cs : List Constraint) (d : Op) → i < length code → get_or code i d ≡ Define → IsPart code from i → Made fs code from cs →
    KeepsBody fs (slice_range code from i) f → ((ms : List Meaning) → AreMeasured fs ms → IsMeasured f.measure (body_meaning ms (slice_range code from i))) →
    fs' ≡ fs ++ f ∷ [] → Made fs' code (i + 1) cs
made-function fs fs' f code from i cs d h is p made keeps sizes e = subst (λ (z : List Function). Made z code (i + 1) cs) (sym e) (record {
  ms = made.ms ++ body_meaning made.ms (slice_range code from i) ∷ [];
  stand = stand-more fs f made.ms (slice_range code from i) made.stand made.many keeps;
  many = length-append made.ms (body_meaning made.ms (slice_range code from i) ∷ []) ∙ ap (λ k. k + 1) made.many ∙ sym (length-append fs (f ∷ []));
  measured = measured-more fs f made.ms (body_meaning made.ms (slice_range code from i)) made.measured (sizes made.ms made.measured);
  whole = made-at fs code from i cs d Define h is p made;
})

pub made-constraint : (fs : List Function) (code : List Op) (from i : ℕ) (cs cs' : List Constraint) (c : Constraint) (r : Relation) (d : Op) → i < length code → get_or code i d ≡ Relate r →
    IsPart code from i → Made fs code from cs → ((ms : List Meaning) → Stand fs ms → sides_of c ≡ part_sides ms (slice_range code from i) r) → cs' ≡ cs ++ c ∷ [] → Made fs code (i + 1) cs'
made-constraint fs code from i cs cs' c r d h is p made means e = subst (λ (z : List Constraint). Made fs code (i + 1) z) (sym e) (record {
  ms = made.ms;
  stand = made.stand;
  many = made.many;
  measured = made.measured;
  whole =
      ap (λ z. z ++ constraints_behind made.ms [] (drop (i + 1) code)) (map-append sides_of cs (c ∷ []))
      ∙ append_assoc (map sides_of cs) (sides_of c ∷ []) (constraints_behind made.ms [] (drop (i + 1) code))
      ∙ ap (λ (z : Sides). map sides_of cs ++ (z ∷ constraints_behind made.ms [] (drop (i + 1) code))) (means made.ms made.stand)
      ∙ made-at fs code from i cs d (Relate r) h is p made;
})

pub made-all : (fs : List Function) (code : List Op) (from i : ℕ) (cs : List Constraint) → length code ≤ i → IsPart code from i → Made fs code from cs → map sides_of cs ≡ constraints_of code
made-all fs code from i cs h p made =
    let part = slice_range code from i in
    sym (append-nil (map sides_of cs))
    ∙ ap (λ z. map sides_of cs ++ z) (sym (ap (constraints_behind made.ms []) (drop_split code from i p.within ∙ ap (λ z. part ++ z) (drop_all i code h)) ∙ behind-part made.ms [] part [] p.values))
    ∙ made.whole

-- a relation that is still to come
pub more-constraints : (fs : List Function) (code : List Op) (from i : ℕ) (cs : List Constraint) (r : Relation) (d : Op) → i < length code → get_or code i d ≡ Relate r → IsPart code from i →
    Made fs code from cs → length cs < length (constraints_of code)
more-constraints fs code from i cs r d h is p made =
    let all = ap length (made-at fs code from i cs d (Relate r) h is p made) in
    let sum = length-append (map sides_of cs) (constraints_behind made.ms (slice_range code from i) (Relate r ∷ drop (i + 1) code)) in
    let kept : length (map sides_of cs) ≡ length cs = length-map cs sides_of in
    omega (arith, all, sum, kept)

pub value-of : (o : Op) → (o ≡ Define → ⊥) → ((r : Relation) → o ≡ Relate r → ⊥) → IsValue o
value-of Define a b = absurd (a refl)
value-of (Relate r) a b = absurd (b r refl)
value-of o a b = tt
