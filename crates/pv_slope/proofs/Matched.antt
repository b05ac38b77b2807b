-- Slopes that match constraints are of those constraints.
use Rattle.std.proofs.Common.{◌≡◌, ℕ, zero, suc, ◌+◌, ◌<◌, List, [], ◌∷◌, ◌++◌, length, take, refl, ap, sym, ◌∙◌, subst, arith, get_or}
use Rattle.std.specs.Prelude.{ℤ, pos, negsuc, true, ◌&&◌, nat_eq, map, slice_get, Some}
use Rattle.std.proofs.lemmas.Bool.Decides.{nat_tests}
use Rattle.pv_expr.specs.declared.constraint.Relation.{Relation}
use Rattle.pv_expr.specs.declared.constraint.Relation.TheVariants.{Eq, Le, Ge, Lt, Gt}
use Rattle.pv_expr.specs.declared.operators.UnaryOp.{UnaryOp}
use Rattle.pv_expr.specs.declared.operators.UnaryOp.TheVariants.{Neg, Abs, Pow}
use Rattle.pv_expr.specs.declared.operators.BinaryOp.{BinaryOp}
use Rattle.pv_expr.specs.declared.operators.BinaryOp.TheVariants.{Add, Sub, Mul, Div, Min, Max}
use Rattle.pv_expr.specs.Terms.{Term, constant, place, one, two}
use Rattle.pv_hc4.specs.Revise.{Sides}
use Rattle.pv_ctc.specs.Contracting.{side_at}
use Rattle.pv_settle.proofs.Making.{take_more}
use Rattle.pv_slope.specs.Centered.{gap_of}
use Rattle.pv_slope.specs.Flat.{Parts, term_in}
use Rattle.pv_slope.specs.Matching.{same_whole, same_unary, same_binary, same_term, same_relation, matches, all_match}
use Rattle.pv_slope.proofs.Centring.{both_true}
use Rattle.std.proofs.lemmas.Bool.{and_from}

pub equal : (m n : ℕ) → nat_eq m n ≡ true → m ≡ n
equal m n e = grind (arith, nat_tests)

equal_self : (m : ℕ) → nat_eq m m ≡ true
equal_self m = grind (arith, nat_tests)

whole_is : (a b : ℤ) → same_whole a b ≡ true → a ≡ b
whole_is (pos m) (pos n) e = ap pos (equal m n e)
whole_is (pos m) (negsuc n) e = absurd (cc)
whole_is (negsuc m) (pos n) e = absurd (cc)
whole_is (negsuc m) (negsuc n) e = ap negsuc (equal m n e)

whole_self : (a : ℤ) → same_whole a a ≡ true
whole_self (pos m) = equal_self m
whole_self (negsuc m) = equal_self m

unary_is : (u v : UnaryOp) → same_unary u v ≡ true → u ≡ v
unary_is Neg Neg e = refl
unary_is Abs Abs e = refl
unary_is (Pow m) (Pow n) e = ap Pow (equal m n e)
unary_is u v e = absurd (cc)

unary_self : (u : UnaryOp) → same_unary u u ≡ true
unary_self Neg = refl
unary_self Abs = refl
unary_self (Pow m) = equal_self m

binary_is : (o p : BinaryOp) → same_binary o p ≡ true → o ≡ p
binary_is Add Add e = refl
binary_is Sub Sub e = refl
binary_is Mul Mul e = refl
binary_is Div Div e = refl
binary_is Min Min e = refl
binary_is Max Max e = refl
binary_is o p e = absurd (cc)

binary_self : (o : BinaryOp) → same_binary o o ≡ true
binary_self Add = refl
binary_self Sub = refl
binary_self Mul = refl
binary_self Div = refl
binary_self Min = refl
binary_self Max = refl

term_is : (t s : Term) → same_term t s ≡ true → t ≡ s
term_is (constant p q) (constant r s) e =
    let h = both_true (same_whole p r) (nat_eq q s) e in ap (λ x. constant x q) (whole_is p r h.0) ∙ ap (constant r) (equal q s h.1)
term_is (place i) (place j) e = ap place (equal i j e)
term_is (one u t) (one v s) e =
    let h = both_true (same_unary u v) (same_term t s) e in ap (λ x. one x t) (unary_is u v h.0) ∙ ap (one v) (term_is t s h.1)
term_is (two o t u) (two p s v) e =
    let h = both_true (same_binary o p) (same_term t s && same_term u v) e in
    let g = both_true (same_term t s) (same_term u v) h.1 in
    ap (λ x. two x t u) (binary_is o p h.0) ∙ ap (λ x. two p x u) (term_is t s g.0) ∙ ap (two p s) (term_is u v g.1)
term_is t s e = absurd (cc)

term_self : (t : Term) → same_term t t ≡ true
term_self (constant p q) = and_from (same_whole p p) (nat_eq q q) (whole_self p) (equal_self q)
term_self (place i) = equal_self i
term_self (one u t) = and_from (same_unary u u) (same_term t t) (unary_self u) (term_self t)
term_self (two o t u) = and_from (same_binary o o) (same_term t t && same_term u u) (binary_self o) (and_from (same_term t t) (same_term u u) (term_self t) (term_self u))

relation_is : (r s : Relation) → same_relation r s ≡ true → r ≡ s
relation_is Eq Eq e = refl
relation_is Le Le e = refl
relation_is Ge Ge e = refl
relation_is Lt Lt e = refl
relation_is Gt Gt e = refl
relation_is r s e = absurd (cc)

relation_self : (r : Relation) → same_relation r r ≡ true
relation_self Eq = refl
relation_self Le = refl
relation_self Ge = refl
relation_self Lt = refl
relation_self Gt = refl

-- the slopes are of this constraint's left - right, over so many variables
pub record IsMatch (d : ℕ) (p : Parts) (s : Sides) : Type 0 where
  pub term : term_in p ≡ gap_of s
  pub relation : p.relation ≡ s.relation
  pub dims : p.dims ≡ d

match_is : (d : ℕ) (p : Parts) (s : Sides) → matches d p s ≡ true → IsMatch d p s
match_is d p s e =
    let h = both_true (same_term (term_in p) (gap_of s)) (same_relation p.relation s.relation && nat_eq p.dims d) e in
    let g = both_true (same_relation p.relation s.relation) (nat_eq p.dims d) h.1 in
    record { term = term_is (term_in p) (gap_of s) h.0; relation = relation_is p.relation s.relation g.0; dims = equal p.dims d g.1 }

is_match : (d : ℕ) (p : Parts) (s : Sides) → IsMatch d p s → matches d p s ≡ true
is_match d p s h =
    and_from (same_term (term_in p) (gap_of s)) (same_relation p.relation s.relation && nat_eq p.dims d)
    (ap (λ t. same_term t (gap_of s)) h.term ∙ term_self (gap_of s))
    (and_from (same_relation p.relation s.relation) (nat_eq p.dims d)
    (ap (λ r. same_relation r s.relation) h.relation ∙ relation_self s.relation) (ap (λ m. nat_eq m d) h.dims ∙ equal_self d))

pub match_length : (d : ℕ) (ps : List Parts) (ss : List Sides) → all_match d ps ss ≡ true → length ps ≡ length ss
match_length d [] [] e = refl
match_length d [] (s ∷ ss) e = absurd (cc)
match_length d (p ∷ ps) [] e = absurd (cc)
match_length d (p ∷ ps) (s ∷ ss) e = ap suc (match_length d ps ss (both_true (matches d p s) (all_match d ps ss) e).1)

-- what was read at number k of the slopes
pub match_read : (d : ℕ) (ps : List Parts) (ss : List Sides) (k : ℕ) (p : Parts) → all_match d ps ss ≡ true → k < length ss → p ≡ get_or ps k p → IsMatch d p (side_at ss k)
match_read d [] [] k p e l r = absurd (omega arith)
match_read d [] (s ∷ ss) k p e l r = absurd (cc)
match_read d (q ∷ ps) [] k p e l r = absurd (cc)
match_read d (q ∷ ps) (s ∷ ss) zero p e l r =
    subst (λ z. IsMatch d z s) (sym r) (match_is d q s (both_true (matches d q s) (all_match d ps ss) e).0)
match_read d (q ∷ ps) (s ∷ ss) (suc k) p e l r =
    let less : k < length ss = omega arith in match_read d ps ss k p (both_true (matches d q s) (all_match d ps ss) e).1 less r

match_behind : (d : ℕ) (ps : List Parts) (ss : List Sides) (p : Parts) (s : Sides) → all_match d ps ss ≡ true → matches d p s ≡ true → all_match d (ps ++ p ∷ []) (ss ++ s ∷ []) ≡ true
match_behind d [] [] p s e h = and_from (matches d p s) true h refl
match_behind d [] (r ∷ ss) p s e h = absurd (cc)
match_behind d (q ∷ ps) [] p s e h = absurd (cc)
match_behind d (q ∷ ps) (r ∷ ss) p s e h =
    let g = both_true (matches d q r) (all_match d ps ss) e in
    and_from (matches d q r) (all_match d (ps ++ p ∷ []) (ss ++ s ∷ [])) g.0 (match_behind d ps ss p s g.1 h)

mapped : {A B : Type 0} (f : A → B) (xs : List A) (i : ℕ) (x : A) → slice_get xs i ≡ Some x → slice_get (map f xs) i ≡ Some (f x)
mapped f [] i x e = absurd (cc)
mapped f (y ∷ xs) zero x e = let same : y ≡ x = cc in ap (λ z. Some (f z)) same
mapped f (y ∷ xs) (suc i) x e = mapped f xs i x e

-- one more of the slopes
pub match_more : {A : Type 0} (f : A → Sides) (xs : List A) (d : ℕ) (ps : List Parts) (i : ℕ) (x : A) (p : Parts) → slice_get xs i ≡ Some x
    → all_match d ps (take i (map f xs)) ≡ true → term_in p ≡ gap_of (f x) → p.relation ≡ (f x).relation → p.dims ≡ d
    → all_match d (ps ++ p ∷ []) (take (i + 1) (map f xs)) ≡ true
match_more f xs d ps i x p e h t r m =
    ap (all_match d (ps ++ p ∷ [])) (take_more (map f xs) i (f x) (mapped f xs i x e))
    ∙ match_behind d ps (take i (map f xs)) p (f x) h (is_match d p (f x) (record { term = t; relation = r; dims = m }))
