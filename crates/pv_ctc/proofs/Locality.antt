-- A revision looks at the places of its constraint's variables alone.
use Rattle.std.proofs.Common.{◌≡◌, ℕ, suc, ◌+◌, List, [], ◌∷◌, ◌++◌, length, refl, ap, sym, ◌∙◌, subst, arith, eq-eqb, eqb-true}
use Rattle.std.specs.Prelude.{Option, Some, None, Bool, true, false, ◌||◌, cond, nat_eq}
use Rattle.std.proofs.lemmas.Bool.{true≢false}
use Rattle.pv_interval.specs.Bounds.{Bounds}
use Rattle.pv_interval.specs.Tables.{meet_of}
use Rattle.pv_expr.specs.Terms.{Term, constant, place, one, two}
use Rattle.pv_hc4.specs.Chain.{chain, at}
use Rattle.pv_hc4.specs.Forward.{forward_of, unary_of, binary_of}
use Rattle.pv_hc4.specs.Revise.{Target, back_1, back_2, joined, targets_of, place_of, places_from, Sides, related_of, both_targets, revised}
use Rattle.pv_hc4.proofs.Revising.{came}
use Rattle.pv_ctc.specs.Uses.{has_place, has_variable}
use Rattle.std.proofs.lemmas.Option.{same_Some}
use Rattle.pv_hc4.proofs.Places.{chain_cong}

chain_same : {A B : Type 0} (o p : Option A) (f g : A → Option B) → o ≡ p → ((x : A) → f x ≡ g x) → chain o f ≡ chain p g
chain_same o p f g e h = ap (λ q. chain q f) e ∙ chain_cong p f g h

pub or_first : (s t : Bool) → s ≡ true → (s || t) ≡ true
or_first s t h = ap (λ u. u || t) h

pub or_second : (s t : Bool) → t ≡ true → (s || t) ≡ true
or_second true t h = refl
or_second false t h = h

pub forward_same : (t : Term) (b d : List Bounds) → ((i : ℕ) → has_place i t ≡ true → at b i ≡ at d i) → forward_of b t ≡ forward_of d t
forward_same (constant p q) b d h = refl
forward_same (place j) b d h = ap Some (h j (eq-eqb j j refl))
forward_same (one u t) b d h = ap (λ o. chain o (λ x. Some (unary_of u x))) (forward_same t b d h)
forward_same (two o t u) b d h =
    chain_same (forward_of b t) (forward_of d t) (λ x. chain (forward_of b u) (λ y. binary_of o x y)) (λ x. chain (forward_of d u) (λ y. binary_of o x y))
    (forward_same t b d (λ i k. h i (or_first (has_place i t) (has_place i u) k)))
    (λ x. ap (λ p. chain p (λ y. binary_of o x y)) (forward_same u b d (λ i k. h i (or_second (has_place i t) (has_place i u) k))))

joined_same : (o o' p p' : Option (List Target)) → o ≡ o' → p ≡ p' → joined o p ≡ joined o' p'
joined_same o o' p p' e f = ap (λ q. joined q p) e ∙ ap (joined o') f

targets_same : (t : Term) (b d : List Bounds) (z : Bounds) → ((i : ℕ) → has_place i t ≡ true → at b i ≡ at d i) → targets_of b t z ≡ targets_of d t z
targets_same (constant p q) b d z h = refl
targets_same (place j) b d z h = refl
targets_same (one u t) b d z h =
    chain_same (forward_of b t) (forward_of d t) (λ x. chain (back_1 u z x) (λ y. targets_of b t y)) (λ x. chain (back_1 u z x) (λ y. targets_of d t y))
    (forward_same t b d h) (λ x. chain_cong (back_1 u z x) (λ y. targets_of b t y) (λ y. targets_of d t y) (λ y. targets_same t b d y h))
targets_same (two o t u) b d z h =
    let l = λ (i : ℕ) (k : has_place i t ≡ true). h i (or_first (has_place i t) (has_place i u) k) in
    let r = λ (i : ℕ) (k : has_place i u ≡ true). h i (or_second (has_place i t) (has_place i u) k) in
    chain_same (forward_of b t) (forward_of d t)
    (λ x. chain (forward_of b u) (λ y. chain (back_2 o z x y) (λ p. joined (targets_of b t p.0) (targets_of b u p.1))))
    (λ x. chain (forward_of d u) (λ y. chain (back_2 o z x y) (λ p. joined (targets_of d t p.0) (targets_of d u p.1))))
    (forward_same t b d l)
    (λ x. chain_same (forward_of b u) (forward_of d u)
    (λ y. chain (back_2 o z x y) (λ p. joined (targets_of b t p.0) (targets_of b u p.1)))
    (λ y. chain (back_2 o z x y) (λ p. joined (targets_of d t p.0) (targets_of d u p.1)))
    (forward_same u b d r)
    (λ y. chain_cong (back_2 o z x y) (λ p. joined (targets_of b t p.0) (targets_of b u p.1)) (λ p. joined (targets_of d t p.0) (targets_of d u p.1))
    (λ p. joined_same (targets_of b t p.0) (targets_of d t p.0) (targets_of b u p.1) (targets_of d u p.1) (targets_same t b d p.0 l) (targets_same u b d p.1 r))))

-- the variables of all targets have a mark
abbrev AreMarked : (ℕ → Bool) → List Target → Type 0
AreMarked f [] = Unit {0}
AreMarked f (s ∷ ts) = (f s.var ≡ true) × AreMarked f ts

abbrev MarkedSome : (ℕ → Bool) → Option (List Target) → Type 0
MarkedSome f None = Unit {0}
MarkedSome f (Some ts) = AreMarked f ts

marked_chain : {A : Type 0} (f : ℕ → Bool) (o : Option A) (g : A → Option (List Target)) → ((x : A) → MarkedSome f (g x)) → MarkedSome f (chain o g)
marked_chain f None g h = tt
marked_chain f (Some x) g h = h x

marked_append : (f : ℕ → Bool) (xs ys : List Target) → AreMarked f xs → AreMarked f ys → AreMarked f (xs ++ ys)
marked_append f [] ys h k = k
marked_append f (s ∷ xs) ys h k = (h.0, marked_append f xs ys h.1 k)

marked_joined : (f : ℕ → Bool) (o p : Option (List Target)) → MarkedSome f o → MarkedSome f p → MarkedSome f (joined o p)
marked_joined f None p h k = tt
marked_joined f (Some xs) None h k = tt
marked_joined f (Some xs) (Some ys) h k = marked_append f xs ys h k

more_marked : (f g : ℕ → Bool) (ts : List Target) → ((i : ℕ) → f i ≡ true → g i ≡ true) → AreMarked f ts → AreMarked g ts
more_marked f g [] w h = tt
more_marked f g (s ∷ ts) w h = (w s.var h.0, more_marked f g ts w h.1)

more_some : (f g : ℕ → Bool) (o : Option (List Target)) → ((i : ℕ) → f i ≡ true → g i ≡ true) → MarkedSome f o → MarkedSome g o
more_some f g None w h = tt
more_some f g (Some ts) w h = more_marked f g ts w h

targets_marked : (t : Term) (b : List Bounds) (z : Bounds) → MarkedSome (λ i. has_place i t) (targets_of b t z)
targets_marked (constant p q) b z = tt
targets_marked (place j) b z = (eq-eqb j j refl, tt)
targets_marked (one u t) b z = marked_chain (λ i. has_place i t) (forward_of b t) _ (λ x. marked_chain (λ i. has_place i t) (back_1 u z x) _ (λ y. targets_marked t b y))
targets_marked (two o t u) b z =
    let f = λ (i : ℕ). has_place i t || has_place i u in
    marked_chain f (forward_of b t) _ (λ x. marked_chain f (forward_of b u) _ (λ y. marked_chain f (back_2 o z x y) _ (λ p.
    marked_joined f (targets_of b t p.0) (targets_of b u p.1)
    (more_some (λ i. has_place i t) f (targets_of b t p.0) (λ i k. or_first (has_place i t) (has_place i u) k) (targets_marked t b p.0))
    (more_some (λ i. has_place i u) f (targets_of b u p.1) (λ i k. or_second (has_place i t) (has_place i u) k) (targets_marked u b p.1)))))

-- the targets of a whole revision
abbrev all_targets : Sides → List Bounds → Option (List Target)
all_targets s b = chain (forward_of b s.left) (λ x. chain (forward_of b s.right) (λ y. chain (related_of s.relation x y) (λ p. both_targets b s p)))

last : {C D E : Type 0} (o : Option C) (r : C → Option D) (g : D → Option E) → chain o (λ c. chain (r c) g) ≡ chain (chain o r) g
last None r g = refl
last (Some c) r g = refl

nested : {A B C D E : Type 0} (o : Option A) (p : Option B) (q : A → B → Option C) (r : C → Option D) (g : D → Option E) → chain o (λ x. chain p (λ y. chain (q x y) (λ c. chain (r c) g))) ≡ chain (chain o (λ x. chain p (λ y. chain (q x y) r))) g
nested None p q r g = refl
nested (Some x) None q r g = refl
nested (Some x) (Some y) q r g = last (q x y) r g

revised_is : (s : Sides) (b : List Bounds) → revised s b ≡ chain (all_targets s b) (λ ts. places_from 0 ts b)
revised_is s b = nested (forward_of b s.left) (forward_of b s.right) (related_of s.relation) (both_targets b s) (λ ts. places_from 0 ts b)

all_same : (s : Sides) (b d : List Bounds) → ((i : ℕ) → has_variable i s ≡ true → at b i ≡ at d i) → all_targets s b ≡ all_targets s d
all_same s b d h =
    let l = λ (i : ℕ) (k : has_place i s.left ≡ true). h i (or_first (has_place i s.left) (has_place i s.right) k) in
    let r = λ (i : ℕ) (k : has_place i s.right ≡ true). h i (or_second (has_place i s.left) (has_place i s.right) k) in
    chain_same (forward_of b s.left) (forward_of d s.left)
    (λ x. chain (forward_of b s.right) (λ y. chain (related_of s.relation x y) (λ p. both_targets b s p)))
    (λ x. chain (forward_of d s.right) (λ y. chain (related_of s.relation x y) (λ p. both_targets d s p)))
    (forward_same s.left b d l)
    (λ x. chain_same (forward_of b s.right) (forward_of d s.right)
    (λ y. chain (related_of s.relation x y) (λ p. both_targets b s p)) (λ y. chain (related_of s.relation x y) (λ p. both_targets d s p))
    (forward_same s.right b d r)
    (λ y. chain_cong (related_of s.relation x y) (λ p. both_targets b s p) (λ p. both_targets d s p)
    (λ p. joined_same (targets_of b s.left p.0) (targets_of d s.left p.0) (targets_of b s.right p.1) (targets_of d s.right p.1) (targets_same s.left b d p.0 l) (targets_same s.right b d p.1 r))))

all_marked : (s : Sides) (b : List Bounds) → MarkedSome (λ i. has_variable i s) (all_targets s b)
all_marked s b =
    let f = λ (i : ℕ). has_place i s.left || has_place i s.right in
    marked_chain f (forward_of b s.left) _ (λ x. marked_chain f (forward_of b s.right) _ (λ y. marked_chain f (related_of s.relation x y) _ (λ p.
    marked_joined f (targets_of b s.left p.0) (targets_of b s.right p.1)
    (more_some (λ i. has_place i s.left) f (targets_of b s.left p.0) (λ i k. or_first (has_place i s.left) (has_place i s.right) k) (targets_marked s.left b p.0))
    (more_some (λ i. has_place i s.right) f (targets_of b s.right p.1) (λ i k. or_second (has_place i s.left) (has_place i s.right) k) (targets_marked s.right b p.1)))))

-- a place without a target stays
passed_over : (f : ℕ → Bool) (i : ℕ) (s : Target) (ts : List Target) (x : Bounds) (t : Bool) → nat_eq s.var i ≡ t → f s.var ≡ true → f i ≡ false → place_of i ts x ≡ Some x → place_of i (s ∷ ts) x ≡ Some x
passed_over f i s ts x true e h n r = absurd (true≢false (sym h ∙ ap f (eqb-true s.var i e) ∙ n))
passed_over f i s ts x false e h n r = ap (λ u. cond u (chain (meet_of x s.within) (place_of i ts)) (place_of i ts x)) e ∙ r

no_target : (f : ℕ → Bool) (i : ℕ) (ts : List Target) (x : Bounds) → AreMarked f ts → f i ≡ false → place_of i ts x ≡ Some x
no_target f i [] x h n = refl
no_target f i (s ∷ ts) x h n = passed_over f i s ts x (nat_eq s.var i) refl h.0 n (no_target f i ts x h.1 n)

place_stays : (f : ℕ → Bool) (i : ℕ) (ts : List Target) (x y : Bounds) (t : Bool) → f i ≡ t → AreMarked f ts → (f i ≡ true → x ≡ y) → place_of i ts x ≡ Some x → place_of i ts y ≡ Some y
place_stays f i ts x y true e h a p = subst (λ z. place_of i ts z ≡ Some z) (a e) p
place_stays f i ts x y false e h a p = no_target f i ts y h e

places_stay : (f : ℕ → Bool) (i : ℕ) (ts : List Target) (b d : List Bounds) → AreMarked f ts → length b ≡ length d → ((j : ℕ) → f (i + j) ≡ true → at b j ≡ at d j) → places_from i ts b ≡ Some b → places_from i ts d ≡ Some d
places_stay f i ts [] [] h l a e = refl
places_stay f i ts [] (y ∷ d) h l a e = absurd (omega arith)
places_stay f i ts (x ∷ b) [] h l a e = absurd (omega arith)
places_stay f i ts (x ∷ b) (y ∷ d) h l a e =
    let v = came (place_of i ts x) (λ y. chain (places_from (i + 1) ts b) (λ c. Some (y ∷ c))) (x ∷ b) e in
    let w = came (places_from (i + 1) ts b) (λ c. Some (v.from ∷ c)) (x ∷ b) v.then_is in
    let same : v.from ∷ w.from ≡ x ∷ b = same_Some (v.from ∷ w.from) (x ∷ b) w.then_is in
    let here : place_of i ts x ≡ Some x = v.first ∙ ap Some (let p : v.from ≡ x = cc in p) in
    let there : places_from (i + 1) ts b ≡ Some b = w.first ∙ ap Some (let p : w.from ≡ b = cc in p) in
    let i0 : i ≡ i + 0 = omega arith in
    let first : place_of i ts y ≡ Some y = place_stays f i ts x y (f i) refl h (λ k. a 0 (ap f (sym i0) ∙ k)) here in
    let rest : places_from (i + 1) ts d ≡ Some d = places_stay f (i + 1) ts b d h (omega arith) (λ j k. let m : i + suc j ≡ (i + 1) + j = omega arith in a (suc j) (ap f m ∙ k)) there in
    ap (λ o. chain o (λ y. chain (places_from (i + 1) ts d) (λ c. Some (y ∷ c)))) first ∙ ap (λ o. chain o (λ c. Some (y ∷ c))) rest

-- a constraint that would keep a box would keep one with the same places of its variables
pub stays : (s : Sides) (b d : List Bounds) → length b ≡ length d → ((i : ℕ) → has_variable i s ≡ true → at b i ≡ at d i) → revised s b ≡ Some b → revised s d ≡ Some d
stays s b d l a e =
    let v = came (all_targets s b) (λ ts. places_from 0 ts b) b (sym (revised_is s b) ∙ e) in
    let m = subst (MarkedSome (λ i. has_variable i s)) v.first (all_marked s b) in
    let p = places_stay (λ i. has_variable i s) 0 v.from b d m l (λ j k. let z : 0 + j ≡ j = omega arith in a j (ap (λ i. has_variable i s) (sym z) ∙ k)) v.then_is in
    revised_is s d ∙ ap (λ o. chain o (λ ts. places_from 0 ts d)) (sym (all_same s b d a) ∙ v.first) ∙ p

pub or_assoc : (a b c : Bool) → ((a || b) || c) ≡ (a || (b || c))
or_assoc true b c = refl
or_assoc false b c = refl
