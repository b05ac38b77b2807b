-- Offering the open leaves of a stage one after the other.
use Rattle.std.proofs.Common.{◌≡◌, ℕ, zero, suc, ◌+◌, ◌-◌, Bool, true, false, List, [], ◌∷◌, ◌++◌, map, take, drop, length, refl, sym, ◌∙◌, ap, arith, subst, append_assoc}
use Rattle.pv_tree.specs.Trees.{Tree, opens}
use Rattle.pv_board.specs.declared.mark.Mark.{Mark}
use Rattle.pv_board.specs.declared.leaves.Leaves.{Leaves}
use Rattle.pv_board.specs.Marks.{weigh}
use Rattle.pv_board.specs.Events.{free_units, fresh, leaves_at}
use Rattle.pv_board.specs.Leaves.{AreOffered}
use Rattle.pv_board.proofs.Paths.{weigh-append}

none_less : (m : ℕ) → 0 - m ≡ 0
none_less m = omega arith

pub take_two : {X : Type 0} (n : ℕ) (xs ys : List X) → take n (xs ++ ys) ≡ take n xs ++ take (n - length xs) ys
take_two zero xs ys = sym (ap (λ m. take m ys) (none_less (length xs)))
take_two (suc n) [] ys = let e : suc n - 0 ≡ suc n = omega arith in sym (ap (λ m. take m ys) e)
take_two (suc n) (x ∷ xs) ys =
    let e : n - length xs ≡ suc n - suc (length xs) = omega arith in
    ap (λ zs. x ∷ zs) (take_two n xs ys ∙ ap (λ m. take n xs ++ take m ys) e)

pub drop_two : {X : Type 0} (n : ℕ) (xs ys : List X) → drop n (xs ++ ys) ≡ drop n xs ++ drop (n - length xs) ys
drop_two zero xs ys = ap (λ m. xs ++ drop m ys) (sym (none_less (length xs)))
drop_two (suc n) [] ys = let e : suc n - 0 ≡ suc n = omega arith in sym (ap (λ m. drop m ys) e)
drop_two (suc n) (x ∷ xs) ys =
    let e : n - length xs ≡ suc n - suc (length xs) = omega arith in
    drop_two n xs ys ∙ ap (λ m. drop n xs ++ drop m ys) e

take_count : {X : Type 0} (n : ℕ) (xs : List X) → n - length xs ≡ n - length (take n xs)
take_count zero xs = none_less (length xs) ∙ sym (none_less (length (take 0 xs)))
take_count (suc n) [] = refl
take_count (suc n) (x ∷ xs) = let r = take_count n xs in omega (arith, r)

add_count : {X : Type 0} (xs ys : List X) → length (xs ++ ys) ≡ length xs + length ys
add_count [] ys = omega arith
add_count (x ∷ xs) ys = let r = add_count xs ys in omega (arith, r)

map_count : {X Y : Type 0} (h : X → Y) (xs : List X) → length (map h xs) ≡ length xs
map_count h [] = refl
map_count h (x ∷ xs) = ap suc (map_count h xs)

map_two : {X Y : Type 0} (h : X → Y) (xs ys : List X) → map h (xs ++ ys) ≡ map h xs ++ map h ys
map_two h [] ys = refl
map_two h (x ∷ xs) ys = ap (λ zs. h x ∷ zs) (map_two h xs ys)

-- what may be issued after some were offered
units_after : {X : Type 0} (s t : Bool) (m n : ℕ) (xs : List X) → t ≡ s → n + length (take (free_units s m) xs) ≡ m → free_units t n ≡ free_units s m - length xs
units_after true t m n xs e l = ap (λ (b : Bool). free_units b n) e ∙ sym (none_less (length xs))
units_after false t m n xs e l =
    let u : free_units t n ≡ n = ap (λ (b : Bool). free_units b n) e in let c = take_count m xs in omega (arith, u, c, l)

abbrev units : Leaves → ℕ
units l = free_units l.stopped l.left

after : (a b : Leaves) (xs : List (List Bool)) → AreOffered a b xs → units b ≡ units a - length xs
after a b xs h = units_after a.stopped b.stopped a.left b.left xs h.stopped h.left

taken_two : (a b : Leaves) (xs ys : List (List Bool)) → AreOffered a b xs → take (units a) (xs ++ ys) ≡ take (units a) xs ++ take (units b) ys
taken_two a b xs ys h = take_two (units a) xs ys ∙ ap (λ n. take (units a) xs ++ take n ys) (sym (after a b xs h))

dropped_two : (a b : Leaves) (xs ys : List (List Bool)) → AreOffered a b xs → drop (units a) (xs ++ ys) ≡ drop (units a) xs ++ drop (units b) ys
dropped_two a b xs ys h = drop_two (units a) xs ys ∙ ap (λ n. drop (units a) xs ++ drop n ys) (sym (after a b xs h))

offered_two : (a b c : Leaves) (xs ys : List (List Bool)) → AreOffered a b xs → AreOffered b c ys → AreOffered a c (xs ++ ys)
offered_two a b c xs ys h k =
    let t = taken_two a b xs ys h in
    record {
      free = k.free ∙ ap (λ zs. zs ++ drop (units b) ys) h.free ∙ append_assoc a.free.items (drop (units a) xs) (drop (units b) ys) ∙ ap (λ zs. a.free.items ++ zs) (sym (dropped_two a b xs ys h));
      marks = λ f.
          let x = h.marks f in let y = k.marks f in
          let z = weigh-append (λ (p : List Bool). f (fresh p)) (take (units a) xs) (take (units b) ys) in
          let w = ap (weigh (λ (p : List Bool). f (fresh p))) t in omega (arith, x, y, z, w);
      left = let x = h.left in let y = k.left in let z = add_count (take (units a) xs) (take (units b) ys) in let w = ap length t in omega (arith, x, y, z, w);
      stopped = k.stopped ∙ h.stopped;
      room = k.room;
      for_free = k.for_free ∙ h.for_free;
    }

-- one more was offered
pub offered_more : (a b c : Leaves) (ps qs : List (List Bool)) (p : List Bool) → qs ≡ ps ++ p ∷ [] → AreOffered a b ps → AreOffered b c (p ∷ []) → AreOffered a c qs
offered_more a b c ps qs p e h k = subst (AreOffered a c) (sym e) (offered_two a b c ps (p ∷ []) h k)

pub tickets_more : (a b : Leaves) (ps qs : List (List Bool)) (p : List Bool) (old mid new : List Mark) → qs ≡ ps ++ p ∷ [] → AreOffered a b ps
    → mid ≡ old ++ map fresh (take (free_units a.stopped a.left) ps) → new ≡ mid ++ map fresh (take (free_units b.stopped b.left) (p ∷ [])) → new ≡ old ++ map fresh (take (free_units a.stopped a.left) qs)
tickets_more a b ps qs p old mid new e h m n =
    n ∙ ap (λ zs. zs ++ map fresh (take (units b) (p ∷ []))) m ∙ append_assoc old (map fresh (take (units a) ps)) (map fresh (take (units b) (p ∷ [])))
    ∙ ap (λ zs. old ++ zs) (sym (map_two fresh (take (units a) ps) (take (units b) (p ∷ []))) ∙ ap (map fresh) (sym (taken_two a b ps (p ∷ []) h) ∙ ap (take (units a)) (sym e)))

-- a stage brings as many open leaves as it has
pub leaves_count : (p : List Bool) (t : Tree) → length (leaves_at p t) ≡ length (opens t)
leaves_count p t = map_count (λ (q : List Bool). p ++ q) (opens t)
