-- The ring laws of whole numbers.
use Rattle.std.proofs.Common.{◌≡◌, ℕ, zero, suc, ◌*◌, refl, arith, sym, ◌∙◌, ap}
use Rattle.std.specs.Prelude.{ℤ, pos, negsuc, ◌+ℤ◌, ◌*ℤ◌}
use Rattle.std.proofs.Math.IntN.{*ℤ_comm, zero-*ℤ, negsuc-*ℤ-pos, suc_ℤ-*ℤ, neg_ℤ-neg_ℤ}
use Rattle.std.proofs.Math.Nat.{mul_assoc}
use Rattle.std.proofs.lemmas.Int.{ints}
use lib.IntN.{neg_ℤ}

pub neg_left : (x y : ℤ) → neg_ℤ x *ℤ y ≡ neg_ℤ (x *ℤ y)
neg_left (pos zero) y = zero-*ℤ y ∙ sym (ap neg_ℤ (zero-*ℤ y))
neg_left (pos (suc m)) (pos n) = negsuc-*ℤ-pos m n
neg_left (pos (suc m)) (negsuc n) = sym (neg_ℤ-neg_ℤ (pos (suc m * suc n)))
neg_left (negsuc m) (pos n) = sym (neg_ℤ-neg_ℤ (pos (suc m * n)))
neg_left (negsuc m) (negsuc n) = refl

pub neg_right : (x y : ℤ) → x *ℤ neg_ℤ y ≡ neg_ℤ (x *ℤ y)
neg_right x y = *ℤ_comm x (neg_ℤ y) ∙ neg_left y x ∙ ap neg_ℤ (*ℤ_comm y x)

assoc_pos : (a b c : ℕ) → (pos a *ℤ pos b) *ℤ pos c ≡ pos a *ℤ (pos b *ℤ pos c)
assoc_pos a b c = ap pos (mul_assoc a b c)

assoc_last : (a b : ℕ) (z : ℤ) → (pos a *ℤ pos b) *ℤ z ≡ pos a *ℤ (pos b *ℤ z)
assoc_last a b (pos c) = assoc_pos a b c
assoc_last a b (negsuc c) =
    neg_right (pos a *ℤ pos b) (pos (suc c)) ∙ ap neg_ℤ (assoc_pos a b (suc c))
    ∙ sym (neg_right (pos a) (pos b *ℤ pos (suc c)))
    ∙ ap (λ w. pos a *ℤ w) (sym (neg_right (pos b) (pos (suc c))))

assoc_two : (a : ℕ) (y z : ℤ) → (pos a *ℤ y) *ℤ z ≡ pos a *ℤ (y *ℤ z)
assoc_two a (pos b) z = assoc_last a b z
assoc_two a (negsuc b) z =
    ap (λ w. w *ℤ z) (neg_right (pos a) (pos (suc b))) ∙ neg_left (pos a *ℤ pos (suc b)) z
    ∙ ap neg_ℤ (assoc_last a (suc b) z) ∙ sym (neg_right (pos a) (pos (suc b) *ℤ z))
    ∙ ap (λ w. pos a *ℤ w) (sym (neg_left (pos (suc b)) z))

pub times_assoc : (x y z : ℤ) → (x *ℤ y) *ℤ z ≡ x *ℤ (y *ℤ z)
times_assoc (pos a) y z = assoc_two a y z
times_assoc (negsuc a) y z =
    ap (λ w. w *ℤ z) (neg_left (pos (suc a)) y) ∙ neg_left (pos (suc a) *ℤ y) z
    ∙ ap neg_ℤ (assoc_two (suc a) y z) ∙ sym (neg_left (pos (suc a)) (y *ℤ z))

distrib_pos : (n : ℕ) (x y : ℤ) → pos n *ℤ (x +ℤ y) ≡ pos n *ℤ x +ℤ pos n *ℤ y
distrib_pos zero x y = zero-*ℤ (x +ℤ y) ∙ let e = zero-*ℤ x in let f = zero-*ℤ y in omega (arith, ints)
distrib_pos (suc n) x y =
    let e = suc_ℤ-*ℤ (pos n) (x +ℤ y) in
    let f = suc_ℤ-*ℤ (pos n) x in
    let g = suc_ℤ-*ℤ (pos n) y in
    let h = distrib_pos n x y in
    omega (arith, ints)

pub left_distrib : (z x y : ℤ) → z *ℤ (x +ℤ y) ≡ z *ℤ x +ℤ z *ℤ y
left_distrib (pos n) x y = distrib_pos n x y
left_distrib (negsuc n) x y =
    let e = neg_left (pos (suc n)) (x +ℤ y) in
    let f = neg_left (pos (suc n)) x in
    let g = neg_left (pos (suc n)) y in
    let h = distrib_pos (suc n) x y in
    omega (arith, ints)

pub right_distrib : (x y z : ℤ) → (x +ℤ y) *ℤ z ≡ x *ℤ z +ℤ y *ℤ z
right_distrib x y z =
    *ℤ_comm (x +ℤ y) z ∙ left_distrib z x y ∙ ap (λ w. w +ℤ z *ℤ y) (*ℤ_comm z x)
    ∙ ap (λ w. x *ℤ z +ℤ w) (*ℤ_comm z y)

-- the last two factors change places
pub swap_last : (x y z : ℤ) → (x *ℤ y) *ℤ z ≡ (x *ℤ z) *ℤ y
swap_last x y z = times_assoc x y z ∙ ap (λ w. x *ℤ w) (*ℤ_comm y z) ∙ sym (times_assoc x z y)
