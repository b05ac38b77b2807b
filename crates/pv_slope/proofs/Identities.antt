-- The identities of slopes, between whole numbers. Of one term a/b and c/d are the values at two points, and their difference
-- is p/(m k); of another one the values are e/f and g/h, and their difference is q/(o k).
use Rattle.std.proofs.Common.{◌≡◌, [], ◌∷◌, refl}
use Rattle.std.specs.Prelude.{ℤ, pos, negsuc, ◌+ℤ◌, ◌-ℤ◌, ◌*ℤ◌}
use lib.IntN.{neg_ℤ}
use Rattle.pv_slope.proofs.Polynomials.{Poly, v, n, ◌⊕◌, ◌⊖◌, ◌⊗◌, minus, Equation, follows, alike}

-- a/b - c/d is p/(m k)
abbrev pub IsBy : ℤ → ℤ → ℤ → ℤ → ℤ → ℤ → ℤ → Type 0
IsBy a b c d m k p = (a *ℤ d -ℤ c *ℤ b) *ℤ (m *ℤ k) ≡ p *ℤ (b *ℤ d)

-- the letters as variables
abbrev A : Poly
A = v 0

abbrev B : Poly
B = v 1

abbrev C : Poly
C = v 2

abbrev D : Poly
D = v 3

abbrev M : Poly
M = v 4

abbrev K : Poly
K = v 5

abbrev P : Poly
P = v 6

abbrev E : Poly
E = v 7

abbrev F : Poly
F = v 8

abbrev G : Poly
G = v 9

abbrev H : Poly
H = v 10

abbrev O : Poly
O = v 11

abbrev Q : Poly
Q = v 12

abbrev R : Poly
R = v 13

abbrev S : Poly
S = v 14

abbrev T : Poly
T = v 15

abbrev U : Poly
U = v 16

-- the differences of both terms, times a factor
abbrev first_by : Poly → Equation
first_by x = record { by = x; left = (A ⊗ D ⊖ C ⊗ B) ⊗ (M ⊗ K); right = P ⊗ (B ⊗ D) }

abbrev second_by : Poly → Equation
second_by x = record { by = x; left = (E ⊗ H ⊖ G ⊗ F) ⊗ (O ⊗ K); right = Q ⊗ (F ⊗ H) }

pub sum_row : (a b c d m k p e f g h o q : ℤ) → IsBy a b c d m k p → IsBy e f g h o k q
    → IsBy (a *ℤ f +ℤ e *ℤ b) (b *ℤ f) (c *ℤ h +ℤ g *ℤ d) (d *ℤ h) (m *ℤ o) k (p *ℤ o +ℤ q *ℤ m)
sum_row a b c d m k p e f g h o q x y =
    follows (a ∷ b ∷ c ∷ d ∷ m ∷ k ∷ p ∷ e ∷ f ∷ g ∷ h ∷ o ∷ q ∷ [])
    (((A ⊗ F ⊕ E ⊗ B) ⊗ (D ⊗ H) ⊖ (C ⊗ H ⊕ G ⊗ D) ⊗ (B ⊗ F)) ⊗ ((M ⊗ O) ⊗ K)) ((P ⊗ O ⊕ Q ⊗ M) ⊗ ((B ⊗ F) ⊗ (D ⊗ H)))
    (first_by (F ⊗ H ⊗ O) ∷ second_by (B ⊗ D ⊗ M) ∷ []) refl (x, (y, tt))

pub difference_row : (a b c d m k p e f g h o q : ℤ) → IsBy a b c d m k p → IsBy e f g h o k q
    → IsBy (a *ℤ f -ℤ e *ℤ b) (b *ℤ f) (c *ℤ h -ℤ g *ℤ d) (d *ℤ h) (m *ℤ o) k (p *ℤ o +ℤ q *ℤ neg_ℤ m)
difference_row a b c d m k p e f g h o q x y =
    follows (a ∷ b ∷ c ∷ d ∷ m ∷ k ∷ p ∷ e ∷ f ∷ g ∷ h ∷ o ∷ q ∷ [])
    (((A ⊗ F ⊖ E ⊗ B) ⊗ (D ⊗ H) ⊖ (C ⊗ H ⊖ G ⊗ D) ⊗ (B ⊗ F)) ⊗ ((M ⊗ O) ⊗ K)) ((P ⊗ O ⊕ Q ⊗ minus M) ⊗ ((B ⊗ F) ⊗ (D ⊗ H)))
    (first_by (F ⊗ H ⊗ O) ∷ second_by (minus (B ⊗ D ⊗ M)) ∷ []) refl (x, (y, tt))

-- (a/b) (e/f) - (c/d) (g/h) is (a/b) (e/f - g/h) + (g/h) (a/b - c/d)
pub product_row : (a b c d m k p e f g h o q : ℤ) → IsBy a b c d m k p → IsBy e f g h o k q
    → IsBy (a *ℤ e) (b *ℤ f) (c *ℤ g) (d *ℤ h) ((b *ℤ o) *ℤ (h *ℤ m)) k (q *ℤ (a *ℤ (h *ℤ m)) +ℤ p *ℤ (g *ℤ (b *ℤ o)))
product_row a b c d m k p e f g h o q x y =
    follows (a ∷ b ∷ c ∷ d ∷ m ∷ k ∷ p ∷ e ∷ f ∷ g ∷ h ∷ o ∷ q ∷ [])
    (((A ⊗ E) ⊗ (D ⊗ H) ⊖ (C ⊗ G) ⊗ (B ⊗ F)) ⊗ (((B ⊗ O) ⊗ (H ⊗ M)) ⊗ K)) ((Q ⊗ (A ⊗ (H ⊗ M)) ⊕ P ⊗ (G ⊗ (B ⊗ O))) ⊗ ((B ⊗ F) ⊗ (D ⊗ H)))
    (first_by (G ⊗ B ⊗ O ⊗ F ⊗ H) ∷ second_by (A ⊗ H ⊗ M ⊗ B ⊗ D) ∷ []) refl (x, (y, tt))

-- s/r is f/e, and t/u is h/g; the quotients' difference is (a/b - c/d - (c/d) (h/g) (e/f - g/h)) (f/e)
pub quotient_row : (a b c d m k p e f g h o q r s t u : ℤ) → IsBy a b c d m k p → IsBy e f g h o k q → e *ℤ s ≡ r *ℤ f → g *ℤ t ≡ u *ℤ h
    → ((a *ℤ s) *ℤ (d *ℤ u) -ℤ (c *ℤ t) *ℤ (b *ℤ r)) *ℤ (((m *ℤ ((d *ℤ u) *ℤ o)) *ℤ r) *ℤ k) *ℤ (f *ℤ h)
    ≡ (p *ℤ (((d *ℤ u) *ℤ o) *ℤ s) +ℤ q *ℤ neg_ℤ (((c *ℤ t) *ℤ m) *ℤ s)) *ℤ ((b *ℤ r) *ℤ (d *ℤ u)) *ℤ (f *ℤ h)
quotient_row a b c d m k p e f g h o q r s t u x y z w =
    follows (a ∷ b ∷ c ∷ d ∷ m ∷ k ∷ p ∷ e ∷ f ∷ g ∷ h ∷ o ∷ q ∷ r ∷ s ∷ t ∷ u ∷ [])
    (((A ⊗ S) ⊗ (D ⊗ U) ⊖ (C ⊗ T) ⊗ (B ⊗ R)) ⊗ (((M ⊗ ((D ⊗ U) ⊗ O)) ⊗ R) ⊗ K) ⊗ (F ⊗ H))
    ((P ⊗ (((D ⊗ U) ⊗ O) ⊗ S) ⊕ Q ⊗ minus (((C ⊗ T) ⊗ M) ⊗ S)) ⊗ ((B ⊗ R) ⊗ (D ⊗ U)) ⊗ (F ⊗ H))
    (
    first_by (D ⊗ U ⊗ O ⊗ S ⊗ R ⊗ U ⊗ F ⊗ H)
    ∷ second_by (minus (C ⊗ T ⊗ M ⊗ S ⊗ B ⊗ R ⊗ D ⊗ U))
    ∷ record { by = M ⊗ O ⊗ R ⊗ K ⊗ D ⊗ U ⊗ C ⊗ T ⊗ B ⊗ H; left = E ⊗ S; right = R ⊗ F }
    ∷ record { by = minus (M ⊗ O ⊗ R ⊗ K ⊗ D ⊗ U ⊗ C ⊗ B ⊗ S ⊗ F); left = G ⊗ T; right = U ⊗ H }
    ∷ []
    )
    refl (x, (y, (z, (w, tt))))

-- the same of other fractions e/f = a/b and g/h = c/d
pub same_row : (a b c d m k p e f g h : ℤ) → IsBy a b c d m k p → a *ℤ f ≡ e *ℤ b → c *ℤ h ≡ g *ℤ d
    → ((e *ℤ h -ℤ g *ℤ f) *ℤ (m *ℤ k)) *ℤ (b *ℤ d) ≡ (p *ℤ (f *ℤ h)) *ℤ (b *ℤ d)
same_row a b c d m k p e f g h x y z =
    follows (a ∷ b ∷ c ∷ d ∷ m ∷ k ∷ p ∷ e ∷ f ∷ g ∷ h ∷ [])
    (((E ⊗ H ⊖ G ⊗ F) ⊗ (M ⊗ K)) ⊗ (B ⊗ D)) ((P ⊗ (F ⊗ H)) ⊗ (B ⊗ D))
    (
    first_by (F ⊗ H)
    ∷ record { by = minus (D ⊗ H ⊗ M ⊗ K); left = A ⊗ F; right = E ⊗ B }
    ∷ record { by = B ⊗ F ⊗ M ⊗ K; left = C ⊗ H; right = G ⊗ D }
    ∷ []
    )
    refl (x, (y, (z, tt)))

-- a/b - g/h lies between the two differences: r and t are their weights, up to a sign s
pub mixed_row : (a b c d m k p e f g h o q r s t : ℤ) → IsBy a b c d m k p → IsBy e f g h o k q
    → t ≡ s *ℤ ((c *ℤ h -ℤ g *ℤ d) *ℤ (b *ℤ f)) → r ≡ s *ℤ ((e *ℤ b -ℤ a *ℤ f) *ℤ (d *ℤ h))
    → ((a *ℤ h -ℤ g *ℤ b) *ℤ (((r +ℤ t) *ℤ (m *ℤ o)) *ℤ k)) *ℤ (d *ℤ f)
    ≡ ((p *ℤ (r *ℤ o) +ℤ q *ℤ (t *ℤ m)) *ℤ (b *ℤ h)) *ℤ (d *ℤ f)
mixed_row a b c d m k p e f g h o q r s t x y z w =
    follows (a ∷ b ∷ c ∷ d ∷ m ∷ k ∷ p ∷ e ∷ f ∷ g ∷ h ∷ o ∷ q ∷ r ∷ s ∷ t ∷ [])
    (((A ⊗ H ⊖ G ⊗ B) ⊗ (((R ⊕ T) ⊗ (M ⊗ O)) ⊗ K)) ⊗ (D ⊗ F)) (((P ⊗ (R ⊗ O) ⊕ Q ⊗ (T ⊗ M)) ⊗ (B ⊗ H)) ⊗ (D ⊗ F))
    (
    first_by (R ⊗ O ⊗ H ⊗ F)
    ∷ second_by (T ⊗ M ⊗ B ⊗ D)
    ∷ record { by = M ⊗ O ⊗ K ⊗ D ⊗ H ⊗ (A ⊗ F ⊖ E ⊗ B); left = T; right = S ⊗ ((C ⊗ H ⊖ G ⊗ D) ⊗ (B ⊗ F)) }
    ∷ record { by = M ⊗ O ⊗ K ⊗ B ⊗ F ⊗ (C ⊗ H ⊖ G ⊗ D); left = R; right = S ⊗ ((E ⊗ B ⊖ A ⊗ F) ⊗ (D ⊗ H)) }
    ∷ []
    )
    refl (x, (y, (z, (w, tt))))

-- a term times s/r, where e/f - g/h is (a/b - c/d) (s/r)
pub scaled_row : (a b c d m k p e f g h r s : ℤ) → IsBy a b c d m k p → (e *ℤ h -ℤ g *ℤ f) *ℤ (r *ℤ (b *ℤ d)) ≡ (s *ℤ (a *ℤ d -ℤ c *ℤ b)) *ℤ (f *ℤ h)
    → ((e *ℤ h -ℤ g *ℤ f) *ℤ ((r *ℤ m) *ℤ k)) *ℤ (b *ℤ d) ≡ ((p *ℤ s) *ℤ (f *ℤ h)) *ℤ (b *ℤ d)
scaled_row a b c d m k p e f g h r s x y =
    follows (a ∷ b ∷ c ∷ d ∷ m ∷ k ∷ p ∷ e ∷ f ∷ g ∷ h ∷ pos 0 ∷ pos 0 ∷ r ∷ s ∷ [])
    (((E ⊗ H ⊖ G ⊗ F) ⊗ ((R ⊗ M) ⊗ K)) ⊗ (B ⊗ D)) (((P ⊗ S) ⊗ (F ⊗ H)) ⊗ (B ⊗ D))
    (
    first_by (S ⊗ F ⊗ H)
    ∷ record { by = M ⊗ K; left = (E ⊗ H ⊖ G ⊗ F) ⊗ (R ⊗ (B ⊗ D)); right = (S ⊗ (A ⊗ D ⊖ C ⊗ B)) ⊗ (F ⊗ H) }
    ∷ []
    )
    refl (x, (y, tt))

-- the first term of a power's sum: a^1 c^n against c^(n+1), where c^n is g/h and the sum so far is g/h
pub powers_begin : (a b c d g h : ℤ)
    → ((pos 1 *ℤ g) *ℤ (a *ℤ d -ℤ c *ℤ b)) *ℤ (((pos 1 *ℤ b) *ℤ h) *ℤ (h *ℤ d))
    ≡ (((pos 1 *ℤ a) *ℤ g) *ℤ (h *ℤ d) -ℤ (g *ℤ c) *ℤ ((pos 1 *ℤ b) *ℤ h)) *ℤ ((pos 1 *ℤ h) *ℤ (b *ℤ d))
powers_begin a b c d g h =
    alike (a ∷ b ∷ c ∷ d ∷ pos 0 ∷ pos 0 ∷ pos 0 ∷ pos 0 ∷ pos 0 ∷ g ∷ h ∷ [])
    (((n (pos 1) ⊗ G) ⊗ (A ⊗ D ⊖ C ⊗ B)) ⊗ (((n (pos 1) ⊗ B) ⊗ H) ⊗ (H ⊗ D)))
    ((((n (pos 1) ⊗ A) ⊗ G) ⊗ (H ⊗ D) ⊖ (G ⊗ C) ⊗ ((n (pos 1) ⊗ B) ⊗ H)) ⊗ ((n (pos 1) ⊗ H) ⊗ (B ⊗ D))) refl

-- one more term: the sum so far is p/q, a^j is e/f, c^i is g/h and c^n is r/s
pub powers_more : (a b c d p e f g h q r s : ℤ)
    → (p *ℤ (a *ℤ d -ℤ c *ℤ b)) *ℤ ((f *ℤ (h *ℤ d)) *ℤ s) ≡ ((e *ℤ (g *ℤ c)) *ℤ s -ℤ r *ℤ (f *ℤ (h *ℤ d))) *ℤ (q *ℤ (b *ℤ d))
    → (((p *ℤ (f *ℤ h) +ℤ (e *ℤ g) *ℤ q) *ℤ (a *ℤ d -ℤ c *ℤ b)) *ℤ (((f *ℤ b) *ℤ h) *ℤ s)) *ℤ d
    ≡ ((((e *ℤ a) *ℤ g) *ℤ s -ℤ r *ℤ ((f *ℤ b) *ℤ h)) *ℤ ((q *ℤ (f *ℤ h)) *ℤ (b *ℤ d))) *ℤ d
powers_more a b c d p e f g h q r s x =
    follows (a ∷ b ∷ c ∷ d ∷ pos 0 ∷ pos 0 ∷ p ∷ e ∷ f ∷ g ∷ h ∷ pos 0 ∷ q ∷ r ∷ s ∷ [])
    ((((P ⊗ (F ⊗ H) ⊕ (E ⊗ G) ⊗ Q) ⊗ (A ⊗ D ⊖ C ⊗ B)) ⊗ (((F ⊗ B) ⊗ H) ⊗ S)) ⊗ D)
    (((((E ⊗ A) ⊗ G) ⊗ S ⊖ R ⊗ ((F ⊗ B) ⊗ H)) ⊗ ((Q ⊗ (F ⊗ H)) ⊗ (B ⊗ D))) ⊗ D)
    (record { by = F ⊗ H ⊗ B; left = (P ⊗ (A ⊗ D ⊖ C ⊗ B)) ⊗ ((F ⊗ (H ⊗ D)) ⊗ S); right = ((E ⊗ (G ⊗ C)) ⊗ S ⊖ R ⊗ (F ⊗ (H ⊗ D))) ⊗ (Q ⊗ (B ⊗ D)) } ∷ [])
    refl (x, tt)

pub negation_row : (a b c d m k p : ℤ) → IsBy a b c d m k p → IsBy (neg_ℤ a) b (neg_ℤ c) d m k (p *ℤ negsuc 0)
negation_row a b c d m k p x =
    follows (a ∷ b ∷ c ∷ d ∷ m ∷ k ∷ p ∷ [])
    ((minus A ⊗ D ⊖ minus C ⊗ B) ⊗ (M ⊗ K)) ((P ⊗ n (negsuc 0)) ⊗ (B ⊗ D))
    (first_by (n (negsuc 0)) ∷ []) refl (x, tt)

-- one more slope: the sum so far is p/q, that is c/d and s/m k; the slope is e/m and the change f/k
pub sum_more : (c d m k p e f q s : ℤ) → p *ℤ (d *ℤ (m *ℤ k)) ≡ (c *ℤ (m *ℤ k) +ℤ s *ℤ d) *ℤ q
    → (p *ℤ (m *ℤ k) +ℤ (e *ℤ f) *ℤ q) *ℤ (d *ℤ (m *ℤ k)) ≡ (c *ℤ (m *ℤ k) +ℤ (s +ℤ e *ℤ f) *ℤ d) *ℤ (q *ℤ (m *ℤ k))
sum_more c d m k p e f q s x =
    follows (pos 0 ∷ pos 0 ∷ c ∷ d ∷ m ∷ k ∷ p ∷ e ∷ f ∷ pos 0 ∷ pos 0 ∷ pos 0 ∷ q ∷ pos 0 ∷ s ∷ [])
    ((P ⊗ (M ⊗ K) ⊕ (E ⊗ F) ⊗ Q) ⊗ (D ⊗ (M ⊗ K))) ((C ⊗ (M ⊗ K) ⊕ (S ⊕ E ⊗ F) ⊗ D) ⊗ (Q ⊗ (M ⊗ K)))
    (record { by = M ⊗ K; left = P ⊗ (D ⊗ (M ⊗ K)); right = (C ⊗ (M ⊗ K) ⊕ S ⊗ D) ⊗ Q } ∷ []) refl (x, tt)

-- the whole sum e/f is a/b
pub sum_whole : (a b c d m k p e f : ℤ) → IsBy a b c d m k p → e *ℤ (d *ℤ (m *ℤ k)) ≡ (c *ℤ (m *ℤ k) +ℤ p *ℤ d) *ℤ f
    → (e *ℤ b) *ℤ (d *ℤ (m *ℤ k)) ≡ (a *ℤ f) *ℤ (d *ℤ (m *ℤ k))
sum_whole a b c d m k p e f x y =
    follows (a ∷ b ∷ c ∷ d ∷ m ∷ k ∷ p ∷ e ∷ f ∷ [])
    ((E ⊗ B) ⊗ (D ⊗ (M ⊗ K))) ((A ⊗ F) ⊗ (D ⊗ (M ⊗ K)))
    (
    first_by (minus F)
    ∷ record { by = B; left = E ⊗ (D ⊗ (M ⊗ K)); right = (C ⊗ (M ⊗ K) ⊕ P ⊗ D) ⊗ F }
    ∷ []
    )
    refl (x, (y, tt))
