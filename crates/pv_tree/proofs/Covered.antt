-- Every point of the root box lies in some leaf or removed part.
use Rattle.std.proofs.Common.{◌⊎◌, inl, inr, ℕ, zero, suc, ◌<◌, List, [], ◌∷◌, arith}
use Rattle.std.specs.Prelude.{ℤ, pos, ◌*ℤ◌, ◌≤ℤ◌}
use Rattle.std.proofs.lemmas.Int.{ints}
use Rattle.pv_num.specs.Extended.{Extended, NegInf, Fin, PosInf}
use Rattle.pv_num.specs.Grid.{unit}
use Rattle.pv_interval.specs.Bounds.{Bounds}
use Rattle.pv_interval.specs.Points.{IsBelow, IsAbove, Lies, Point}
use Rattle.pv_box.specs.Boxes.{LieIn, PointIn, lower_half, upper_half}
use Rattle.pv_tree.specs.Trees.{Tree, leaf, removed, inner, small, cut, Paves, IsStrictlyInside, IsBetween}
use Rattle.pv_tree.specs.Sets.{Covers}
use Rattle.pv_tree.proofs.Cells.{lt_or}
use Rattle.pv_box.proofs.Kept.{le_or}

le_decides : (a b : ℤ) → (a ≤ℤ b) ⊎ (a ≤ℤ b → ⊥)
le_decides a b = grind (arith, ints)

below_decides : (e : Extended) (n : ℤ) (d : ℕ) → IsBelow e n d ⊎ (IsBelow e n d → ⊥)
below_decides NegInf n d = inl tt
below_decides (Fin e) n d = le_decides (e *ℤ pos d) (n *ℤ pos unit)
below_decides PosInf n d = inr (λ h. h)

above_decides : (e : Extended) (n : ℤ) (d : ℕ) → IsAbove e n d ⊎ (IsAbove e n d → ⊥)
above_decides NegInf n d = inr (λ h. h)
above_decides (Fin e) n d = le_decides (n *ℤ pos unit) (e *ℤ pos d)
above_decides PosInf n d = inl tt

lies_decides : (n : ℤ) (d : ℕ) (x : Bounds) → Lies n d x ⊎ (Lies n d x → ⊥)
lies_decides n d x = elim (lt_or 0 d) [
  | inr none ↦ inr (λ h. let some : 0 < d = h.some in absurd (omega arith))
  | inl some ↦ elim (below_decides x.lo n d) [
    | inr out ↦ inr (λ h. out h.low)
    | inl low ↦ elim (above_decides x.hi n d) [ inr out ↦ inr (λ h. out h.high) | inl high ↦ inl (record { some = some; low = low; high = high }) ]
  ]
]

lie_decides : (ns : List ℤ) (d : ℕ) (b : List Bounds) → LieIn ns d b ⊎ (LieIn ns d b → ⊥)
lie_decides [] d [] = inl tt
lie_decides [] d (x ∷ b) = inr (λ h. h)
lie_decides (n ∷ ns) d [] = inr (λ h. h)
lie_decides (n ∷ ns) d (x ∷ b) = elim (lies_decides n d x) [
  | inr out ↦ inr (λ h. out h.0)
  | inl here ↦ elim (lie_decides ns d b) [ inr out ↦ inr (λ h. out h.1) | inl rest ↦ inl (here, rest) ]
]

pub point_decides : (x : Point) (b : List Bounds) → PointIn x b ⊎ (PointIn x b → ⊥)
point_decides x b = lie_decides x.places x.under b

-- a point of a cut box lies in a half
place_splits : (n : ℤ) (d : ℕ) (x : Bounds) (a : Extended) → IsBetween a x → Lies n d x → Lies n d (record { lo = x.lo; hi = a }) ⊎ Lies n d (record { lo = a; hi = x.hi })
place_splits n d x NegInf h k = absurd h
place_splits n d x (Fin e) h k = elim (le_or (n *ℤ pos unit) (e *ℤ pos d)) [
  | inl low ↦ inl (record { some = k.some; low = k.low; high = low })
  | inr high ↦ inr (record { some = k.some; low = high; high = k.high })
]
place_splits n d x PosInf h k = absurd h

halves_split : (ns : List ℤ) (d : ℕ) (b : List Bounds) (v : ℕ) (a : Extended) → IsStrictlyInside a v b → LieIn ns d b → LieIn ns d (lower_half b v a) ⊎ LieIn ns d (upper_half b v a)
halves_split [] d [] v a h k = absurd h
halves_split [] d (x ∷ b) v a h k = absurd k
halves_split (n ∷ ns) d [] v a h k = absurd h
halves_split (n ∷ ns) d (x ∷ b) zero a h k = elim (place_splits n d x a h k.0) [ inl low ↦ inl (low, k.1) | inr high ↦ inr (high, k.1) ]
halves_split (n ∷ ns) d (x ∷ b) (suc v) a h k = elim (halves_split ns d b v a h k.1) [ inl low ↦ inl (k.0, low) | inr high ↦ inr (k.0, high) ]

pub covers : (b : List Bounds) (t : Tree) → Paves b t → Covers b t
covers b leaf h x k = k
covers b removed h x k = k
covers b (inner to) h x k = elim (point_decides x to) [ inl i ↦ inl i | inr o ↦ inr (k, o) ]
covers b (small to) h x k = elim (point_decides x to) [ inl i ↦ inl i | inr o ↦ inr (k, o) ]
covers b (cut to v a l r) h x k = elim (point_decides x to) [
  | inr o ↦ inl (k, o)
  | inl i ↦ elim (halves_split x.places x.under to v a h.2 i) [
    | inl low ↦ inr (inl (covers (lower_half to v a) l h.3 x low))
    | inr high ↦ inr (inr (covers (upper_half to v a) r h.4 x high))
  ]
]
