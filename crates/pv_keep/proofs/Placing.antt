-- A row put at its place among rows in preorder.
use Rattle.std.specs.List.Sorted.{IsPartitionPoint, IsPartitionedBy}
use Rattle.std.proofs.Common.{◌≡◌, ◌≢◌, ℕ, zero, suc, ◌≤◌, ◌<◌, Bool, true, false, cond, List, [], ◌∷◌, ◌++◌, length, reverse, refl, sym, ◌∙◌, ap, arith}
use Rattle.std.specs.Prelude.{IsTrue, insert, slice_index_or}
use Rattle.std.proofs.lemmas.List.{reverse-append}
use Rattle.pv_tree.specs.Trees.{precedes}
use Rattle.pv_keep.specs.declared.row.Row.{Row}
use Rattle.pv_keep.specs.Rows.{AllBehind, InPreorder, placed, HasNoRow, AreNew, IsSplit, NoneBefore}
use Rattle.pv_keep.proofs.Orders.{precedes_trans, not_back, or_back, turned}
use Rattle.pv_keep.proofs.Leaves.{behind_trans}

placed_case : (row x : Row) (xs : List Row) (b : Bool) → precedes row.path x.path ≡ b → placed row (x ∷ xs) ≡ cond b (row ∷ x ∷ xs) (x ∷ placed row xs)
placed_case row x xs b e = ap (λ (c : Bool). cond c (row ∷ x ∷ xs) (x ∷ placed row xs)) e

behind_placed_case : (p : List Bool) (row x : Row) (xs : List Row) (b : Bool) → IsTrue (precedes p row.path) → AllBehind p (x ∷ xs) → AllBehind p (placed row xs)
    → AllBehind p (cond b (row ∷ x ∷ xs) (x ∷ placed row xs))
behind_placed_case p row x xs true h a r = (h, a)
behind_placed_case p row x xs false h a r = (a.0, r)

behind_placed : (p : List Bool) (row : Row) (xs : List Row) → IsTrue (precedes p row.path) → AllBehind p xs → AllBehind p (placed row xs)
behind_placed p row [] h a = (h, tt)
behind_placed p row (x ∷ xs) h a = behind_placed_case p row x xs (precedes row.path x.path) h a (behind_placed p row xs h a.1)

ordered_case : (row x : Row) (xs : List Row) (b : Bool) → precedes row.path x.path ≡ b → InPreorder (x ∷ xs) → x.path ≢ row.path → InPreorder (placed row xs)
    → InPreorder (cond b (row ∷ x ∷ xs) (x ∷ placed row xs))
ordered_case row x xs true e o n r = ((e, behind_trans row.path x.path xs e o.0), o)
ordered_case row x xs false e o n r = (behind_placed x.path row xs (or_back row.path x.path e n) o.0, r)

pub ordered_placed : (row : Row) (xs : List Row) → InPreorder xs → HasNoRow row.path xs → InPreorder (placed row xs)
ordered_placed row [] o n = (tt, tt)
ordered_placed row (x ∷ xs) o n = ordered_case row x xs (precedes row.path x.path) refl o n.0 (ordered_placed row xs o.1 n.1)

none_case : (p : List Bool) (row x : Row) (xs : List Row) (b : Bool) → row.path ≢ p → HasNoRow p (x ∷ xs) → HasNoRow p (placed row xs)
    → HasNoRow p (cond b (row ∷ x ∷ xs) (x ∷ placed row xs))
none_case p row x xs true h a r = (h, a)
none_case p row x xs false h a r = (a.0, r)

pub none_placed : (p : List Bool) (row : Row) (xs : List Row) → row.path ≢ p → HasNoRow p xs → HasNoRow p (placed row xs)
none_placed p row [] h a = (h, tt)
none_placed p row (x ∷ xs) h a = none_case p row x xs (precedes row.path x.path) h a (none_placed p row xs h a.1)

-- What was new still is, behind a row at another path.
pub new_placed : (row : Row) (kept rows : List Row) → HasNoRow row.path rows → AreNew kept rows → AreNew (placed row kept) rows
new_placed row kept [] h n = tt
new_placed row kept (y ∷ ys) h n = (none_placed y.path row kept (turned y.path row.path h.0) n.0, new_placed row kept ys h.1 n.1)

-- ---- The place is behind the rows that stand before the path

pub split_placed : (row : Row) (xs : List Row) (i : ℕ) → IsSplit row.path xs i → HasNoRow row.path xs → insert xs i row ≡ placed row xs
split_placed row [] zero s n = refl
split_placed row (x ∷ xs) zero s n = sym (placed_case row x xs true (or_back x.path row.path s.0 (turned x.path row.path n.0)))
split_placed row [] (suc i) s n = absurd s
split_placed row (x ∷ xs) (suc i) s n =
    ap (λ (ws : List Row). x ∷ ws) (split_placed row xs i s.1 n.1) ∙ sym (placed_case row x xs false (not_back x.path row.path s.0))

behind_at : (p : List Bool) (xs : List Row) (j : ℕ) (d : Row) → AllBehind p xs → j < length xs → IsTrue (precedes p (slice_index_or xs j d).path)
behind_at p [] j d b l = absurd (omega (arith, l))
behind_at p (x ∷ xs) zero d b l = b.0
behind_at p (x ∷ xs) (suc j) d b l = behind_at p xs j d b.1 (omega (arith, l))

-- The rows before a path come first.
pub parted : (p : List Bool) (xs : List Row) → InPreorder xs → IsPartitionedBy (λ row. precedes row.path p) xs
parted p [] o i j d le l t = absurd (omega (arith, l))
parted p (x ∷ xs) o zero zero d le l t = t
parted p (x ∷ xs) o zero (suc j) d le l t = precedes_trans x.path (slice_index_or xs j d).path p (behind_at x.path xs j d o.0 (omega (arith, l))) t
parted p (x ∷ xs) o (suc i) zero d le l t = absurd (omega (arith, le))
parted p (x ∷ xs) o (suc i) (suc j) d le l t = parted p xs o.1 i j d (omega (arith, le)) (omega (arith, l)) t

none_from : (p : List Bool) (xs : List Row) → ((k : ℕ) (d : Row) → k < length xs → precedes (slice_index_or xs k d).path p ≡ false) → NoneBefore p xs
none_from p [] h = tt
none_from p (x ∷ xs) h = (h 0 x (omega arith), none_from p xs (λ k d l. h (suc k) d (omega (arith, l))))

pub split_from : (p : List Bool) (xs : List Row) (i : ℕ) → i ≤ length xs
    → IsPartitionPoint (λ (row : Row). precedes row.path p ≡ true) (λ (row : Row). precedes row.path p ≡ false) xs i → IsSplit p xs i
split_from p xs zero l h = none_from p xs (λ k d k_in. h.1 k d (omega arith) k_in)
split_from p [] (suc i) l h = absurd (omega (arith, l))
split_from p (x ∷ xs) (suc i) l h = (
  h.0 0 x (omega arith) (omega arith),
  split_from p xs i (omega (arith, l)) ((λ k d a b. h.0 (suc k) d (omega arith) (omega (arith, b))), (λ k d a b. h.1 (suc k) d (omega (arith, a)) (omega (arith, b)))),
)

-- ---- Rows placed one by one, from a list that is used up from its end

pub popped_last : (rows : List Row) (row : Row) (rest : List Row) → rows ≡ rest ++ row ∷ [] → reverse rows ≡ row ∷ reverse rest
popped_last rows row rest e = ap reverse e ∙ reverse-append rest (row ∷ [])
