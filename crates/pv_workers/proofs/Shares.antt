-- A budget that is spent in parts.
use Rattle.std.proofs.Common.{◌≡◌, inl, inr, ℕ, ◌+◌, ◌-◌, ◌≤◌, [], arith}
use Rattle.pv_tree.specs.Trees.{Tree, opens}
use Rattle.pv_board.specs.Rules.{settled_in}
use Rattle.pv_workers.specs.Pavings.{IsSpent}

-- no part is exceeded
pub part_most : (part : ℕ) (m t : Tree) → IsSpent part m t → settled_in t ≤ settled_in m + part
part_most part m t (inl e) = omega (arith, e)
part_most part m t (inr h) = h.1

-- the last part
pub last_part : (part left budget : ℕ) (o m t : Tree) → IsSpent part m t → settled_in m + left ≡ settled_in o + budget → part ≤ left → left - part ≡ 0 → IsSpent budget o t
last_part part left budget o m t (inl e) n few z = inl (omega (arith, e, n, few, z))
last_part part left budget o m t (inr h) n few z = let s = h.1 in inr (h.0, omega (arith, s, n, few, z))

-- a part after which no leaf is open
pub done_part : (part left budget : ℕ) (o m t : Tree) → IsSpent part m t → settled_in m + left ≡ settled_in o + budget → part ≤ left → opens t ≡ [] → IsSpent budget o t
done_part part left budget o m t h n few none = let s = part_most part m t h in inr (none, omega (arith, s, n, few))

-- a part after which a leaf is open
pub more_parts : (part left budget : ℕ) (o m t : Tree) → IsSpent part m t → settled_in m + left ≡ settled_in o + budget → part ≤ left → (opens t ≡ [] → ⊥) → settled_in t + (left - part) ≡ settled_in o + budget
more_parts part left budget o m t (inl e) n few some = omega (arith, e, n, few)
more_parts part left budget o m t (inr h) n few some = absurd (some h.0)
