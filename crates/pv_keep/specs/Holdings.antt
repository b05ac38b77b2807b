-- What is seen of a campaign.
use Rattle.std.specs.Prelude.{ℕ, List, refl}
use Rattle.std.specs.Coded.{Coded, code_by, coded×, coded_ℕ}
use Rattle.pv_interval.specs.Bounds.{Bounds}
use Rattle.pv_tree.specs.Trees.{Tree, Seen}
use Rattle.pv_tree.specs.Codes.{coded_seen}

-- A paving, and how many settled nodes it may have.
pub record Holding : Type 0 where
  pub root : List Bounds
  pub tree : Tree
  pub spare : ℕ
  pub limit : ℕ

abbrev pub seen_of : Holding → Seen
seen_of h = record { root = h.root; tree = h.tree; spare = h.spare }

abbrev pub holding_of : Seen → ℕ → Holding
holding_of p n = record { root = p.root; tree = p.tree; spare = p.spare; limit = n }

abbrev pub coded_holding : Coded Holding
coded_holding = code_by (Seen × ℕ) (coded× coded_seen coded_ℕ) (λ h. (seen_of h, h.limit)) (λ p. holding_of p.0 p.1) (λ _. refl)
