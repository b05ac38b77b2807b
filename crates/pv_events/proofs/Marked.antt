-- What an event does to the marks of issued paths.
use Rattle.std.proofs.Common.{◌≡◌, ◌⊎◌, ℕ, zero, suc, ◌<◌, ◌≤◌, Bool, List, ◌++◌, map, take, length, refl, sym, ◌∙◌, ap, arith, inl, inr}
use Rattle.pv_tree.specs.Trees.{Tree, opens}
use Rattle.pv_board.specs.declared.mark.Mark.{Mark}
use Rattle.pv_board.specs.Marks.{weigh, at, holds, marked, issued, granted}
use Rattle.pv_board.specs.Events.{fresh, leaves_at}
use Rattle.pv_board.proofs.Paths.{at_self, at_same, weigh-map, weigh-ones}
use Rattle.pv_board.proofs.Marked.{unmarked}
use Rattle.pv_board.proofs.Filling.{take_weigh}
use Rattle.pv_board.proofs.Growth.{zero_low}

-- two paths are apart or the same
pub meet : (p q : List Bool) → (at p q 1 ≡ 0) ⊎ (p ≡ q)
meet p q = go (at p q 1) refl
  where
    go : (n : ℕ) → at p q 1 ≡ n → (at p q 1 ≡ 0) ⊎ (p ≡ q)
    go zero e = inl e
    go (suc n) e = inr (at_same p q 1 (omega (arith, e)))

pub at_is : (p q : List Bool) (n : ℕ) → p ≡ q → at p q n ≡ n
at_is p q n e = ap (λ (r : List Bool). at p r n) (sym e) ∙ at_self p n

-- a path that holds units has a mark
pub held_marked : (ms : List Mark) (q : List Bool) → 0 < holds ms q → 0 < marked ms q
held_marked ms q h = go (marked ms q) refl
  where
    go : (n : ℕ) → marked ms q ≡ n → 0 < marked ms q
    go zero e = let z = unmarked ms q e in absurd (omega (arith, z, h))
    go (suc n) e = omega (arith, e)

-- the marks of children: no grants, and no more than the leaves
module _ (p : List Bool) (s : Tree) (n : ℕ) (children : List Mark) (first : children ≡ map fresh (take n (leaves_at p s))) where
  pub children_marked : (q : List Bool) → marked children q ≤ weigh (λ r. at (p ++ r) q 1) (opens s)
  children_marked q =
      let e : marked children q ≡ marked (map fresh (take n (leaves_at p s))) q = ap (λ (ms : List Mark). marked ms q) first in
      let m = weigh-map (λ (m : Mark). at m.path q 1) fresh (take n (leaves_at p s)) in
      let t = take_weigh (λ (r : List Bool). at r q 1) n (leaves_at p s) in
      let l = weigh-map (λ (r : List Bool). at r q 1) (λ (r : List Bool). p ++ r) (opens s) in
      omega (arith, e, m, t, l)

  pub children_hold : (q : List Bool) → holds children q ≡ marked children q
  children_hold q =
      let e : marked children q ≡ marked (map fresh (take n (leaves_at p s))) q = ap (λ (ms : List Mark). marked ms q) first in
      let h : holds children q ≡ holds (map fresh (take n (leaves_at p s))) q = ap (λ (ms : List Mark). holds ms q) first in
      let m = weigh-map (λ (m : Mark). at m.path q 1) fresh (take n (leaves_at p s)) in
      let k = weigh-map (λ (m : Mark). at m.path q (suc m.grant)) fresh (take n (leaves_at p s)) in
      omega (arith, e, h, m, k)

  pub children_granted : granted children ≡ 0
  children_granted =
      let e : granted children ≡ granted (map fresh (take n (leaves_at p s))) = ap granted first in
      let m = weigh-map (λ (m : Mark). m.grant) fresh (take n (leaves_at p s)) in
      let z = zero_low (take n (leaves_at p s)) in
      omega (arith, e, m, z)

pub children_issued : (children : List Mark) → issued children ≡ length children
children_issued children = weigh-ones children
