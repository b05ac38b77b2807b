-- What a run of the pool does to the numbers.
use Rattle.std.proofs.Common.{◌≡◌, ℕ, ◌+◌, ◌*◌, ◌^◌, ◌<◌, ◌≤◌, List, length, get_or, ap, ◌∙◌, sym, subst, sum_by, ⊎_elim, inl, inr, arith}
use Rattle.pv_pool.specs.declared.bench.Bench.{Bench}
use Rattle.pv_pool.specs.Counting.{Numbers, after_returns, Ended, IsThrough, HasServed}
use Rattle.pv_pool.specs.Benches.{own, put}
use Rattle.pv_pool.specs.Ends.{IsClosed}
use Rattle.pv_pool.proofs.HandSums.{ones}

module _ {J : Type 0} where
  -- no more was left than was pushed
  left_few : (k : ℕ) (bs : List (Bench J)) (d : Bench J) (old new : Numbers) (c : IsClosed k bs d old new) → length c.left ≤ put (get_or bs k d)
  left_few k bs d old new c =
      let b = c.bag (λ (x : J). 1) in
      let p = ones (own (get_or bs k d).owner).pushed in
      let l = ones c.left in
      omega arith

  pub served : (k : ℕ) (bs : List (Bench J)) (d : Bench J) (old mid new : Numbers) (x y q : ℕ) → Ended old mid 0 y 0 q → put (get_or bs k d) ≤ 17 * 2 ^ 63 → IsClosed k bs d mid new → HasServed old new
  served k bs d old mid new x y q e few c =
      let l = left_few k bs d mid new c in
      let g : new.given ≡ mid.given = ap (λ (n : Numbers). n.given) c.numbers in
      let b : new.back ≡ mid.back + length c.left = ap (λ (n : Numbers). n.back) c.numbers in
      let k : new.looks ≡ mid.looks = ap (λ (n : Numbers). n.looks) c.numbers in
      let f : new.ends ≡ mid.ends = ap (λ (n : Numbers). n.ends) c.numbers in
      let p : new.parts ≡ mid.parts = ap (λ (n : Numbers). n.parts) c.numbers in
      let e0 = e.given in let e1 = e.few_given in let e2 = e.back in let e3 = e.few_back in let e4 = e.looks in let e5 = e.few_looks in let e6 = e.ends in
      record {
        parts = p ∙ e.parts;
        given = omega arith;
        few_given = omega arith;
        back = omega arith;
        few_back = omega arith;
        looks = omega arith;
        few_looks = omega arith;
        ends = omega arith;
        through = ⊎_elim (λ (h : old.ends < mid.ends). inl (omega arith)) (λ (h : old.back + old.looks + 2 ^ 63 ≤ mid.back + mid.looks). inr (omega arith)) e.through;
      }
