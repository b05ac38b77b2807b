-- What stays of the thieves of a worker while they steal.
use Rattle.std.proofs.Common.{◌≡◌, ℕ, zero, suc, ◌+◌, ◌<◌, ◌≤◌, ◌≢◌, List, [], ◌∷◌, length, get_or, set, refl, sym, ap, ◌∙◌, subst, sum_by, length-set, get_or-set_same, get_or-set_other, arith}
use Rattle.std.proofs.lemmas.List.Sums.{sum_by-set}
use mathlib.Core.Logic.{dite}
use native.Mathlib.Decide.{ℕ_discrete}
use Rattle.pv_pool.specs.declared.deque.Hand.{Hand}
use Rattle.pv_pool.specs.declared.deque.Thief.{Thief}
use Rattle.pv_pool.specs.Benches.{reach, stolen_by, HasTried, MaySteal, SameThief, SameThieves}

module _ {J : Type 0} where
  pub thief_refl : (t : Thief J) → SameThief t t
  thief_refl t = record { number = refl; deque = refl; parts = refl; pushed = refl }

  pub thief_trans : (a b c : Thief J) → SameThief a b → SameThief b c → SameThief a c
  thief_trans a b c p q = record { number = q.number ∙ p.number; deque = q.deque ∙ p.deque; parts = q.parts ∙ p.parts; pushed = q.pushed ∙ p.pushed }

  pub thieves_refl : (ts : List (Thief J)) → SameThieves ts ts
  thieves_refl ts = record { count = refl; each = λ i d _. thief_refl (get_or ts i d) }

  pub thieves_trans : (xs ys zs : List (Thief J)) → SameThieves xs ys → SameThieves ys zs → SameThieves xs zs
  thieves_trans xs ys zs p q = record {
    count = q.count ∙ p.count;
    each = λ i d k. thief_trans (get_or xs i d) (get_or ys i d) (get_or zs i d) (p.each i d k) (q.each i d (subst (λ n. i < n) (sym p.count) k));
  }

  -- one of them stole
  pub thieves_set : (xs ys : List (Thief J)) (i : ℕ) (t : Thief J) → SameThieves xs ys → i < length xs → ((d : Thief J) → SameThief (get_or ys i d) t) → SameThieves xs (set ys i t)
  thieves_set xs ys i t p within now = record {
    count = length-set ys i t ∙ p.count;
    each = λ j d k. dite (ℕ_discrete j i)
        (λ (e : j ≡ i).
        subst (λ n. SameThief (get_or xs n d) (get_or (set ys i t) n d)) (sym e)
        (subst (λ (x : Thief J). SameThief (get_or xs i d) x) (sym (get_or-set_same ys i t d (subst (λ n. i < n) (sym p.count) within)))
        (thief_trans (get_or xs i d) (get_or ys i d) t (p.each i d within) (now d))))
        (λ (n : j ≢ i). subst (λ (x : Thief J). SameThief (get_or xs j d) x) (sym (get_or-set_other ys i j t d n)) (p.each j d k));
  }

  pub still_steal : (xs ys : List (Thief J)) → MaySteal xs → SameThieves xs ys → MaySteal ys
  still_steal xs ys may p i d k =
      let within : i < length xs = subst (λ n. i < n) p.count k in
      subst (λ n. 0 < n) (sym (p.each i d within).parts) (may i d within)

  pub stolen_set : (ts : List (Thief J)) (i : ℕ) (t : Thief J) (count : ℕ) → i < length ts → ((d : Thief J) → stolen_by t ≡ stolen_by (get_or ts i d) + count)
      → sum_by stolen_by (set ts i t) ≡ sum_by stolen_by ts + count
  stolen_set ts i t count within more =
      let s = sum_by-set stolen_by ts i t t within in
      let m = more t in
      omega arith

  -- the first so many of them tried in vain, and the others are as they were
  pub record TriedSo (done : ℕ) (olds news : List (Thief J)) : Type 0 where
    pub tried : (i : ℕ) (d : Thief J) → i < done → HasTried (get_or olds i d) (get_or news i d)
    pub rest : (i : ℕ) (d : Thief J) → done ≤ i → get_or news i d ≡ get_or olds i d

  pub none_tried : (ts : List (Thief J)) → TriedSo 0 ts ts
  none_tried ts = record { tried = λ i d l. absurd (omega (arith, l)); rest = λ i d _. refl }

  -- one more tried
  pub one_tried : (xs ys : List (Thief J)) (i : ℕ) (t : Thief J) → TriedSo i xs ys → i < length ys → ((d : Thief J) → HasTried (get_or ys i d) t)
      → TriedSo (i + 1) xs (set ys i t)
  one_tried xs ys i t so within now = record {
    tried = λ j d k. dite (ℕ_discrete j i)
        (λ (e : j ≡ i).
        subst (λ n. HasTried (get_or xs n d) (get_or (set ys i t) n d)) (sym e)
        (subst (λ (x : Thief J). HasTried (get_or xs i d) x) (sym (get_or-set_same ys i t d within))
        (subst (λ (x : Thief J). HasTried x t) (so.rest i d (omega arith)) (now d))))
        (λ (n : j ≢ i). subst (λ (x : Thief J). HasTried (get_or xs j d) x) (sym (get_or-set_other ys i j t d n)) (so.tried j d (omega (arith, k, n))));
    rest = λ j d k. let n : j ≢ i = λ (e : j ≡ i). omega (arith, e, k) in get_or-set_other ys i j t d n ∙ so.rest j d (omega (arith, k));
  }
