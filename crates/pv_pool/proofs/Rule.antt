-- Each step of a deque keeps its rule.
use Rattle.std.proofs.Common.{◌≡◌, ℕ, zero, suc, ◌+◌, ◌-◌, ◌<◌, ◌≤◌, ◌≢◌, List, [], ◌∷◌, ◌++◌, length, set, refl, sym, ap, ◌∙◌, subst, inl, inr, ⊎_elim, sum_by, length-append, arith}
use Rattle.std.proofs.lemmas.List.Sums.{sum_by-cons, sum_by-append}
use mathlib.Core.Option.{some, some-ne-none, some-injective}
use lib.ListN.{get_elem?}
use Rattle.crossbeam_deque.specs.Tasks.{Pushes, Takes, Pops, Finds, FindsFew, Forks, Merges}
use Rattle.crossbeam_deque.proofs.Lists.{at_set, at_snoc}
use Rattle.pv_pool.specs.declared.deque.Hand.{Hand}
use Rattle.pv_pool.specs.Hands.{SameBag, hand, parts_of, pushed_of, taken_of, IdleIsEmpty, Balanced}
use Rattle.pv_pool.proofs.HandSums.{sum_set, sum_snoc, sum_one, others_none, ones}

module _ {J : Type 0} where
  idle_set : (views : List (Hand J)) (port : ℕ) (w : Hand J) → (w.parts ≡ 0 → (w.pushed ≡ []) × (w.taken ≡ [])) → IdleIsEmpty views → IdleIsEmpty (set views port w)
  idle_set views port w mine idle j v at none = ⊎_elim (λ (x : (j ≡ port) × (w ≡ v)). subst (λ (u : Hand J). (u.pushed ≡ []) × (u.taken ≡ [])) x.1 (mine (ap parts_of x.1 ∙ none)))
      (λ (x : (j ≢ port) × (get_elem? views j ≡ some v)). idle j v x.1 none) (at_set views port j w v at)

  idle_snoc : (views : List (Hand J)) (w : Hand J) → (w.parts ≡ 0 → (w.pushed ≡ []) × (w.taken ≡ [])) → IdleIsEmpty views → IdleIsEmpty (views ++ w ∷ [])
  idle_snoc views w mine idle j v at none = ⊎_elim (λ (x : get_elem? views j ≡ some v). idle j v x none)
      (λ (x : w ≡ v). subst (λ (u : Hand J). (u.pushed ≡ []) × (u.taken ≡ [])) x (mine (ap parts_of x ∙ none))) (at_snoc views w v j at)

  pub pushes : (port : ℕ) (v : Hand J) (xs : List J) → 0 < v.parts → Pushes Balanced port v xs (λ w. w ≡ hand v.parts (v.pushed ++ xs) v.taken)
  pushes port v xs some_part items views b at =
      let w : Hand J = hand v.parts (v.pushed ++ xs) v.taken in (
        w,
        (
          (let s = sum_set parts_of views port v w at in let p = b.0 in omega arith),
          (λ h.
              let s = sum_set (pushed_of h) views port v w at in
              let t = sum_set (taken_of h) views port v w at in
              let p = b.1 h in
              omega (arith, sum_by-append h v.pushed xs, sum_by-append h items xs)),
          idle_set views port w (λ none. absurd (omega arith)) b.2,
        ),
        refl,
      )

  pub takes : (port : ℕ) (v : Hand J) (most : ℕ) → 0 < v.parts → Takes Balanced port v most (λ xs w. w ≡ hand v.parts v.pushed (v.taken ++ xs))
  takes port v most some_part xs items views _ _ b at =
      let w : Hand J = hand v.parts v.pushed (v.taken ++ xs) in (
        w,
        (
          (let s = sum_set parts_of views port v w at in let p = b.0 in omega arith),
          (λ h.
              let s = sum_set (pushed_of h) views port v w at in
              let t = sum_set (taken_of h) views port v w at in
              let p = b.1 h in
              omega (arith, sum_by-append h v.taken xs, sum_by-append h xs items)),
          idle_set views port w (λ none. absurd (omega arith)) b.2,
        ),
        refl,
      )

  -- what the pass with all parts knows
  whole_law : (items : List J) (views : List (Hand J)) (port : ℕ) (v : Hand J) → Balanced items views → get_elem? views port ≡ some v → v.parts ≡ 16
      → (h : J → ℕ) → sum_by h v.pushed ≡ sum_by h v.taken + sum_by h items
  whole_law items views port v b at whole h =
      let alone : sum_by parts_of views ≡ parts_of v = b.0 ∙ sym whole in
      let idle : (j : ℕ) (w : Hand J) → j ≢ port → get_elem? views j ≡ some w → (w.pushed ≡ []) × (w.taken ≡ []) =
      λ j w other there. b.2 j w there (others_none parts_of views port v at alone j w other there) in
      let p = sum_one (pushed_of h) views port v at (λ j w other there. ap (sum_by h) (idle j w other there).0) in
      let t = sum_one (taken_of h) views port v at (λ j w other there. ap (sum_by h) (idle j w other there).1) in
      let s = b.1 h in
      omega arith

  pub pops : (port : ℕ) (v : Hand J) → 0 < v.parts → Pops Balanced port v (λ xs w. (w ≡ hand v.parts v.pushed (v.taken ++ xs)) × (v.parts ≡ 16 → length w.taken ≤ length w.pushed))
  pops port v some_part x items views b at =
      let w : Hand J = hand v.parts v.pushed (v.taken ++ x ∷ []) in (
        w,
        (
          (let s = sum_set parts_of views port v w at in let p = b.0 in omega arith),
          (λ h.
              let s = sum_set (pushed_of h) views port v w at in
              let t = sum_set (taken_of h) views port v w at in
              let p = b.1 h in
              omega (arith, sum_by-append h v.taken (x ∷ []), sum_by-append h items (x ∷ []))),
          idle_set views port w (λ none. absurd (omega arith)) b.2,
        ),
        (
          refl,
          λ whole.
              let law = whole_law (items ++ x ∷ []) views port v b at whole (λ _. 1) in
              let p = ones v.pushed in
              let t = ones v.taken in
              let i = ones (items ++ x ∷ []) in
              omega (arith, length-append v.taken (x ∷ []), length-append items (x ∷ [])),
        ),
      )

  -- the pass with all parts alone has pushed and taken
  pub empties : (port : ℕ) (v : Hand J) → Finds Balanced port v (v.parts ≡ 16 → SameBag v.pushed v.taken)
  empties port v views b at whole h =
      let law = whole_law [] views port v b at whole h in
      let none : sum_by h [] ≡ 0 = refl in
      omega arith

  -- where one job is left at most, it has taken all but one of those that it pushed
  pub empties_but_one : (most port : ℕ) (v : Hand J) → most ≤ 1 → FindsFew Balanced most port v (v.parts ≡ 16 → length v.pushed ≤ length v.taken + 1)
  empties_but_one most port v few items views short b at whole =
      let law = whole_law items views port v b at whole (λ _. 1) in
      let p = ones v.pushed in
      let t = ones v.taken in
      let i = ones items in
      omega (arith, few, short)

  pub forks : (port : ℕ) (v : Hand J) → 1 < v.parts → Forks Balanced port v (hand (v.parts - 1) v.pushed v.taken) (hand 1 [] [])
  forks port v two_parts items views b at =
      let l : Hand J = hand (v.parts - 1) v.pushed v.taken in
      let r : Hand J = hand 1 [] [] in
      let vs : List (Hand J) = set views port l in (
        (let s = sum_set parts_of views port v l at in let p = b.0 in omega (arith, sum_snoc parts_of vs r)),
        (λ h.
            let s = sum_set (pushed_of h) views port v l at in
            let t = sum_set (taken_of h) views port v l at in
            let p = b.1 h in
            omega (arith, sum_snoc (pushed_of h) vs r, sum_snoc (taken_of h) vs r)),
        idle_snoc vs r (λ none. absurd (omega arith)) (idle_set views port l (λ none. absurd (omega arith)) b.2),
      )

  pub merges : (port : ℕ) (v : Hand J) (other : ℕ) (u : Hand J) → 0 < v.parts
      → Merges Balanced port v other u (hand (v.parts + u.parts) (v.pushed ++ u.pushed) (v.taken ++ u.taken)) (hand 0 [] [])
  merges port v other u some_part items views b at apart at' =
      let w : Hand J = hand (v.parts + u.parts) (v.pushed ++ u.pushed) (v.taken ++ u.taken) in
      let z : Hand J = hand 0 [] [] in
      let vs : List (Hand J) = set views port w in (
        (let s = sum_set parts_of views port v w at in let s' = sum_set parts_of vs other u z at' in let p = b.0 in omega arith),
        (λ h.
            let s = sum_set (pushed_of h) views port v w at in
            let s' = sum_set (pushed_of h) vs other u z at' in
            let t = sum_set (taken_of h) views port v w at in
            let t' = sum_set (taken_of h) vs other u z at' in
            let p = b.1 h in
            omega (arith, sum_by-append h v.pushed u.pushed, sum_by-append h v.taken u.taken)),
        idle_set vs other z (λ _. (refl, refl)) (idle_set views port w (λ none. absurd (omega arith)) b.2),
      )
