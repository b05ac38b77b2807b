-- The sizes of expanded expressions, by the places of their parts.
use Rattle.std.proofs.Common.{◌≡◌, ◌≢◌, ℕ, zero, suc, ◌+◌, ◌*◌, ◌<◌, ◌≤◌, List, [], ◌∷◌, ◌++◌, get_or, set, get_or-set_same, get_or-set_other, length, replicate, refl, ap, sym, subst, ◌∙◌, inl, inr, arith}
use Rattle.std.specs.Prelude.{max, min}
use Rattle.std.proofs.lemmas.Bool.{cases_lt}
use Rattle.std.proofs.lemmas.List.{get_or_past, get_or-replicate}
use Rattle.pv_expr.specs.Terms.{Term, constant, place, one, two, node_count, depth_of}
use Rattle.pv_code.specs.declared.measure.Measure.{Measure}
use Rattle.pv_code.specs.declared.measure.Place.{Place}
use Rattle.pv_code.specs.declared.expand.Function.{Function}
use Rattle.pv_code.specs.Expansion.{Meaning, argument, meaning_of, nothing}
use Rattle.pv_code.specs.Sizes as Sizes
use Rattle.pv_code.specs.Sizes.{cut, total, nodes_in, depth_in, end_of, moved, nowhere, beside, within, IsSize, IsSizeOf, IsMeasured, AreMeasured}

-- ---- Counts that stop

same-sum : (a b c d : ℕ) → cut a ≡ cut b → cut c ≡ cut d → cut (a + c) ≡ cut (b + d)
same-sum a b c d e f = omega arith

same-max : (a b c d : ℕ) → cut a ≡ cut b → cut c ≡ cut d → cut (max a c) ≡ cut (max b d)
same-max a b c d e f = omega arith

same-product : (a b u : ℕ) → cut a ≡ cut b → cut (a * u) ≡ cut (b * u)
same-product a b zero e = omega arith
same-product a b (suc u) e =
    let more = same-sum (a * u) (b * u) a b (same-product a b u e) e in
    let left : a * suc u ≡ a * u + a = omega arith in
    let right : b * suc u ≡ b * u + b = omega arith in
    ap cut left ∙ more ∙ ap cut (sym right)

-- ---- Totals

total-cut : (f : ℕ → ℕ → ℕ) (g h : ℕ → ℕ) → ((a b c d : ℕ) → cut a ≡ cut b → cut c ≡ cut d → cut (f a c) ≡ cut (f b d)) →
    (n : ℕ) → ((k : ℕ) → k < n → cut (g k) ≡ cut (h k)) → cut (total f g n) ≡ cut (total f h n)
unfolding Sizes.total
total-cut f g h same zero e = refl
total-cut f g h same (suc n) e = same _ _ _ _ (total-cut f g h same n (λ k l. e k (omega (arith, l)))) (e n (omega arith))

total-both : (f : ℕ → ℕ → ℕ) (g h : ℕ → ℕ) → f 0 0 ≡ 0 → ((a b c d : ℕ) → f (f a b) (f c d) ≡ f (f a c) (f b d)) →
    (n : ℕ) → total f (λ k. f (g k) (h k)) n ≡ f (total f g n) (total f h n)
unfolding Sizes.total
total-both f g h none swap zero = sym none
total-both f g h none swap (suc n) = ap (λ z. f z (f (g n) (h n))) (total-both f g h none swap n) ∙ swap (total f g n) (total f h n) (g n) (h n)

total-each : (f : ℕ → ℕ → ℕ) (s g : ℕ → ℕ) → s 0 ≡ 0 → ((a b : ℕ) → s (f a b) ≡ f (s a) (s b)) →
    (n : ℕ) → total f (λ k. s (g k)) n ≡ s (total f g n)
unfolding Sizes.total
total-each f s g none over zero = sym none
total-each f s g none over (suc n) = ap (λ z. f z (s (g n))) (total-each f s g none over n) ∙ sym (over (total f g n) (g n))

total-none : (f : ℕ → ℕ → ℕ) (g : ℕ → ℕ) → f 0 0 ≡ 0 → (n : ℕ) → ((k : ℕ) → k < n → g k ≡ 0) → total f g n ≡ 0
unfolding Sizes.total
total-none f g none zero h = refl
total-none f g none (suc n) h = ap (λ z. f z (g n)) (total-none f g none n (λ k l. h k (omega (arith, l)))) ∙ ap (f 0) (h n (omega arith)) ∙ none

total-one : (f : ℕ → ℕ → ℕ) (g : ℕ → ℕ) → ((x : ℕ) → f x 0 ≡ x) → ((x : ℕ) → f 0 x ≡ x) →
    (n i : ℕ) → i < n → ((k : ℕ) → k ≢ i → g k ≡ 0) → total f g n ≡ g i
unfolding Sizes.total
total-one f g right left zero i l h = absurd (omega arith)
total-one f g right left (suc n) i l h = elim (cases_lt i n) [
  | inl less ↦
      ap (f (total f g n)) (h n (λ same. omega (arith, same, less))) ∙ right (total f g n) ∙ total-one f g right left n i less h
  | inr most ↦
      let same : i ≡ n = omega (arith, l, most) in
      ap (λ z. f z (g n)) (total-none f g (left 0) n (λ k m. h k (λ q. omega (arith, q, m, same)))) ∙ left (g n) ∙ ap g (sym same)
]

-- ---- Depths

depth_pos : (t : Term) → 1 ≤ depth_of t
depth_pos (constant p q) = omega arith
depth_pos (place i) = omega arith
depth_pos (one u t) = omega arith
depth_pos (two b t u) = omega arith

end-max : (a b d : ℕ) → end_of (max a b) d ≡ max (end_of a d) (end_of b d)
end-max a b d = grind arith

-- where something ends within what is at a place
abbrev shifted : ℕ → ℕ → ℕ
shifted zero x = 0
shifted (suc above) zero = 0
shifted (suc above) (suc x) = suc x + above

shifted-max : (r a b : ℕ) → shifted r (max a b) ≡ max (shifted r a) (shifted r b)
shifted-max r a b = grind arith

end-moved : (r a d : ℕ) → 1 ≤ d → cut (end_of (moved r a) d) ≡ cut (shifted r (end_of a d))
end-moved r a d h = grind arith

shifted-end : (r x d : ℕ) → 1 ≤ d → cut d ≡ cut x → cut (shifted r x) ≡ cut (end_of r d)
shifted-end r x d h e = grind arith

-- ---- One part more

with-nodes : (a b u n : ℕ) → cut (cut (a + cut (b * u)) * n) ≡ cut (a * n + (b * n) * u)
with-nodes a b u n = same-product (cut (a + cut (b * u))) (a + b * u) n (let c : cut (a + cut (b * u)) ≡ cut (a + b * u) = omega arith in omega (arith, c)) ∙ ap cut (omega arith)

pub with-size : (m o r : Measure) (at : Place) (args : List Term) (nodes depth : ℕ) (t : Term) →
    ((k : ℕ) → k < 13 → get_or r.places k nowhere ≡ beside (get_or m.places k nowhere) (within (get_or o.places k nowhere) at)) →
    IsSizeOf m args nodes depth → IsSize o args t → IsSizeOf r args (nodes + node_count t * at.uses) (max depth (end_of at.reach (depth_of t)))
with-size m o r at args nodes depth t e s part =
    let size : ℕ → ℕ = λ (k : ℕ). node_count (argument args k) in
    let deep : ℕ → ℕ = λ (k : ℕ). depth_of (argument args k) in
    let own : ℕ → Place = λ (k : ℕ). get_or m.places k nowhere in
    let other : ℕ → Place = λ (k : ℕ). get_or o.places k nowhere in
    record {
      nodes_are =
          same-sum _ _ _ _ s.nodes_are (same-product _ _ at.uses part.nodes_are)
          ∙ ap (λ z. cut (nodes_in 13 m.places args + z)) (sym (total-each (λ a b. a + b) (λ x. x * at.uses) (λ k. (other k).uses * size k) (omega arith) (λ a b. omega arith) 13))
          ∙ ap cut (sym (total-both (λ a b. a + b) (λ k. (own k).uses * size k) (λ k. ((other k).uses * size k) * at.uses) refl (λ a b c d. omega arith) 13))
          ∙ sym (total-cut (λ a b. a + b) (λ k. (get_or r.places k nowhere).uses * size k) (λ k. (own k).uses * size k + ((other k).uses * size k) * at.uses) same-sum 13
          (λ k l. ap (λ (p : Place). cut (p.uses * size k)) (e k l) ∙ with-nodes (own k).uses (other k).uses at.uses (size k)));
      depth_is =
          same-max _ _ _ _ s.depth_is (sym (shifted-end at.reach (depth_in 13 o.places args) (depth_of t) (depth_pos t) part.depth_is))
          ∙ ap (λ z. cut (max (depth_in 13 m.places args) z)) (sym (total-each (λ a b. max a b) (shifted at.reach) (λ k. end_of (other k).reach (deep k)) (shifted-none at.reach) (shifted-max at.reach) 13))
          ∙ ap cut (sym (total-both (λ a b. max a b) (λ k. end_of (own k).reach (deep k)) (λ k. shifted at.reach (end_of (other k).reach (deep k))) refl (λ a b c d. omega arith) 13))
          ∙ sym (total-cut (λ a b. max a b) (λ k. end_of (get_or r.places k nowhere).reach (deep k)) (λ k. max (end_of (own k).reach (deep k)) (shifted at.reach (end_of (other k).reach (deep k)))) same-max 13
          (λ k l. ap (λ (p : Place). cut (end_of p.reach (deep k))) (e k l) ∙ ap cut (end-max (own k).reach (moved at.reach (other k).reach) (deep k))
          ∙ same-max _ _ _ _ refl (end-moved at.reach (other k).reach (deep k) (depth_pos (argument args k)))));
    }
  where
    shifted-none : (r : ℕ) → shifted r 0 ≡ 0
    shifted-none zero = refl
    shifted-none (suc r) = refl

pub size-as : (m : Measure) (args : List Term) (n d n' d' : ℕ) → IsSizeOf m args n d → n ≡ n' → d ≡ d' → IsSizeOf m args n' d'
size-as m args n d n' d' s e f = record { nodes_are = ap cut (sym e) ∙ s.nodes_are; depth_is = ap cut (sym f) ∙ s.depth_is }

-- ---- Parts alone

abbrev root : Place
root = record { uses = 1; reach = 1 }

parameter-size : (args : List Term) (m : Measure) (i : ℕ) → m.places ≡ set (replicate 13 nowhere) i root → i < 13 → IsSize m args (argument args i)
parameter-size args m i is l =
    let here : get_or m.places i nowhere ≡ root = ap (λ (z : List Place). get_or z i nowhere) is ∙ get_or-set_same (replicate 13 nowhere) i root nowhere l in
    let other : (k : ℕ) → k ≢ i → get_or m.places k nowhere ≡ nowhere = λ k o. ap (λ (z : List Place). get_or z k nowhere) is ∙ get_or-set_other (replicate 13 nowhere) i k root nowhere o ∙ none-at 13 k in
    record {
      nodes_are =
          sym (ap cut (total-one (λ a b. a + b) (λ k. (get_or m.places k nowhere).uses * node_count (argument args k)) (λ x. omega arith) (λ x. omega arith) 13 i l
          (λ k o. ap (λ (p : Place). p.uses * node_count (argument args k)) (other k o) ∙ omega arith)
          ∙ ap (λ (p : Place). p.uses * node_count (argument args i)) here ∙ omega arith));
      depth_is =
          sym (ap cut (total-one (λ a b. max a b) (λ k. end_of (get_or m.places k nowhere).reach (depth_of (argument args k))) (λ x. omega arith) (λ x. omega arith) 13 i l
          (λ k o. ap (λ (p : Place). end_of p.reach (depth_of (argument args k))) (other k o))
          ∙ ap (λ (p : Place). end_of p.reach (depth_of (argument args i))) here ∙ omega arith));
    }
  where
    none-at : (n k : ℕ) → get_or (replicate n nowhere) k nowhere ≡ nowhere
    none-at zero k = refl
    none-at (suc n) zero = refl
    none-at (suc n) (suc k) = none-at n k

-- a parameter that no function has
pub past : (args : List Term) (i : ℕ) → length args ≤ i → argument args i ≡ nothing
past args i h = get_or_past args i nothing h

pub size-of : (m : Measure) (args : List Term) (t u : Term) → t ≡ u → IsSize m args t → IsSize m args u
size-of m args t u e s = subst (λ (z : Term). IsSize m args z) e s

pub parameter-places : (args : List Term) (m : Measure) (i k : ℕ) → m.places ≡ set (replicate 13 nowhere) k root → k ≡ min i 12 → length args ≤ 12 → IsSize m args (argument args i)
parameter-places args m i k is least few =
    let same : argument args k ≡ argument args i = elim (cases_lt i 12) [
      | inl less ↦ ap (argument args) (let e : k ≡ i = omega (arith, less, least) in e)
      | inr most ↦ past args k (omega (arith, most, least, few)) ∙ sym (past args i (omega (arith, most, few)))
    ] in
    size-of m args _ _ same (parameter-size args m k is (omega (arith, least)))

-- ---- Calls

pub size-none : (m : Measure) (args : List Term) → m.places ≡ replicate 13 nowhere → IsSizeOf m args 0 0
size-none m args is = record {
  nodes_are = sym (ap cut (total-none (λ a b. a + b) (λ k. (get_or m.places k nowhere).uses * node_count (argument args k)) refl 13
      (λ k l. ap (λ (z : List Place). (get_or z k nowhere).uses * node_count (argument args k)) is ∙ ap (λ (p : Place). p.uses * node_count (argument args k)) (get_or-replicate 13 k nowhere nowhere l) ∙ omega arith)));
  depth_is = sym (ap cut (total-none (λ a b. max a b) (λ k. end_of (get_or m.places k nowhere).reach (depth_of (argument args k))) refl 13
      (λ k l. ap (λ (z : List Place). end_of (get_or z k nowhere).reach (depth_of (argument args k))) is ∙ ap (λ (p : Place). end_of p.reach (depth_of (argument args k))) (get_or-replicate 13 k nowhere nowhere l))));
}

pub total-begun : (f : ℕ → ℕ → ℕ) (g : ℕ → ℕ) → 0 ≡ total f g 0
unfolding Sizes.total
total-begun f g = refl

pub nodes-next : (places : List Place) (args : List Term) (i : ℕ) (p : Place) → p ≡ get_or places i nowhere →
    nodes_in i places args + node_count (argument args i) * p.uses ≡ nodes_in (i + 1) places args
unfolding Sizes.total
nodes-next places args i p e =
    let next : suc i ≡ i + 1 = omega arith in
    ap (λ (q : Place). nodes_in i places args + node_count (argument args i) * q.uses) e ∙ omega arith ∙ ap (λ k. nodes_in k places args) next

pub depth-next : (places : List Place) (args : List Term) (i : ℕ) (p : Place) → p ≡ get_or places i nowhere →
    max (depth_in i places args) (end_of p.reach (depth_of (argument args i))) ≡ depth_in (i + 1) places args
unfolding Sizes.total
depth-next places args i p e =
    let next : suc i ≡ i + 1 = omega arith in
    ap (λ (q : Place). max (depth_in i places args) (end_of q.reach (depth_of (argument args i)))) e ∙ ap (λ k. depth_in k places args) next

end-alone : (r : ℕ) → end_of r 1 ≡ r
end-alone zero = refl
end-alone (suc r) = omega arith

pub whole-nodes : (places : List Place) (i : ℕ) (all p r : Place) → r ≡ beside all p → p ≡ get_or places i nowhere → cut all.uses ≡ cut (nodes_in i places []) → cut r.uses ≡ cut (nodes_in (i + 1) places [])
whole-nodes places i all p r e at h =
    let next = nodes-next places [] i p at in
    let is = ap (λ (q : Place). q.uses) e in
    omega (arith, next, is, h)

pub whole-depth : (places : List Place) (i : ℕ) (all p r : Place) → r ≡ beside all p → p ≡ get_or places i nowhere → cut all.reach ≡ cut (depth_in i places []) → cut r.reach ≡ cut (depth_in (i + 1) places [])
whole-depth places i all p r e at h =
    let next = depth-next places [] i p at in
    let is = ap (λ (q : Place). q.reach) e in
    let alone = end-alone p.reach in
    omega (arith, next, is, h, alone)

-- ---- Functions

pub measured-at : (fs : List Function) (ms : List Meaning) (k : ℕ) (d : Function) → AreMeasured fs ms → k < length fs → IsMeasured (get_or fs k d).measure (meaning_of ms k)
measured-at [] [] k d m h = absurd (omega arith)
measured-at (f ∷ fs) (n ∷ ns) zero d m h = m.0
measured-at (f ∷ fs) (n ∷ ns) (suc k) d m h = measured-at fs ns k d m.1 (omega arith)
measured-at fs ms k d m h = absurd m

pub measured-past : (fs : List Function) (ms : List Meaning) (k : ℕ) (inner : List Term) → AreMeasured fs ms → length fs ≤ k → meaning_of ms k inner ≡ nothing
measured-past [] [] k inner m h = refl
measured-past (f ∷ fs) (n ∷ ns) zero inner m h = absurd (omega arith)
measured-past (f ∷ fs) (n ∷ ns) (suc k) inner m h = measured-past fs ns k inner m.1 (omega arith)
measured-past fs ms k inner m h = absurd m

pub measured-more : (fs : List Function) (f : Function) (ms : List Meaning) (m : Meaning) → AreMeasured fs ms → IsMeasured f.measure m → AreMeasured (fs ++ f ∷ []) (ms ++ m ∷ [])
measured-more [] f [] m all last = (last, tt)
measured-more (g ∷ fs) f (n ∷ ns) m all last = (all.0, measured-more fs f ns m all.1 last)
measured-more fs f ns m all last = absurd all
