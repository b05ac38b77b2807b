-- What is known stays true.
use Rattle.std.proofs.Common.{◌≡◌, ◌⊎◌, inl, inr, ℕ, ◌+◌, ◌<◌, ◌≤◌, List, length, refl, ap, sym, ◌∙◌, subst, arith, eqb-true}
use Rattle.std.specs.Prelude.{Result, Ok, Err, IfOk, OnErr, Option, Some, Bool, true, false, not, ◌&&◌, ◌||◌, nat_eq}
use Rattle.std.proofs.lemmas.Bool.{cases_lt, cases_eq, true≢false}
use Rattle.pv_interval.specs.Bounds.{Bounds}
use Rattle.pv_box.specs.Boxes.{IsBox}
use Rattle.pv_expr.specs.Terms.{Term, constant, place, one, two}
use Rattle.pv_hc4.specs.Chain.{chain, at}
use Rattle.pv_hc4.specs.Forward.{forward_of}
use Rattle.pv_hc4.specs.Graphs.{IsAnswer}
use Rattle.pv_hc4.specs.Judging.{revised_by, AreChanged}
use Rattle.pv_hc4.specs.declared.judge.Judged.{Judged}
use Rattle.pv_hc4.specs.MarkSets.{is_marked}
use Rattle.pv_hc4.specs.Members.{AreWithin}
use Rattle.pv_hc4.specs.Revise.{Sides, revised}
use Rattle.pv_hc4.specs.Totality.{total_of, divides_well, decided, sure_of}
use Rattle.pv_hc4.specs.declared.judge.Judged.TheVariants.{Sure, Kept, Changed}
use Rattle.pv_hc4.specs.declared.marks.Marks.{Marks}
use Rattle.pv_hc4.specs.declared.revised.Revised.{Revised}
use Rattle.pv_hc4.specs.declared.revised.Revised.TheVariants as done
use Rattle.pv_hc4.proofs.Inherited.{sure-inherited}
use Rattle.pv_hc4.proofs.Whole.{sure-keeps}
use Rattle.pv_hc4.proofs.Within.{revised-within}
use Rattle.pv_ctc.specs.Contracting.{side_at, effects, results, hull_all, q_hull_all}
use Rattle.pv_ctc.specs.Plans.{Plans, union, qinter}
use Rattle.pv_ctc.specs.Facts.{IsClean, Knows, IsPartAt, IsNoted}
use Rattle.pv_ctc.specs.Members.{AllOver}
use Rattle.pv_ctc.specs.Steps.{IsStep, IsSoFar}
use Rattle.pv_ctc.specs.Uses.{has_place, has_variable}
use Rattle.pv_ctc.specs.declared.known.Known.{Known}
use Rattle.pv_ctc.proofs.Locality.{forward_same, or_first, or_second, stays}
use Rattle.pv_ctc.proofs.Marking.{beyond}
use Rattle.pv_ctc.proofs.Shrinking.{over_at, within_length}
use Rattle.pv_ctc.proofs.Turns.{step_kept, step_changed, step_other}
use Rattle.pv_ctc.proofs.Lengths.{answer_length}
use Rattle.pv_ctc.proofs.Narrowing.{contract-lies}

-- ---- the sure test looks at the places of its constraint's variables alone

total_same : (t : Term) (b d : List Bounds) → ((i : ℕ) → has_place i t ≡ true → at b i ≡ at d i) → total_of b t ≡ total_of d t
total_same (constant p q) b d h = refl
total_same (place j) b d h = refl
total_same (one u t) b d h = total_same t b d h
total_same (two o t u) b d h =
    let l = λ (i : ℕ) (k : has_place i t ≡ true). h i (or_first (has_place i t) (has_place i u) k) in
    let r = λ (i : ℕ) (k : has_place i u ≡ true). h i (or_second (has_place i t) (has_place i u) k) in
    ap (λ x. x && (total_of b u && divides_well o (forward_of b u))) (total_same t b d l)
    ∙ ap (λ x. total_of d t && (x && divides_well o (forward_of b u))) (total_same u b d r)
    ∙ ap (λ x. total_of d t && (total_of d u && divides_well o x)) (forward_same u b d r)

pub sure_same : (s : Sides) (b d : List Bounds) → ((i : ℕ) → has_variable i s ≡ true → at b i ≡ at d i) → sure_of s b ≡ sure_of s d
sure_same s b d h =
    let l = λ (i : ℕ) (k : has_place i s.left ≡ true). h i (or_first (has_place i s.left) (has_place i s.right) k) in
    let r = λ (i : ℕ) (k : has_place i s.right ≡ true). h i (or_second (has_place i s.left) (has_place i s.right) k) in
    ap (λ o. decided s.relation (chain o (λ x. chain (forward_of b s.right) (λ y. Some (record { left = x; right = y; total = total_of b s.left && total_of b s.right }))))) (forward_same s.left b d l)
    ∙ ap (λ o. decided s.relation (chain (forward_of d s.left) (λ x. chain o (λ y. Some (record { left = x; right = y; total = total_of b s.left && total_of b s.right }))))) (forward_same s.right b d r)
    ∙ ap (λ t. decided s.relation (chain (forward_of d s.left) (λ x. chain (forward_of d s.right) (λ y. Some (record { left = x; right = y; total = t && total_of b s.right }))))) (total_same s.left b d l)
    ∙ ap (λ t. decided s.relation (chain (forward_of d s.left) (λ x. chain (forward_of d s.right) (λ y. Some (record { left = x; right = y; total = total_of d s.left && t }))))) (total_same s.right b d r)

clean_same : (s : Sides) (b d : List Bounds) → length b ≡ length d → ((i : ℕ) → has_variable i s ≡ true → at b i ≡ at d i) → IsClean s b → IsClean s d
clean_same s b d l h c = record { kept = stays s b d l h c.kept; unsure = sym (sure_same s b d h) ∙ c.unsure }

-- ---- marks

either : (t u : Bool) (P : Type 0) → (t || u) ≡ true → (t ≡ true → P) → (u ≡ true → P) → P
either true u P h f g = f refl
either false u P h f g = g h

-- sure marks go to a box within
sure_part : (n : ℕ) (ss : List Sides) (marks : Marks) (b d : List Bounds) → AllOver n ss → IsBox d → AreWithin d b
    → ((k : ℕ) → k < length ss → is_marked marks k ≡ true → sure_of (side_at ss k) b ≡ true)
    → (k : ℕ) → k < length ss → is_marked marks k ≡ true → sure_of (side_at ss k) d ≡ true
sure_part n ss marks b d o i w h k l m = let v = over_at n ss k o l in sure-inherited n (side_at ss k) d b v.0 v.1 i.intervals w (h k l m)

pub nothing_known : (ss : List Sides) (b : List Bounds) (known : Known) → ((k : ℕ) → is_marked known.sure k ≡ false) → ((k : ℕ) → is_marked known.clean k ≡ false) → Knows ss known b
nothing_known ss b known h i = record {
  sure = λ k l m. absurd (true≢false (sym m ∙ h k));
  clean = λ k l m. absurd (true≢false (sym m ∙ i k));
}

-- a constraint is sure, or clean, and so the box stays
pub settled_keeps : (n : ℕ) (ss : List Sides) (known : Known) (b : List Bounds) (k : ℕ) → AllOver n ss → IsBox b → Knows ss known b → k < length ss
    → (is_marked known.sure k || is_marked known.clean k) ≡ true → revised (side_at ss k) b ≡ Some b
settled_keeps n ss known b k o i h l t =
    either (is_marked known.sure k) (is_marked known.clean k) (revised (side_at ss k) b ≡ Some b) t
    (λ m. let v = over_at n ss k o l in sure-keeps (side_at ss k) n b v.0 v.1 i.intervals (h.sure k l m))
    (λ m. (h.clean k l m).kept)

-- ---- after a revision

pub noted_sure : (ss : List Sides) (known : Known) (more : Marks) (number : ℕ) (b d : List Bounds) → ((k : ℕ) → is_marked more k ≡ (nat_eq number k || is_marked known.sure k))
    → Knows ss known b → IsNoted (side_at ss number) Sure b d → Knows ss (record { sure = more; clean = known.clean }) d
noted_sure ss known more number b d m h n =
    subst (Knows ss (record { sure = more; clean = known.clean })) (sym (step_kept (revised (side_at ss number) b) b d n.step).1)
    (record {
      sure = λ k l e. either (nat_eq number k) (is_marked known.sure k) (sure_of (side_at ss k) b ≡ true) (sym (m k) ∙ e)
          (λ t. subst (λ j. sure_of (side_at ss j) b ≡ true) (eqb-true number k t) (sym n.sure)) (λ t. h.sure k l t);
      clean = h.clean;
    })

pub noted_kept : (ss : List Sides) (known : Known) (more : Marks) (number : ℕ) (b d : List Bounds) → ((k : ℕ) → is_marked more k ≡ (nat_eq number k || is_marked known.clean k))
    → Knows ss known b → IsNoted (side_at ss number) Kept b d → Knows ss (record { sure = known.sure; clean = more }) d
noted_kept ss known more number b d m h n =
    let s = step_kept (revised (side_at ss number) b) b d n.step in
    subst (Knows ss (record { sure = known.sure; clean = more })) (sym s.1)
    (record {
      sure = h.sure;
      clean = λ k l e. either (nat_eq number k) (is_marked known.clean k) (IsClean (side_at ss k) b) (sym (m k) ∙ e)
          (λ t. subst (λ j. IsClean (side_at ss j) b) (eqb-true number k t) (record { kept = s.0; unsure = sym n.sure })) (λ t. h.clean k l t);
    })

-- the places of a constraint with no changed variable are as they were
unchanged : (s : Sides) (m : Marks) (b d : List Bounds) → length b ≤ 12 → length b ≡ length d → AreChanged m b d
    → ((v : ℕ) → v < 12 → is_marked m v ≡ true → has_variable v s ≡ false) → (i : ℕ) → has_variable i s ≡ true → at b i ≡ at d i
unchanged s m b d few l c f i h = by_place (cases_lt i (length b)) (is_marked m i) refl
  where
    by_place : (i < length b) ⊎ (length b ≤ i) → (t : Bool) → is_marked m i ≡ t → at b i ≡ at d i
    by_place (inr g) t e = beyond b i g ∙ sym (beyond d i (subst (λ n. n ≤ i) l g))
    by_place (inl g) true e = absurd (true≢false (sym h ∙ f i (omega arith) e))
    by_place (inl g) false e = sym ((c i g).0 e)

pub noted_changed : (n : ℕ) (ss : List Sides) (known : Known) (left places : Marks) (number : ℕ) (b d : List Bounds) → AllOver n ss → IsBox d
    → ((k : ℕ) → is_marked left k ≡ true → is_marked known.clean k ≡ true)
    → ((k v : ℕ) → k < length ss → v < 12 → is_marked left k ≡ true → is_marked places v ≡ true → has_variable v (side_at ss k) ≡ false)
    → Knows ss known b → IsNoted (side_at ss number) (Changed places) b d → Knows ss (record { sure = known.sure; clean = left }) d
noted_changed n ss known left places number b d o i f g h w =
    let lies = revised-within (side_at ss number) b d (step_changed (revised (side_at ss number) b) b d w.step) in
    let same = sym (within_length d b lies) in
    let few : length b ≤ 12 = subst (λ m. m ≤ 12) (sym same) i.few in
    record {
      sure = sure_part n ss known.sure b d o i lies h.sure;
      clean = λ k l e. clean_same (side_at ss k) b d same
          (unchanged (side_at ss k) places b d few same w.changed (λ v u t. g k v l u e t)) (h.clean k l (f k e));
    }

-- ---- behind a step of several parts

pub known_part : (n : ℕ) (ss : List Sides) (known : Known) (none : Marks) (b d : List Bounds) → AllOver n ss → IsBox d → AreWithin d b → ((k : ℕ) → is_marked none k ≡ false)
    → Knows ss known b → Knows ss (record { sure = known.sure; clean = none }) d
known_part n ss known none b d o i w m h = record {
  sure = sure_part n ss known.sure b d o i w h.sure;
  clean = λ k l e. absurd (true≢false (sym e ∙ m k));
}

-- ---- the users of a variable

pub and_first : (t u : Bool) → (t && u) ≡ true → t ≡ true
and_first true u h = refl
and_first false u h = absurd (true≢false (sym h))

and_not : (t u : Bool) → (t && not u) ≡ true → u ≡ false
and_not true false h = refl
and_not true true h = absurd (true≢false (sym h))
and_not false u h = absurd (true≢false (sym h))

-- in a part that differs at variable v what is clean and has no v stays clean
pub known_cut : (n : ℕ) (ss : List Sides) (known : Known) (left users : Marks) (v : ℕ) (b c : List Bounds) → AllOver n ss
    → ((k : ℕ) → is_marked left k ≡ (is_marked known.clean k && not (is_marked users k))) → ((k : ℕ) → k < length ss → is_marked users k ≡ has_variable v (side_at ss k))
    → Knows ss known b → IsPartAt v b c → Knows ss (record { sure = known.sure; clean = left }) c
known_cut n ss known left users v b c o f g h p = record {
  sure = sure_part n ss known.sure b c o p.box p.within h.sure;
  clean = λ k l e.
      let both = sym (f k) ∙ e in
      let apart : has_variable v (side_at ss k) ≡ false = sym (g k l) ∙ and_not (is_marked known.clean k) (is_marked users k) both in
      clean_same (side_at ss k) b c (sym (within_length c b p.within))
      (λ i t. p.same i (λ q. true≢false (sym t ∙ ap (λ j. has_variable j (side_at ss k)) q ∙ apart)))
      (h.clean k l (and_first (is_marked known.clean k) (not (is_marked users k)) both));
}

-- one more variable of those that changed: its users are taken out
pub more_spared : (ss : List Sides) (clean old now users changed : Marks) (v : ℕ)
    → ((now ≡ old) × (is_marked changed v ≡ false)) ⊎ (((k : ℕ) → is_marked now k ≡ (is_marked old k && not (is_marked users k))) × ((k : ℕ) → k < length ss → is_marked users k ≡ has_variable v (side_at ss k)))
    → ((k w : ℕ) → k < length ss → w < v → is_marked old k ≡ true → is_marked changed w ≡ true → has_variable w (side_at ss k) ≡ false)
    → (k w : ℕ) → k < length ss → w < v + 1 → is_marked now k ≡ true → is_marked changed w ≡ true → has_variable w (side_at ss k) ≡ false
more_spared ss clean old now users changed v (inl q) h k w l i m t = elim (cases_eq w v) [
  | inl p ↦ absurd (true≢false (sym t ∙ ap (is_marked changed) p ∙ q.1))
  | inr p ↦ h k w l (omega (arith, p, i)) (ap (λ x. is_marked x k) (sym q.0) ∙ m) t
]
more_spared ss clean old now users changed v (inr q) h k w l i m t =
    let both = sym (q.0 k) ∙ m in
    elim (cases_eq w v) [
      | inl p ↦ ap (λ j. has_variable j (side_at ss k)) p ∙ sym (q.1 k l) ∙ and_not (is_marked old k) (is_marked users k) both
      | inr p ↦ h k w l (omega (arith, p, i)) (and_first (is_marked old k) (not (is_marked users k)) both) t
    ]

-- ---- answers

pub judged_length : {E : Type 0} (r : Result Judged E) (s : Sides) (old new : List Bounds) → IfOk r (λ a. IsAnswer (revised s old) (revised_by a) old new) → OnErr r (new ≡ old) → length new ≡ length old
judged_length (Ok a) s old new h g = answer_length s (revised_by a) old new h
judged_length (Err e) s old new h g = ap length g

pub kept_step : (o : Option (List Bounds)) (b : List Bounds) → o ≡ Some b → IsStep o done.Kept b b
kept_step o b e = subst (λ p. IsStep p done.Kept b b) (sym e) (refl, refl)

-- what is known behind an answer that is not empty
pub known_changed : {P : Type 0} (r : Revised) → r ≡ done.Changed → (r ≡ done.Empty) ⊎ P → P
known_changed r c (inl e) = absurd (cc)
known_changed r c (inr h) = h

pub known_kept : {P : Type 0} (r : Revised) → r ≡ done.Kept → (r ≡ done.Empty) ⊎ P → P
known_kept r c (inl e) = absurd (cc)
known_kept r c (inr h) = h

-- a step of several parts
pub known_behind : (o : Option (List Bounds)) (r : Revised) (b d : List Bounds) → ((c : List Bounds) → o ≡ Some c → AreWithin c b) → IsStep o r b d → (r ≡ done.Empty) ⊎ (AreWithin d b × IsSoFar r b d)
known_behind o done.Empty b d w s = inl refl
known_behind o done.Kept b d w s = let e = step_kept o b d s in inr (w d (e.0 ∙ ap Some (sym e.1)), e.1)
known_behind o done.Changed b d w s = inr (w d (step_changed o b d s), step_other o b d s)

pub hull_known : (ss : List Sides) (ps : Plans) (known now : Known) (r : Revised) (b d : List Bounds) → IsStep (hull_all (results (effects ss ps) b)) r b d → Knows ss known b
    → (AreWithin d b → Knows ss known b → IsSoFar r b d → Knows ss now d) → (r ≡ done.Empty) ⊎ Knows ss now d
hull_known ss ps known now r b d s h f = elim (known_behind (hull_all (results (effects ss ps) b)) r b d (λ c e. contract-lies ss (union ps) b c e) s) [
  | inl e ↦ inl e
  | inr p ↦ inr (f p.0 h p.1)
]

pub q_hull_known : (ss : List Sides) (q : ℕ) (ps : Plans) (known now : Known) (r : Revised) (b d : List Bounds) → IsStep (q_hull_all q (results (effects ss ps) b)) r b d → Knows ss known b
    → (AreWithin d b → Knows ss known b → IsSoFar r b d → Knows ss now d) → (r ≡ done.Empty) ⊎ Knows ss now d
q_hull_known ss q ps known now r b d s h f = elim (known_behind (q_hull_all q (results (effects ss ps) b)) r b d (λ c e. contract-lies ss (qinter q ps) b c e) s) [
  | inl e ↦ inl e
  | inr p ↦ inr (f p.0 h p.1)
]
