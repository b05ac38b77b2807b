-- The revisions of a turn, and of all turns, step by step.
use Rattle.std.proofs.Common.{◌≡◌, ◌≢◌, ◌⊎◌, inl, inr, ℕ, zero, suc, ◌+◌, ◌<◌, ◌≤◌, List, [], ◌∷◌, length, refl, ap, sym, ◌∙◌, subst, arith, get_or, set, drop, add-one}
use Rattle.std.specs.Prelude.{Option, Some, None, Bool, true, false, cond, replicate}
use Rattle.std.proofs.Math.Seq.{drop-cons}
use Rattle.pv_interval.specs.Bounds.{Bounds}
use Rattle.pv_expr.specs.Terms.{place}
use Rattle.pv_expr.specs.declared.constraint.Relation.TheVariants.{Eq}
use Rattle.pv_hc4.specs.Revise.{Sides, revised}
use Rattle.pv_hc4.specs.declared.revised.Revised.{Revised}
use Rattle.pv_hc4.specs.declared.revised.Revised.TheVariants.{Kept, Changed, Empty}
use Rattle.pv_ctc.specs.Contracting.{side_at}
use Rattle.pv_ctc.specs.Counters.{raised, RoseAtMost}
use Rattle.pv_ctc.specs.Marks.{AreClean, AreMarks, IsTurn}
use Rattle.pv_ctc.specs.Revisions.{Revision, Passage, is_clean, onward, revision, turn_from, whole_turn, unless_same, passage, same_box}
use Rattle.pv_ctc.specs.Steps.{IsStep, IsSoFar}
use Rattle.pv_ctc.proofs.Turns.{step_empty, step_changed, step_kept, step_other, step_of_empty, step_of_so_far}
use Rattle.pv_ctc.proofs.Cleaning.{AreSpared, none_clean, marks_kept, marks_changed}
use Rattle.pv_ctc.proofs.Sameness.{box_refl, box_not}
use Rattle.pv_ctc.proofs.Tallies.{raised_none, raised_twice, rose_all, rose_fewer}

-- more revisions only add to those made
onward_grows : (n : ℕ) (made : List Revision) (o : Option (List Bounds)) (steps : List Bounds → Passage) → n ≤ length made → ((c : List Bounds) → n ≤ length (steps c).made) → n ≤ length (onward made o steps).made
onward_grows n made None steps h k = h
onward_grows n made (Some c) steps h k = k c

either_grows : (n : ℕ) (t : Bool) (p q : Passage) → n ≤ length p.made → n ≤ length q.made → n ≤ length (cond t p q).made
either_grows n true p q h k = h
either_grows n false p q h k = k

pub turn_grows : (ss : List Sides) (i : ℕ) (more : List Sides) (made : List Revision) (b : List Bounds) (n : ℕ) → n ≤ length made → n ≤ length (turn_from ss i more made b).made
turn_grows ss i [] made b n h = h
turn_grows ss i (s ∷ more) made b n h =
    let l : n ≤ length (revision i s b ∷ made) = omega arith in
    either_grows n (is_clean ss made i) (turn_from ss (i + 1) more made b) (onward (revision i s b ∷ made) (revised s b) (turn_from ss (i + 1) more (revision i s b ∷ made)))
    (turn_grows ss (i + 1) more made b n h)
    (onward_grows n (revision i s b ∷ made) (revised s b) (turn_from ss (i + 1) more (revision i s b ∷ made)) l (λ c. turn_grows ss (i + 1) more (revision i s b ∷ made) c n l))

unless_grows : (n : ℕ) (b : List Bounds) (p : Passage) (turns : List Revision → List Bounds → Passage) → n ≤ length p.made → ((c : List Bounds) → n ≤ length (turns p.made c).made) → n ≤ length (unless_same b p turns).made
unless_grows n b p turns h k =
    onward_grows n p.made p.left (λ c. cond (same_box b c) p (turns p.made c)) h (λ c. either_grows n (same_box b c) p (turns p.made c) h (k c))

passage_grows : (k : ℕ) (ss : List Sides) (made : List Revision) (b : List Bounds) (n : ℕ) → n ≤ length made → n ≤ length (passage k ss made b).made
passage_grows zero ss made b n h = h
passage_grows (suc k) ss made b n h =
    let l = turn_grows ss 0 ss made b n h in
    unless_grows n b (whole_turn ss made b) (passage k ss) l (λ c. passage_grows k ss (whole_turn ss made b).made c n l)

-- one constraint further
pub turn_is : (ss : List Sides) (i : ℕ) (made : List Revision) (b : List Bounds) → i < length ss → turn_from ss i (drop i ss) made b ≡ cond (is_clean ss made i) (turn_from ss (i + 1) (drop (i + 1) ss) made b) (onward (revision i (side_at ss i) b ∷ made) (revised (side_at ss i) b) (turn_from ss (i + 1) (drop (i + 1) ss) (revision i (side_at ss i) b ∷ made)))
turn_is ss i made b h =
    ap (λ xs. turn_from ss i xs made b) (drop-cons ss i (record { left = place 0; relation = Eq; right = place 0 }) h ∙ ap (λ n. side_at ss i ∷ drop n ss) (sym (add-one i)))

pub turn_revised : (ss : List Sides) (i : ℕ) (made : List Revision) (b : List Bounds) → i < length ss → is_clean ss made i ≡ false → turn_from ss i (drop i ss) made b ≡ onward (revision i (side_at ss i) b ∷ made) (revised (side_at ss i) b) (turn_from ss (i + 1) (drop (i + 1) ss) (revision i (side_at ss i) b ∷ made))
turn_revised ss i made b h e =
    turn_is ss i made b h
    ∙ ap (λ t. cond t (turn_from ss (i + 1) (drop (i + 1) ss) made b) (onward (revision i (side_at ss i) b ∷ made) (revised (side_at ss i) b) (turn_from ss (i + 1) (drop (i + 1) ss) (revision i (side_at ss i) b ∷ made)))) e

-- where a turn stands before constraint i, if it is to come to `all`
pub record TurnSoFar (ss : List Sides) (start : Option ℕ) (i : ℕ) (marks : List Bool) (b : List Bounds) (now : Option ℕ) (all : Passage) : Type 0 where
  pub made : List Revision
  pub marked : AreMarks ss made marks
  pub count : now ≡ raised start (length made)
  pub rest : turn_from ss i (drop i ss) made b ≡ all

pub turn_begins : (ss : List Sides) (start : Option ℕ) (marks : List Bool) (made : List Revision) (b : List Bounds) (now : Option ℕ) → AreMarks ss made marks → now ≡ raised start (length made) → TurnSoFar ss start 0 marks b now (whole_turn ss made b)
turn_begins ss start marks made b now h k = record { made = made; marked = h; count = k; rest = refl }

pub passed_over : (ss : List Sides) (start : Option ℕ) (i : ℕ) (marks : List Bool) (b : List Bounds) (now : Option ℕ) (all : Passage) → i < length ss → get_or marks i false ≡ true → TurnSoFar ss start i marks b now all → TurnSoFar ss start (i + 1) marks b now all
passed_over ss start i marks b now all l t h = record {
  made = h.made;
  marked = h.marked;
  count = h.count;
  rest = sym (turn_is ss i h.made b l ∙ ap (λ t. cond t (turn_from ss (i + 1) (drop (i + 1) ss) h.made b) (onward (revision i (side_at ss i) b ∷ h.made) (revised (side_at ss i) b) (turn_from ss (i + 1) (drop (i + 1) ss) (revision i (side_at ss i) b ∷ h.made)))) (sym (h.marked i l) ∙ t)) ∙ h.rest;
}

one_more : (start now new : Option ℕ) (r : Revision) (made : List Revision) → now ≡ raised start (length made) → new ≡ raised now 1 → new ≡ raised start (length (r ∷ made))
one_more start now new r made e f =
    f ∙ ap (λ o. raised o 1) e ∙ raised_twice start (length made) 1 ∙ ap (raised start) (let n : length made + 1 ≡ length (r ∷ made) = omega arith in n)

revised_on : (ss : List Sides) (i : ℕ) (made : List Revision) (b d : List Bounds) (all : Passage) → i < length ss → is_clean ss made i ≡ false → revised (side_at ss i) b ≡ Some d → turn_from ss i (drop i ss) made b ≡ all → turn_from ss (i + 1) (drop (i + 1) ss) (revision i (side_at ss i) b ∷ made) d ≡ all
revised_on ss i made b d all l e f g =
    sym (turn_revised ss i made b l e ∙ ap (λ o. onward (revision i (side_at ss i) b ∷ made) o (turn_from ss (i + 1) (drop (i + 1) ss) (revision i (side_at ss i) b ∷ made))) f) ∙ g

pub went_kept : (ss : List Sides) (start : Option ℕ) (i : ℕ) (marks : List Bool) (b new : List Bounds) (now next : Option ℕ) (all : Passage) → i < length ss → i < length marks → get_or marks i false ≡ false → IsStep (revised (side_at ss i) b) Kept b new → next ≡ raised now 1 → TurnSoFar ss start i marks b now all → TurnSoFar ss start (i + 1) (set marks i true) new next all
went_kept ss start i marks b new now next all l m t s c h =
    let k = step_kept (revised (side_at ss i) b) b new s in
    record {
      made = revision i (side_at ss i) b ∷ h.made;
      marked = marks_kept ss marks h.made i b m k.0 h.marked;
      count = one_more start now next (revision i (side_at ss i) b) h.made h.count c;
      rest = revised_on ss i h.made b new all l (sym (h.marked i l) ∙ t) (k.0 ∙ ap Some (sym k.1)) h.rest;
    }

pub went_changed : (ss : List Sides) (start : Option ℕ) (i : ℕ) (marks after : List Bool) (b new : List Bounds) (now next : Option ℕ) (all : Passage) → i < length ss → get_or marks i false ≡ false → IsStep (revised (side_at ss i) b) Changed b new → AreSpared ss marks after b new → next ≡ raised now 1 → TurnSoFar ss start i marks b now all → TurnSoFar ss start (i + 1) after new next all
went_changed ss start i marks after b new now next all l t s w c h =
    let k = step_changed (revised (side_at ss i) b) b new s in
    record {
      made = revision i (side_at ss i) b ∷ h.made;
      marked = marks_changed ss marks after h.made i b new k (step_other (revised (side_at ss i) b) b new s) w h.marked;
      count = one_more start now next (revision i (side_at ss i) b) h.made h.count c;
      rest = revised_on ss i h.made b new all l (sym (h.marked i l) ∙ t) k h.rest;
    }

went_empty_is : (ss : List Sides) (start : Option ℕ) (i : ℕ) (marks : List Bool) (b : List Bounds) (now : Option ℕ) (all : Passage) → i < length ss → get_or marks i false ≡ false → revised (side_at ss i) b ≡ None → (h : TurnSoFar ss start i marks b now all) → all ≡ record { made = revision i (side_at ss i) b ∷ h.made; left = None }
went_empty_is ss start i marks b now all l t e h =
    sym h.rest ∙ turn_revised ss i h.made b l (sym (h.marked i l) ∙ t)
    ∙ ap (λ o. onward (revision i (side_at ss i) b ∷ h.made) o (turn_from ss (i + 1) (drop (i + 1) ss) (revision i (side_at ss i) b ∷ h.made))) e

pub went_empty : (ss : List Sides) (start : Option ℕ) (i : ℕ) (marks : List Bool) (first b new : List Bounds) (now next : Option ℕ) (all : Passage) → i < length ss → get_or marks i false ≡ false → IsStep (revised (side_at ss i) b) Empty b new → next ≡ raised now 1 → TurnSoFar ss start i marks b now all → IsTurn ss start all Empty first new marks next
went_empty ss start i marks first b new now next all l t s c h =
    let e = went_empty_is ss start i marks b now all l t (step_empty (revised (side_at ss i) b) b new s) h in
    record {
      step = step_of_empty all.left first new (ap (λ (p : Passage). p.left) e);
      count = one_more start now next (revision i (side_at ss i) b) h.made h.count c ∙ ap (λ (p : Passage). raised start (length p.made)) (sym e);
      marked = inl refl;
    }

-- a revision that found no memory was counted too, and is one of those that the turn needs
pub went_without_memory : (ss : List Sides) (start : Option ℕ) (i : ℕ) (marks : List Bool) (b : List Bounds) (now next : Option ℕ) (all : Passage) → i < length ss → get_or marks i false ≡ false → next ≡ raised now 1 → TurnSoFar ss start i marks b now all → RoseAtMost (length all.made) start next
went_without_memory ss start i marks b now next all l t c h =
    let r = revision i (side_at ss i) b ∷ h.made in
    let f = turn_from ss (i + 1) (drop (i + 1) ss) r in
    let n : length r ≤ length r = omega arith in
    let g : length r ≤ length (onward r (revised (side_at ss i) b) f).made = onward_grows (length r) r (revised (side_at ss i) b) f n (λ d. turn_grows ss (i + 1) (drop (i + 1) ss) r d (length r) n) in
    let e = sym h.rest ∙ turn_revised ss i h.made b l (sym (h.marked i l) ∙ t) in
    let m : length r ≤ length all.made = subst (λ (p : Passage). length r ≤ length p.made) (sym e) g in
    rose_fewer (length r) (length all.made) start next m (rose_all (length r) start next (one_more start now next (revision i (side_at ss i) b) h.made h.count c))

pub drop_all : (ss : List Sides) (i : ℕ) → length ss ≤ i → drop i ss ≡ []
drop_all [] zero h = refl
drop_all [] (suc i) h = refl
drop_all (s ∷ ss) zero h = absurd (omega arith)
drop_all (s ∷ ss) (suc i) h = drop_all ss i (omega arith)

pub turn_ends : (ss : List Sides) (start : Option ℕ) (i : ℕ) (marks : List Bool) (first b : List Bounds) (answer : Revised) (now : Option ℕ) (all : Passage) → length ss ≤ i → IsSoFar answer first b → TurnSoFar ss start i marks b now all → IsTurn ss start all answer first b marks now
turn_ends ss start i marks first b answer now all l s h =
    let e : record { made = h.made; left = Some b } ≡ all = ap (λ xs. turn_from ss i xs h.made b) (sym (drop_all ss i l)) ∙ h.rest in
    record {
      step = step_of_so_far all.left answer first b s (ap (λ (p : Passage). p.left) (sym e));
      count = h.count ∙ ap (λ (p : Passage). raised start (length p.made)) e;
      marked = inr (subst (λ (p : Passage). AreMarks ss p.made marks) e h.marked);
    }

-- where the turns of a `prop` stand, if they are to come to `all`
pub record TurnsSoFar (ss : List Sides) (start : Option ℕ) (left : ℕ) (marks : List Bool) (b : List Bounds) (now : Option ℕ) (all : Passage) : Type 0 where
  pub made : List Revision
  pub marked : AreMarks ss made marks
  pub count : now ≡ raised start (length made)
  pub rest : passage left ss made b ≡ all

pub turns_begin : (ss : List Sides) (start : Option ℕ) (n : ℕ) (b : List Bounds) → TurnsSoFar ss start n (replicate 64 false) b start (passage n ss [] b)
turns_begin ss start n b = record { made = []; marked = none_clean ss; count = raised_none start; rest = refl }

passage_is : (n m : ℕ) (ss : List Sides) (made : List Revision) (b : List Bounds) → n ≡ suc m → passage n ss made b ≡ unless_same b (whole_turn ss made b) (passage m ss)
passage_is n m ss made b e = ap (λ k. passage k ss made b) e

-- a turn that came to t, and what follows it
pub unless_left : (b d : List Bounds) (t : Passage) (turns : List Revision → List Bounds → Passage) → t.left ≡ Some d → unless_same b t turns ≡ cond (same_box b d) t (turns t.made d)
unless_left b d t turns e = ap (λ o. onward t.made o (λ c. cond (same_box b c) t (turns t.made c))) e

pub unless_none : (b : List Bounds) (t : Passage) (turns : List Revision → List Bounds → Passage) → t.left ≡ None → unless_same b t turns ≡ record { made = t.made; left = None }
unless_none b t turns e = ap (λ o. onward t.made o (λ c. cond (same_box b c) t (turns t.made c))) e

marked_after : (ss : List Sides) (made : List Revision) (marks : List Bool) (r : Revised) → r ≢ Empty → (r ≡ Empty) ⊎ AreMarks ss made marks → AreMarks ss made marks
marked_after ss made marks r n (inl e) = absurd (n e)
marked_after ss made marks r n (inr h) = h

pub turned_changed : (ss : List Sides) (start : Option ℕ) (n m : ℕ) (marks after : List Bool) (b new : List Bounds) (now next : Option ℕ) (all : Passage) → n ≡ suc m → (h : TurnsSoFar ss start n marks b now all) → IsTurn ss start (whole_turn ss h.made b) Changed b new after next → TurnsSoFar ss start m after new next all
turned_changed ss start n m marks after b new now next all e h t =
    let w = whole_turn ss h.made b in
    let k = step_changed w.left b new t.step in
    record {
      made = w.made;
      marked = marked_after ss w.made after Changed (λ (f : Changed ≡ Empty). cc) t.marked;
      count = t.count;
      rest = sym (passage_is n m ss h.made b e ∙ unless_left b new w (passage m ss) k ∙ ap (λ u. cond u w (passage m ss w.made new)) (box_not b new (step_other w.left b new t.step))) ∙ h.rest;
    }

pub turned_kept : (ss : List Sides) (start : Option ℕ) (n m : ℕ) (marks after : List Bool) (b new : List Bounds) (now next : Option ℕ) (all : Passage) → n ≡ suc m → (h : TurnsSoFar ss start n marks b now all) → IsTurn ss start (whole_turn ss h.made b) Kept b new after next → next ≡ raised start (length all.made)
turned_kept ss start n m marks after b new now next all e h t =
    let w = whole_turn ss h.made b in
    let k = step_kept w.left b new t.step in
    t.count ∙ ap (λ (p : Passage). raised start (length p.made))
    (sym (sym h.rest ∙ passage_is n m ss h.made b e ∙ unless_left b b w (passage m ss) k.0 ∙ ap (λ u. cond u w (passage m ss w.made b)) (box_refl b)))

pub turned_empty : (ss : List Sides) (start : Option ℕ) (n m : ℕ) (marks after : List Bool) (b new : List Bounds) (now next : Option ℕ) (all : Passage) → n ≡ suc m → (h : TurnsSoFar ss start n marks b now all) → IsTurn ss start (whole_turn ss h.made b) Empty b new after next → next ≡ raised start (length all.made)
turned_empty ss start n m marks after b new now next all e h t =
    let w = whole_turn ss h.made b in
    t.count ∙ ap (λ (p : Passage). raised start (length p.made))
    (sym (sym h.rest ∙ passage_is n m ss h.made b e ∙ unless_none b w (passage m ss) (step_empty w.left b new t.step)))

pub turned_without_memory : (ss : List Sides) (start : Option ℕ) (n m : ℕ) (marks : List Bool) (b : List Bounds) (now next : Option ℕ) (all : Passage) → n ≡ suc m → (h : TurnsSoFar ss start n marks b now all) → RoseAtMost (length (whole_turn ss h.made b).made) start next → RoseAtMost (length all.made) start next
turned_without_memory ss start n m marks b now next all e h r =
    let w = whole_turn ss h.made b in
    let l : length w.made ≤ length w.made = omega arith in
    let g = unless_grows (length w.made) b w (passage m ss) l (λ c. passage_grows m ss w.made c (length w.made) l) in
    let f : length w.made ≤ length all.made = subst (λ (p : Passage). length w.made ≤ length p.made) (sym (passage_is n m ss h.made b e) ∙ h.rest) g in
    rose_fewer (length w.made) (length all.made) start next f r

pub clean_after : (ss : List Sides) (marks : List Bool) (b : List Bounds) (r : Revised) → r ≡ Changed → (r ≡ Empty) ⊎ AreClean ss marks b → AreClean ss marks b
clean_after ss marks b r c (inl e) = absurd (cc)
clean_after ss marks b r c (inr h) = h
