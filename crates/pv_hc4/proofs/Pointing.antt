-- What a revision and the sure test say of points, from their exact answers.
use Rattle.std.proofs.Common.{◌≡◌, ℕ, List, length, refl, sym, ◌∙◌, subst}
use Rattle.std.specs.Prelude.{IsTrue, Bool, Option, Some, None, Result, Ok, Err, IfOk, OnErr}
use Rattle.pv_interval.specs.Bounds.{Bounds}
use Rattle.pv_interval.specs.Points.{Point}
use Rattle.pv_box.specs.Boxes.{PointIn}
use Rattle.pv_box.specs.Members.{PointInSome}
use Rattle.pv_hc4.specs.Graphs.{IsAnswer}
use Rattle.pv_hc4.specs.Revise.{Sides, revised}
use Rattle.pv_hc4.specs.Totality.{sure_of}
use Rattle.pv_hc4.specs.Members.{AreOver, AreWithin, HoldsOn, Stays, LosesNoPoint}
use Rattle.pv_hc4.specs.declared.revised.Revised.{Revised}
use Rattle.pv_hc4.specs.declared.revised.Revised.TheVariants.{Kept, Changed, Empty}
use Rattle.pv_hc4.proofs.Keeping.{revised-keeps}
use Rattle.pv_hc4.proofs.Sureness.{sure-holds}
use Rattle.pv_hc4.proofs.Within.{revised-within}
use Rattle.pv_hc4.proofs.Resting.{within_refl}

within_equal : (new old : List Bounds) → new ≡ old → AreWithin new old
within_equal new old e = subst (λ c. AreWithin c old) (sym e) (within_refl old)

answer_stays : (x : Point) (o : Option (List Bounds)) (r : Revised) (old new : List Bounds) → IsAnswer o r old new → PointInSome x o → Stays x r new
answer_stays x None Kept old new a h = absurd a
answer_stays x None Changed old new a h = absurd a
answer_stays x None Empty old new a h = h
answer_stays x (Some b) Kept old new a h = subst (PointIn x) (a.0 ∙ sym a.1) h
answer_stays x (Some b) Changed old new a h = subst (PointIn x) (sym a.0) h
answer_stays x (Some b) Empty old new a h = absurd a

answer_within : (s : Sides) (o : Option (List Bounds)) (r : Revised) (old new : List Bounds) → revised s old ≡ o → IsAnswer o r old new → AreWithin new old
answer_within s None Kept old new e a = absurd a
answer_within s None Changed old new e a = absurd a
answer_within s None Empty old new e a = within_equal new old a
answer_within s (Some b) Kept old new e a = within_equal new old a.1
answer_within s (Some b) Changed old new e a = subst (λ c. AreWithin c old) (sym a.0) (revised-within s old b e)
answer_within s (Some b) Empty old new e a = absurd a

pub loses_none : {E : Type 0} (q : Result Revised E) (s : Sides) (n : ℕ) (old new : List Bounds) → AreOver n s → IfOk q (λ r. IsAnswer (revised s old) r old new) → IfOk q (λ r. LosesNoPoint s r old new)
loses_none (Ok r) s n old new o a = λ x h k. answer_stays x (revised s old) r old new a (revised-keeps s n old x o.0 o.1 h k)
loses_none (Err e) s n old new o a = tt

pub stays_within : {E : Type 0} (q : Result Revised E) (s : Sides) (old new : List Bounds) → IfOk q (λ r. IsAnswer (revised s old) r old new) → OnErr q (new ≡ old) → AreWithin new old
stays_within (Ok r) s old new a u = answer_within s (revised s old) r old new refl a
stays_within (Err e) s old new a u = within_equal new old u

pub sure_on : {E : Type 0} (q : Result Bool E) (s : Sides) (n : ℕ) (b : List Bounds) → AreOver n s → length b ≡ n → IfOk q (λ r. r ≡ sure_of s b) → IfOk q (λ r. IsTrue r → HoldsOn s b)
sure_on (Ok r) s n b o d a = λ t x h. let p = subst (λ m. AreOver m s) (sym d) o in sure-holds s b x p.0 p.1 h (subst IsTrue a t)
sure_on (Err e) s n b o d a = tt
