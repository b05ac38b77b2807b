-- What callers are told of a contraction and of the sure test, from what is left and from the answer.
use Rattle.std.proofs.Common.{◌≡◌, ℕ, List, length, subst, sym, ◌∙◌, arith, refl}
use Rattle.std.specs.Prelude.{Bool, Option, Some, None, Result, Ok, Err, IfOk, IfSome, OnErr, IsTrue, ◌≤◌, ◌+◌}
use Rattle.pv_interval.specs.Bounds.{Bounds}
use Rattle.pv_box.specs.Boxes.{IsBox, IsWithin}
use Rattle.pv_box.specs.Members.{PointInSome}
use Rattle.pv_hc4.specs.Graphs.{sides_of}
use Rattle.pv_ctc.specs.GraphLists.{GraphList}
use Rattle.std.proofs.lemmas.List.{length-map}
use Rattle.pv_ctc.specs.Contracting.{sides_in, contract_of}
use Rattle.pv_ctc.specs.Counters.{RoseAtMost}
use Rattle.pv_ctc.specs.Members.{AllOver, MembersStay, AreMembers}
use Rattle.pv_ctc.specs.Plans.{Plan, IsFor}
use Rattle.pv_ctc.specs.Sureness.{program_sure}
use Rattle.pv_ctc.proofs.Keeping.{contract-keeps, sure-members}
use Rattle.pv_ctc.proofs.Narrowing.{contract-lies}
use Rattle.pv_hc4.proofs.Numbering.{same_number}

within_some : (o : Option (List Bounds)) (b : List Bounds) → ((c : List Bounds) → o ≡ Some c → IsWithin c b) → IfSome o (λ c. IsWithin c b)
within_some None b h = tt
within_some (Some c) b h = h c refl

pub members_stay : {E : Type 0} (r : Result (Option (List Bounds)) E) (g : GraphList) (p : Plan) (b : List Bounds) → AllOver g.dims (sides_in g) → IsFor (length g.graphs) p → IsBox b → IfOk r (λ o. o ≡ contract_of (sides_in g) p b) → IfOk r (MembersStay (sides_in g) p b)
members_stay (Ok o) g p b h fits box e = λ x i m.
    subst (PointInSome x) (sym e) (contract-keeps g.dims (sides_in g) p b x h (subst (λ n. IsFor n p) (sym (length-map g.graphs sides_of)) fits) box i m)
members_stay (Err e) g p b h fits box k = tt

pub left_within : {E : Type 0} (r : Result (Option (List Bounds)) E) (g : GraphList) (p : Plan) (b : List Bounds) → IfOk r (λ o. o ≡ contract_of (sides_in g) p b) → IfOk r (λ o. IfSome o (λ c. IsWithin c b))
left_within (Ok o) g p b e = within_some o b (λ c f. contract-lies (sides_in g) p b c (sym e ∙ f))
left_within (Err e) g p b h = tt

pub are_members : {E : Type 0} (r : Result Bool E) (g : GraphList) (p : Plan) (b : List Bounds) → AllOver g.dims (sides_in g) → IsFor (length g.graphs) p → length b ≡ g.dims → IfOk r (λ t. t ≡ program_sure (sides_in g) p b) → IfOk r (λ t. IsTrue t → AreMembers (sides_in g) p b)
are_members (Ok t) g p b h fits d e = λ s x i.
    sure-members (sides_in g) p b x (subst (λ m. AllOver m (sides_in g)) (sym d) h) (subst (λ n. IsFor n p) (sym (length-map g.graphs sides_of)) fits) i (sym e ∙ s)
are_members (Err e) g p b h fits d k = tt

pub no_fewer : {A E : Type 0} (r : Result A E) (n m k : ℕ) → OnErr r (RoseAtMost n (Some m) (Some k)) → OnErr r (m ≤ k)
no_fewer (Ok a) n m k h = tt
no_fewer (Err e) n m k h = let i = same_number k (m + h.by) h.is in omega (arith, i)
