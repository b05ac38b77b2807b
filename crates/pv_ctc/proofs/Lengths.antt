-- A revision keeps the number of places.
use Rattle.std.proofs.Common.{◌≡◌, ℕ, suc, ◌+◌, List, [], ◌∷◌, length, refl, ap, sym, ◌∙◌}
use Rattle.std.specs.Prelude.{Option, Some, None, Result, Ok, Err, IfOk, OnErr}
use Rattle.pv_interval.specs.Bounds.{Bounds}
use Rattle.pv_hc4.specs.Chain.{chain}
use Rattle.pv_hc4.specs.Forward.{forward_of}
use Rattle.pv_hc4.specs.Revise.{Target, Sides, place_of, places_from, related_of, both_targets, revised}
use Rattle.pv_hc4.specs.Graphs.{IsAnswer}
use Rattle.pv_hc4.specs.declared.revised.Revised.{Revised}
use Rattle.pv_hc4.specs.declared.revised.Revised.TheVariants.{Kept, Changed, Empty}
use Rattle.pv_hc4.proofs.Revising.{came}
use Rattle.std.proofs.lemmas.Option.{same_Some}

places_length : (i : ℕ) (ts : List Target) (b c : List Bounds) → places_from i ts b ≡ Some c → length c ≡ length b
places_length i ts [] c e = ap length (sym (same_Some [] c e))
places_length i ts (x ∷ b) c e =
    let f = came (place_of i ts x) (λ y. chain (places_from (i + 1) ts b) (λ c. Some (y ∷ c))) c e in
    let g = came (places_from (i + 1) ts b) (λ c. Some (f.from ∷ c)) c f.then_is in
    ap length (sym (same_Some (f.from ∷ g.from) c g.then_is)) ∙ ap suc (places_length (i + 1) ts b g.from g.first)

pub revised_length : (s : Sides) (b c : List Bounds) → revised s b ≡ Some c → length c ≡ length b
revised_length s b c e =
    let f = came (forward_of b s.left) (λ x. chain (forward_of b s.right) (λ y. chain (related_of s.relation x y) (λ p. chain (both_targets b s p) (λ ts. places_from 0 ts b)))) c e in
    let g = came (forward_of b s.right) (λ y. chain (related_of s.relation f.from y) (λ p. chain (both_targets b s p) (λ ts. places_from 0 ts b))) c f.then_is in
    let h = came (related_of s.relation f.from g.from) (λ p. chain (both_targets b s p) (λ ts. places_from 0 ts b)) c g.then_is in
    let k = came (both_targets b s h.from) (λ ts. places_from 0 ts b) c h.then_is in
    places_length 0 k.from b c k.then_is

answer_from : (o : Option (List Bounds)) (r : Revised) (old new : List Bounds) → ((c : List Bounds) → o ≡ Some c → length c ≡ length old) → IsAnswer o r old new → length new ≡ length old
answer_from None Kept old new h a = absurd a
answer_from None Changed old new h a = absurd a
answer_from None Empty old new h a = ap length a
answer_from (Some b) Kept old new h a = ap length a.1
answer_from (Some b) Changed old new h a = ap length a.0 ∙ h b refl
answer_from (Some b) Empty old new h a = absurd a

pub answer_length : (s : Sides) (r : Revised) (old new : List Bounds) → IsAnswer (revised s old) r old new → length new ≡ length old
answer_length s r old new a = answer_from (revised s old) r old new (λ c. revised_length s old c) a

pub result_length : {E : Type 0} (r : Result Revised E) (s : Sides) (old new : List Bounds) → IfOk r (λ a. IsAnswer (revised s old) a old new) → OnErr r (new ≡ old) → length new ≡ length old
result_length (Ok a) s old new h g = answer_length s a old new h
result_length (Err e) s old new h g = ap length g
