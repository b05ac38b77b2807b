use Rattle.std.proofs.Common.{◌≡◌, sym, ◌∙◌, ap, Some}
use Rattle.std.specs.Ordering.{partial_ordering_then, nat_cmp}
use Rattle.std.specs.Cmp.Lexicographic.{slice_partial_cmp}
use Rattle.pv_tree.specs.Paths.{padded, padded-steps_of}
use Rattle.pv_tree.proofs.path.PathPartialOrd.partial_cmp.Goals as goal

pub returns : goal.returns
returns c =
    let left : padded c.args.self.now ≡ c.t1-1.inside = ap padded (sym c.t1-1.view_is) ∙ padded-steps_of c.t1-1.inside c.t1-1.invariant in
    let right : padded c.args.other.now ≡ c.t2-1.inside = ap padded (sym c.t2-1.view_is) ∙ padded-steps_of c.t2-1.inside c.t2-1.invariant in
    c.or_partial_cmp.ensures ∙ ap (λ o. partial_ordering_then o (Some (nat_cmp c.t1-1.inside.len c.t2-1.inside.len))) c.partial_cmp.ensures
    ∙ (λ i. partial_ordering_then (slice_partial_cmp (λ a b. Some (nat_cmp a b)) (sym left i).words (sym right i).words) (Some (nat_cmp (sym left i).len (sym right i).len)))
