use Rattle.std.proofs.Common.{◌≡◌, sym, ◌∙◌, ap}
use Rattle.std.specs.Ordering.{ordering_then, nat_cmp}
use Rattle.std.specs.Cmp.Lexicographic.{slice_cmp}
use Rattle.pv_tree.specs.Paths.{padded, padded-steps_of}
use Rattle.pv_tree.proofs.path.PathOrd.cmp.Goals as goal

pub returns : goal.returns
returns c =
    let left : padded c.args.self.now ≡ c.t1-1.inside = ap padded (sym c.t1-1.view_is) ∙ padded-steps_of c.t1-1.inside c.t1-1.invariant in
    let right : padded c.args.other.now ≡ c.t2-1.inside = ap padded (sym c.t2-1.view_is) ∙ padded-steps_of c.t2-1.inside c.t2-1.invariant in
    c.or_cmp.ensures ∙ ap (λ o. ordering_then o (nat_cmp c.t1-1.inside.len c.t2-1.inside.len)) c.cmp.ensures
    ∙ (λ i. ordering_then (slice_cmp nat_cmp (sym left i).words (sym right i).words) (nat_cmp (sym left i).len (sym right i).len))
