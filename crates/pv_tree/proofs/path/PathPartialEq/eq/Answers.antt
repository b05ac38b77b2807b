use Rattle.std.proofs.Common.{◌≡◌, sym, ◌∙◌, ap, eqb}
use Rattle.std.specs.Prelude.{◌&&◌}
use Rattle.std.proofs.Math.Bool.{and_comm}
use lib.Pointwise.{pointwise}
use Rattle.pv_tree.specs.Paths.{padded, padded-steps_of}
use Rattle.pv_tree.proofs.path.PathPartialEq.eq.Goals as goal

pub returns : goal.returns
returns c =
    let left : padded c.args.self.now ≡ c.t1-1.inside = ap padded (sym c.t1-1.view_is) ∙ padded-steps_of c.t1-1.inside c.t1-1.invariant in
    let right : padded c.args.other.now ≡ c.t2-1.inside = ap padded (sym c.t2-1.view_is) ∙ padded-steps_of c.t2-1.inside c.t2-1.invariant in
    c.and_eq.ensures ∙ ap (λ b. b && pointwise eqb c.t1-1.inside.words c.t2-1.inside.words) c.eq.ensures
    ∙ and_comm (eqb c.t1-1.inside.len c.t2-1.inside.len) (pointwise eqb c.t1-1.inside.words c.t2-1.inside.words)
    ∙ (λ i. pointwise eqb (sym left i).words (sym right i).words && eqb (sym left i).len (sym right i).len)
