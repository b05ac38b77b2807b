use Rattle.std.proofs.Common.{◌≡◌, ◌≢◌, take, refl, ap, sym, ◌∙◌, subst}
use Rattle.std.specs.Prelude.{IfNone, IfSome}
use Rattle.pv_hc4.specs.Judging.{AreChanged}
use Rattle.pv_hc4.specs.Nodes.{terms, term_at}
use Rattle.pv_hc4.specs.Resting.{MayRest}
use Rattle.pv_hc4.specs.Revise.{went}
use Rattle.pv_hc4.proofs.Resting.{gives_true, rest_after}
use Rattle.pv_hc4.proofs.Answering.{is_kept, is_changed, is_empty_first, is_empty_second}
use Rattle.pv_hc4.proofs.judge.judge_sides.Goals as goal
use Rattle.pv_hc4.proofs.judge.judge_sides.Goals.{else-narrow-via-then-narrow+else-narrow-2, else-narrow-via-else-narrow}

pub returns-in-None : goal.returns-in-None
returns-in-None c =
    let e : take c.dims.result c.save.new.places ≡ c.args.bx.now = ap (λ n. take n c.save.new.places) c.dims.ensures.dims ∙ c.save.ensures in
    record { answer = is_kept c.args.bx.now (take c.dims.result c.save.new.places) c.narrow.new.bx c.narrow-then-narrow.new.bx (term_at (terms c.args.nodes.now) c.args.left) (term_at (terms c.args.nodes.now) c.args.right) c.args.both e c.if-narrow.ensures.narrowed c.if-narrow-2.ensures.narrowed (subst (λ o. IfNone o (c.narrow-then-narrow.new.bx ≡ take c.dims.result c.save.new.places)) c.in-None.is c.first_changed.ensures.same); unsure = refl; changed = tt }

pub returns-in-Some : goal.returns-in-Some
returns-in-Some c =
    let e : take c.dims.result c.save.new.places ≡ c.args.bx.now = ap (λ n. take n c.save.new.places) c.dims.ensures.dims ∙ c.save.ensures in
    record { answer = is_changed c.args.bx.now (take c.dims.result c.save.new.places) c.narrow.new.bx c.narrow-then-narrow.new.bx (term_at (terms c.args.nodes.now) c.args.left) (term_at (terms c.args.nodes.now) c.args.right) c.args.both e c.if-narrow.ensures.narrowed c.if-narrow-2.ensures.narrowed (subst (λ o. IfSome o (λ i. (c.narrow-then-narrow.new.bx ≢ take c.dims.result c.save.new.places) × (take i c.narrow-then-narrow.new.bx ≡ take i (take c.dims.result c.save.new.places)))) c.in-Some.is c.first_changed.ensures.changed).0; unsure = refl; changed = subst (λ x. AreChanged c.changed_from.result x c.narrow-then-narrow.new.bx) e c.changed_from.ensures }

pub returns-else-narrow : goal.returns-else-narrow
returns-else-narrow c =
    let e : take c.dims.result c.save.new.places ≡ c.args.bx.now = ap (λ n. take n c.save.new.places) c.dims.ensures.dims ∙ c.save.ensures in
    record {
      answer =
          elim c.else-narrow.branch [
            | else-narrow-via-then-narrow+else-narrow-2 w ↦ is_empty_second c.args.bx.now (take c.dims.result c.save.new.places) c.narrow.new.bx c.restore.new.bx (term_at (terms c.args.nodes.now) c.args.left) (term_at (terms c.args.nodes.now) c.args.right) c.args.both e w.if-narrow.ensures.narrowed w.if-narrow-2.ensures.narrowed c.restore.ensures
            | else-narrow-via-else-narrow w ↦ is_empty_first c.args.bx.now (take c.dims.result c.save.new.places) c.restore.new.bx (term_at (terms c.args.nodes.now) c.args.left) (term_at (terms c.args.nodes.now) c.args.right) c.args.both e w.if-narrow.ensures.narrowed c.restore.ensures
          ];
      unsure = refl;
      changed = tt;
    }

pub narrow-requires-then-narrow-clause-rest : goal.narrow-requires-then-narrow-clause-rest
narrow-requires-then-narrow-clause-rest c =
    let e : take c.dims.result c.save.new.places ≡ c.args.bx.now = ap (λ n. take n c.save.new.places) c.dims.ensures.dims ∙ c.save.ensures in
    let first = gives_true c.narrow.result c.narrow.new.bx (went (take c.dims.result c.save.new.places) c.args.bx.now (term_at (terms c.args.nodes.now) c.args.left) c.args.both.0) c.if-narrow.true c.narrow.ensures.narrowed in
    rest_after c.args.rests (take c.dims.result c.save.new.places) c.args.bx.now c.narrow.new.bx c.args.nodes.now (term_at (terms c.args.nodes.now) c.args.left) c.args.both.0
    (subst (λ x. MayRest c.args.rests x c.args.bx.now c.args.nodes.now) (sym e) c.requires.rest) first
