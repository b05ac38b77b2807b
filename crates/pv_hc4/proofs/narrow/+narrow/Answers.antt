use Rattle.std.proofs.Common.{rules, ◌∙◌, sym, ap, subst}
use Rattle.pv_hc4.specs.Chain.{Gives, chain}
use Rattle.pv_hc4.specs.Revise.{went}
use Rattle.pv_hc4.specs.Nodes.{terms, term_at, AreOrdered}
use Rattle.pv_hc4.specs.declared.node.Node.TheVariants.{One, Two}
use Rattle.pv_hc4.proofs.Resting.{rest_gives, rest_after, rest_is, gives_true}
use Rattle.pv_hc4.proofs.Downward.{below_is, term_read, one_read, two_read, rests_read, second_gives, first_fails}
use Rattle.pv_hc4.proofs.narrow.+narrow.Goals as goal

pub returns-in-Constant-clause-narrowed : goal.returns-in-Constant-clause-narrowed
returns-in-Constant-clause-narrowed t c =
    ap (λ t. went c.args.entry.now c.args.bx.now t c.args.target) (term_read c.args.nodes.now _ c.args.at _ _ c.requires.ordered c.requires.inside c.in-Constant.is)

pub returns-in-Place-clause-narrowed : goal.returns-in-Place-clause-narrowed
returns-in-Place-clause-narrowed t c =
    subst (λ t. Gives c.narrow_place.result c.narrow_place.new.bx (went c.args.entry.now c.args.bx.now t c.args.target)) (sym (term_read c.args.nodes.now _ c.args.at _ _ c.requires.ordered c.requires.inside c.in-Place.is)) c.narrow_place.ensures.narrowed

pub returns-in-Some-clause-narrowed : goal.returns-in-Some-clause-narrowed
returns-in-Some-clause-narrowed t c =
    let e = one_read c.args.entry.now c.args.bx.now c.args.nodes.now c.args.values.now _ c.args.at c.in-One.op c.in-One.a _ c.args.target c.index-values-a.result c.back_unary.result c.requires.ordered c.requires.valued c.requires.inside c.in-One.is c.index-values-a.is c.back_unary.ensures in
    subst (Gives c.narrow.result c.narrow.new.bx)
    (sym (e ∙ ap (λ o. chain o (λ y. went c.args.entry.now c.args.bx.now (term_at (terms c.args.nodes.now) c.in-One.a) y)) c.in-Some.is))
    c.narrow.ensures.narrowed

pub returns-in-None-clause-narrowed : goal.returns-in-None-clause-narrowed
returns-in-None-clause-narrowed t c =
    let e = one_read c.args.entry.now c.args.bx.now c.args.nodes.now c.args.values.now _ c.args.at c.in-One.op c.in-One.a _ c.args.target c.index-values-a.result c.back_unary.result c.requires.ordered c.requires.valued c.requires.inside c.in-One.is c.index-values-a.is c.back_unary.ensures in
    e ∙ ap (λ o. chain o (λ y. went c.args.entry.now c.args.bx.now (term_at (terms c.args.nodes.now) c.in-One.a) y)) c.in-None.is

pub returns-in-None-back_binary-clause-narrowed : goal.returns-in-None-back_binary-clause-narrowed
returns-in-None-back_binary-clause-narrowed t c =
    let e = two_read c.args.entry.now c.args.bx.now c.args.nodes.now c.args.values.now _ c.args.at c.in-Two.op c.in-Two.a c.in-Two.b _ c.args.target c.index-values-a-in-Two.result c.index-values-b.result c.back_binary.result c.requires.ordered c.requires.valued c.requires.inside c.in-Two.is c.index-values-a-in-Two.is c.index-values-b.is c.back_binary.ensures in
    e ∙ ap (λ o. chain o (λ p. chain (went c.args.entry.now c.args.bx.now (term_at (terms c.args.nodes.now) c.in-Two.a) p.0) (λ r. went c.args.entry.now r (term_at (terms c.args.nodes.now) c.in-Two.b) p.1))) c.in-None-back_binary.is

pub returns-else-narrow-clause-narrowed : goal.returns-else-narrow-clause-narrowed
returns-else-narrow-clause-narrowed t c =
    let e = two_read c.args.entry.now c.args.bx.now c.args.nodes.now c.args.values.now _ c.args.at c.in-Two.op c.in-Two.a c.in-Two.b _ c.args.target c.index-values-a-in-Two.result c.index-values-b.result c.back_binary.result c.requires.ordered c.requires.valued c.requires.inside c.in-Two.is c.index-values-a-in-Two.is c.index-values-b.is c.back_binary.ensures in
    let f = e ∙ ap (λ o. chain o (λ p. chain (went c.args.entry.now c.args.bx.now (term_at (terms c.args.nodes.now) c.in-Two.a) p.0) (λ r. went c.args.entry.now r (term_at (terms c.args.nodes.now) c.in-Two.b) p.1))) c.in-Some-back_binary.is in
    subst (Gives c.narrow-in-Some-back_binary.result c.narrow-in-Some-back_binary.new.bx) (sym f)
    (first_fails c.narrow-in-Some-back_binary.result c.narrow-in-Some-back_binary.new.bx _ (went c.args.entry.now c.args.bx.now (term_at (terms c.args.nodes.now) c.in-Two.a) c.in-Some-back_binary.both.0)
    (λ r. went c.args.entry.now r (term_at (terms c.args.nodes.now) c.in-Two.b) c.in-Some-back_binary.both.1) c.if-narrow.false c.narrow-in-Some-back_binary.ensures.narrowed)

pub returns-then-narrow-clause-narrowed : goal.returns-then-narrow-clause-narrowed
returns-then-narrow-clause-narrowed t c =
    let e = two_read c.args.entry.now c.args.bx.now c.args.nodes.now c.args.values.now _ c.args.at c.in-Two.op c.in-Two.a c.in-Two.b _ c.args.target c.index-values-a-in-Two.result c.index-values-b.result c.back_binary.result c.requires.ordered c.requires.valued c.requires.inside c.in-Two.is c.index-values-a-in-Two.is c.index-values-b.is c.back_binary.ensures in
    let f = e ∙ ap (λ o. chain o (λ p. chain (went c.args.entry.now c.args.bx.now (term_at (terms c.args.nodes.now) c.in-Two.a) p.0) (λ r. went c.args.entry.now r (term_at (terms c.args.nodes.now) c.in-Two.b) p.1))) c.in-Some-back_binary.is in
    subst (Gives c.narrow-then-narrow.result c.narrow-then-narrow.new.bx) (sym f)
    (second_gives c.narrow-in-Some-back_binary.result c.narrow-then-narrow.result c.narrow-in-Some-back_binary.new.bx c.narrow-then-narrow.new.bx (went c.args.entry.now c.args.bx.now (term_at (terms c.args.nodes.now) c.in-Two.a) c.in-Some-back_binary.both.0)
    (λ r. went c.args.entry.now r (term_at (terms c.args.nodes.now) c.in-Two.b) c.in-Some-back_binary.both.1) c.if-narrow.true c.narrow-in-Some-back_binary.ensures.narrowed c.narrow-then-narrow.ensures.narrowed)

pub returns-then-is_left-clause-narrowed : goal.returns-then-is_left-clause-narrowed
returns-then-is_left-clause-narrowed t c =
    let q = c.if-is_left.ensures (search rules) in
    rest_gives c.args.entry.now c.args.bx.now c.args.nodes.now c.args.values.now c.args.at c.args.target c.index-values-at.result
    (rest_is c.args.rests c.args.entry.now c.args.bx.now c.args.nodes.now q.0 c.requires.rest) c.requires.valued c.dims-places.ensures.is_box.intervals c.requires.inside c.index-values-at.is q.1

pub offset_bounds-values-a : goal.offset_bounds-values-a
offset_bounds-values-a t c =
    let u = below_is c.args.nodes.now _ c.args.at (One c.in-One.op c.in-One.a) _ c.requires.ordered c.requires.inside c.in-One.is in
    search (rules, u)

pub offset_bounds-values-a-in-Two : goal.offset_bounds-values-a-in-Two
offset_bounds-values-a-in-Two t c =
    let u = below_is c.args.nodes.now _ c.args.at (Two c.in-Two.op c.in-Two.a c.in-Two.b) _ c.requires.ordered c.requires.inside c.in-Two.is in
    search (rules, u.0)

pub offset_bounds-values-b : goal.offset_bounds-values-b
offset_bounds-values-b t c =
    let u = below_is c.args.nodes.now _ c.args.at (Two c.in-Two.op c.in-Two.a c.in-Two.b) _ c.requires.ordered c.requires.inside c.in-Two.is in
    search (rules, u.1)

pub narrow-requires-then-narrow : goal.narrow-requires-then-narrow
narrow-requires-then-narrow t c =
    let u = below_is c.args.nodes.now _ c.args.at (Two c.in-Two.op c.in-Two.a c.in-Two.b) _ c.requires.ordered c.requires.inside c.in-Two.is in
    let e = gives_true c.narrow-in-Some-back_binary.result c.narrow-in-Some-back_binary.new.bx (went c.args.entry.now c.args.bx.now (term_at (terms c.args.nodes.now) c.in-Two.a) c.in-Some-back_binary.both.0) c.if-narrow.true c.narrow-in-Some-back_binary.ensures.narrowed in (
      search (rules, u.1),
      (
        search (rules, u.1),
        (
          subst (AreOrdered c.args.nodes.now) (sym c.narrow-in-Some-back_binary.ensures.dims) c.requires.ordered,
          (
            c.requires.valued,
            rest_after c.args.rests c.args.entry.now c.args.bx.now c.narrow-in-Some-back_binary.new.bx c.args.nodes.now (term_at (terms c.args.nodes.now) c.in-Two.a) c.in-Some-back_binary.both.0 c.requires.rest e,
          ),
        ),
      ),
    )

pub back_binary-requires : goal.back_binary-requires
back_binary-requires t c =
    rests_read c.args.entry.now c.args.nodes.now c.args.values.now _ c.args.at c.in-Two.op c.in-Two.a c.in-Two.b _ c.index-values-a-in-Two.result c.index-values-b.result c.index-values-at-in-Two.result c.rest_of.result c.args.target c.requires.ordered c.requires.valued c.requires.inside c.in-Two.is c.index-values-a-in-Two.is c.index-values-b.is c.index-values-at-in-Two.is c.rest_of.ensures

pub narrow-requires-in-Some-back_binary : goal.narrow-requires-in-Some-back_binary
narrow-requires-in-Some-back_binary t c =
    let u = below_is c.args.nodes.now _ c.args.at (Two c.in-Two.op c.in-Two.a c.in-Two.b) _ c.requires.ordered c.requires.inside c.in-Two.is in
    (search (rules, u.0), (search (rules, u.0), (c.requires.ordered, (c.requires.valued, c.requires.rest))))
