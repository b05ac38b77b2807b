use Rattle.std.proofs.Common.{◌≡◌, ◌<◌, ◌+◌, ◌++◌, ◌∷◌, [], List, true, false, length, length-append, ap, sym, ◌∙◌, arith}
use Rattle.pv_join.proofs.Overlays.{on_ok_map}
use Rattle.pv_keep.specs.declared.row.Row.{Row}
use Rattle.pv_keep.proofs.Fresh.{short_at, end_rows, cut_rows}
use Rattle.pv_keep.proofs.new_rows.+push_below.Goals as goal

pub returns-then-not-goes_on : goal.returns-then-not-goes_on
returns-then-not-goes_on t c =
    c.in_ok-push_settled.ensures
    ∙ ap (λ (ws : List Row). c.args.rows.now ++ ws) (end_rows c.args.paving.now.tree c.args.path c.shape_at-shape.result c.shape_at-shape.ensures (sym c.is_cut-goes_on.ensures ∙ c.if-not-goes_on.true))

pub low-requires : goal.low-requires
low-requires t c =
    short_at c.args.paving.now.tree c.args.path c.shape_at-shape.result c.shape_at-shape.ensures (sym c.is_cut-goes_on.ensures ∙ c.if-not-goes_on.false) c.dims-places.ensures.paving.depth

pub high-requires : goal.high-requires
high-requires t c =
    short_at c.args.paving.now.tree c.args.path c.shape_at-shape.result c.shape_at-shape.ensures (sym c.is_cut-goes_on.ensures ∙ c.if-not-goes_on.false) c.dims-places.ensures.paving.depth

pub push_below-requires : goal.push_below-requires
push_below-requires t c =
    let short : length c.args.path < 200 =
    short_at c.args.paving.now.tree c.args.path c.shape_at-shape.result c.shape_at-shape.ensures (sym c.is_cut-goes_on.ensures ∙ c.if-not-goes_on.false) c.dims-places.ensures.paving.depth in
    let size : length c.low.result ≡ length c.args.path + 1 = ap length c.low.ensures ∙ length-append c.args.path (false ∷ []) in
    (omega (arith, short, size), tt)

pub push_below-requires-2 : goal.push_below-requires-2
push_below-requires-2 t c =
    let short : length c.args.path < 200 =
    short_at c.args.paving.now.tree c.args.path c.shape_at-shape.result c.shape_at-shape.ensures (sym c.is_cut-goes_on.ensures ∙ c.if-not-goes_on.false) c.dims-places.ensures.paving.depth in
    let size : length c.high.result ≡ length c.args.path + 1 = ap length c.high.ensures ∙ length-append c.args.path (true ∷ []) in
    (omega (arith, short, size), tt)

pub returns : goal.returns
returns t c =
    on_ok_map c.push_below-2.result _ _
    (λ h. cut_rows c.args.paving.now.tree c.args.path c.low.result c.high.result c.shape_at-shape.result c.args.rows.now c.push_settled.new.rows c.push_below.new.rows c.push_below-2.new.rows
    c.shape_at-shape.ensures (sym c.is_cut-goes_on.ensures ∙ c.if-not-goes_on.false) c.low.ensures c.high.ensures c.in_ok-push_settled.ensures c.in_ok-push_below.ensures h)
    c.push_below-2.ensures
