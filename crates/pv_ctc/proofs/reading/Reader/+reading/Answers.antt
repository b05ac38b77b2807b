use Rattle.std.proofs.Common.{◌≡◌, ◌≤◌, length, arith, sym, subst, ◌∙◌}
use Rattle.pv_ctc.specs.declared.program.Program.{items_hidden-the_row-Program-0}
use Rattle.pv_ctc.specs.declared.program.Program.TheBlock.{hidden-the_row-Program-0}
use Rattle.std.proofs.Common.{[], ◌∷◌, length-append}
use Rattle.pv_ctc.specs.Plans.{plan_of, plans_of, IsFor, AreFor}
use Rattle.std.specs.Prelude.{codes}
use Rattle.std.proofs.Common.{drop, ap, ◌++◌}
use Rattle.pv_ctc.specs.Texts.{parts_text}
use Rattle.pv_ctc.specs.Words.{word_text}
use Rattle.pv_ctc.proofs.Pieces.{parts_read, compose_read, union_read, qinter_read}
use Rattle.std.proofs.Common.{◌+◌, ◌-◌}
use Rattle.pv_ctc.specs.Plans.{nodes_in}
use Rattle.pv_ctc.specs.declared.token.Word.TheVariants.{Hc4, Compose, Union, QInter, Fix, Prop}
use Rattle.pv_ctc.proofs.Rows.{row_nodes, nodes_more, row_fits, row_fits_q, plans_more}
use Rattle.pv_ctc.specs.declared.token.Token.TheVariants.{Close, Comma}
use Rattle.pv_ctc.specs.Symbols.{tokens_at}
use Rattle.pv_ctc.specs.Refusals.{exactly, a_program, a_number, more_programs, nothing, programs, arguments_due}
use Rattle.pv_ctc.specs.Taking.{Took, Stopped}
use Rattle.pv_ctc.proofs.Dues.{passed, stops_more, stops_behind, then_took}
use Rattle.pv_ctc.proofs.reading.Reader.+reading.Goals as goal

pub arguments-returns-in_ok-parts-in-Compose-clause-fits : goal.arguments-returns-in_ok-parts-in-Compose-clause-fits
arguments-returns-in_ok-parts-in-Compose-clause-fits t c =
    row_fits c.args.self.now.count _ (hidden-the_row-Program-0 c.in_ok-parts-in-Compose.field-0) c.in_ok-parts-in-Compose.field-0.items (items_hidden-the_row-Program-0 c.in_ok-parts-in-Compose.field-0) c.in_ok-parts-in-Compose.ensures.some c.in_ok-parts-in-Compose.ensures.fits

pub arguments-returns-in_ok-parts-in-Union-clause-fits : goal.arguments-returns-in_ok-parts-in-Union-clause-fits
arguments-returns-in_ok-parts-in-Union-clause-fits t c =
    row_fits c.args.self.now.count _ (hidden-the_row-Program-0 c.in_ok-parts-in-Union.field-0) c.in_ok-parts-in-Union.field-0.items (items_hidden-the_row-Program-0 c.in_ok-parts-in-Union.field-0) c.in_ok-parts-in-Union.ensures.some c.in_ok-parts-in-Union.ensures.fits

pub arguments-returns-else-len-q-clause-fits : goal.arguments-returns-else-len-q-clause-fits
arguments-returns-else-len-q-clause-fits t c =
    row_fits_q c.args.self.now.count _ c.in_ok-q-in-QInter.q (hidden-the_row-Program-0 c.in_ok-parts-in-QInter.parts) c.in_ok-parts-in-QInter.parts.items (items_hidden-the_row-Program-0 c.in_ok-parts-in-QInter.parts) c.in_ok-q-in-QInter.ensures.range.0
    (let l = c.len.ensures in let f = c.if-len-q.false in omega (arith, l, f))
    (subst (λ n. AreFor n (plans_of c.in_ok-parts-in-QInter.parts.items)) (c.want.ensures.count ∙ c.number-in-QInter.ensures.count) c.in_ok-parts-in-QInter.ensures.fits)

pub arguments-returns-in_ok-parts-in-Compose-clause-stood : goal.arguments-returns-in_ok-parts-in-Compose-clause-stood
arguments-returns-in_ok-parts-in-Compose-clause-stood t c =
    let v = c.in_ok-parts-in-Compose.field-0 in
    let rest = drop c.args.self.now.at c.args.self.now.text.now in
    ap (λ w. word_text w ++ codes "(" ++ rest) c.in-Compose.is
    ∙ compose_read (hidden-the_row-Program-0 v) v.items rest (drop c.parts.new.self.at c.parts.new.self.text.now) (items_hidden-the_row-Program-0 v) c.in_ok-parts-in-Compose.ensures.stood

pub arguments-returns-in_ok-parts-in-Union-clause-stood : goal.arguments-returns-in_ok-parts-in-Union-clause-stood
arguments-returns-in_ok-parts-in-Union-clause-stood t c =
    let v = c.in_ok-parts-in-Union.field-0 in
    let rest = drop c.args.self.now.at c.args.self.now.text.now in
    ap (λ w. word_text w ++ codes "(" ++ rest) c.in-Union.is
    ∙ union_read (hidden-the_row-Program-0 v) v.items rest (drop c.parts-in-Union.new.self.at c.parts-in-Union.new.self.text.now) (items_hidden-the_row-Program-0 v) c.in_ok-parts-in-Union.ensures.stood

pub arguments-returns-else-len-q-clause-stood : goal.arguments-returns-else-len-q-clause-stood
arguments-returns-else-len-q-clause-stood t c =
    let v = c.in_ok-parts-in-QInter.parts in
    let rest = drop c.args.self.now.at c.args.self.now.text.now in
    ap (λ w. word_text w ++ codes "(" ++ rest) c.in-QInter.is
    ∙ qinter_read c.in_ok-q-in-QInter.q (hidden-the_row-Program-0 v) v.items rest
    (drop c.number-in-QInter.new.self.at c.number-in-QInter.new.self.text.now) (drop c.want.new.self.at c.want.new.self.text.now)
    (drop c.parts-in-QInter.new.self.at c.parts-in-QInter.new.self.text.now) (items_hidden-the_row-Program-0 v)
    c.in_ok-q-in-QInter.ensures.stood c.in_ok-want-in-QInter.ensures.stood c.in_ok-parts-in-QInter.ensures.stood

pub arguments-returns-in_err-number-in-Hc4-clause-stopped : goal.arguments-returns-in_err-number-in-Hc4-clause-stopped
arguments-returns-in_err-number-in-Hc4-clause-stopped t c =
    let e = c.in_err-number-in-Hc4.field-0.0 in
    let before = tokens_at c.args.self.now.text.now c.args.self.now.at in
    let s : Stopped c.args.self.now.count (arguments_due c.args.self.now.count Hc4) c.args.self.now.named before e = stops_more c.args.self.now.count (a_number 0 c.args.self.now.count nothing ∷ []) (exactly Close ∷ []) c.args.self.now.named before e (c.in_err-number-in-Hc4.ensures.stopped nothing) in
    passed _ e _ c.from_residual.ensures.1 (subst (λ w. Stopped c.args.self.now.count (arguments_due c.args.self.now.count w) c.args.self.now.named before e) (sym c.in-Hc4.is) s)

pub arguments-returns-in_err-number-in-Prop-clause-stopped : goal.arguments-returns-in_err-number-in-Prop-clause-stopped
arguments-returns-in_err-number-in-Prop-clause-stopped t c =
    let e = c.in_err-number-in-Prop.field-0.0 in
    let before = tokens_at c.args.self.now.text.now c.args.self.now.at in
    let s : Stopped c.args.self.now.count (arguments_due c.args.self.now.count Prop) c.args.self.now.named before e = stops_more c.args.self.now.count (a_number 1 65 nothing ∷ []) (exactly Close ∷ []) c.args.self.now.named before e (c.in_err-number-in-Prop.ensures.stopped nothing) in
    passed _ e _ c.from_residual-in_err-number-in-Prop.ensures.1 (subst (λ w. Stopped c.args.self.now.count (arguments_due c.args.self.now.count w) c.args.self.now.named before e) (sym c.in-Prop.is) s)

pub arguments-returns-in_err-turns-in-Fix-clause-stopped : goal.arguments-returns-in_err-turns-in-Fix-clause-stopped
arguments-returns-in_err-turns-in-Fix-clause-stopped t c =
    let e = c.in_err-turns-in-Fix.field-0.0 in
    let before = tokens_at c.args.self.now.text.now c.args.self.now.at in
    let s : Stopped c.args.self.now.count (arguments_due c.args.self.now.count Fix) c.args.self.now.named before e = stops_more c.args.self.now.count (a_number 1 65 nothing ∷ []) (exactly Comma ∷ a_program ∷ exactly Close ∷ []) c.args.self.now.named before e (c.in_err-turns-in-Fix.ensures.stopped nothing) in
    passed _ e _ c.from_residual-in_err-turns-in-Fix.ensures.1 (subst (λ w. Stopped c.args.self.now.count (arguments_due c.args.self.now.count w) c.args.self.now.named before e) (sym c.in-Fix.is) s)

pub arguments-returns-in_err-parts-in-Compose-clause-stopped : goal.arguments-returns-in_err-parts-in-Compose-clause-stopped
arguments-returns-in_err-parts-in-Compose-clause-stopped t c =
    let e = c.in_err-parts-in-Compose.field-0.0 in
    let before = tokens_at c.args.self.now.text.now c.args.self.now.at in
    let s : Stopped c.args.self.now.count (arguments_due c.args.self.now.count Compose) c.args.self.now.named before e = c.in_err-parts-in-Compose.ensures.stopped 0 in
    passed _ e _ c.from_residual-in_err-parts-in-Compose.ensures.1 (subst (λ w. Stopped c.args.self.now.count (arguments_due c.args.self.now.count w) c.args.self.now.named before e) (sym c.in-Compose.is) s)

pub arguments-returns-in_err-parts-in-Union-clause-stopped : goal.arguments-returns-in_err-parts-in-Union-clause-stopped
arguments-returns-in_err-parts-in-Union-clause-stopped t c =
    let e = c.in_err-parts-in-Union.field-0.0 in
    let before = tokens_at c.args.self.now.text.now c.args.self.now.at in
    let s : Stopped c.args.self.now.count (arguments_due c.args.self.now.count Union) c.args.self.now.named before e = c.in_err-parts-in-Union.ensures.stopped 0 in
    passed _ e _ c.from_residual-in_err-parts-in-Union.ensures.1 (subst (λ w. Stopped c.args.self.now.count (arguments_due c.args.self.now.count w) c.args.self.now.named before e) (sym c.in-Union.is) s)

pub arguments-returns-in_err-q-in-QInter-clause-stopped : goal.arguments-returns-in_err-q-in-QInter-clause-stopped
arguments-returns-in_err-q-in-QInter-clause-stopped t c =
    let e = c.in_err-q-in-QInter.field-0.0 in
    let before = tokens_at c.args.self.now.text.now c.args.self.now.at in
    let s : Stopped c.args.self.now.count (arguments_due c.args.self.now.count QInter) c.args.self.now.named before e = c.in_err-q-in-QInter.ensures.stopped programs in
    passed _ e _ c.from_residual-in_err-q-in-QInter.ensures.1 (subst (λ w. Stopped c.args.self.now.count (arguments_due c.args.self.now.count w) c.args.self.now.named before e) (sym c.in-QInter.is) s)

pub arguments-returns-in_err-parts-in-QInter-clause-stopped : goal.arguments-returns-in_err-parts-in-QInter-clause-stopped
arguments-returns-in_err-parts-in-QInter-clause-stopped t c =
    let e = c.in_err-parts-in-QInter.field-0.0 in
    let before = tokens_at c.args.self.now.text.now c.args.self.now.at in
    let s : Stopped c.args.self.now.count (arguments_due c.args.self.now.count QInter) c.args.self.now.named before e =
    (let more = more_programs (c.in_ok-q-in-QInter.q - 1) in
    let middle = tokens_at c.number-in-QInter.new.self.text.now c.number-in-QInter.new.self.at in
    let last = tokens_at c.want.new.self.text.now c.want.new.self.at in
    stops_behind c.args.self.now.count c.number-in-QInter.new.self.count c.args.self.now.named c.number-in-QInter.new.self.named (a_number 1 257 programs ∷ []) (exactly Comma ∷ a_program ∷ more ∷ []) before middle e
    c.number-in-QInter.ensures.count (c.in_ok-q-in-QInter.ensures.took programs)
    (stops_behind c.number-in-QInter.new.self.count c.want.new.self.count c.number-in-QInter.new.self.named c.want.new.self.named (exactly Comma ∷ a_program ∷ more ∷ []) (a_program ∷ more ∷ []) middle last e
    c.want.ensures.count (λ rest. c.in_ok-want-in-QInter.ensures.took (a_program ∷ more ∷ rest)) (c.in_err-parts-in-QInter.ensures.stopped (c.in_ok-q-in-QInter.q - 1)))) in
    passed _ e _ c.from_residual-in_err-parts-in-QInter.ensures.1 (subst (λ w. Stopped c.args.self.now.count (arguments_due c.args.self.now.count w) c.args.self.now.named before e) (sym c.in-QInter.is) s)

pub arguments-returns-in_ok-parts-in-Compose-clause-nodes : goal.arguments-returns-in_ok-parts-in-Compose-clause-nodes
arguments-returns-in_ok-parts-in-Compose-clause-nodes t c =
    let v = c.in_ok-parts-in-Compose.field-0 in
    row_nodes (hidden-the_row-Program-0 v) v.items (items_hidden-the_row-Program-0 v) c.args.self.now.named c.parts.new.self.named c.in_ok-parts-in-Compose.ensures.nodes

pub arguments-returns-in_ok-parts-in-Union-clause-nodes : goal.arguments-returns-in_ok-parts-in-Union-clause-nodes
arguments-returns-in_ok-parts-in-Union-clause-nodes t c =
    let v = c.in_ok-parts-in-Union.field-0 in
    row_nodes (hidden-the_row-Program-0 v) v.items (items_hidden-the_row-Program-0 v) c.args.self.now.named c.parts-in-Union.new.self.named c.in_ok-parts-in-Union.ensures.nodes

pub arguments-returns-else-len-q-clause-nodes : goal.arguments-returns-else-len-q-clause-nodes
arguments-returns-else-len-q-clause-nodes t c =
    let v = c.in_ok-parts-in-QInter.parts in
    let h = c.in_ok-parts-in-QInter.ensures.nodes in
    row_nodes (hidden-the_row-Program-0 v) v.items (items_hidden-the_row-Program-0 v) c.args.self.now.named c.parts-in-QInter.new.self.named (c.in_ok-parts-in-QInter.ensures.nodes ∙ ap (λ n. n + nodes_in (plans_of v.items)) (c.want.ensures.named ∙ c.number-in-QInter.ensures.named))

pub parts-loop-alloc-preserved : goal.parts-loop-alloc-preserved
parts-loop-alloc-preserved t c =
    let n : c.comma.new.self.count ≡ c.args.self.now.count = c.comma.ensures.count ∙ c.loop-alloc.invariant.count in
    let items = c.in_ok-push-2.ensures.items in
    let ps = c.loop-alloc.parts.items in
    let p = c.in_ok-program-2.field-0 in
    record {
      named = omega (arith, c.in_ok-program-2.ensures.named, c.comma.ensures.named, c.loop-alloc.invariant.named);
      count = c.program-in-loop-alloc.ensures.count ∙ n;
      text = c.program-in-loop-alloc.ensures.text ∙ c.comma.ensures.text ∙ c.loop-alloc.invariant.text;
      stood =
          subst (λ xs. drop c.args.self.now.at c.args.self.now.text.now ≡ parts_text 0 (plans_of xs) ++ drop c.program-in-loop-alloc.new.self.at c.program-in-loop-alloc.new.self.text.now) (sym items)
          (parts_read ps p (drop c.args.self.now.at c.args.self.now.text.now) (drop c.loop-alloc.self.at c.loop-alloc.self.text.now) (drop c.comma.new.self.at c.comma.new.self.text.now)
          (drop c.program-in-loop-alloc.new.self.at c.program-in-loop-alloc.new.self.text.now) c.loop-alloc.invariant.some c.loop-alloc.invariant.stood (c.comma.ensures.stood c.loop-alloc-test.true) c.in_ok-program-2.ensures.stood);
      some = subst (λ xs. 1 ≤ length xs) (sym items) (omega (arith, length-append ps (p ∷ [])));
      fits = subst (λ xs. AreFor c.args.self.now.count (plans_of xs)) (sym items) (plans_more c.args.self.now.count ps p c.loop-alloc.invariant.fits (subst (λ k. IsFor k (plan_of p)) n c.in_ok-program-2.ensures.fits));
      nodes = subst (λ xs. c.program-in-loop-alloc.new.self.named ≡ c.args.self.now.named + nodes_in (plans_of xs)) (sym items) (omega (arith, nodes_more ps p, c.in_ok-program-2.ensures.nodes, c.comma.ensures.named, c.loop-alloc.invariant.nodes));
      took = λ k.
          let before = tokens_at c.args.self.now.text.now c.args.self.now.at in
          let now = tokens_at c.loop-alloc.self.text.now c.loop-alloc.self.at in
          let middle = tokens_at c.comma.new.self.text.now c.comma.new.self.at in
          let after = tokens_at c.program-in-loop-alloc.new.self.text.now c.program-in-loop-alloc.new.self.at in
          let due = a_program ∷ more_programs k ∷ [] in
          let j = k + 1 - length ps in
          let fewer : j - 1 ≡ k + 1 - length (ps ++ p ∷ []) = omega (arith, length-append ps (p ∷ [])) in
          let comma = then_took c.args.self.now.count c.loop-alloc.self.count c.args.self.now.named c.loop-alloc.self.named c.comma.new.self.named due (more_programs j ∷ []) (a_program ∷ more_programs (j - 1) ∷ []) before now middle
          c.loop-alloc.invariant.count (c.loop-alloc.invariant.took k) (c.comma.ensures.took c.loop-alloc-test.true j) in
          let part = then_took c.args.self.now.count c.comma.new.self.count c.args.self.now.named c.comma.new.self.named c.program-in-loop-alloc.new.self.named due (a_program ∷ more_programs (j - 1) ∷ []) (more_programs (j - 1) ∷ []) before middle after
          n comma (λ rest. c.in_ok-program-2.ensures.took (more_programs (j - 1) ∷ rest)) in
          subst (λ xs. Took c.args.self.now.count due c.args.self.now.named before (more_programs (k + 1 - length xs) ∷ []) c.program-in-loop-alloc.new.self.named after) (sym items)
          (subst (λ m. Took c.args.self.now.count due c.args.self.now.named before (more_programs m ∷ []) c.program-in-loop-alloc.new.self.named after) fewer part);
    }
