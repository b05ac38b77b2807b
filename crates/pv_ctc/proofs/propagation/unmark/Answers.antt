use Rattle.std.proofs.Common.{◌<◌, length, refl, ap, arith, take, subst, inl, inr}
use Rattle.std.specs.Prelude.{map}
use Rattle.std.proofs.lemmas.List.{length-map}
use Rattle.pv_hc4.specs.Graphs.{sides_of}
use Rattle.pv_ctc.specs.Contracting.{sides_in, side_at}
use Rattle.pv_ctc.specs.GraphLists.{GraphList}
use Rattle.pv_ctc.specs.Uses.{AreUses}
use Rattle.pv_ctc.proofs.Marking.{uses_length, uses_at}
use Rattle.pv_ctc.proofs.Sameness.{changed_is}
use Rattle.pv_ctc.proofs.Cleaning.{LookedAt, more_spared, left_alone}
use Rattle.pv_ctc.proofs.propagation.unmark.Goals.{then-has_changed, else-has_changed}
use Rattle.pv_ctc.proofs.propagation.unmark.Goals as goal

pub loop-i-init : goal.loop-i-init
loop-i-init c = record {
  end = let v = ap (λ (g : GraphList). length g.graphs) c.graphs.view_is in omega (arith, c.len-i-end.ensures, c.graphs.inside.graphs.ok.0, v);
  done = λ k h. absurd (omega arith);
  left = λ k h. refl;
}

pub index-requires : goal.index-requires
index-requires c =
    let u = uses_length c.graphs.inside.uses.items (map sides_of c.graphs.inside.graphs.items) c.graphs.invariant.1 in
    let v = ap (λ (g : GraphList). length g.graphs) c.graphs.view_is in
    omega (arith, u, v, length-map c.graphs.inside.graphs.items sides_of, c.loop-i-test.true, c.loop-i.invariant.end)

pub loop-i-preserved : goal.loop-i-preserved
loop-i-preserved c =
    let ss = sides_in c.args.graphs.now in
    let i = c.loop-i.i in
    let b = c.args.bx.now in
    let e = take (length b) c.args.entry.now in
    let u = c.index.result.now in
    let v = ap (λ (g : GraphList). length g.graphs) c.graphs.view_is in
    let m = length-map c.graphs.inside.graphs.items sides_of in
    let uses = λ (l : i < length ss).
    let k : i < length (map sides_of c.graphs.inside.graphs.items) = omega (arith, m, v, c.loop-i-test.true, c.loop-i.invariant.end) in
    subst (λ g. AreUses u (side_at (sides_in g) i)) c.graphs.view_is (uses_at c.graphs.inside.uses.items (map sides_of c.graphs.inside.graphs.items) i u c.graphs.invariant.1 k c.index.ensures) in
    let branch : LookedAt c.loop-i.clean c.if-has_changed.clean i c.has_changed.result = elim c.if-has_changed.branch [
      | then-has_changed w ↦ inl (w.if-has_changed.true, w.clean-is)
      | else-has_changed w ↦ inr (w.if-has_changed.false, w.clean-is)
    ] in
    record {
      end = c.loop-i.invariant.end;
      done = more_spared ss c.args.clean.now c.loop-i.clean c.if-has_changed.clean i e b c.has_changed.result
          (λ l. changed_is (side_at ss i) u c.args.entry.now e b c.has_changed.result (uses l) c.dims-places.ensures.is_box.few c.requires.dims refl c.has_changed.ensures)
          branch c.loop-i.invariant.done c.loop-i.invariant.left;
      left = left_alone c.args.clean.now c.loop-i.clean c.if-has_changed.clean i c.has_changed.result branch c.loop-i.invariant.left;
    }

pub returns : goal.returns
returns c = λ k l.
    c.loop-i.invariant.done k (omega (arith, l, length-map c.args.graphs.now.graphs sides_of, c.loop-i-test.false, c.loop-i.invariant.end)) l
