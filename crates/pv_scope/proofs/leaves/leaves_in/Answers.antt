use Rattle.std.proofs.Common.{◌≡◌, ◌++◌, ◌∷◌, ◌+◌, List, Bool, sym, ◌∙◌, ap, arith}
use Rattle.pv_tree.specs.Trees.{opens}
use Rattle.pv_tree.specs.Pieces.{Walked, to_come, all_nodes}
use Rattle.pv_scope.specs.Scopes.{is_in_scope, picked}
use Rattle.pv_scope.proofs.Ahead.{ahead, all_ahead, passed_leaf, passed_settled, taken, falls, falls_past}
use Rattle.pv_scope.proofs.leaves.leaves_in.Goals as goal

pub loop-shape-init : goal.loop-shape-init
loop-shape-init c =
    let test = is_in_scope c.args.scope in let t = c.args.paving.now.tree in
    let size : to_come c.in_ok-walk.walk.pending ≡ all_nodes t + 0 = ap (λ (w : Walked). to_come w.pending) c.in_ok-walk.ensures in
    record {
      leaves = ap (λ (qs : List (List Bool)). qs ++ picked test 0 (ahead c.in_ok-walk.walk.pending)) c.new-leaves.ensures.items
          ∙ ap (λ (w : Walked). picked test 0 (ahead w.pending)) c.in_ok-walk.ensures ∙ ap (picked test 0) (all_ahead c.args.paving.now.root t);
      few = omega (arith, size);
    }

pub loop-shape-preserved-in-OpenLeaf : goal.loop-shape-preserved-in-OpenLeaf
loop-shape-preserved-in-OpenLeaf c =
    let test = is_in_scope c.args.scope in let l = c.loop-shape in let new = c.next.new.self in
    record {
      leaves = taken test l.number (l.number + 1) c.path.result l.leaves.items c.take_leaf.new.leaves.items (ahead l.walk.pending) (ahead new.pending) (picked test 0 (opens c.args.paving.now.tree)) (omega arith)
          c.in_ok-take_leaf.ensures (passed_leaf l.walk new c.in-Some.shape c.in-Some.ensures.visit c.in-OpenLeaf.is ∙ ap (λ (p : List Bool). p ∷ ahead new.pending) (sym c.path.ensures)) l.invariant.leaves;
      few = falls l.walk new c.in-Some.shape l.number (all_nodes c.args.paving.now.tree) c.in-Some.ensures.visit l.invariant.few;
    }

pub loop-shape-preserved : goal.loop-shape-preserved
loop-shape-preserved c =
    let test = is_in_scope c.args.scope in let l = c.loop-shape in let new = c.next.new.self in
    record {
      leaves = ap (λ (qs : List (List Bool)). l.leaves.items ++ picked test l.number qs) (passed_settled l.walk new c.in-Some.shape c.in-Some.ensures.visit c.in_default-shape.not-OpenLeaf) ∙ l.invariant.leaves;
      few = falls_past l.walk new c.in-Some.shape l.number (all_nodes c.args.paving.now.tree) c.in-Some.ensures.visit l.invariant.few;
    }
