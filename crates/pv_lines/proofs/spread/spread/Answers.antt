use Rattle.std.proofs.Common.{◌≡◌, ◌+◌, ◌*◌, ◌++◌, [], ◌∷◌, suc, length, sym, ◌∙◌, ap, subst, arith, rules}
use Rattle.std.proofs.Math.Nat.{mul-suc}
use Rattle.pv_tree.specs.Pieces.{root_piece}
use Rattle.pv_file.specs.Walks.{after_steps}
use Rattle.pv_lines.specs.Turns.{AreSpread}
use Rattle.pv_lines.proofs.Turning.{spread_more, steps_add}
use Rattle.pv_lines.proofs.spread.spread.Goals as goal

pub loop-worker-preserved : goal.loop-worker-preserved
loop-worker-preserved c =
    let share = c.args.share in
    let all = root_piece c.args.p.now.root c.args.p.now.tree ∷ [] in
    let before = c.loop-worker.scribes.items in
    let x = c.in_ok-clone_of.field-0 in
    let items : c.push_reserved.new.self.items ≡ before ++ x ∷ [] = search rules in
    let longer : length c.push_reserved.new.self.items ≡ suc (length before) = search rules in
    let here : x.pending ≡ after_steps (share * length before) all = c.in_ok-clone_of.ensures ∙ c.loop-worker.invariant.stands in
    let far : share * length before + share ≡ share * suc (length before) = omega (arith, mul-suc share (length before)) in record {
      count = search rules;
      room = search rules;
      stands = c.pass.ensures.come ∙ ap (after_steps share) c.loop-worker.invariant.stands ∙ sym (steps_add (share * length before) share all)
          ∙ ap (λ n. after_steps n all) (far ∙ ap (λ n. share * n) (sym longer));
      spread = subst (AreSpread share all) (sym items) (spread_more share all before x c.loop-worker.invariant.spread here);
    }

pub returns-clause-spread : goal.returns-clause-spread
returns-clause-spread c =
    let share = c.args.share in
    let all = root_piece c.args.p.now.root c.args.p.now.tree ∷ [] in
    let before = c.loop-worker.scribes.items in
    let items : c.push_reserved-2.new.self.items ≡ before ++ c.loop-worker.last ∷ [] = search rules in
    subst (AreSpread share all) (sym items) (spread_more share all before c.loop-worker.last c.loop-worker.invariant.spread c.loop-worker.invariant.stands)
