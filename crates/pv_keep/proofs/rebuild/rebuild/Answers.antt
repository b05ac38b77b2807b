use Rattle.std.proofs.Common.{◌≡◌, ◌<◌, ◌≤◌, sym, subst, length, take, true, false, arith, rules}
use Rattle.pv_tree.specs.Trees.{Tree, leaf}
use Rattle.pv_keep.specs.Rebuilding.{Make, IsFirstBad}
use Rattle.pv_keep.proofs.Leaves.{open_begun, order_begun, was_put, grown_on, first_bad, same_bad_row, take_whole}
use Rattle.pv_keep.proofs.Making.{made_rows, make_count}
use Rattle.pv_keep.proofs.rebuild.rebuild.Goals as goal

pub loop-i-init : goal.loop-i-init
loop-i-init c = record {
  bx = search rules;
  grown = record {
    root = search rules;
    made = search rules;
    order = order_begun c.args.root c.in_ok-growth.growth c.in_ok-growth.ensures;
    leaves = λ o. open_begun c.args.root c.in_ok-growth.growth c.args.rows.now c.in_ok-growth.ensures;
  };
}

pub loop-i-preserved : goal.loop-i-preserved
loop-i-preserved c =
    let good : c.in_ok-put_row.field-0 ≡ true = search rules in
    let below : c.loop-i.i < length c.args.rows.now = search rules in
    record {
      bx = search rules;
      grown = grown_on c.args.root c.args.rows.now c.loop-i.i c.loop-i.growth c.put_row.new.growth c.get.result.now c.loop-i.invariant.grown below c.get.ensures
          (was_put c.loop-i.growth c.put_row.new.growth c.get.result.now c.in_ok-put_row.field-0 c.in_ok-put_row.ensures.put good);
    }

pub returns-then-not-branch-clause-bad : goal.returns-then-not-branch-clause-bad
returns-then-not-branch-clause-bad c = λ o n e.
    let bad : c.in_ok-put_row.field-0 ≡ false = search rules in
    let below : c.loop-i.i < length c.args.rows.now = search rules in
    subst (IsFirstBad c.args.root c.args.rows.now) (same_bad_row c.loop-i.i n e)
    (first_bad c.args.root c.args.rows.now c.loop-i.i c.loop-i.growth c.put_row.new.growth c.get.result.now c.in_ok-put_row.field-0 c.loop-i.invariant.grown below c.get.ensures
    c.in_ok-put_row.ensures.put bad o)

pub returns-clause-made : goal.returns-clause-made
returns-clause-made c =
    let done : length c.args.rows.now ≤ c.loop-i.i = search rules in
    let all : take c.loop-i.i c.args.rows.now ≡ c.args.rows.now = take_whole c.args.rows.now c.loop-i.i done in
    subst (λ (t : Tree). Make c.args.root leaf c.args.rows.now t) (sym c.finish.ensures.tree)
    (subst (λ ws. Make c.args.root leaf ws c.loop-i.growth.tree) all c.loop-i.invariant.grown.made)

pub returns-clause-rows : goal.returns-clause-rows
returns-clause-rows c = λ o. made_rows c.args.root c.args.rows.now c.finish.result.tree (returns-clause-made c) o

pub returns-clause-count : goal.returns-clause-count
returns-clause-count c = omega (arith, make_count c.args.root leaf c.args.rows.now c.finish.result.tree (returns-clause-made c))
