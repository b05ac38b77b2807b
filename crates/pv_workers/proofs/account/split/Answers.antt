use Rattle.std.proofs.Common.{◌≡◌, ◌-◌, [], ◌∷◌, length, length-append, sym, ◌∙◌, ap, arith, rules, subst}
use Rattle.pv_board.specs.Tallies.{Tally, tally_of}
use Rattle.pv_workers.specs.Accounts.{parts_in, AllBelow}
use Rattle.pv_workers.proofs.Counts.{parts_push, below_push, kept_tally, none_below}
use Rattle.pv_workers.proofs.account.split.Goals as goal

pub loop-worker-preserved : goal.loop-worker-preserved
loop-worker-preserved g c =
    let e = c.push_reserved.ensures.items in let old = c.loop-worker.accounts.items in let t = c.new.result in
    let is : t ≡ tally_of 1 = c.new.ensures ∙ c.split.ensures.given in
    let one : t.parts ≡ 1 = ap (λ (t : Tally). t.parts) is in
    let n = ap length e ∙ length-append old (t ∷ []) in
    let p = ap parts_in e ∙ parts_push old t in
    let k : c.split.new.self.parts ≡ c.loop-worker.told.parts - 1 = ap (λ (t : Tally). t.parts) c.split.ensures.kept in
    let i = c.loop-worker.invariant in let few = c.loop-worker-test.true in let most = c.requires.sixteen in
    record {
      count = omega (arith, n, i.count);
      room = search rules;
      parts = omega (arith, p, one, k, i.parts, i.left, few, most);
      told = kept_tally c.loop-worker.told c.split.new.self i.told c.split.ensures.kept;
      left = omega (arith, k, i.left, few, most);
      none = subst (AllBelow 1) (sym e) (below_push 1 old t i.none (none_below t 1 is));
    }

pub returns-clause-none : goal.returns-clause-none
returns-clause-none g c =
    let t = c.new-2.result in let i = c.loop-worker.invariant in
    subst (AllBelow 1) (sym c.push_reserved-2.ensures.items)
    (below_push 1 c.loop-worker.accounts.items t i.none (none_below t c.loop-worker.told.parts (c.new-2.ensures ∙ i.told)))

pub returns-clause-parts : goal.returns-clause-parts
returns-clause-parts g c =
    let t = c.new-2.result in let i = c.loop-worker.invariant in
    let p = ap parts_in c.push_reserved-2.ensures.items ∙ parts_push c.loop-worker.accounts.items t in
    let q : t.parts ≡ c.loop-worker.told.parts = ap (λ (t : Tally). t.parts) c.new-2.ensures in
    omega (arith, p, q, i.parts)
