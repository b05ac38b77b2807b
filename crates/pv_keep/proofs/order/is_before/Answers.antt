use Rattle.std.proofs.Common.{◌≡◌, ◌≤◌, ◌⊎◌, length, ltb, rules, ◌∙◌}
use Rattle.pv_keep.proofs.Stepping.{one_ends}
use Rattle.pv_keep.proofs.order.is_before.Goals as goal

pub returns : goal.returns
returns c =
    let mine : c.len-steps.result ≡ length c.args.a = c.len-steps.ensures.count in
    let theirs : c.len-others.result ≡ length c.args.b = c.len-others.ensures.count in
    let low : c.loop-i.i ≤ length c.args.a = search rules in
    let high : c.loop-i.i ≤ length c.args.b = search rules in
    let end : (length c.args.a ≤ c.loop-i.i) ⊎ (length c.args.b ≤ c.loop-i.i) = search rules in
    (λ i. ltb (mine i) (theirs i)) ∙ one_ends c.args.a c.args.b c.loop-i.i low high end ∙ c.loop-i.invariant
