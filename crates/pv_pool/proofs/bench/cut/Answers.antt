use Rattle.std.proofs.Common.{◌≡◌, ◌<◌, ◌+◌, ◌-◌, get_or, rules, refl, ap, sym, ◌∙◌, arith}
use Rattle.pv_pool.specs.Hands.{parts_of}
use Rattle.pv_pool.specs.Benches.{own}
use Rattle.pv_pool.proofs.Linking.{cut_links, fresh_cut, parts_here, parts_else, any_default}
use Rattle.pv_pool.proofs.bench.cut.Goals as goal

pub returns-clause-links : goal.returns-clause-links
returns-clause-links g c =
    let e = c.in_ok-share.ensures in
    let r = c.index-benches-number.result in
    let more : 1 < (own (get_or c.args.benches.now c.args.number r).owner).parts = c.requires.parts r in
    let less : (own c.share.new.self).parts ≡ (own (get_or c.args.benches.now c.args.number r).owner).parts - 1 = ap parts_of e.left in
    cut_links c.args.benches.now c.args.number _ r c.in_ok-share.field-0 c.requires.there c.requires.links e.same refl e.number e.deque e.cut (omega arith) more

pub returns-clause-fresh : goal.returns-clause-fresh
returns-clause-fresh g c =
    let e = c.in_ok-share.ensures in
    fresh_cut c.args.benches.now c.args.number _ c.index-benches-number.result c.requires.there c.requires.fresh (ap (λ h. h.pushed) e.left) (ap (λ h. h.taken) e.left) refl refl

pub returns-clause-parts : goal.returns-clause-parts
returns-clause-parts g c d =
    let e = c.in_ok-share.ensures in
    let r = c.index-benches-number.result in
    let more : 1 < (own (get_or c.args.benches.now c.args.number r).owner).parts = c.requires.parts r in
    let less : (own c.share.new.self).parts ≡ (own (get_or c.args.benches.now c.args.number r).owner).parts - 1 = ap parts_of e.left in
    let there : (own c.share.new.self).parts + 1 ≡ (own (get_or c.args.benches.now c.args.number r).owner).parts = omega arith in
    ap (λ n. n + 1) (parts_here c.args.benches.now c.args.number _ c.requires.there d) ∙ (there ∙ ap (λ b. (own b.owner).parts) (any_default c.args.benches.now c.args.number r d c.requires.there))

pub returns-clause-same : goal.returns-clause-same
returns-clause-same g c = λ k d n. parts_else c.args.benches.now c.args.number _ k d n
