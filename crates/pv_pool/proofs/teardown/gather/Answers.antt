use Rattle.std.proofs.Common.{◌<◌, ◌≡◌, length, refl, subst, sym, ap, ◌∙◌, arith}
use Rattle.pv_pool.proofs.Linking.{take_links}
use Rattle.pv_pool.proofs.Handbacks.{cleared_more, cleared_all}
use Rattle.pv_pool.proofs.teardown.gather.Goals as goal

pub absorb_all-requires : goal.absorb_all-requires
absorb_all-requires g c =
    take_links c.loop-i.benches c.loop-i.i _ c.index-benches-i.result c.replace-row.result.items (subst (λ n. c.loop-i.i < n) (sym c.loop-i.auto.benches) c.loop-i-test.true) c.loop-i.invariant.links refl refl
    (ap (λ v. v.items) c.replace-row.ensures.after ∙ c.new.ensures.items) (ap (λ v. v.items) c.replace-row.ensures.value)

pub loop-i-preserved : goal.loop-i-preserved
loop-i-preserved g c =
    cleared_more c.args.benches.now c.loop-i.benches c.loop-i.i _ c.index-benches-i.result c.replace-row.result.items c.absorb_all.new.benches c.loop-i.invariant
    (subst (λ n. c.loop-i.i < n) (sym c.loop-i.auto.benches) c.loop-i-test.true) refl
    (ap (λ v. v.items) c.replace-row.ensures.after ∙ c.new.ensures.items) (ap (λ v. v.items) c.replace-row.ensures.value) c.absorb_all.ensures

pub returns : goal.returns
returns g c =
    let last = c.loop-i-test.false in
    let end = c.loop-i.auto.i-end in
    let same = c.loop-i.auto.benches in
    let all : c.loop-i.i ≡ length c.loop-i.benches = omega arith in
    cleared_all c.args.benches.now c.loop-i.benches c.loop-i.i c.loop-i.invariant all
