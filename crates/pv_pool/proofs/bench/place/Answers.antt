use Rattle.std.proofs.Common.{◌≡◌, ◌<◌, ◌+◌, ◌-◌, get_or, rules, refl, ap, sym, ◌∙◌, arith}
use Rattle.pv_pool.proofs.Linking.{place_links, fresh_place, parts_kept}
use Rattle.pv_pool.proofs.bench.place.Goals as goal

pub returns-clause-links : goal.returns-clause-links
returns-clause-links g c = place_links c.args.benches.now c.args.other _ c.index-benches-other.result c.args.thief c.requires.other c.requires.links refl refl (search rules)

pub returns-clause-fresh : goal.returns-clause-fresh
returns-clause-fresh g c = fresh_place c.args.benches.now c.args.other _ c.index-benches-other.result c.args.thief c.requires.other c.requires.fresh refl (search rules) c.requires.taken refl

pub returns-clause-same : goal.returns-clause-same
returns-clause-same g c = λ k d. parts_kept c.args.benches.now c.args.other _ c.index-benches-other.result c.requires.other refl k d
