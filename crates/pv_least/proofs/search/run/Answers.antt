use Rattle.std.proofs.Common.{◌≡◌, refl, length, sym, ◌∙◌, ap, subst}
use Rattle.pv_tree.specs.Laws.{IsLawful}
use Rattle.pv_tree.specs.Holes.{growth_over}
use Rattle.pv_tree.proofs.StageLaws.{opening_stage}
use Rattle.pv_least.specs.Objectives.{aim_of}
use Rattle.pv_least.specs.Running.{IsSearch}
use Rattle.pv_least.proofs.Searching.{search_begins}
use Rattle.pv_least.proofs.search.run.Goals as goal

pub loop-path-init : goal.loop-path-init
loop-path-init g c =
    let s = c.args.settler.now in let m = g.met.S.Settler in
    let rule = g.S.Settler.settle_of s in let depth = g.S.Settler.depth_of s in
    let dims = g.S.Settler.dims s in let inside = g.S.Settler.inside s in
    let laws : IsLawful rule depth dims inside = record { deep = (m.depth_fits s).1; fits = m.fits s; keeps_box = m.keeps_box s; ends = m.ends s; sound = m.sound s } in
    let t = aim_of c.args.objective.now in let root = c.args.root.now in
    let begun = c.in_ok-search.ensures in
    record {
      at = begun.at;
      root = ap (λ x. x.root) begun.growth;
      scratch = begun.scratch;
      probe = begun.probe;
      search = subst (λ x. IsSearch rule depth t root c.args.budget x c.in_ok-search.search.found) (sym begun.growth)
          (subst (λ x. IsSearch rule depth t root c.args.budget (growth_over root) x) (sym begun.found)
          (search_begins rule depth t root c.args.budget (opening_stage rule depth dims inside laws root)));
      facts = begun.facts;
    }

pub returns : goal.returns
returns g c = record { growth = c.loop-path.search.grower.growth; search = c.loop-path.invariant.search; none = c.in_default.ensures.none refl }
