use Rattle.std.proofs.Common.{◌≡◌, ◌-◌, ◌+◌, List, length, sym, ap, subst}
use Rattle.pv_interval.specs.Bounds.{Bounds}
use Rattle.pv_tree.specs.Trees.{Tree, leaf}
use Rattle.pv_tree.specs.Holes.{Growing, settle_next}
use Rattle.pv_tree.specs.Stages.{Grows, full_of}
use Rattle.pv_tree.proofs.KnownLeaves.{next_is_leaf}
use Rattle.pv_tree.proofs.StageLaws.{grows_leaf}
use Rattle.pv_board.specs.Rules.{IsFitting}
use Rattle.pv_workers.specs.Facts.{AreLaid}
use Rattle.pv_workers.proofs.Facts.{still_laid}
use Rattle.pv_workers.proofs.Laws.{fitting_of}
use Rattle.pv_workers.proofs.Below.{path_fits}
use Rattle.pv_workers.proofs.stage.Stager.settle_next.Goals as goal

pub then-requires : goal.then-requires
then-requires g c =
    let n = g.N.Naming in let own = g.S.Settler in let m = g.met.S.Settler in let r = c.args.self.now.ruled.now in let s = r.settler.now in
    let laws : IsFitting n.rule n.depth n.dims = fitting_of n.rule (own.settle_of s) n.depth (own.depth_of s) n.dims (own.dims s) r.rule r.depth r.dims
    (record { some = (m.depth_fits s).0; few = (m.depth_fits s).1; fits = m.fits s; keeps_box = m.keeps_box s; ends = m.ends s }) in
    let now = c.args.stage.now.growth in
    path_fits n.rule n.depth n.dims laws now.root now.tree c.args.path c.args.self.now.at c.dims-places.ensures.is_box c.requires.dims c.len-steps.ensures.few c.requires.stage (next_is_leaf now c.args.path c.requires.next)

pub returns-clause-stage : goal.returns-clause-stage
returns-clause-stage g c =
    let n = g.N.Naming in let own = g.S.Settler in let r = c.args.self.now.ruled.now in let s = r.settler.now in
    let now = c.args.stage.now.growth in let new = c.step.new.self.growth in let at = c.requires.at in
    let full = λ (b : List Bounds). full_of n.rule n.depth b leaf (length c.args.self.now.at) in
    let own_full = λ (b : List Bounds). full_of (own.settle_of s) (own.depth_of s) b leaf (length c.args.stage.now.at) in
    let same : (b : List Bounds) → full b ≡ own_full b = λ b i. full_of (r.rule i) (r.depth i) b leaf (length (sym at i)) in
    let step = c.in_ok-step.ensures.stage leaf tt (grows_leaf now.tree, subst (Grows now.tree) (same now.root) c.requires.stage) in
    subst (Grows new.tree) (sym (same new.root)) step.1

pub returns-clause-laid : goal.returns-clause-laid
returns-clause-laid g c =
    let n = g.N.Naming in let own = g.S.Settler in let r = c.args.self.now.ruled.now in let s = r.settler.now in
    let now = c.args.stage.now.growth in let new = c.step.new.self.growth in let at = c.requires.at in let p = c.args.path in
    let full = λ (b : List Bounds). full_of n.rule n.depth b leaf (length c.args.self.now.at) in
    let own_full = λ (b : List Bounds). full_of (own.settle_of s) (own.depth_of s) b leaf (length c.args.stage.now.at) in
    let same : (b : List Bounds) → full b ≡ own_full b = λ b i. full_of (r.rule i) (r.depth i) b leaf (length (sym at i)) in
    let step = c.in_ok-step.ensures.stage leaf tt (grows_leaf now.tree, subst (Grows now.tree) (same now.root) c.requires.stage) in
    let root = c.in_ok-step.ensures.root in
    let grown : Grows new.tree (full now.root) = subst (λ (b : List Bounds). Grows new.tree (full b)) root (subst (Grows new.tree) (sym (same new.root)) step.1) in
    let k = length c.args.stage.now.at + length p in
    let o = own.settle_of s c.step.new.workspace.scratch (own.depth_of s - k) k in
    let is : new ≡ settle_next now o = c.in_ok-step.ensures.settled in
    let goes : AreLaid (full now.root) (settle_next now o) = still_laid (full now.root) now p o c.requires.next c.requires.laid (subst (λ (x : Growing). Grows x.tree (full now.root)) is grown) in
    subst (λ (b : List Bounds). AreLaid (full b) new) (sym root) (subst (AreLaid (full now.root)) (sym is) goes)
