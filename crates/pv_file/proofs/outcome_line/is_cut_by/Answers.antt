use Rattle.std.proofs.Common.{◌≡◌, ◌<◌, length, sym, subst, rules}
use Rattle.std.specs.Prelude.{slice_index_or}
use Rattle.pv_interval.specs.Bounds.{Bounds}
use Rattle.pv_tree.specs.Trees.{IsBetween}
use Rattle.pv_file.proofs.Places.{strictly_at, strictly_there, strictly_place}
use Rattle.pv_file.proofs.outcome_line.is_cut_by.Goals as goal

pub returns-then-var-dims : goal.returns-then-var-dims
returns-then-var-dims c =
    let there : c.args.var < length c.args.to.now = search rules in
    let place : c.get.result ≡ slice_index_or c.args.to.now c.args.var c.get.result = c.get.ensures.value in (
      λ t. strictly_at c.args.at c.args.var c.args.to.now c.get.result there (subst (λ (x : Bounds). IsBetween c.args.at x) place (c.is_between.ensures.0 t)),
      λ h. c.is_between.ensures.1 (subst (λ (x : Bounds). IsBetween c.args.at x) (sym place) (strictly_place c.args.at c.args.var c.args.to.now c.get.result h)),
    )

pub returns-else-var-dims : goal.returns-else-var-dims
returns-else-var-dims c = (
  λ t. search rules,
  λ h. let there : c.args.var < length c.args.to.now = strictly_there c.args.at c.args.var c.args.to.now h in search rules,
)
