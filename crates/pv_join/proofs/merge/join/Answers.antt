use Rattle.std.proofs.Common.{◌≡◌, sym, ◌∙◌, subst, rules}
use Rattle.pv_join.specs.Joins.{IsJoin, IsJoinRefusal}
use Rattle.pv_join.proofs.JoinLaws.{join_laws, no_stages}
use Rattle.pv_join.proofs.Meetings.{met_left, met_right, can_lay, apart, one_from, apart_from, one_laid, falls, over}
use Rattle.pv_join.proofs.merge.join.Goals as goal

pub outcome_from-requires-clause-met : goal.outcome_from-requires-clause-met
outcome_from-requires-clause-met c =
    met_left c.loop-path.left c.loop-path.left_seen c.loop-path.right c.loop-path.right_seen c.loop-path.joined c.in-Some.path c.in-Some.ensures.next c.loop-path.invariant.meeting

pub outcome_from-requires-in-Some-clause-met : goal.outcome_from-requires-in-Some-clause-met
outcome_from-requires-in-Some-clause-met c =
    met_right c.loop-path.left c.loop-path.left_seen c.loop-path.right c.loop-path.right_seen c.loop-path.joined c.in-Some.path c.in-Some.ensures.next c.loop-path.invariant.meeting

pub returns-in-Err-clause-refusal : goal.returns-in-Err-clause-refusal
returns-in-Err-clause-refusal c =
    let refusal = apart c.loop-path.left c.loop-path.left_seen c.loop-path.right c.loop-path.right_seen c.loop-path.joined c.in-Some.path c.in-Some.ensures.next c.loop-path.invariant.meeting c.in-Err.refused
    (apart_from _ _ _ _ c.in-Some.path c.in-Err.refused c.in-Err.ensures.apart c.in_ok-mine.ensures.outcome c.in_ok-theirs.ensures.outcome) in
    subst (λ t. IsJoinRefusal c.args.a.now.tree t c.in-Err.refused) c.loop-path.invariant.right_tree
    (subst (λ t. IsJoinRefusal t c.loop-path.right.tree c.in-Err.refused) c.loop-path.invariant.left_tree refusal)

pub returns-in-Err-clause-no_stages : goal.returns-in-Err-clause-no_stages
returns-in-Err-clause-no_stages c = no_stages c.args.a.now.tree c.args.b.now.tree c.in-Err.refused (returns-in-Err-clause-refusal c)

pub lay-requires : goal.lay-requires
lay-requires c =
    can_lay c.loop-path.left c.loop-path.left_seen c.loop-path.right c.loop-path.right_seen c.loop-path.joined c.in-Some.path c.in-Some.ensures.next c.loop-path.invariant.meeting c.in-Ok.outcome
    (one_from _ _ _ _ c.in-Ok.outcome c.in-Ok.ensures.one c.in_ok-mine.ensures.outcome c.in_ok-theirs.ensures.outcome)

pub loop-path-smaller : goal.loop-path-smaller
loop-path-smaller c =
    falls c.loop-path.left c.loop-path.left_seen c.loop-path.right c.loop-path.right_seen c.loop-path.joined c.in-Some.path c.in-Some.ensures.next c.loop-path.invariant.meeting c.in-Ok.outcome
    (one_from _ _ _ _ c.in-Ok.outcome c.in-Ok.ensures.one c.in_ok-mine.ensures.outcome c.in_ok-theirs.ensures.outcome) c.lay.new.joined c.in_ok-lay.ensures
    c.step_past-left_seen.new.walk c.step_past-left_seen.result c.step_past-right_seen.new.walk c.step_past-right_seen.result c.step_past-left_seen.ensures.stepped c.step_past-right_seen.ensures.stepped

pub loop-path-preserved : goal.loop-path-preserved
loop-path-preserved c = record {
  scratch = search rules;
  root = search rules;
  left_root = search rules;
  right_root = search rules;
  left_tree = search rules;
  right_tree = search rules;
  meeting = one_laid c.loop-path.left c.loop-path.left_seen c.loop-path.right c.loop-path.right_seen c.loop-path.joined c.in-Some.path c.in-Some.ensures.next c.loop-path.invariant.meeting
      c.in-Ok.outcome (one_from _ _ _ _ c.in-Ok.outcome c.in-Ok.ensures.one c.in_ok-mine.ensures.outcome c.in_ok-theirs.ensures.outcome) c.lay.new.joined c.in_ok-lay.ensures
      c.step_past-left_seen.new.walk c.step_past-left_seen.result c.step_past-right_seen.new.walk c.step_past-right_seen.result c.step_past-left_seen.ensures.stepped c.step_past-right_seen.ensures.stepped;
}

pub returns-clause-is_join : goal.returns-clause-is_join
returns-clause-is_join c =
    let whole = over c.loop-path.left c.loop-path.left_seen c.loop-path.right c.loop-path.right_seen c.loop-path.joined c.loop-path.invariant.meeting (c.next_leaf.ensures.none c.in_default.is) in
    subst (λ t. IsJoin c.args.a.now.tree c.args.b.now.tree t) (sym c.finish.ensures.tree)
    (subst (λ t. IsJoin c.args.a.now.tree t c.loop-path.joined.tree) c.loop-path.invariant.right_tree
    (subst (λ t. IsJoin t c.loop-path.right.tree c.loop-path.joined.tree) c.loop-path.invariant.left_tree whole))

pub returns-clause-laws : goal.returns-clause-laws
returns-clause-laws c = join_laws c.args.a.now.tree c.args.b.now.tree c.finish.result.tree (returns-clause-is_join c)
