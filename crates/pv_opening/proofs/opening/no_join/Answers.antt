use Rattle.std.proofs.Common.{subst}
use Rattle.pv_join.specs.Joins.{IsJoinRefusal}
use Rattle.pv_opening.proofs.Joined.{disagreement}
use Rattle.pv_opening.proofs.opening.no_join.Goals as goal

pub returns-in-Disagree : goal.returns-in-Disagree
returns-in-Disagree c = λ ts us j.
    disagreement ts us c.args.earlier.now.tree c.args.next.now.tree c.in-Disagree.path c.disagree.result j
    (subst (IsJoinRefusal c.args.earlier.now.tree c.args.next.now.tree) c.in-Disagree.is c.requires) c.disagree.ensures
