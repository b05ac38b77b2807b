use Rattle.std.proofs.Common.{ap, ◌∙◌, subst, get_or}
use Rattle.pv_hc4.specs.MarkSets.{is_marked}
use Rattle.pv_ctc.specs.Contracting.{sides_in}
use Rattle.pv_ctc.specs.GraphLists.{GraphList}
use Rattle.pv_ctc.specs.Users.{no_marks, AreUsers}
use Rattle.pv_ctc.proofs.Noting.{known_cut}
use Rattle.pv_ctc.proofs.known.Known.after_cut.Goals as goal

pub returns : goal.returns
returns c = λ b d h p.
    let users = c.graphs.inside.users in
    let u : AreUsers users (sides_in c.args.graphs.now) = subst (λ (g : GraphList). AreUsers users (sides_in g)) c.graphs.view_is c.graphs.invariant.2 in
    known_cut c.args.graphs.now.dims (sides_in c.args.graphs.now) c.args.self c.without.result _ c.args.var b d c.learn.ensures c.without.ensures
    (λ k l. ap (λ i. is_marked (get_or users i no_marks) k) c.from.ensures ∙ u c.args.var k c.requires l) h p
