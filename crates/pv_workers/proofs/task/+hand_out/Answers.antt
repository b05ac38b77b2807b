use Rattle.std.proofs.Common.{◌≡◌, ◌++◌, ◌∷◌, [], List, length, length-append, ap, ◌∙◌, arith, subst}
use Rattle.std.specs.Prelude.{reverse}
use Rattle.pv_tree.specs.Trees.{box_of}
use Rattle.pv_tree.specs.Stages.{full_of}
use Rattle.pv_board.specs.declared.mark.Mark.{Mark}
use Rattle.pv_workers.specs.Facts.{AreFacts, paths}
use Rattle.pv_workers.proofs.Facts.{front_facts}
use Rattle.pv_workers.proofs.task.+hand_out.Goals as goal

pub hand_out-requires : goal.hand_out-requires
hand_out-requires g t c κs within =
    let n = g.N.Naming in
    let ms = c.pop.new.self in let m = c.in-Some.ticket in
    let e : c.args.tickets.now ≡ ms ++ m ∷ [] = c.in-Some.ensures.last in
    let count = ap length e ∙ length-append ms (m ∷ []) in
    let holds = g.S.KnowingSettler.knows c.args.ruled.now.settler.now in
    let box = box_of n.root (full_of n.rule n.depth n.root n.opening 0) in
    let ks = reverse c.args.facts.now.items in
    let room = c.requires.room in
    (omega (arith, count), (within.0, (within.1.0, (within.1.1.0, (within.1.1.1, (omega (arith, count, room), front_facts holds box ms m ks (subst (λ (xs : List Mark). AreFacts holds box (paths xs) ks) e c.requires.facts)))))))
