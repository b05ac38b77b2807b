use Rattle.std.proofs.Common.{sym, subst, arith}
use Rattle.pv_tree.specs.Arena.{IsRemarked, HasKids, MarksRight}
use Rattle.pv_tree.proofs.Wholes.{remarked_back}
use Rattle.pv_tree.proofs.arena.close_way.Goals as goal

pub close-requires : goal.close-requires
close-requires c = record {
  kids = subst HasKids (sym c.deref_mut.ensures.value) c.requires.kids;
  there = rw c.deref_mut.ensures.value c.requires.kids.some;
  marks = subst MarksRight (sym c.deref_mut.ensures.value) c.requires.marks;
  within = omega arith;
}

pub returns-clause-remarked : goal.returns-clause-remarked
returns-clause-remarked c =
    remarked_back c.args.nodes.now.items c.close.new.nodes c.args.nodes.now.len (subst (λ ns. IsRemarked ns c.close.new.nodes) c.deref_mut.ensures.value c.close.ensures) (let e = c.args.nodes.now.ok.0 in omega (arith, e))
