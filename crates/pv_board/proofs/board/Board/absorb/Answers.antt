use Rattle.std.proofs.Common.{◌≡◌, ◌∙◌, ◌+◌, ◌-◌, ◌++◌, ℕ, List, Bool, sym, ap, subst, arith, refl}
use Rattle.pv_tree.specs.Trees.{opens, settled_of}
use Rattle.pv_board.specs.Marks.{weigh}
use Rattle.pv_board.specs.Rules.{settled_in}
use Rattle.pv_board.specs.Core.{Core}
use Rattle.pv_board.specs.Events.{IsOver}
use Rattle.pv_board.specs.Leaves.{seen}
use Rattle.pv_board.specs.Absorbing.{IsAbsorbed, IsTooMuch, CanFill, CanPileAll, filled, filling, part_at}
use Rattle.pv_board.proofs.Absorbed.{can_fill, filled_aside, can_pile_all, added_is, absorbed_board, absorbed_is, absorbed_over}
use Rattle.pv_board.proofs.board.Board.absorb.Goals as goal

pub fill_all-requires : goal.fill_all-requires
fill_all-requires g c =
    let n = g.N.Naming in let a = c.self.inside in
    subst (CanFill c.in_ok-joined.joined c.args.stage.now) (sym c.deref.ensures.value)
    (can_fill n.rule n.depth n.dims n.root n.opening n.budget n.limit a.paving c.args.stage.now a.leaves a.used a.steps c.self.invariant c.requires.root c.requires.stage c.in_ok-joined.joined c.in_ok-joined.ensures.root c.in_ok-joined.ensures.tree)

pub returns-then-settled-unused-clause-refused :
    goal.returns-then-settled-unused-clause-refused
returns-then-settled-unused-clause-refused g c =
    let n = g.N.Naming in let a = c.self.inside in
    let is = c.in_ok-fill_all.ensures.tree ∙ (λ i. filled (c.in_ok-joined.ensures.tree i) (filling c.args.stage.now.tree (c.deref.ensures.value i))) in
    let count : c.settled-settled.result ≡ settled_in c.fill_all.new.joined.tree = c.settled-settled.ensures ∙ ap settled_of c.counts.ensures.counts in
    let many = c.if-settled-unused.true in let units = c.unused-unused.ensures in let most = c.nodes-most.ensures.value in
    subst (λ (o : Core). IsTooMuch n.limit o c.args.stage.now.tree c.settled-settled.result) c.self.view_is
    (record {
      tree = c.fill_all.new.joined.tree;
      is = filled_aside n.rule n.depth n.dims n.root n.opening n.budget n.limit a.paving c.args.stage.now a.leaves a.used a.steps c.self.invariant c.requires.root c.requires.stage c.fill_all.new.joined.tree is;
      count = count;
      many = omega (arith, many, units, most);
    })

pub leaves_below-requires : goal.leaves_below-requires
leaves_below-requires g c =
    let n = g.N.Naming in let a = c.self.inside in
    let is = c.reserve.ensures.tree ∙ c.in_ok-fill_all.ensures.tree ∙ (λ i. filled (c.in_ok-joined.ensures.tree i) (filling c.args.stage.now.tree (c.deref.ensures.value i))) in
    let count : c.settled-settled.result ≡ settled_in c.fill_all.new.joined.tree = c.settled-settled.ensures ∙ ap settled_of c.counts.ensures.counts in
    let same = ap settled_in c.reserve.ensures.tree in
    subst (λ (ps : List (List Bool)). CanPileAll c.reserve.new.self.tree ps (c.settled-settled.result + c.unused-unused.result + 1)) (sym c.deref-2.ensures.value)
    (can_pile_all n.rule n.depth n.dims n.root n.opening n.budget n.limit a.paving c.args.stage.now a.leaves a.used a.steps c.self.invariant c.requires.root c.requires.stage c.reserve.new.self.tree is (c.settled-settled.result + c.unused-unused.result + 1) (omega (arith, count, same)))

pub overflow_sub-added : goal.overflow_sub-added
overflow_sub-added g c =
    let n = g.N.Naming in let a = c.self.inside in
    let is = c.in_ok-fill_all.ensures.tree ∙ (λ i. filled (c.in_ok-joined.ensures.tree i) (filling c.args.stage.now.tree (c.deref.ensures.value i))) in
    let count : c.settled-settled.result ≡ settled_in c.fill_all.new.joined.tree = c.settled-settled.ensures ∙ ap settled_of c.counts.ensures.counts in
    let before : c.settled.result ≡ settled_in a.paving.tree = c.settled.ensures ∙ ap settled_of c.counts-2.ensures.counts in
    let more = added_is n.rule n.depth n.dims n.root n.opening n.budget n.limit a.paving c.args.stage.now a.leaves a.used a.steps c.self.invariant c.requires.root c.requires.stage c.fill_all.new.joined.tree is in
    omega (arith, count, before, more)

pub invariant_of-self : goal.invariant_of-self
invariant_of-self g c =
    let n = g.N.Naming in let a = c.self.inside in
    let is = c.reserve.ensures.tree ∙ c.in_ok-fill_all.ensures.tree ∙ (λ i. filled (c.in_ok-joined.ensures.tree i) (filling c.args.stage.now.tree (c.deref.ensures.value i))) in
    let count : c.settled-settled.result ≡ settled_in c.fill_all.new.joined.tree = c.settled-settled.ensures ∙ ap settled_of c.counts.ensures.counts in
    let same = ap settled_in c.reserve.ensures.tree in
    let few = c.if-settled-unused.false in let units = c.unused-unused.ensures in let spare = c.in_ok-reserve.ensures.spare in
    let room = c.in_ok-free.ensures.room in let most = c.nodes-most.ensures.value in
    absorbed_board n.rule n.depth n.dims n.root n.opening n.budget n.limit a.paving c.args.stage.now a.leaves a.used a.steps c.self.invariant c.requires.root c.requires.stage c.reserve.new.self.tree is c.reserve.new.self
    (record { marks = a.leaves.marks; free = c.in_ok-free.free; left = a.leaves.left; stopped = a.leaves.stopped })
    (c.reserve.ensures.root ∙ c.fill_all.ensures.root ∙ c.in_ok-joined.ensures.root) refl refl refl refl
    (subst (λ (ps : List (List Bool)). (f : List Bool → ℕ) → weigh f c.in_ok-free.free.items ≡ weigh (λ x. weigh (λ q. f (x ++ q)) (opens (part_at c.reserve.new.self.tree x))) ps) c.deref-2.ensures.value c.in_ok-free.ensures.leaves)
    (record { for_marks = c.self.invariant.room.for_marks }) (omega (arith, count, same, units, room)) (omega (arith, units, spare)) (omega (arith, count, same, few, units, most))

pub returns-clause-absorbed : goal.returns-clause-absorbed
returns-clause-absorbed g c =
    let n = g.N.Naming in let a = c.self.inside in
    let is = c.reserve.ensures.tree ∙ c.in_ok-fill_all.ensures.tree ∙ (λ i. filled (c.in_ok-joined.ensures.tree i) (filling c.args.stage.now.tree (c.deref.ensures.value i))) in
    let count : c.settled-settled.result ≡ settled_in c.fill_all.new.joined.tree = c.settled-settled.ensures ∙ ap settled_of c.counts.ensures.counts in
    let before : c.settled.result ≡ settled_in a.paving.tree = c.settled.ensures ∙ ap settled_of c.counts-2.ensures.counts in
    let same = ap settled_in c.reserve.ensures.tree in
    let few = c.if-settled-unused.false in let units = c.unused-unused.ensures in let most = c.nodes-most.ensures.value in
    let more = added_is n.rule n.depth n.dims n.root n.opening n.budget n.limit a.paving c.args.stage.now a.leaves a.used a.steps c.self.invariant c.requires.root c.requires.stage c.reserve.new.self.tree is in
    subst (λ (o : Core). IsAbsorbed n.limit o (seen c.reserve.new.self (record { marks = a.leaves.marks; free = c.in_ok-free.free; left = a.leaves.left; stopped = a.leaves.stopped }) a.used a.steps) c.args.stage.now.tree (c.settled-settled.result - c.settled.result)) c.self.view_is
    (absorbed_is n.rule n.depth n.dims n.root n.opening n.budget n.limit a.paving c.args.stage.now a.leaves a.used a.steps c.self.invariant c.requires.root c.requires.stage c.reserve.new.self.tree is c.reserve.new.self
    (record { marks = a.leaves.marks; free = c.in_ok-free.free; left = a.leaves.left; stopped = a.leaves.stopped })
    (c.reserve.ensures.root ∙ c.fill_all.ensures.root ∙ c.in_ok-joined.ensures.root) refl refl refl refl
    (subst (λ (ps : List (List Bool)). (f : List Bool → ℕ) → weigh f c.in_ok-free.free.items ≡ weigh (λ x. weigh (λ q. f (x ++ q)) (opens (part_at c.reserve.new.self.tree x))) ps) c.deref-2.ensures.value c.in_ok-free.ensures.leaves)
    (c.settled-settled.result - c.settled.result) (omega (arith, count, before, same, more)) (omega (arith, count, same, few, units, most)))

pub returns-clause-over : goal.returns-clause-over
returns-clause-over g c =
    let n = g.N.Naming in let a = c.self.inside in
    let is = c.reserve.ensures.tree ∙ c.in_ok-fill_all.ensures.tree ∙ (λ i. filled (c.in_ok-joined.ensures.tree i) (filling c.args.stage.now.tree (c.deref.ensures.value i))) in
    subst (λ (o : Core). IsOver o → IsOver (seen c.reserve.new.self (record { marks = a.leaves.marks; free = c.in_ok-free.free; left = a.leaves.left; stopped = a.leaves.stopped }) a.used a.steps)) c.self.view_is
    (absorbed_over n.rule n.depth n.dims n.root n.opening n.budget n.limit a.paving c.args.stage.now a.leaves a.used a.steps c.self.invariant c.requires.root c.requires.stage c.reserve.new.self.tree is c.reserve.new.self
    (record { marks = a.leaves.marks; free = c.in_ok-free.free; left = a.leaves.left; stopped = a.leaves.stopped })
    (c.reserve.ensures.root ∙ c.fill_all.ensures.root ∙ c.in_ok-joined.ensures.root) refl refl refl refl
    (subst (λ (ps : List (List Bool)). (f : List Bool → ℕ) → weigh f c.in_ok-free.free.items ≡ weigh (λ x. weigh (λ q. f (x ++ q)) (opens (part_at c.reserve.new.self.tree x))) ps) c.deref-2.ensures.value c.in_ok-free.ensures.leaves))
