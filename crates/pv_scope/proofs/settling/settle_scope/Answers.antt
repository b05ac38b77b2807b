use Rattle.std.proofs.Common.{◌≡◌, ℕ, ◌-◌, List, Bool, ◌∷◌, true, inl, refl, arith, sym, ◌∙◌, ap, subst}
use Rattle.std.specs.Prelude.{reverse}
use Rattle.std.proofs.lemmas.List.{reverse-reverse}
use Rattle.pv_tree.specs.Trees.{Paves, opens}
use Rattle.pv_scope.specs.Scopes.{is_in_scope, most_steps, picked}
use Rattle.pv_scope.specs.Parts.{IsGrownAt}
use Rattle.pv_scope.proofs.Lists.{last_first, emptied}
use Rattle.pv_scope.proofs.Settled.{IsGoing, going_first, still_going, still_settled, still_few, not_true, not_false, ended_early, ended_all}
use Rattle.pv_scope.proofs.settling.settle_scope.Goals as goal

pub settle_at-requires-clause-open : goal.settle_at-requires-clause-open
settle_at-requires-clause-open g c =
    let l = c.loop-path in let old = c.args.paving.now.tree in let ps = picked (is_in_scope c.args.scope) 0 (opens old) in let p = c.in-Some.path in let front = c.pop.new.self.items in
    let going : IsGoing old ps (p ∷ reverse front) (most_steps c.args.scope) l.settled l.paving.tree =
    subst (λ (left : List (List Bool)). IsGoing old ps left (most_steps c.args.scope) l.settled l.paving.tree) (ap reverse c.in-Some.ensures.items ∙ last_first front p) l.invariant.going in
    going.ready p (inl refl)

pub returns-then-not-came-clause-settled : goal.returns-then-not-came-clause-settled
returns-then-not-came-clause-settled g c =
    let l = c.loop-path in let old = c.args.paving.now.tree in let ps = picked (is_in_scope c.args.scope) 0 (opens old) in let p = c.in-Some.path in let front = c.pop.new.self.items in let cap = most_steps c.args.scope in
    let u = c.settle_at.new.paving.tree in let came = c.in_ok-came.came in
    let going : IsGoing old ps (p ∷ reverse front) cap l.settled l.paving.tree =
    subst (λ (left : List (List Bool)). IsGoing old ps left cap l.settled l.paving.tree) (ap reverse c.in-Some.ensures.items ∙ last_first front p) l.invariant.going in
    let grown : IsGrownAt l.paving.tree u p cap (c.args.budget - l.settled) came.settled came.done =
    subst (λ (n : ℕ). IsGrownAt l.paving.tree u p n (c.args.budget - l.settled) came.settled came.done) c.most_steps-steps.ensures c.in_ok-came.ensures.grown in
    still_settled old ps (reverse front) cap l.settled c.args.budget l.paving.tree u p came.settled came.done going l.invariant.few grown

pub returns-clause-settled : goal.returns-clause-settled
returns-clause-settled g c = c.loop-path.invariant.going.settled

pub returns-clause-ended : goal.returns-clause-ended
returns-clause-ended g c =
    let l = c.loop-path in let old = c.args.paving.now.tree in let ps = picked (is_in_scope c.args.scope) 0 (opens old) in
    ended_all old ps (reverse l.leaves.items) (most_steps c.args.scope) l.settled c.args.budget l.paving.tree (emptied c.pop.result l.leaves.items l.leaves.len c.in_default.is c.pop.ensures.variant l.leaves.ok.0) l.invariant.going l.invariant.few

pub loop-path-init : goal.loop-path-init
loop-path-init g c =
    let old = c.args.paving.now.tree in let test = is_in_scope c.args.scope in let ps = picked test 0 (opens old) in
    let left : reverse c.reverse.new.self.items ≡ ps = ap reverse c.reverse.ensures.items ∙ reverse-reverse c.in_ok-leaves.leaves.items ∙ c.in_ok-leaves.ensures in
    record {
      root = refl;
      scratch = c.requires.scratch;
      stage = λ opening paves stage. stage;
      going = subst (λ (xs : List (List Bool)). IsGoing old ps xs (most_steps c.args.scope) 0 old) (sym left) (going_first test old (most_steps c.args.scope));
      few = omega arith;
    }

pub returns-then-not-came-clause-ended : goal.returns-then-not-came-clause-ended
returns-then-not-came-clause-ended g c =
    let l = c.loop-path in let old = c.args.paving.now.tree in let ps = picked (is_in_scope c.args.scope) 0 (opens old) in let p = c.in-Some.path in let front = c.pop.new.self.items in let cap = most_steps c.args.scope in
    let u = c.settle_at.new.paving.tree in let came = c.in_ok-came.came in
    let going : IsGoing old ps (p ∷ reverse front) cap l.settled l.paving.tree =
    subst (λ (left : List (List Bool)). IsGoing old ps left cap l.settled l.paving.tree) (ap reverse c.in-Some.ensures.items ∙ last_first front p) l.invariant.going in
    let grown : IsGrownAt l.paving.tree u p cap (c.args.budget - l.settled) came.settled came.done =
    subst (λ (n : ℕ). IsGrownAt l.paving.tree u p n (c.args.budget - l.settled) came.settled came.done) c.most_steps-steps.ensures c.in_ok-came.ensures.grown in
    ended_early old ps (reverse front) cap l.settled c.args.budget l.paving.tree u p came.settled came.done going l.invariant.few grown (not_true came.done c.if-not-came.true)

pub loop-path-preserved : goal.loop-path-preserved
loop-path-preserved g c =
    let l = c.loop-path in let old = c.args.paving.now.tree in let ps = picked (is_in_scope c.args.scope) 0 (opens old) in let p = c.in-Some.path in let front = c.pop.new.self.items in let cap = most_steps c.args.scope in
    let u = c.settle_at.new.paving.tree in let came = c.in_ok-came.came in
    let going : IsGoing old ps (p ∷ reverse front) cap l.settled l.paving.tree =
    subst (λ (left : List (List Bool)). IsGoing old ps left cap l.settled l.paving.tree) (ap reverse c.in-Some.ensures.items ∙ last_first front p) l.invariant.going in
    let grown : IsGrownAt l.paving.tree u p cap (c.args.budget - l.settled) came.settled came.done =
    subst (λ (n : ℕ). IsGrownAt l.paving.tree u p n (c.args.budget - l.settled) came.settled came.done) c.most_steps-steps.ensures c.in_ok-came.ensures.grown in
    let done : came.done ≡ true = not_false came.done c.if-not-came.false in
    record {
      root = c.in_ok-came.ensures.root ∙ l.invariant.root;
      scratch = c.in_ok-came.ensures.scratch;
      stage = λ opening paves stage. c.in_ok-came.ensures.stage opening (subst (λ b. Paves b opening) (sym l.invariant.root) paves) (l.invariant.stage opening paves stage);
      going = still_going old ps (reverse front) cap l.settled c.args.budget l.paving.tree u p came.settled came.done going l.invariant.few grown done;
      few = still_few old ps (reverse front) cap l.settled c.args.budget l.paving.tree u p came.settled came.done going l.invariant.few grown done;
    }
