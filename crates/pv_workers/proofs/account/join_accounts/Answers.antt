use Rattle.std.proofs.Common.{◌≡◌, ◌+◌, ◌^◌, ◌≤◌, [], ◌∷◌, ◌++◌, sym, ◌∙◌, ap, arith, subst}
use Rattle.pv_board.specs.Tallies.{Tally, joined}
use Rattle.pv_workers.specs.Accounts.{parts_in, AllBelow, HasRoom}
use Rattle.pv_workers.proofs.Counts.{parts_push, below_first, room_first, room_more, can_join}
use Rattle.pv_workers.proofs.account.join_accounts.Goals as goal

pub loop-account-init : goal.loop-account-init
loop-account-init g c =
    let t = c.in-Some.last in let ts = c.pop.new.self.items in let us = c.args.accounts.items in
    let e : us ≡ ts ++ t ∷ [] = c.in-Some.ensures.items in
    let same : t ≡ c.into_told-told.result = sym c.into_told-told.ensures in
    let p = ap parts_in e ∙ parts_push ts t in
    let q : t.parts ≡ c.into_told-told.result.parts = ap (λ (t : Tally). t.parts) same in
    record {
      parts = omega (arith, p, q);
      below = below_first (2 ^ 71) ts t (subst (AllBelow (2 ^ 71)) e c.requires.below);
      room = subst (HasRoom _) same (room_first ts us t e (subst (λ n. n ≤ 16) c.args.accounts.ok.0 c.requires.sixteen) c.requires.below);
    }

pub join-requires-clause-looks : goal.join-requires-clause-looks
join-requires-clause-looks g c =
    let j = can_join c.pop-in-loop-account.new.self.items c.loop-account.rest.items c.in-Some-pop.account c.loop-account.told c.in-Some-pop.ensures.items c.loop-account.invariant.below c.loop-account.invariant.room in
    let q = ap (λ (t : Tally). t.looks) c.into_told.ensures in omega (arith, j.looks, q)

pub join-requires-clause-given : goal.join-requires-clause-given
join-requires-clause-given g c =
    let j = can_join c.pop-in-loop-account.new.self.items c.loop-account.rest.items c.in-Some-pop.account c.loop-account.told c.in-Some-pop.ensures.items c.loop-account.invariant.below c.loop-account.invariant.room in
    let q = ap (λ (t : Tally). t.given) c.into_told.ensures in omega (arith, j.given, q)

pub join-requires-clause-spent : goal.join-requires-clause-spent
join-requires-clause-spent g c =
    let j = can_join c.pop-in-loop-account.new.self.items c.loop-account.rest.items c.in-Some-pop.account c.loop-account.told c.in-Some-pop.ensures.items c.loop-account.invariant.below c.loop-account.invariant.room in
    let q = ap (λ (t : Tally). t.spent) c.into_told.ensures in omega (arith, j.spent, q)

pub loop-account-preserved : goal.loop-account-preserved
loop-account-preserved g c =
    let t = c.in-Some-pop.account in let ts = c.pop-in-loop-account.new.self.items in let us = c.loop-account.rest.items in
    let e : us ≡ ts ++ t ∷ [] = c.in-Some-pop.ensures.items in
    let i = c.loop-account.invariant in
    let j : c.join.new.self ≡ joined c.loop-account.told t = c.join.ensures ∙ ap (joined c.loop-account.told) c.into_told.ensures in
    let p = ap parts_in e ∙ parts_push ts t in
    let q : c.join.new.self.parts ≡ c.loop-account.told.parts + t.parts = ap (λ (t : Tally). t.parts) j in
    record {
      parts = omega (arith, p, q, i.parts);
      below = below_first (2 ^ 71) ts t (subst (AllBelow (2 ^ 71)) e i.below);
      room = room_more ts us t c.loop-account.told c.join.new.self e i.below i.room j;
    }
