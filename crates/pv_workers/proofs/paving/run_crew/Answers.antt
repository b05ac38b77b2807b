use Rattle.std.proofs.Common.{◌<◌, sym, ◌∙◌, subst}
use Rattle.pv_workers.proofs.Counts.{Served, served, each_below}
use Rattle.pv_workers.proofs.paving.run_crew.Goals as goal

pub run_workers-requires-clause-room : goal.run_workers-requires-clause-room
run_workers-requires-clause-room g c κs within = λ i t l.
    each_below c.in_ok-accounts.accounts.items c.in_ok-accounts.ensures.none i t (subst (λ n. i < n) c.in_ok-accounts.accounts.ok.0 l)

pub join_accounts-told-requires-clause-below : goal.join_accounts-told-requires-clause-below
join_accounts-told-requires-clause-below g c =
    let before = c.in_ok-accounts.accounts in let after = c.in-Ok.accounts in
    let all : Served before.items after.items = served before.items after.items (sym after.ok.0 ∙ c.in-Ok.ensures.count ∙ before.ok.0) c.in_ok-accounts.ensures.none
    (λ i t l. c.in-Ok.ensures.served i t (subst (λ n. i < n) (sym before.ok.0) l)) in
    all.below

pub into_board-requires : goal.into_board-requires
into_board-requires g c =
    let before = c.in_ok-accounts.accounts in let after = c.in-Ok.accounts in
    let all : Served before.items after.items = served before.items after.items (sym after.ok.0 ∙ c.in-Ok.ensures.count ∙ before.ok.0) c.in_ok-accounts.ensures.none
    (λ i t l. c.in-Ok.ensures.served i t (subst (λ n. i < n) (sym before.ok.0) l)) in
    c.join_accounts-told.ensures.parts ∙ all.parts ∙ c.in_ok-accounts.ensures.parts
