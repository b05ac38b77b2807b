use Rattle.std.proofs.Common.{◌≡◌, ◌+◌, ◌∙◌, sym, length, inl, rules}
use Rattle.std.proofs.lemmas.List.{nil_from_length}
use Rattle.std.proofs.lemmas.Option.{MatchOption-at_none}
use Rattle.std.proofs.lemmas.Result.{IfOk-weaker, IfErr-weaker}
use Rattle.pv_rule.specs.Systems.{files}
use Rattle.pv_opening.proofs.Earlier.{first_held, first_refused}
use Rattle.pv_product.proofs.OnlyRead.{only_read_on}
use Rattle.pv_opening.proofs.Openings.{none_later, more_joined, more_no_join, apart}
use Rattle.pv_opening.proofs.opening.+join_on.Goals as goal

pub join_two-requires : goal.join_two-requires
join_two-requires g t c = c.in-Ok.ensures.root ∙ sym c.requires

pub join_on-requires : goal.join_on-requires
join_on-requires g t c κs within =
    let shorter : length c.in-Some.rest.now + 1 ≡ length c.args.names.now = c.in-Some.ensures.cases.1 in
    (search rules, (within, c.in-Ok-join_two.ensures.root ∙ c.requires))

pub returns-in_default-clause-join : goal.returns-in_default-clause-join
returns-in_default-clause-join g t c = λ rule limit ts key j.
    none_later (files (g.F.Folder.content c.args.folder.now) (g.F.Folder.fetch_faults c.args.folder.now) (g.F.Folder.store_faults c.args.folder.now)) limit rule c.args.names.now ts c.args.earlier.tree (nil_from_length c.args.names.now (MatchOption-at_none _ _ c.in_default.is c.split_first.ensures.cases)) j

pub returns-in-Err-clause-refused : goal.returns-in-Err-clause-refused
returns-in-Err-clause-refused g t c = λ rule limit ts key j.
    inl (first_refused (files (g.F.Folder.content c.args.folder.now) (g.F.Folder.fetch_faults c.args.folder.now) (g.F.Folder.store_faults c.args.folder.now)) (files (g.F.Folder.content c.paving_in.new.folder) (g.F.Folder.fetch_faults c.paving_in.new.folder) (g.F.Folder.store_faults c.paving_in.new.folder)) limit rule c.args.key.now c.args.names.now c.in-Some.rest.now c.in-Some.name.now c.in-Err.refusal key
    c.in-Some.ensures.cases.0 c.in-Err.ensures.refused)

pub returns-in-Ok-check_pavings-clause-refused : goal.returns-in-Ok-check_pavings-clause-refused
returns-in-Ok-check_pavings-clause-refused g t c = λ rule limit ts key j.
    let before = (files (g.F.Folder.content c.args.folder.now) (g.F.Folder.fetch_faults c.args.folder.now) (g.F.Folder.store_faults c.args.folder.now)) in
    let mid = (files (g.F.Folder.content c.paving_in.new.folder) (g.F.Folder.fetch_faults c.paving_in.new.folder) (g.F.Folder.store_faults c.paving_in.new.folder)) in
    let after = (files (g.F.Folder.content c.check_pavings.new.folder) (g.F.Folder.fetch_faults c.check_pavings.new.folder) (g.F.Folder.store_faults c.check_pavings.new.folder)) in
    apart before mid c.in-Ok.ensures.read limit rule c.args.key.now c.args.names.now c.in-Some.rest.now c.in-Some.name.now c.in-Ok.next.tree key c.in-Some.ensures.cases.0 c.in-Ok.ensures.paving
    after ts c.in-Err-join_two.refusal (λ us. c.in-Err-join_two.ensures.refused ts us j) (c.in-Ok-check_pavings.ensures.held rule limit key)

pub returns-in-Err-check_pavings-clause-refused : goal.returns-in-Err-check_pavings-clause-refused
returns-in-Err-check_pavings-clause-refused g t c = λ rule limit ts key j.
    let before = (files (g.F.Folder.content c.args.folder.now) (g.F.Folder.fetch_faults c.args.folder.now) (g.F.Folder.store_faults c.args.folder.now)) in
    let mid = (files (g.F.Folder.content c.paving_in.new.folder) (g.F.Folder.fetch_faults c.paving_in.new.folder) (g.F.Folder.store_faults c.paving_in.new.folder)) in
    let after = (files (g.F.Folder.content c.check_pavings.new.folder) (g.F.Folder.fetch_faults c.check_pavings.new.folder) (g.F.Folder.store_faults c.check_pavings.new.folder)) in
    inl (first_held before mid c.in-Ok.ensures.read after limit rule c.args.key.now c.args.names.now c.in-Some.rest.now c.in-Some.name.now c.in-Ok.next.tree c.in-Err-check_pavings.fault key
    c.in-Some.ensures.cases.0 c.in-Ok.ensures.paving (c.in-Err-check_pavings.ensures.refused rule limit key))

pub returns-clause-read : goal.returns-clause-read
returns-clause-read g t c = only_read_on _ _ _ c.in-Ok.ensures.read c.join_on.ensures.read

pub returns-clause-join : goal.returns-clause-join
returns-clause-join g t c =
    let before = (files (g.F.Folder.content c.args.folder.now) (g.F.Folder.fetch_faults c.args.folder.now) (g.F.Folder.store_faults c.args.folder.now)) in
    let mid = (files (g.F.Folder.content c.paving_in.new.folder) (g.F.Folder.fetch_faults c.paving_in.new.folder) (g.F.Folder.store_faults c.paving_in.new.folder)) in
    IfOk-weaker c.join_on.result _ _
    (λ p f rule limit ts key j. more_joined before mid c.in-Ok.ensures.read limit rule c.args.key.now c.args.names.now c.in-Some.rest.now c.in-Some.name.now c.in-Ok.next.tree key c.in-Some.ensures.cases.0
    c.in-Ok.ensures.paving ts c.args.earlier.tree c.in-Ok-join_two.joined.tree j c.in-Ok-join_two.ensures.join p.tree (λ us k. f rule limit us key k))
    c.join_on.ensures.join

pub returns-clause-refused : goal.returns-clause-refused
returns-clause-refused g t c =
    let before = (files (g.F.Folder.content c.args.folder.now) (g.F.Folder.fetch_faults c.args.folder.now) (g.F.Folder.store_faults c.args.folder.now)) in
    let mid = (files (g.F.Folder.content c.paving_in.new.folder) (g.F.Folder.fetch_faults c.paving_in.new.folder) (g.F.Folder.store_faults c.paving_in.new.folder)) in
    let after = (files (g.F.Folder.content c.join_on.new.folder) (g.F.Folder.fetch_faults c.join_on.new.folder) (g.F.Folder.store_faults c.join_on.new.folder)) in
    IfErr-weaker c.join_on.result _ _
    (λ r f rule limit ts key j. more_no_join before mid c.in-Ok.ensures.read limit rule c.args.key.now c.args.names.now c.in-Some.rest.now c.in-Some.name.now c.in-Ok.next.tree key c.in-Some.ensures.cases.0
    c.in-Ok.ensures.paving ts c.args.earlier.tree c.in-Ok-join_two.joined.tree j c.in-Ok-join_two.ensures.join after r (λ us k. f rule limit us key k))
    c.join_on.ensures.refused
