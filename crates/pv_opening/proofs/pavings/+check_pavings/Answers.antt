use Rattle.std.proofs.Common.{◌≡◌, ◌+◌, length, rules}
use Rattle.std.proofs.lemmas.Result.{on_ok_weaker, IfErr-weaker}
use Rattle.pv_rule.specs.Systems.{files}
use Rattle.pv_opening.proofs.Earlier.{first_held, first_refused}
use Rattle.pv_opening.proofs.Openings.{more_held}
use Rattle.pv_opening.proofs.pavings.+check_pavings.Goals as goal

pub check_pavings-requires : goal.check_pavings-requires
check_pavings-requires g t c κs within =
    let shorter : length c.in-Some.rest.now + 1 ≡ length c.args.names.now = c.in-Some.ensures.cases.1 in
    (search rules, within)

pub returns-clause-held : goal.returns-clause-held
returns-clause-held g t c =
    let before = (files (g.F.Folder.content c.args.folder.now) (g.F.Folder.fetch_faults c.args.folder.now) (g.F.Folder.store_faults c.args.folder.now)) in
    let mid = (files (g.F.Folder.content c.paving_in.new.folder) (g.F.Folder.fetch_faults c.paving_in.new.folder) (g.F.Folder.store_faults c.paving_in.new.folder)) in
    on_ok_weaker c.check_pavings.result
    (λ h rule limit key. more_held before mid c.in-Ok.ensures.read limit rule c.args.key.now c.args.names.now c.in-Some.rest.now c.in-Some.name.now c.in-Ok._paving.tree key
    c.in-Some.ensures.cases.0 c.in-Ok.ensures.paving (h rule limit key))
    c.check_pavings.ensures.held

pub returns-clause-refused : goal.returns-clause-refused
returns-clause-refused g t c =
    let before = (files (g.F.Folder.content c.args.folder.now) (g.F.Folder.fetch_faults c.args.folder.now) (g.F.Folder.store_faults c.args.folder.now)) in
    let mid = (files (g.F.Folder.content c.paving_in.new.folder) (g.F.Folder.fetch_faults c.paving_in.new.folder) (g.F.Folder.store_faults c.paving_in.new.folder)) in
    let after = (files (g.F.Folder.content c.check_pavings.new.folder) (g.F.Folder.fetch_faults c.check_pavings.new.folder) (g.F.Folder.store_faults c.check_pavings.new.folder)) in
    IfErr-weaker c.check_pavings.result _ _
    (λ r h rule limit key. first_held before mid c.in-Ok.ensures.read after limit rule c.args.key.now c.args.names.now c.in-Some.rest.now c.in-Some.name.now c.in-Ok._paving.tree r key
    c.in-Some.ensures.cases.0 c.in-Ok.ensures.paving (h rule limit key))
    c.check_pavings.ensures.refused

pub returns-in-Err-clause-refused : goal.returns-in-Err-clause-refused
returns-in-Err-clause-refused g t c = λ rule limit key.
    first_refused (files (g.F.Folder.content c.args.folder.now) (g.F.Folder.fetch_faults c.args.folder.now) (g.F.Folder.store_faults c.args.folder.now)) (files (g.F.Folder.content c.paving_in.new.folder) (g.F.Folder.fetch_faults c.paving_in.new.folder) (g.F.Folder.store_faults c.paving_in.new.folder)) limit rule c.args.key.now c.args.names.now c.in-Some.rest.now c.in-Some.name.now c.in-Err.refusal key
    c.in-Some.ensures.cases.0 c.in-Err.ensures.refused
