use Rattle.std.proofs.Common.{◌∷◌, [], inl, rules}
use Rattle.std.proofs.lemmas.List.{nil_from_length}
use Rattle.std.proofs.lemmas.Option.{MatchOption-at_none}
use Rattle.std.proofs.lemmas.Result.{IfOk-weaker, IfErr-weaker}
use Rattle.pv_rule.specs.Systems.{files}
use Rattle.pv_opening.proofs.Earlier.{first_refused}
use Rattle.pv_product.proofs.OnlyRead.{only_read_on}
use Rattle.pv_opening.proofs.Joined.{one_tree}
use Rattle.pv_opening.proofs.Openings.{none_at_all, first_joined, first_no_join}
use Rattle.pv_opening.proofs.opening.join_files.Goals as goal

pub returns-in_default-clause-join : goal.returns-in_default-clause-join
returns-in_default-clause-join g c = λ rule limit key.
    none_at_all (files (g.F.Folder.content c.args.folder.now) (g.F.Folder.fetch_faults c.args.folder.now) (g.F.Folder.store_faults c.args.folder.now)) limit rule c.args.names.now c.in_ok-open.field-0.tree
    (nil_from_length c.args.names.now (MatchOption-at_none _ _ c.in_default.is c.split_first.ensures.cases)) c.in_ok-open.ensures.tree

pub returns-in-Err-clause-refused : goal.returns-in-Err-clause-refused
returns-in-Err-clause-refused g c = λ rule limit key.
    inl (first_refused (files (g.F.Folder.content c.args.folder.now) (g.F.Folder.fetch_faults c.args.folder.now) (g.F.Folder.store_faults c.args.folder.now)) (files (g.F.Folder.content c.paving_in.new.folder) (g.F.Folder.fetch_faults c.paving_in.new.folder) (g.F.Folder.store_faults c.paving_in.new.folder)) limit rule c.args.key.now c.args.names.now c.in-Some.rest.now c.in-Some.name.now c.in-Err.refusal key
    c.in-Some.ensures.cases.0 c.in-Err.ensures.refused)

pub returns-clause-read : goal.returns-clause-read
returns-clause-read g c = only_read_on _ _ _ c.in-Ok.ensures.read c.join_on.ensures.read

pub returns-clause-join : goal.returns-clause-join
returns-clause-join g c =
    let before = (files (g.F.Folder.content c.args.folder.now) (g.F.Folder.fetch_faults c.args.folder.now) (g.F.Folder.store_faults c.args.folder.now)) in
    let mid = (files (g.F.Folder.content c.paving_in.new.folder) (g.F.Folder.fetch_faults c.paving_in.new.folder) (g.F.Folder.store_faults c.paving_in.new.folder)) in
    let first = c.in-Ok.first.tree in
    IfOk-weaker c.join_on.result _ _
    (λ p f rule limit key. first_joined before mid c.in-Ok.ensures.read limit rule c.args.key.now c.args.names.now c.in-Some.rest.now c.in-Some.name.now first key c.in-Some.ensures.cases.0
    c.in-Ok.ensures.paving p.tree (f rule limit (first ∷ []) key (one_tree first)))
    c.join_on.ensures.join

pub returns-clause-refused : goal.returns-clause-refused
returns-clause-refused g c =
    let before = (files (g.F.Folder.content c.args.folder.now) (g.F.Folder.fetch_faults c.args.folder.now) (g.F.Folder.store_faults c.args.folder.now)) in
    let mid = (files (g.F.Folder.content c.paving_in.new.folder) (g.F.Folder.fetch_faults c.paving_in.new.folder) (g.F.Folder.store_faults c.paving_in.new.folder)) in
    let after = (files (g.F.Folder.content c.join_on.new.folder) (g.F.Folder.fetch_faults c.join_on.new.folder) (g.F.Folder.store_faults c.join_on.new.folder)) in
    let first = c.in-Ok.first.tree in
    IfErr-weaker c.join_on.result _ _
    (λ r f rule limit key. first_no_join before mid c.in-Ok.ensures.read limit rule c.args.key.now c.args.names.now c.in-Some.rest.now c.in-Some.name.now first key c.in-Some.ensures.cases.0
    c.in-Ok.ensures.paving after r (f rule limit (first ∷ []) key (one_tree first)))
    c.join_on.ensures.refused
