use Rattle.std.proofs.Common.{ℕ, rules, subst}
use Rattle.pv_io.specs.Outside.{IsWhole}
use Rattle.pv_file.specs.declared.refusal.FileRefused.TheVariants.{WrongIdentity, BadLine, TooManyNodes}
use Rattle.pv_rule.specs.Systems.{files}
use Rattle.pv_opening.proofs.Earlier.{bad_line, one_too_many, other_identity, no_text}
use Rattle.pv_opening.proofs.pavings.paving_in.Goals as goal

pub returns-in-Err-WrongIdentity-clause-refused : goal.returns-in-Err-WrongIdentity-clause-refused
returns-in-Err-WrongIdentity-clause-refused g c =
    let f = c.args.folder.now in let e = c.fetch.new.self in
    other_identity (files (g.F.Folder.content f) (g.F.Folder.fetch_faults f) (g.F.Folder.store_faults f)) (files (g.F.Folder.content e) (g.F.Folder.fetch_faults e) (g.F.Folder.store_faults e))
    c.args.key.now.limit c.args.key.now.identity c.args.key.now.root c.args.name c.fetch.new.into.items c.deref.result.now c.bad-in-Err-WrongIdentity.result c.deref.ensures.value (subst (λ (n : ℕ). IsWhole (g.F.Folder.content f c.args.name.now) n c.fetch.new.into.items) c.most_bytes.ensures c.in-Ok.ensures.whole)
    (c.read_within.ensures.wrong_identity (search rules))
    (no_text c.args.key.now.limit c.deref.result.now c.args.key.now.identity c.args.key.now.root c.read_within.result (λ p. p.tree) WrongIdentity (search rules) (λ e. cc) c.read_within.ensures.complete) (search rules)

pub returns-in-Err-BadLine-clause-refused : goal.returns-in-Err-BadLine-clause-refused
returns-in-Err-BadLine-clause-refused g c =
    let f = c.args.folder.now in let e = c.fetch.new.self in
    bad_line (files (g.F.Folder.content f) (g.F.Folder.fetch_faults f) (g.F.Folder.store_faults f)) (files (g.F.Folder.content e) (g.F.Folder.fetch_faults e) (g.F.Folder.store_faults e))
    c.args.key.now.limit c.args.key.now.identity c.args.key.now.root c.args.name c.in-Err-BadLine.line c.fetch.new.into.items c.deref.result.now c.bad-in-Err-BadLine.result c.deref.ensures.value (subst (λ (n : ℕ). IsWhole (g.F.Folder.content f c.args.name.now) n c.fetch.new.into.items) c.most_bytes.ensures c.in-Ok.ensures.whole)
    (c.read_within.ensures.bad_line c.in-Err-BadLine.line (search rules))
    (no_text c.args.key.now.limit c.deref.result.now c.args.key.now.identity c.args.key.now.root c.read_within.result (λ p. p.tree) (BadLine c.in-Err-BadLine.line) (search rules) (λ e. cc) c.read_within.ensures.complete) (search rules)

pub returns-in-Err-TooManyNodes-clause-refused : goal.returns-in-Err-TooManyNodes-clause-refused
returns-in-Err-TooManyNodes-clause-refused g c =
    let f = c.args.folder.now in let e = c.fetch.new.self in
    one_too_many (files (g.F.Folder.content f) (g.F.Folder.fetch_faults f) (g.F.Folder.store_faults f)) (files (g.F.Folder.content e) (g.F.Folder.fetch_faults e) (g.F.Folder.store_faults e))
    c.args.key.now.limit c.args.key.now.identity c.args.key.now.root c.args.name c.in-Err-TooManyNodes.line c.fetch.new.into.items c.deref.result.now c.bad-in-Err-TooManyNodes.result c.deref.ensures.value (subst (λ (n : ℕ). IsWhole (g.F.Folder.content f c.args.name.now) n c.fetch.new.into.items) c.most_bytes.ensures c.in-Ok.ensures.whole)
    (c.read_within.ensures.too_many c.in-Err-TooManyNodes.line (search rules))
    (no_text c.args.key.now.limit c.deref.result.now c.args.key.now.identity c.args.key.now.root c.read_within.result (λ p. p.tree) (TooManyNodes c.in-Err-TooManyNodes.line) (search rules) (λ e. cc) c.read_within.ensures.complete) (search rules)
