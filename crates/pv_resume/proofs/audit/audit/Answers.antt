use Rattle.std.proofs.Common.{inr}
use Rattle.std.proofs.lemmas.Result.{IfOk-weaker, IfErr-weaker}
use Rattle.pv_slope.specs.Methods.{method_of, identity_of}
use Rattle.pv_product.specs.Files.{HoldsPaving, RefusesFile}
use Rattle.pv_rule.specs.Systems.{files, search_box}
use Rattle.pv_opening.proofs.Earlier.{by_key, paving_before, refused_before}
use Rattle.pv_product.proofs.OnlyRead.{only_read_on}
use Rattle.pv_resume.proofs.Refused.{audit_refused, found_other}
use Rattle.pv_resume.proofs.audit.audit.Goals as goal

pub returns-in-Err-paving_in-clause-refused : goal.returns-in-Err-paving_in-clause-refused
returns-in-Err-paving_in-clause-refused g c =
    let before = (files (g.F.Folder.content c.args.folder.now) (g.F.Folder.fetch_faults c.args.folder.now) (g.F.Folder.store_faults c.args.folder.now)) in
    let mid = (files (g.F.Folder.content c.settler_in.new.folder) (g.F.Folder.fetch_faults c.settler_in.new.folder) (g.F.Folder.store_faults c.settler_in.new.folder)) in
    let after = (files (g.F.Folder.content c.paving_in.new.folder) (g.F.Folder.fetch_faults c.paving_in.new.folder) (g.F.Folder.store_faults c.paving_in.new.folder)) in
    let rule = method_of c.in-Ok.settler in
    let r = c.in-Err-paving_in.refusal in
    let limit = c.args.limit in
    let key = c.in_ok-key.key in
    audit_refused before after c.args.system.now c.args.name.now c.args.settings.now limit r
    (inr (record {
      rule = rule;
      read = c.in-Ok.ensures.rule;
      refused = refused_before before mid c.in-Ok.ensures.read limit after (identity_of rule) (search_box rule) c.args.name.now r
          (by_key (λ n i b. RefusesFile mid after n i b c.args.name.now r) limit rule key c.in_ok-key.ensures c.in-Err-paving_in.ensures.refused);
    }))

pub returns-clause-read : goal.returns-clause-read
returns-clause-read g c = only_read_on _ _ _ c.in-Ok.ensures.read c.in-Ok-paving_in.ensures.read

pub returns-clause-comes : goal.returns-clause-comes
returns-clause-comes g c =
    let before = (files (g.F.Folder.content c.args.folder.now) (g.F.Folder.fetch_faults c.args.folder.now) (g.F.Folder.store_faults c.args.folder.now)) in
    let mid = (files (g.F.Folder.content c.settler_in.new.folder) (g.F.Folder.fetch_faults c.settler_in.new.folder) (g.F.Folder.store_faults c.settler_in.new.folder)) in
    let rule = method_of c.in-Ok.settler in
    let t = c.in-Ok-paving_in.paving.tree in
    let limit = c.args.limit in
    let key = c.in_ok-key.key in
    let held = paving_before before mid c.in-Ok.ensures.read limit (identity_of rule) (search_box rule) c.args.name.now t
    (by_key (λ n i b. HoldsPaving mid n i b c.args.name.now t) limit rule key c.in_ok-key.ensures c.in-Ok-paving_in.ensures.paving) in
    IfOk-weaker c.audited.result _ _
    (λ p e.
    record {
      rule = rule;
      read = c.in-Ok.ensures.rule;
      tree = t;
      held = held;
      honest = e.honest c.in-Ok.ensures.rule.system c.args.settings.now c.in-Ok.ensures.rule.is;
      is = e.is;
    }) c.audited.ensures.honest

pub returns-clause-refused : goal.returns-clause-refused
returns-clause-refused g c =
    let before = (files (g.F.Folder.content c.args.folder.now) (g.F.Folder.fetch_faults c.args.folder.now) (g.F.Folder.store_faults c.args.folder.now)) in
    let mid = (files (g.F.Folder.content c.settler_in.new.folder) (g.F.Folder.fetch_faults c.settler_in.new.folder) (g.F.Folder.store_faults c.settler_in.new.folder)) in
    let rule = method_of c.in-Ok.settler in
    let t = c.in-Ok-paving_in.paving.tree in
    let limit = c.args.limit in
    let key = c.in_ok-key.key in
    let held = paving_before before mid c.in-Ok.ensures.read limit (identity_of rule) (search_box rule) c.args.name.now t
    (by_key (λ n i b. HoldsPaving mid n i b c.args.name.now t) limit rule key c.in_ok-key.ensures c.in-Ok-paving_in.ensures.paving) in
    IfErr-weaker c.audited.result _ _
    (λ r e. found_other before c.args.system.now c.args.name.now c.args.settings.now limit rule t _ r c.in-Ok.ensures.rule held e) c.audited.ensures.other
