use Rattle.std.proofs.Common.{◌∙◌, inl, inr, length, ap, sym}
use Rattle.pv_slope.specs.Methods.{method_of}
use Rattle.pv_request.specs.Requests.{names_in}
use Rattle.pv_rule.specs.Systems.{files}
use Rattle.pv_opening.proofs.Earlier.{have_before}
use Rattle.pv_opening.proofs.Openings.{opening_refused_on}
use Rattle.pv_opening.proofs.opening.opening_in.Goals as goal

pub join_files-requires : goal.join_files-requires
join_files-requires g c = c.in_ok-root.ensures.intervals ∙ sym c.in_ok-key.ensures.root

pub returns-clause-opened : goal.returns-clause-opened
returns-clause-opened g c =
    let before = (files (g.F.Folder.content c.args.folder.now) (g.F.Folder.fetch_faults c.args.folder.now) (g.F.Folder.store_faults c.args.folder.now)) in
    let mid = (files (g.F.Folder.content c.settler_in.new.folder) (g.F.Folder.fetch_faults c.settler_in.new.folder) (g.F.Folder.store_faults c.settler_in.new.folder)) in
    let rule = method_of c.in-Ok.settler in
    let joined = c.in-Ok-join_files.ensures.join rule c.args.limit c.in_ok-key.ensures in
    let root = c.in-Ok-join_files.ensures.root ∙ c.in_ok-key.ensures.root in
    record {
      trees = joined.later;
      opening = record {
        read = c.in-Ok.ensures.rule;
        held = have_before before mid c.in-Ok.ensures.read c.args.limit rule (names_in c.args.names.now) joined.later joined.held;
        join = joined.join;
      };
      root = root;
      dims = ap length (root ∙ sym c.in_ok-root.ensures.intervals) ∙ c.in_ok-root.ensures.dims;
    }

pub returns-in-Err-join_files-clause-refused : goal.returns-in-Err-join_files-clause-refused
returns-in-Err-join_files-clause-refused g c =
    let before = (files (g.F.Folder.content c.args.folder.now) (g.F.Folder.fetch_faults c.args.folder.now) (g.F.Folder.store_faults c.args.folder.now)) in
    let mid = (files (g.F.Folder.content c.settler_in.new.folder) (g.F.Folder.fetch_faults c.settler_in.new.folder) (g.F.Folder.store_faults c.settler_in.new.folder)) in
    let after = (files (g.F.Folder.content c.join_files.new.folder) (g.F.Folder.fetch_faults c.join_files.new.folder) (g.F.Folder.store_faults c.join_files.new.folder)) in
    let rule = method_of c.in-Ok.settler in
    opening_refused_on before mid c.in-Ok.ensures.read after c.args.system.now (names_in c.args.names.now) c.args.settings.now c.args.limit rule c.in-Err-join_files.refusal
    c.in-Ok.ensures.rule (c.in-Err-join_files.ensures.refused rule c.args.limit c.in_ok-key.ensures)
