use Rattle.std.proofs.Common.{[], sym, append-nil, refl}
use Rattle.std.proofs.lemmas.Result.{on_err_weaker}
use Rattle.pv_io.proofs.Fronts.{appended_none, held_front, on_any}
use Rattle.pv_file.specs.Lines.{lines_of}
use Rattle.pv_file.specs.Texts.{header_text}
use Rattle.pv_file.specs.declared.version.Version.TheVariants.{Two}
use Rattle.pv_lines.proofs.writer.write_by.Goals as goal

pub returns-in_err-write_header-clause-front : goal.returns-in_err-write_header-clause-front
returns-in_err-write_header-clause-front g c =
    on_any _ (held_front _ _ _ [] (header_text Two c.args.identity) (lines_of Two c.args.p.now.root c.args.p.now.tree) _ (sym (appended_none _)) refl
    c.in_err-write_header.ensures.front)

pub returns-clause-front : goal.returns-clause-front
returns-clause-front g c =
    on_err_weaker c.write_nodes.result
    (λ f. held_front _ _ _ (header_text Two c.args.identity) (lines_of Two c.args.p.now.root c.args.p.now.tree) [] _ c.in_ok-write_header.ensures.whole (sym (append-nil _)) f)
    c.write_nodes.ensures.front
