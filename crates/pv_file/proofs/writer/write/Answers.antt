use Rattle.std.proofs.Common.{◌≡◌, ◌++◌, ℕ, List, subst, rules}
use Rattle.std.proofs.lemmas.Result.{on_err_weaker}
use Rattle.pv_io.specs.Outside.{AppendsFront}
use Rattle.pv_file.specs.declared.version.Version.TheVariants.{Two}
use Rattle.pv_file.specs.Texts.{header_text}
use Rattle.pv_file.specs.Lines.{lines_of}
use Rattle.pv_file.proofs.writer.write.Goals as goal

pub returns-clause-front : goal.returns-clause-front
returns-clause-front g c =
    let header : c.push_header.new.out.items ≡ header_text Two c.args.identity = search rules in
    on_err_weaker c.write_nodes.result
    (λ f. subst (λ (x : List ℕ). AppendsFront (g.K.Sink.written c.args.sink.now) (g.K.Sink.written c.write_nodes.new.sink) (x ++ lines_of Two c.args.p.now.root c.args.p.now.tree)) header f)
    c.write_nodes.ensures.front
