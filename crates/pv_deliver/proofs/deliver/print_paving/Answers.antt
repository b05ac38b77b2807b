use Rattle.std.proofs.Common.{rules}
use Rattle.pv_io.specs.Outside.{Rose}
use Rattle.pv_tree.specs.Trees.{counts_of}
use Rattle.pv_file.specs.Lines.{lines_of}
use Rattle.pv_file.specs.declared.version.Version.TheVariants.{One}
use Rattle.pv_product.specs.Products.{summary_of}
use Rattle.pv_product.proofs.OnlyRead.{rose_from}
use Rattle.pv_product.proofs.Ends.{passed}
use Rattle.pv_deliver.proofs.Written.{print_first, front_second}
use Rattle.pv_deliver.proofs.deliver.print_paving.Goals as goal

pub returns-in_err-print_summary-clause-refused : goal.returns-in_err-print_summary-clause-refused
returns-in_err-print_summary-clause-refused g c =
    passed c.from_residual.result c.in_err-print_summary.field-0.0 _ c.from_residual.ensures.1
    (print_first _ _ _ _ c.in_err-print_summary.field-0.0 c.in_err-print_summary.ensures.refused)

pub returns-in-Err-WriteFailed-clause-refused : goal.returns-in-Err-WriteFailed-clause-refused
returns-in-Err-WriteFailed-clause-refused g c =
    let t = c.args.paving.now.tree in
    let rose : Rose (g.K.Sink.faults c.print_summary.new.out) (g.K.Sink.faults c.write_lines_by.new.sink) = search rules in (
      front_second _ _ _ (summary_of (counts_of t)) (lines_of One c.args.paving.now.root t) c.in_ok-print_summary.ensures.whole c.in-Err-WriteFailed.ensures.front,
      rose_from _ _ _ c.print_summary.ensures.counts_on rose,
    )

pub returns-in-Err-Memory-clause-refused : goal.returns-in-Err-Memory-clause-refused
returns-in-Err-Memory-clause-refused g c =
    let t = c.args.paving.now.tree in
    front_second _ _ _ (summary_of (counts_of t)) (lines_of One c.args.paving.now.root t) c.in_ok-print_summary.ensures.whole c.in-Err-Memory.ensures.front
