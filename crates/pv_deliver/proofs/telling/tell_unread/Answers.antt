use Rattle.std.proofs.Common.{refl, sym, subst}
use Rattle.pv_product.specs.Ends.{stream, Tells}
use Rattle.pv_deliver.specs.Telling.{refusal_for}
use Rattle.pv_deliver.specs.declared.telling.Unread.{Unread}
use Rattle.pv_request.specs.declared.refusal.Refusal.TheVariants.{Usage}
use Rattle.pv_deliver.proofs.Written.{told_line}
use Rattle.pv_deliver.proofs.telling.tell_unread.Goals as goal

pub returns-in-NoText : goal.returns-in-NoText
returns-in-NoText g c =
    subst (λ (w : Unread). Tells (refusal_for w) c.tell_line.result (stream (g.E.Sink.written c.args.err.now) (g.E.Sink.faults c.args.err.now))
    (stream (g.E.Sink.written c.tell_line.new.err) (g.E.Sink.faults c.tell_line.new.err))) (sym c.in-NoText.is)
    (told_line Usage _ _ c.tell_line.result _ _ refl refl c.tell_line.ensures)
