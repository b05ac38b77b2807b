use Rattle.pv_hc4.proofs.Judging.{at_taken}
use Rattle.pv_hc4.proofs.judge.changed_from.Goals as goal

pub loop-i-init : goal.loop-i-init
loop-i-init c = record {
  done = λ k h. (λ m. at_taken c.args.start k c.args.bx.now c.args.entry.now c.requires.before h, λ e. c.none-changed.ensures k);
  left = λ k h. c.none-changed.ensures k;
}
