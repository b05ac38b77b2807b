use Rattle.std.proofs.Common.{ap, rules, ◌∙◌}
use Rattle.std.proofs.lemmas.List.{drop_more}
use Rattle.pv_grammar.specs.Grammar.{pile}
use Rattle.pv_grammar.proofs.Piles.{pile-push}
use Rattle.pv_grammar.proofs.machine.Machine.put_all.Goals as goal

pub loop-i-preserved : goal.loop-i-preserved
loop-i-preserved c = let pushed = ap pile c.in_ok-push.ensures.items ∙ pile-push c.loop-i.self.stack.items _ in grind (rules, pushed, drop_more)
