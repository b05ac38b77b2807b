-- A settler with centered forms as its callers see it.
use Rattle.pv_settle.specs.Rules.{SettlerParts}
use Rattle.pv_settle.specs.Settlers as natural
use Rattle.pv_slope.specs.declared.settler.CenteredSettler.{CenteredSettler}

abbrev pub rule_of : CenteredSettler → SettlerParts
rule_of s = natural.rule_of s.settler
