-- A settler as its callers see it.
use Rattle.pv_settle.specs.declared.settler.SystemSettler.{SystemSettler}
use Rattle.pv_settle.specs.Rules.{SettlerParts}

abbrev pub rule_of : SystemSettler → SettlerParts
rule_of s = record { system = s.system; program = s.program; eps = s.settings.eps; depth = s.settings.depth; bisector = s.settings.bisector; graphs = s.graphs }
