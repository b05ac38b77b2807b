use Rattle.std.proofs.Common.{◌≡◌, map, string_bytes}
use Rattle.pv_parse.specs.Scopes.{declared, domain_in, name_of}
use Rattle.pv_parse.proofs.variable.names_and_domains.Given as goal

abbrev pub invariant-loop-one : goal.invariant-loop-one
invariant-loop-one l = record {
  names : map string_bytes l.names.items ≡ map name_of (map declared l.yielded);
  domains : l.domains.items ≡ map domain_in (map declared l.yielded);
}
