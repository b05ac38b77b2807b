use Rattle.std.proofs.Common.{arith, List, ℕ, ap, map, subst, sym, ◌∙◌, rules, ◌<◌, ◌≤◌, ◌≢◌, AllPairs, length, get_or, string_bytes}
use Rattle.std.specs.Prelude.{All}
use Rattle.std.proofs.lemmas.List.Elements.{All-weaker}
use Rattle.pv_expr.specs.Systems.{IsConstraint, IsDomain}
use Rattle.pv_code.specs.declared.code.Op.{Op}
use Rattle.pv_code.specs.Expansion.{constraints_of, sides_of}
use Rattle.pv_code.specs.Sizes.{AreWithin, IsShortCall}
use Rattle.pv_code.proofs.Building.{length-map}
use Rattle.pv_code.proofs.Over.{IsStep, constraints_good, few_nodes, short_step}
use Rattle.pv_parse.specs.declared.variable.Variable.{Variable as Kept}
use Rattle.pv_parse.specs.ByItems.{IsLargeAt}
use Rattle.pv_parse.specs.Declarations.{AreGood, IsFirstBad}
use Rattle.pv_parse.specs.Scopes.{bracket_in, declared, domain_in, name_of}
use Rattle.pv_parse.proofs.Meant.{as_many, as_many_starts, bad_bounds, bracket_in_text, constraints_count, domains_good, meant, names_differ, starts_in_text, told_steps, too_large, variables_count}
use Rattle.pv_parse.proofs.reader.parse.Goals as goal

pub fault-requires-clause-within : goal.fault-requires-clause-within
fault-requires-clause-within c =
    bracket_in_text c.in_ok-state.ensures.told
    (subst (λ (z : List Kept). IsFirstBad (map domain_in (map declared z)) (map bracket_in (map declared z)) c.in-Some.bracket) c.as_slice.ensures.value c.in-Some.ensures.some)

pub fault-requires-clause-short : goal.fault-requires-clause-short
fault-requires-clause-short c =
    let bad = subst (λ (z : List Kept). IsFirstBad (map domain_in (map declared z)) (map bracket_in (map declared z)) c.in-Some.bracket) c.as_slice.ensures.value c.in-Some.ensures.some in
    omega (arith, bracket_in_text c.in_ok-state.ensures.told bad, c.in_ok-refuse_long.ensures.short (search rules))

pub returns-in-Some-clause-fault : goal.returns-in-Some-clause-fault
returns-in-Some-clause-fault c =
    let bad = subst (λ (z : List Kept). IsFirstBad (map domain_in (map declared z)) (map bracket_in (map declared z)) c.in-Some.bracket) c.as_slice.ensures.value c.in-Some.ensures.some in
    bad_bounds c.in_ok-state.ensures.told c.in-Some.bracket c.fault.result (c.in_ok-refuse_long.ensures.short (search rules)) bad c.fault.ensures.at

pub returns-in-Err-clause-fault : goal.returns-in-Err-clause-fault
returns-in-Err-clause-fault c =
    let good = subst (λ (z : List Kept). AreGood (map domain_in (map declared z))) c.as_slice.ensures.value (c.in_default.ensures.none (search rules)) in
    too_large c.in_ok-state.ensures.told c.in-Err.refused (c.in_ok-refuse_long.ensures.short (search rules)) good
    (subst (λ (z : List ℕ). IsLargeAt z c.in_ok-state.code.items c.in-Err.refused) c.as_slice-3.ensures.value
    (subst (λ (z : List Op). IsLargeAt c.as_slice-3.result.now z c.in-Err.refused) c.as_slice-2.ensures.value c.in-Err.ensures.large))

pub returns-clause-means : goal.returns-clause-means
returns-clause-means c =
    let good = subst (λ (z : List Kept). AreGood (map domain_in (map declared z))) c.as_slice.ensures.value (c.in_default.ensures.none (search rules)) in
    meant c.in_ok-state.ensures.told c.new.result (c.in_ok-refuse_long.ensures.short (search rules)) (c.new.ensures.names ∙ c.in_ok-names.ensures.names)
    (c.new.ensures.domains ∙ c.in_ok-names.ensures.domains) good (ap (map sides_of) c.new.ensures.constraints ∙ (c.in-Ok.ensures.means ∙ ap constraints_of c.as_slice-2.ensures.value))
    (subst (λ (z : List Op). AreWithin (constraints_of z)) c.as_slice-2.ensures.value (c.in-Ok.ensures.within (search rules)))

pub expanded-requires-clause-calls : goal.expanded-requires-clause-calls
expanded-requires-clause-calls c =
    let n : ℕ = length (map declared c.in_ok-state.state.variables.items) in
    subst (All IsShortCall) (sym c.as_slice-2.ensures.value) (All-weaker (IsStep n) IsShortCall (short_step n) c.in_ok-state.code.items (told_steps c.in_ok-state.ensures.told))

pub expanded-requires-clause-places : goal.expanded-requires-clause-places
expanded-requires-clause-places c =
    subst (λ (z : List ℕ). (k : ℕ) → k < length z → get_or z k 0 ≤ length c.args.text.now) (sym c.as_slice-3.ensures.value) (starts_in_text c.in_ok-state.ensures.told)

pub expanded-requires-clause-each : goal.expanded-requires-clause-each
expanded-requires-clause-each c =
    ap length c.as_slice-3.ensures.value ∙ (as_many_starts c.in_ok-state.ensures.told ∙ ap (λ (z : List Op). length (constraints_of z)) (sym c.as_slice-2.ensures.value))

pub new-requires-clause-same_length : goal.new-requires-clause-same_length
new-requires-clause-same_length c =
    let vs = map declared c.in_ok-state.state.variables.items in
    ap length c.in_ok-names.ensures.domains ∙ (length-map domain_in vs ∙ sym (as_many string_bytes name_of c.in_ok-names.names.items vs c.in_ok-names.ensures.names))

pub new-requires-clause-distinct : goal.new-requires-clause-distinct
new-requires-clause-distinct c = subst (AllPairs (λ x y. x ≢ y)) (sym c.in_ok-names.ensures.names) (names_differ c.in_ok-state.ensures.told)

pub new-requires-clause-few_names : goal.new-requires-clause-few_names
new-requires-clause-few_names c =
    omega (arith, (variables_count c.in_ok-state.ensures.told).1, as_many string_bytes name_of c.in_ok-names.names.items (map declared c.in_ok-state.state.variables.items) c.in_ok-names.ensures.names)

pub new-requires-clause-some_names : goal.new-requires-clause-some_names
new-requires-clause-some_names c =
    omega (arith, (variables_count c.in_ok-state.ensures.told).0, as_many string_bytes name_of c.in_ok-names.names.items (map declared c.in_ok-state.state.variables.items) c.in_ok-names.ensures.names)

pub new-requires-clause-domains_good : goal.new-requires-clause-domains_good
new-requires-clause-domains_good c =
    let good = subst (λ (z : List Kept). AreGood (map domain_in (map declared z))) c.as_slice.ensures.value (c.in_default.ensures.none (search rules)) in
    subst (All IsDomain) (sym c.in_ok-names.ensures.domains) (domains_good c.in_ok-state.ensures.told good)

pub new-requires-clause-some_constraints : goal.new-requires-clause-some_constraints
new-requires-clause-some_constraints c =
    let many = ap length (c.in-Ok.ensures.means ∙ ap constraints_of c.as_slice-2.ensures.value) in
    omega (arith, many, length-map sides_of c.in-Ok.constraints.items, (constraints_count c.in_ok-state.ensures.told).0)

pub new-requires-clause-few_constraints : goal.new-requires-clause-few_constraints
new-requires-clause-few_constraints c =
    let many = ap length (c.in-Ok.ensures.means ∙ ap constraints_of c.as_slice-2.ensures.value) in
    omega (arith, many, length-map sides_of c.in-Ok.constraints.items, (constraints_count c.in_ok-state.ensures.told).1)

pub new-requires-clause-constraints_good : goal.new-requires-clause-constraints_good
new-requires-clause-constraints_good c =
    let vs = map declared c.in_ok-state.state.variables.items in
    subst (λ (n : ℕ). All (IsConstraint n) c.in-Ok.constraints.items) (sym (as_many string_bytes name_of c.in_ok-names.names.items vs c.in_ok-names.ensures.names))
    (constraints_good (length vs) c.in-Ok.constraints.items c.in_ok-state.code.items (c.in-Ok.ensures.means ∙ ap constraints_of c.as_slice-2.ensures.value)
    (subst (λ (z : List Op). AreWithin (constraints_of z)) c.as_slice-2.ensures.value (c.in-Ok.ensures.within (search rules))) (told_steps c.in_ok-state.ensures.told))

pub new-requires-clause-few_nodes : goal.new-requires-clause-few_nodes
new-requires-clause-few_nodes c =
    few_nodes c.in-Ok.constraints.items (constraints_of c.as_slice-2.result.now) c.in-Ok.ensures.means (c.in-Ok.ensures.within (search rules))
