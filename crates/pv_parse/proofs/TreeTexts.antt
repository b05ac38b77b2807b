-- A text is that of one tree, and a system's text that was read is that of a tree, with the tree's code.
use Rattle.std.proofs.Common.{◌≡◌, ℕ, suc, ◌≤◌, List, [], length, refl, ap, arith, ◌∙◌}
use Rattle.pv_code.specs.declared.code.Op.{Op}
use Rattle.pv_code.specs.Expansion.{Meaning}
use Rattle.pv_grammar.specs.declared.counts.Phase.TheVariants.{Between, Sides as SidesPhase}
use Rattle.pv_grammar.specs.Counting.{nothing}
use Rattle.pv_grammar.specs.Grammar.{system_items}
use Rattle.pv_grammar.specs.Limits.{IsSystemWithin, constraints_count, variables_count}
use Rattle.pv_grammar.specs.Productions.{Constraints, Expression, System, Variables, constraint_and, constraints_semicolon, expression_symbols, no_constraint, no_variable, system_of, system_symbols, variable_and, variables_separator}
use Rattle.pv_grammar.specs.Standings.{first_in}
use Rattle.pv_grammar.specs.Trees.{constraints_sides, functions_behind, system_constraints, system_domains, variables_domains}
use Rattle.pv_grammar.proofs.OneTree.{one_expression_tree, one_system_tree}
use Rattle.pv_grammar.proofs.TreeBuilding.{system_tree}
use Rattle.pv_grammar.proofs.Within.{system_within}
use Rattle.pv_parse.specs.ByItems.{IsTold, IsToldAs}
use Rattle.pv_parse.specs.Meanings.{Names, no_names}
use Rattle.pv_parse.specs.Scopes.{Scoped, nothing_scoped}
use Rattle.pv_parse.specs.Sentences.{IsExpressionTextOf, IsTextOf}
use Rattle.pv_parse.proofs.OneSpelling.{one_spelling}

pub one_tree_of : (t : List ℕ) (x y : System) → IsTextOf t x → IsTextOf t y → x ≡ y
one_tree_of t x y of_x of_y = one_system_tree x y (one_spelling t no_names (first_in Between) (system_symbols x []) (system_symbols y []) of_x.0 of_y.0)

pub one_expression_tree_of : (t : List ℕ) (known : Names) (d e : Expression) → IsExpressionTextOf known t d → IsExpressionTextOf known t e → d ≡ e
one_expression_tree_of t known d e of_d of_e =
    one_expression_tree d e (one_spelling t known (first_in SidesPhase) (expression_symbols d []) (expression_symbols e []) of_d.0 of_e.0)

-- ---- Of a system

pub told_tree : {t : List ℕ} {code : List Op} {new : Scoped} → IsToldAs t no_names (nothing Between) system_items [] code nothing_scoped new → IsTold t code new
told_tree s =
    let (x, symbols, steps) = system_tree s.symbols s.steps s.derived s.are_known in
    record {
      reading = record { tree = x; spelled = (rw symbols at s.spelled, system_within x (rw symbols at s.within)); marks = s.marks; marked = rw symbols at s.marked };
      code_is = s.code_is ∙ steps;
      fractions = s.fractions;
      scoped = s.scoped;
    }

constraints_length : (fs : List Meaning) (cs : Constraints) → length (constraints_sides fs cs) ≡ constraints_count cs
constraints_length fs no_constraint = refl
constraints_length fs constraints_semicolon = refl
constraints_length fs (constraint_and c more) = ap suc (constraints_length fs more)

pub constraints_many : (x : System) → IsSystemWithin x → (1 ≤ length (system_constraints x)) × (length (system_constraints x) ≤ 64)
constraints_many (system_of block before v vs behind c cs) h =
    let many = constraints_length (functions_behind behind (functions_behind before [])) cs in
    let few = h.4 in
    (omega arith, omega (arith, many, few))

variables_length : (vs : Variables) → length (variables_domains vs) ≡ variables_count vs
variables_length no_variable = refl
variables_length (variables_separator s) = refl
variables_length (variable_and s v more) = ap suc (variables_length more)

pub variables_many : (x : System) → IsSystemWithin x → (1 ≤ length (system_domains x)) × (length (system_domains x) ≤ 12)
variables_many (system_of block before v vs behind c cs) h =
    let many = variables_length vs in
    let few = h.3 in
    (omega arith, omega (arith, many, few))
