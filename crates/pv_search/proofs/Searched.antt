-- What is found of a least value, by the steps of `least`.
use Rattle.std.proofs.Common.{◌≡◌, ℕ, List, sym, subst}
use Rattle.std.specs.Prelude.{◌↔◌, Option, Some, None, Result, Ok, Err, IfOk, IfSome, IsTrue}
use Rattle.clap.specs.Words.{Text}
use Rattle.pv_num.specs.declared.memory.Memory.{Memory}
use Rattle.pv_interval.specs.Bounds.{Bounds}
use Rattle.pv_interval.specs.Points.{Point}
use Rattle.pv_expr.specs.Terms.{Term}
use Rattle.pv_expr.specs.Systems.{Parts}
use Rattle.pv_tree.specs.Trees.{counts_of, settled_of}
use Rattle.pv_slope.specs.Methods.{Method, is_member}
use Rattle.pv_parse.specs.Declarations.{IsExpressionMeaning}
use Rattle.pv_least.specs.Searches.{lower_of, best_of}
use Rattle.pv_least.specs.Promises.{NoneIsBelow, IsWitness}
use Rattle.pv_least.specs.declared.found.BestPoint.{BestPoint}
use Rattle.pv_least.specs.declared.found.Least.{Least}
use Rattle.pv_rule.specs.Systems.{Files, SpellsProp, HasRule, RefusesRule, EachHolds, search_box}
use Rattle.pv_product.specs.Leasts.{AreBounds, IsLeastBy, RefusesObjective, RefusesLeast, searched_by, next_in, least_text}
use Rattle.pv_product.specs.Products.{Product, ComesOfLeast, report_as}
use Rattle.pv_request.specs.declared.request.Settings.{Settings}
use Rattle.pv_request.specs.declared.request.Search.{Search}
use Rattle.pv_request.specs.declared.refusal.Refusal.{Refusal}
use Rattle.pv_request.specs.declared.refusal.Refusal.TheVariants.{Usage, System, Contract, Objective, NoFile, ReadFault, Paving, NotStored, KeeperFault, NotPrinted, Memory as WantOfMemory, TreeLimit, Disagree, Differs}

-- ---- The bounds

witness_alike : (inside other : Point → Type 0) (t : Term) (b : List Bounds) → ((x : Point) → inside x ↔ other x) → (o : Option BestPoint)
    → IfSome o (IsWitness inside t b) → IfSome o (IsWitness other t b)
witness_alike inside other t b same None h = tt
witness_alike inside other t b same (Some p) h = record {
  within = h.within;
  is_member = (same _).0 h.is_member;
  value = h.value;
  defined = h.defined;
  at_most = h.at_most;
}

-- bounds over a set are bounds over another one that has the same points
bounds_alike : (inside other : Point → Type 0) (t : Term) (b : List Bounds) (l : Least) → ((x : Point) → inside x ↔ other x) → AreBounds inside t b l → AreBounds other t b l
bounds_alike inside other t b l same h = record {
  none_below = λ x v within member value. h.none_below x v within ((same x).1 member) value;
  witness = witness_alike inside other t b same l.best h.witness;
}

-- what a search says of a box, clause by clause
least_at : (rule : Method) (b : List Bounds) (t : Term) (budget : ℕ) (r : Result Least Memory)
    → IfOk r (λ l. l.lower ≡ lower_of t b (searched_by rule b t budget)) → IfOk r (λ l. l.best ≡ best_of t b (searched_by rule b t budget))
    → IfOk r (λ l. l.settled ≡ settled_of (counts_of (searched_by rule b t budget))) → IfOk r (λ l. IsTrue l.done ↔ (next_in rule b t budget ≡ None))
    → IfOk r (λ l. NoneIsBelow (is_member rule) t b l.lower) → IfOk r (λ l. IfSome l.best (IsWitness (is_member rule) t b))
    → IfOk r (IsLeastBy rule b t budget)
least_at rule b t budget (Ok l) lower best settled done none_below witness = record {
  lower = lower;
  best = best;
  settled = settled;
  done = done;
  bounds = record { none_below = none_below; witness = witness };
}
least_at rule b t budget (Err e) lower best settled done none_below witness = tt

pub least_by : (rule : Method) (b : List Bounds) (t : Term) (budget : ℕ) (r : Result Least Memory) → b ≡ search_box rule
    → IfOk r (λ l. l.lower ≡ lower_of t b (searched_by rule b t budget)) → IfOk r (λ l. l.best ≡ best_of t b (searched_by rule b t budget))
    → IfOk r (λ l. l.settled ≡ settled_of (counts_of (searched_by rule b t budget))) → IfOk r (λ l. IsTrue l.done ↔ (next_in rule b t budget ≡ None))
    → IfOk r (λ l. NoneIsBelow (is_member rule) t b l.lower) → IfOk r (λ l. IfSome l.best (IsWitness (is_member rule) t b))
    → IfOk r (IsLeastBy rule (search_box rule) t budget)
least_by rule b t budget r same lower best settled done none_below witness =
    subst (λ (x : List Bounds). IfOk r (IsLeastBy rule x t budget)) same (least_at rule b t budget r lower best settled done none_below witness)

-- ---- What comes of it

pub least_comes : (before : Files) (system : Text) (s : Settings) (search : Search) (rule : Method) (t : Term) (l : Least) (p : Product) → HasRule before system s rule
    → IsExpressionMeaning rule.parts.system.names search.of.now t → IsLeastBy rule (search_box rule) t search.boxes l → p ≡ report_as (least_text l) l.done
    → ComesOfLeast before system s search p
least_comes before system s search rule t l p read means is told = record {
  least = l;
  found = record {
    rule = rule;
    read = read;
    term = t;
    means = means;
    is = is;
    by_prop = λ n spelled. bounds_alike (is_member rule) (EachHolds rule.parts.system.constraints) t (search_box rule) l
        (λ x. subst (λ (y : Parts). is_member rule x ↔ EachHolds y.constraints x) (sym read.is.system_is)
        (read.is.by_prop n (subst (λ (y : Parts). SpellsProp y s n) read.is.system_is spelled) x)) is.bounds;
  };
  is = told;
}

-- ---- Why nothing comes of it

module _ (before after : Files) (system : Text) (s : Settings) (of : Text) where
  pub rule_refused : (r : Refusal) → RefusesRule before after system s r → RefusesLeast before after system s of r
  rule_refused (Objective byte cause) h = absurd h
  rule_refused Usage h = h
  rule_refused (System line column byte cause) h = h
  rule_refused (Contract byte) h = h
  rule_refused (NoFile n) h = h
  rule_refused (ReadFault n) h = h
  rule_refused (Paving n f) h = h
  rule_refused (NotStored n) h = h
  rule_refused (KeeperFault n) h = h
  rule_refused NotPrinted h = h
  rule_refused WantOfMemory h = h
  rule_refused (TreeLimit n) h = h
  rule_refused (Disagree p a b) h = h
  rule_refused (Differs p a b) h = h

  pub objective_refused : (rule : Method) (r : Refusal) → HasRule before system s rule → RefusesObjective rule.parts.system.names of r
      → RefusesLeast before after system s of r
  objective_refused rule (Objective byte cause) read h = record { rule = rule; read = read; fault = h }
  objective_refused rule WantOfMemory read h = tt
  objective_refused rule Usage read h = h
  objective_refused rule (System line column byte cause) read h = absurd h
  objective_refused rule (Contract byte) read h = absurd h
  objective_refused rule (NoFile n) read h = absurd h
  objective_refused rule (ReadFault n) read h = absurd h
  objective_refused rule (Paving n f) read h = absurd h
  objective_refused rule (NotStored n) read h = absurd h
  objective_refused rule (KeeperFault n) read h = absurd h
  objective_refused rule NotPrinted read h = absurd h
  objective_refused rule (TreeLimit n) read h = absurd h
  objective_refused rule (Disagree p a b) read h = absurd h
  objective_refused rule (Differs p a b) read h = absurd h
