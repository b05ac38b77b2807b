-- A contractor program as a tree, apart from where it lies in memory.
use Rattle.std.specs.Prelude.{ℕ, ◌+◌, ◌<◌, ◌≤◌, List, [], ◌∷◌}
use Rattle.pv_ctc.specs.declared.program.Program.{Program, Row_of-Program, end_of-Program, more_of-Program}
use Rattle.pv_ctc.specs.declared.program.Program.TheVariants.{Hc4, Compose', Union', QInter', Fix', Prop}
use Rattle.pv_ctc.specs.declared.program.TheConstants.{MOST_TURNS}

mutual
  pub data Plan : Type 0 where
    hc4 : ℕ → Plan
    compose : Plans → Plan
    union : Plans → Plan
    qinter : ℕ → Plans → Plan
    fix : ℕ → Plan → Plan
    prop : ℕ → Plan

  pub data Plans : Type 0 where
    no_plan : Plans
    plan_and : Plan → Plans → Plans

abbrev mutual
  pub plan_of : Program → Plan
  plan_of (Hc4 i) = hc4 i
  plan_of (Compose' shape ps) = compose (plans_in ps)
  plan_of (Union' shape ps) = union (plans_in ps)
  plan_of (QInter' q shape ps) = qinter q (plans_in ps)
  plan_of (Fix' n p t) = fix n (plan_of t)
  plan_of (Prop n) = prop n

  pub plans_in : {m : _} → Row_of-Program m → Plans
  plans_in end_of-Program = no_plan
  plans_in (more_of-Program p rest) = plan_and (plan_of p) (plans_in rest)

-- the programs of a list
abbrev pub plans_of : List Program → Plans
plans_of [] = no_plan
plans_of (p ∷ ps) = plan_and (plan_of p) (plans_of ps)

abbrev pub plan_count : Plans → ℕ
plan_count no_plan = 0
plan_count (plan_and p ps) = plan_count ps + 1

-- the program is one for a system of so many constraints: each number is in its range
abbrev mutual
  pub IsFor : ℕ → Plan → Type 0
  IsFor count (hc4 i) = i < count
  IsFor count (compose ps) = (1 ≤ plan_count ps) × AreFor count ps
  IsFor count (union ps) = (1 ≤ plan_count ps) × AreFor count ps
  IsFor count (qinter q ps) = (1 ≤ q) × (q ≤ plan_count ps) × AreFor count ps
  IsFor count (fix n p) = (1 ≤ n) × (n ≤ MOST_TURNS) × IsFor count p
  IsFor count (prop n) = (1 ≤ n) × (n ≤ MOST_TURNS)

  pub AreFor : ℕ → Plans → Type 0
  AreFor count no_plan = Unit {0}
  AreFor count (plan_and p ps) = IsFor count p × AreFor count ps

-- how many programs a program is of, itself and the parts of its parts
abbrev mutual
  pub node_count : Plan → ℕ
  node_count (hc4 i) = 1
  node_count (compose ps) = nodes_in ps + 1
  node_count (union ps) = nodes_in ps + 1
  node_count (qinter q ps) = nodes_in ps + 1
  node_count (fix n p) = node_count p + 1
  node_count (prop n) = 1

  pub nodes_in : Plans → ℕ
  nodes_in no_plan = 0
  nodes_in (plan_and p ps) = node_count p + nodes_in ps
