-- Budgets that are spent one after another.
use Rattle.std.proofs.Common.{◌≡◌, ◌⊎◌, inl, inr, ℕ, ◌+◌, ◌≤◌, Bool, List, [], ◌∷◌, length, refl, ap, subst, arith}
use Rattle.std.specs.Prelude.{◌≢◌}
use Rattle.pv_interval.specs.Bounds.{Bounds}
use Rattle.pv_interval.specs.Points.{Point}
use Rattle.pv_box.specs.Boxes.{IsBox}
use Rattle.pv_tree.specs.Trees.{Tree, leaf, opens, IsPaving, Paves}
use Rattle.pv_tree.specs.Stages.{Rule, full_of, IsStage}
use Rattle.pv_tree.specs.Sets.{Covers}
use Rattle.pv_tree.specs.Laws.{IsLawful}
use Rattle.pv_tree.proofs.StageLaws.{whole_stage}
use Rattle.pv_tree.proofs.Earlier.{stage_on, opening_is_stage}
use Rattle.pv_workers.proofs.Budgets.{fits_of, spent_of}
use Rattle.pv_board.specs.Rules.{settled_in}
use Rattle.pv_workers.specs.Pavings.{IsSpent, IsPaved, FullFits}
use Rattle.pv_keep.specs.Keeping.{Kept, untold, absent, holds}
use Rattle.pv_keep.specs.Campaigns.{KeepsTree, IsSaved}
use Rattle.pv_rounds.specs.Going.{AddUp}
use Rattle.pv_rounds.proofs.Ordered.{ordered_on}

-- ---- A stage of what it begins with

cons_nil : {A : Type 0} (x : A) (xs : List A) → x ∷ xs ≡ [] → ⊥
cons_nil x xs e = cc

none_or_some : (ps : List (List Bool)) → (ps ≡ []) ⊎ (ps ≢ [])
none_or_some [] = inl refl
none_or_some (p ∷ ps) = inr (cons_nil p ps)

-- ---- What has been spent

at_most : (rule : Rule) (depth : ℕ) (b : List Bounds) (opening t : Tree) (budget : ℕ) → IsPaved rule depth b opening budget t → opens t ≡ [] → settled_in t ≤ settled_in opening + budget
at_most rule depth b opening t budget p none =
    let fits : FullFits rule depth b opening budget = p.fits.0 none in
    let same : settled_in t ≡ settled_in (full_of rule depth b opening 0) = ap settled_in (p.full none) in
    omega arith

pub few_settled : (rule : Rule) (depth : ℕ) (b : List Bounds) (opening t : Tree) (budget : ℕ) → IsPaved rule depth b opening budget t → settled_in t ≤ settled_in opening + budget
few_settled rule depth b opening t budget p = by (none_or_some (opens t))
  where
    by : (opens t ≡ []) ⊎ (opens t ≢ []) → settled_in t ≤ settled_in opening + budget
    by (inl none) = at_most rule depth b opening t budget p none
    by (inr some) = let spent = p.spent some in omega arith

module _ (rule : Rule) (depth dims : ℕ) (inside : Point → Type 0) (laws : IsLawful rule depth dims inside) (b : List Bounds) (box : IsBox b) (over : length b ≡ dims) where
  pub no_budget : (t : Tree) → IsPaving b t → Covers b t → IsPaved rule depth b t 0 t
  no_budget t paving covers =
      let stage : IsStage rule depth b t t = opening_is_stage rule depth b t in
      let spent : IsSpent 0 t t = inl (omega arith) in
      record {
        paving = paving;
        covers = covers;
        stage = stage;
        fits = fits_of rule depth dims inside laws b t t 0 box over paving.paves stage spent;
        full = λ none. whole_stage rule depth dims inside laws b t t stage none;
        spent = spent_of 0 t t spent;
      }

  both_spent : (opening middle t : Tree) (spent budget : ℕ) → IsPaved rule depth b opening spent middle → opens middle ≢ [] → IsPaved rule depth b middle budget t
      → IsSpent (spent + budget) opening t
  both_spent opening middle t spent budget p some q =
      let first : settled_in middle ≡ settled_in opening + spent = p.spent some in
      by first (none_or_some (opens t))
    where
      by : settled_in middle ≡ settled_in opening + spent → (opens t ≡ []) ⊎ (opens t ≢ []) → IsSpent (spent + budget) opening t
      by first (inl none) = let few : settled_in t ≤ settled_in middle + budget = at_most rule depth b middle t budget q none in inr (none, omega arith)
      by first (inr left) = let more : settled_in t ≡ settled_in middle + budget = q.spent left in inl (omega arith)

  paved_on : (opening middle t : Tree) (spent budget : ℕ) → Paves b opening → IsPaved rule depth b opening spent middle → opens middle ≢ []
      → IsPaved rule depth b middle budget t → IsPaved rule depth b opening (spent + budget) t
  paved_on opening middle t spent budget paves p some q =
      let stage : IsStage rule depth b opening t = stage_on rule depth dims inside laws b opening middle t box over paves p.stage q.stage in
      let all : IsSpent (spent + budget) opening t = both_spent opening middle t spent budget p some q in
      record {
        paving = q.paving;
        covers = q.covers;
        stage = stage;
        fits = fits_of rule depth dims inside laws b opening t (spent + budget) box over paves stage all;
        full = λ none. whole_stage rule depth dims inside laws b opening t stage none;
        spent = spent_of (spent + budget) opening t all;
      }

  pub add_up : AddUp rule depth b
  add_up = record {
    stages = λ earlier opening t paves s z. stage_on rule depth dims inside laws b earlier opening t box over paves s z;
    paved = λ opening middle t spent budget paves p some q. paved_on opening middle t spent budget paves p some q;
    ordered = λ order opening middle t stage first second. ordered_on order opening middle t stage.grown first second;
  }

-- where no leaf is open a greater budget does no more
pub enough : (rule : Rule) (depth : ℕ) (b : List Bounds) (opening t : Tree) (budget more : ℕ) → budget ≤ more → opens t ≡ [] → IsPaved rule depth b opening budget t
    → IsPaved rule depth b opening more t
enough rule depth b opening t budget more less none p =
    let fits : FullFits rule depth b opening budget = p.fits.0 none in
    let wider : FullFits rule depth b opening more = omega arith in
    record { paving = p.paving; covers = p.covers; stage = p.stage; fits = (λ _. wider, λ _. none); full = p.full; spent = λ some. absurd (some none) }

-- ---- What is kept of a name

-- the rows of a tree are its own
pub saved_now : (k : Kept) (t : Tree) → KeepsTree k t → IsSaved k k t
saved_now untold t h = refl
saved_now absent t h = h
saved_now (holds identity rows) t h = ap (holds identity) h

-- what was saved of one tree and then of another is that of the other
pub saved_on : (k0 k1 k2 : Kept) (s t : Tree) → IsSaved k0 k1 s → IsSaved k1 k2 t → IsSaved k0 k2 t
saved_on untold k1 k2 s t h j = subst (λ (k : Kept). IsSaved k k2 t) h j
saved_on absent k1 k2 s t h j = h
saved_on (holds identity rows) k1 k2 s t h j = subst (λ (k : Kept). IsSaved k k2 t) h j
