-- What reports of workers say together.
use Rattle.std.proofs.Common.{◌≡◌, ◌⊎◌, inl, inr, ℕ, ◌+◌, ◌-◌, ◌%◌, ◌<◌, ◌≤◌, Bool, true, false, IsTrue, Some, None, List, [], ◌∷◌, ◌++◌, length, length-append, refl, sym, ◌∙◌, ap, arith, subst}
use Rattle.std.specs.Prelude.{Result, IfOk}
use Rattle.std.proofs.lemmas.Bool.Decides.{leb_tells}
use Rattle.std.proofs.Math.ListN.{get_or-append}
use Rattle.std.proofs.Math.Seq.{get_or-append_seam}
use Rattle.pv_num.specs.declared.memory.Memory.{Memory}
use Rattle.pv_interval.specs.Bounds.{Bounds}
use Rattle.pv_tree.specs.Trees.{Tree, leaf, removed, inner, small, cut, subtree, outcome_at, top, precedes, box_of}
use Rattle.pv_tree.specs.Pieces.{Walked, IsVisit, IsPiece, all_nodes}
use Rattle.pv_tree.specs.Stages.{Rule}
use Rattle.pv_tree.specs.declared.outcome.Outcome.{Outcome}
use Rattle.pv_tree.specs.declared.outcome.Shape.{Shape}
use Rattle.pv_join.specs.Audits.{due_at, IsDue, IsFirstDifference, due_of, IsChecked}
use Rattle.pv_join.proofs.JoinFacts.{top_is}
use Rattle.pv_audit.specs.declared.report.Difference.{Difference}
use Rattle.pv_audit.specs.declared.report.Report.{Report}
use Rattle.pv_audit.specs.Reports.{number_of, Differs, DiffersIfSome, IsReport, AreReports}
use Rattle.pv_audit.proofs.Numbers.{AreNumbered, number_less, one_number, before_less, numbers_on}

-- a settled node is there
pub is_there : (t : Tree) (p : List Bool) (o : Outcome) → outcome_at t p ≡ Some o → (s : Tree) × (subtree t p ≡ Some s)
is_there t [] o e = (t, refl)
is_there (cut to v a l r) (false ∷ p) o e = is_there l p o e
is_there (cut to v a l r) (true ∷ p) o e = is_there r p o e
is_there leaf (b ∷ p) o e = cc
is_there removed (b ∷ p) o e = cc
is_there (inner to) (b ∷ p) o e = cc
is_there (small to) (b ∷ p) o e = cc

module _ (rule : Rule) (depth : ℕ) (b : List Bounds) (t : Tree) where
  -- Of the nodes with lesser numbers those of one kind are settled by the rule.
  abbrev pub AreDue : (ℕ → Type 0) → ℕ → Type 0
  AreDue IsOwn n = (p : List Bool) → IsOwn (number_of t p) → number_of t p < n → IsDue rule depth b t p

  pub none_due : (IsOwn : ℕ → Type 0) → AreDue IsOwn 0
  none_due IsOwn p own less = absurd (omega (arith, less))

  pub report_up_to : (IsOwn : ℕ → Type 0) (n : ℕ) (r : Report) → AreDue IsOwn n → r.checked ≡ n → r.difference ≡ None → IsReport rule depth b t IsOwn r
  report_up_to IsOwn n r due e f = record {
    due = λ p own less. due p own (subst (λ (m : ℕ). number_of t p < m) e less);
    difference = subst (DiffersIfSome rule depth b t r.checked) (sym f) tt;
  }

  -- a step past a node of another worker
  pub due_past : (IsOwn : ℕ → Type 0) (n : ℕ) → (IsOwn n → ⊥) → AreDue IsOwn n → AreDue IsOwn (n + 1)
  due_past IsOwn n other due p own less o f =
      elim (leb_tells n (number_of t p)) [
        | inl past ↦ absurd (other (subst IsOwn (let w : number_of t p ≡ n = omega (arith, less, past.1) in w) own))
        | inr before ↦ due p own before.1 o f
      ]

  module _ (n : ℕ) (old new : Walked) (seen : Shape) (visit : IsVisit old new seen) (root : new.root ≡ b) (tree : new.tree ≡ t) (piece : IsPiece new.root new.tree new.here) (numbered : AreNumbered t n old.pending) where
    numbered_was : AreNumbered t n (new.here ∷ visit.rest)
    numbered_was = subst (AreNumbered t n) visit.was numbered

    pub still_numbered : AreNumbered t (n + 1) new.pending
    still_numbered = subst (AreNumbered t (n + 1)) (sym visit.pending) (numbers_on t n new.here visit.rest numbered_was)

    here_outcome : outcome_at t new.here.path ≡ top new.here.tree
    here_outcome = top_is t new.here.path new.here.tree numbered_was.1

    here_due : due_of rule depth new.here ≡ due_at rule depth b t new.here.path
    here_due =
        let box : new.here.box ≡ box_of b t new.here.path = sym piece.box ∙ (λ i. box_of (root i) (tree i) new.here.path) in
        ap (λ (x : List Bounds). rule x (depth - length new.here.path) (length new.here.path)) box

    -- a step past a node that is settled by the rule
    pub due_here : (IsOwn : ℕ → Type 0) → IsChecked rule depth new.here None → AreDue IsOwn n → AreDue IsOwn (n + 1)
    due_here IsOwn checked due p own less o f =
        elim (leb_tells n (number_of t p)) [
          | inr before ↦ due p own before.1 o f
          | inl past ↦
              let same : number_of t p ≡ n = omega (arith, less, past.1) in
              let there = is_there t p o f in
              let path : p ≡ new.here.path = one_number t p new.here.path there.0 new.here.tree there.1 numbered_was.1 (same ∙ sym numbered_was.0) in
              checked o (sym here_outcome ∙ ap (outcome_at t) (sym path) ∙ f) ∙ here_due ∙ ap (due_at rule depth b t) (sym path)
        ]

    pub report_differs : (IsOwn : ℕ → Type 0) (due : Outcome) (r : Report) (d : Difference) → IsChecked rule depth new.here (Some due) → AreDue IsOwn n → r.checked ≡ n → r.difference ≡ Some d
        → d.path ≡ new.here.path → d.due ≡ due → IsReport rule depth b t IsOwn r
    report_differs IsOwn due r d checked before e f path is = record {
      due = λ p own less. before p own (subst (λ (m : ℕ). number_of t p < m) e less);
      difference = subst (DiffersIfSome rule depth b t r.checked) (sym f) (record {
        number_is = ap (number_of t) path ∙ numbered_was.0 ∙ sym e;
        due_is = is ∙ checked.0 ∙ here_due ∙ ap (due_at rule depth b t) (sym path);
        found = checked.1.0;
        found_is = ap (outcome_at t) path ∙ here_outcome ∙ checked.1.1.0;
        differ = λ same. checked.1.1.1 (same ∙ is);
      });
    }

  -- Two reports

  pub report_of_both : (IsA IsB IsOwn : ℕ → Type 0) (x y r : Report) → ((n : ℕ) → IsOwn n → IsA n ⊎ IsB n) → IsReport rule depth b t IsA x → IsReport rule depth b t IsB y
      → (r ≡ x) ⊎ (r ≡ y) → r.checked ≤ x.checked → r.checked ≤ y.checked → IsReport rule depth b t IsOwn r
  report_of_both IsA IsB IsOwn x y r either h k one before behind = record {
    due = λ p own less. elim (either (number_of t p) own) [
      | inl a ↦ h.due p a (let w : number_of t p < x.checked = omega (arith, less, before) in w)
      | inr c ↦ k.due p c (let w : number_of t p < y.checked = omega (arith, less, behind) in w)
    ];
    difference = elim one [
      | inl e ↦ subst (λ (z : Report). DiffersIfSome rule depth b t z.checked z.difference) (sym e) h.difference
      | inr e ↦ subst (λ (z : Report). DiffersIfSome rule depth b t z.checked z.difference) (sym e) k.difference
    ];
  }

  -- The report of all

  pub all_due : (r : Report) → IsReport rule depth b t (λ n. Unit {0}) r → r.checked ≡ all_nodes t → (p : List Bool) → IsDue rule depth b t p
  all_due r h e p o f =
      let there = is_there t p o f in
      h.due p tt (subst (λ (m : ℕ). number_of t p < m) (sym e) (number_less t p there.0 there.1)) o f

  first_before : (r : Report) (d : Difference) → IsReport rule depth b t (λ n. Unit {0}) r → Differs rule depth b t r.checked d → (q : List Bool) → IsTrue (precedes q d.path) → IsDue rule depth b t q
  first_before r d h k q m o f =
      let there = is_there t q o f in
      let here = is_there t d.path k.found k.found_is in
      h.due q tt (subst (λ (n : ℕ). number_of t q < n) k.number_is (before_less t q d.path here.0 there.0 there.1 here.1 m)) o f

  pub first_differs : (r : Report) (d : Difference) → IsReport rule depth b t (λ n. Unit {0}) r → r.difference ≡ Some d
      → IsFirstDifference rule depth b t d.path × (d.due ≡ due_at rule depth b t d.path)
  first_differs r d h e =
      let k : Differs rule depth b t r.checked d = subst (DiffersIfSome rule depth b t r.checked) e h.difference in (
        record { found = k.found; is = k.found_is; differ = λ same. k.differ (same ∙ sym k.due_is); before = first_before r d h k },
        k.due_is,
      )

  -- Reports from the last to the first

  pub reports_popped : (workers : ℕ) (xs : List (Result Report Memory)) (x : Result Report Memory) → AreReports rule depth b t workers (xs ++ x ∷ [])
      → AreReports rule depth b t workers xs × IfOk x (IsReport rule depth b t (λ n. n % workers ≡ length xs))
  reports_popped workers xs x reports = (
    (λ i d there. subst (λ (z : Result Report Memory). IfOk z (IsReport rule depth b t (λ n. n % workers ≡ i))) (get_or-append xs (x ∷ []) d i there) (reports i d (let w : i < length (xs ++ x ∷ []) = omega (arith, there, length-append xs (x ∷ [])) in w))),
    subst (λ (z : Result Report Memory). IfOk z (IsReport rule depth b t (λ n. n % workers ≡ length xs))) (get_or-append_seam xs x [] x) (reports (length xs) x (let w : length xs < length (xs ++ x ∷ []) = omega (arith, length-append xs (x ∷ [])) in w)),
  )
