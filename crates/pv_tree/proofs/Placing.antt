-- An arena after one open node was settled, and after nodes were marked as closed.
use Rattle.std.proofs.Common.{if◌then◌else◌, ◌≡◌, inl, inr, ℕ, zero, suc, ◌+◌, ◌-◌, ◌<◌, ◌≤◌, Bool, true, false, cond, eqb, Some, List, [], ◌∷◌, ◌++◌, length, take, drop, refl, sym, ◌∙◌, ap, arith, length-append, subst}
use Rattle.std.proofs.lemmas.List.{take-append-le, drop-append-le, length-drop}
use Rattle.std.proofs.lemmas.Bool.{eq-eqb, ne_eqb}
use Rattle.std.proofs.lemmas.Bool.Decides.{eqb_tells}
use Rattle.pv_tree.specs.declared.outcome.Outcome.TheVariants as outcome
use Rattle.pv_interval.specs.Bounds.{Bounds}
use Rattle.pv_tree.specs.Trees.{cut, height, settled}
use Rattle.pv_tree.specs.Arena.{tree_at, reach, side, cell_at, closed_at, kept, kids_of, start_of, Family, IsLinked, IsClosed, IsPlaced, is_cut, outcome_of, Shows, IsLonger, IsRemarked, MarksRight}
use Rattle.pv_tree.specs.declared.cell.Cell.{Cell}
use Rattle.pv_tree.specs.declared.cell.Cell.TheVariants.{Open, Removed, Inner, Small, Cut}
use Rattle.pv_tree.specs.declared.cell.Node.{Node}
use Rattle.pv_tree.specs.declared.outcome.Outcome.{Outcome}
use Rattle.pv_tree.proofs.Cells.{lt_or, missing, has_kids_there, reach-kids, onward, still_leads, same_reach}
use Rattle.pv_tree.proofs.ArenaFacts.{shown, tree_at-is, tree_at-zero}

abbrev pub relabel : (ℕ → List Bool) → ℕ → ℕ → ℕ → List Bool
relabel label j c k = cond (eqb k c) (label j ++ false ∷ []) (cond (eqb k (c + 1)) (label j ++ true ∷ []) (label k))

pub relabel-low : (label : ℕ → List Bool) (j c : ℕ) → relabel label j c c ≡ label j ++ false ∷ []
relabel-low label j c = ap (λ (b : Bool). cond b (label j ++ false ∷ []) (cond (eqb c (c + 1)) (label j ++ true ∷ []) (label c))) (eq-eqb c c refl)

pub relabel-high : (label : ℕ → List Bool) (j c : ℕ) → relabel label j c (c + 1) ≡ label j ++ true ∷ []
relabel-high label j c =
    ap (λ (b : Bool). cond b (label j ++ false ∷ []) (cond (eqb (c + 1) (c + 1)) (label j ++ true ∷ []) (label (c + 1)))) (ne_eqb (c + 1) c (λ e. omega (arith, e)))
    ∙ ap (λ (b : Bool). cond b (label j ++ true ∷ []) (label (c + 1))) (eq-eqb (c + 1) (c + 1) refl)

pub relabel-old : (label : ℕ → List Bool) (j c k : ℕ) → k < c → relabel label j c k ≡ label k
relabel-old label j c k h =
    ap (λ (b : Bool). cond b (label j ++ false ∷ []) (cond (eqb k (c + 1)) (label j ++ true ∷ []) (label k))) (ne_eqb k c (λ e. omega (arith, e)))
    ∙ ap (λ (b : Bool). cond b (label j ++ true ∷ []) (label k)) (ne_eqb k (c + 1) (λ e. omega (arith, e)))

count_child : (l m : List Bool) (b : Bool) → m ≡ l ++ b ∷ [] → length m ≡ length l + 1
count_child l m b e = let h : length m ≡ length l + length (b ∷ []) = ap length e ∙ length-append l (b ∷ []) in h

-- no path is longer than 200
module _ (d : ℕ) (es : List Bounds) (ns : List Node) (label : ℕ → List Bool) (linked : IsLinked d es ns label) where
  abbrev Low : ℕ → ℕ → Type 0
  Low f k = length (label k) ≤ 200 → height (tree_at d es ns f k) + length (label k) ≤ 200

  low_cell : (f : ℕ) → ((k : ℕ) → Low f k) → (k : ℕ) (x : Cell) → cell_at ns k ≡ x → length (label k) ≤ 200 → height (shown d es ns f x) + length (label k) ≤ 200
  low_cell f ih k Open e h = omega arith
  low_cell f ih k Removed e h = omega arith
  low_cell f ih k (Inner s) e h = omega arith
  low_cell f ih k (Small s) e h = omega arith
  low_cell f ih k (Cut s v a c) e h =
      let family : Family ns label k c = linked.kids k c (ap kids_of e) in
      let lc : length (label c) ≡ length (label k) + 1 = count_child (label k) (label c) false family.low in
      let hc : length (label (c + 1)) ≡ length (label k) + 1 = count_child (label k) (label (c + 1)) true family.high in
      let short : length (label k) < 200 = family.short in
      let low : height (tree_at d es ns f c) + length (label c) ≤ 200 = ih c (omega arith) in
      let high : height (tree_at d es ns f (c + 1)) + length (label (c + 1)) ≤ 200 = ih (c + 1) (omega arith) in
      omega arith

  pub low_tree : (f k : ℕ) → Low f k
  low_tree zero k h = let e : height (tree_at d es ns 0 k) ≡ 0 = ap height (tree_at-zero d es ns k) in omega arith
  low_tree (suc f) k h =
      let e : height (tree_at d es ns (suc f) k) ≡ height (shown d es ns f (cell_at ns k)) = ap height (tree_at-is d es ns f k (cell_at ns k) refl) in
      let low : height (shown d es ns f (cell_at ns k)) + length (label k) ≤ 200 = low_cell f (low_tree f) k (cell_at ns k) refl h in
      omega arith

  pub low_whole : height (tree_at d es ns 201 0) ≤ 200
  low_whole =
      let e : length (label 0) ≡ 0 = ap length linked.root in
      let h : height (tree_at d es ns 201 0) + length (label 0) ≤ 200 = low_tree 201 0 (omega arith) in
      omega arith

pub longer_length : (es fs : List Bounds) → IsLonger es fs → length es ≤ length fs
longer_length es fs h = let e : length fs ≡ length es + length h.more = ap length h.longer ∙ length-append es h.more in omega arith

pub longer_kept : (d : ℕ) (es fs : List Bounds) → IsLonger es fs → (s : ℕ) → s + d ≤ length es → kept d fs s ≡ kept d es s
longer_kept d es fs h s le =
    let start : s ≤ length es = omega arith in
    let size : length (drop s es) ≡ length es - s = length-drop s es in
    let inside : d ≤ length (drop s es) = omega arith in
    ap (λ (l : List Bounds). take d (drop s l)) h.longer ∙ ap (take d) (drop-append-le s es h.more start) ∙ take-append-le d (drop s es) h.more inside

module _ (d : ℕ) (es fs : List Bounds) (ns ms : List Node) (label : ℕ → List Bool) (linked : IsLinked d es ns label) (j : ℕ) (x : Cell) (o : Outcome) where
  module _ (longer : IsLonger es fs) (open_here : cell_at ns j ≡ Open) (there : j < length ns) (shows : Shows d fs x o (length ns)) (placed : IsPlaced ns ms j x) where
    now_open : (k : ℕ) → length ns ≤ k → cell_at ms k ≡ Open
    now_open k h = placed.others k (λ e. omega (arith, e)) ∙ missing ns k h

    shown_settled : (g : ℕ) (y : Cell) → ((c : ℕ) → kids_of y ≡ Some c → c ≡ length ns) → outcome_of d fs y ≡ Some o → (is_cut y ≡ true → 0 < g) → shown d fs ms g y ≡ settled o
    shown_settled g Open ks e h = cc
    shown_settled g Removed ks e h = let w : outcome.Removed ≡ o = cc in ap settled w
    shown_settled g (Inner s) ks e h = let w : outcome.Inner (kept d fs s) ≡ o = cc in ap settled w
    shown_settled g (Small s) ks e h = let w : outcome.Small (kept d fs s) ≡ o = cc in ap settled w
    shown_settled zero (Cut s v a c) ks e h = let w : 0 < 0 = h refl in absurd (omega arith)
    shown_settled (suc g) (Cut s v a c) ks e h =
        let w : outcome.Cut (kept d fs s) v a ≡ o = cc in
        let at_end : c ≡ length ns = ks c refl in
        (λ i. cut (kept d fs s) v a (tree_at-is d fs ms g c Open (now_open c (omega arith)) i) (tree_at-is d fs ms g (c + 1) Open (now_open (c + 1) (omega arith)) i))
        ∙ ap settled w

    pub settled_tree : (g : ℕ) → (is_cut x ≡ true → 0 < g) → tree_at d fs ms (suc g) j ≡ settled o
    settled_tree g h = tree_at-is d fs ms g j x placed.here ∙ shown_settled g x shows.kids_there shows.outcome h

    abbrev relabelled : ℕ → List Bool
    relabelled = relabel label j (length ns)

    cut_has_kids : (y : Cell) (c : ℕ) → kids_of y ≡ Some c → is_cut y ≡ true
    cut_has_kids Open c e = cc
    cut_has_kids Removed c e = cc
    cut_has_kids (Inner s) c e = cc
    cut_has_kids (Small s) c e = cc
    cut_has_kids (Cut s v a k) c e = refl

    module _ (short : is_cut x ≡ true → length (label j) < 200) where
      size_at_least : length ns ≤ length ms
      size_at_least = omega (arith, placed.size)

      family_here : (c : ℕ) → kids_of x ≡ Some c → Family ms relabelled j c
      family_here c e =
          let is : is_cut x ≡ true = cut_has_kids x c e in
          let at_end : c ≡ length ns = shows.kids_there c e in
          let size : length ms ≡ length ns + 2 = placed.size ∙ ap (λ (b : Bool). length ns + (if b then 2 else 0)) is in
          let label_j : relabelled j ≡ label j = relabel-old label j (length ns) j there in
          record {
            there = omega arith;
            low = ap relabelled at_end ∙ relabel-low label j (length ns) ∙ ap (λ (l : List Bool). l ++ false ∷ []) (sym label_j);
            high = ap (λ (n : ℕ). relabelled (n + 1)) at_end ∙ relabel-high label j (length ns) ∙ ap (λ (l : List Bool). l ++ true ∷ []) (sym label_j);
            short = let h : length (label j) < 200 = short is in let w : length (relabelled j) ≡ length (label j) = ap length label_j in omega arith;
          }

      family_there : (k c : ℕ) → kids_of (cell_at ns k) ≡ Some c → Family ms relabelled k c
      family_there k c e =
          let family : Family ns label k c = linked.kids k c e in
          let inside : c + 1 < length ns = family.there in
          let size : length ns ≤ length ms = size_at_least in
          let label_k : relabelled k ≡ label k = relabel-old label j (length ns) k (has_kids_there ns k c e) in
          record {
            there = omega arith;
            low = relabel-old label j (length ns) c (omega arith) ∙ family.low ∙ ap (λ (l : List Bool). l ++ false ∷ []) (sym label_k);
            high = relabel-old label j (length ns) (c + 1) inside ∙ family.high ∙ ap (λ (l : List Bool). l ++ true ∷ []) (sym label_k);
            short = let h : length (label k) < 200 = family.short in let w : length (relabelled k) ≡ length (label k) = ap length label_k in omega arith;
          }

      families : (k c : ℕ) → kids_of (cell_at ms k) ≡ Some c → Family ms relabelled k c
      families k c e = elim (eqb_tells k j) [
        | inl h ↦ let w : cell_at ms k ≡ x = ap (cell_at ms) h.1 ∙ placed.here in subst (λ (n : ℕ). Family ms relabelled n c) (sym h.1) (family_here c (sym (ap kids_of w) ∙ e))
        | inr h ↦ family_there k c (sym (ap kids_of (placed.others k h.1)) ∙ e)
      ]

      starts : (k s : ℕ) → start_of (cell_at ms k) ≡ Some s → s + d ≤ length fs
      starts k s e = elim (eqb_tells k j) [
        | inl h ↦ let w : cell_at ms k ≡ x = ap (cell_at ms) h.1 ∙ placed.here in shows.start_there s (sym (ap start_of w) ∙ e)
        | inr h ↦ let w : s + d ≤ length es = linked.starts k s (sym (ap start_of (placed.others k h.1)) ∙ e) in let m : length es ≤ length fs = longer_length es fs longer in omega arith
      ]

      closed_stays : (k : ℕ) → closed_at ns k ≡ true → closed_at ms k ≡ true
      closed_stays k e = elim (eqb_tells k j) [
        | inl h ↦ let w : IsClosed ns (cell_at ns k) = linked.closed k e in absurd (subst (IsClosed ns) (ap (cell_at ns) h.1 ∙ open_here) w)
        | inr h ↦ placed.flags k h.1 ∙ e
      ]

      is_closed_stays : (y : Cell) → IsClosed ns y → IsClosed ms y
      is_closed_stays Open h = h
      is_closed_stays Removed h = tt
      is_closed_stays (Inner s) h = tt
      is_closed_stays (Small s) h = tt
      is_closed_stays (Cut s v a c) h = (closed_stays c h.0, closed_stays (c + 1) h.1)

      closed_leaf : (y : Cell) → outcome_of d fs y ≡ Some o → is_cut y ≡ false → IsClosed ms y
      closed_leaf Open e h = cc
      closed_leaf Removed e h = tt
      closed_leaf (Inner s) e h = tt
      closed_leaf (Small s) e h = tt
      closed_leaf (Cut s v a c) e h = cc

      marks : MarksRight ms
      marks k e = elim (eqb_tells k j) [
        | inl h ↦ let w : cell_at ms k ≡ x = ap (cell_at ms) h.1 ∙ placed.here in subst (IsClosed ms) (sym w) (closed_leaf x shows.outcome (placed.flag_here (sym (ap (closed_at ms) h.1) ∙ e)))
        | inr h ↦ subst (IsClosed ms) (sym (placed.others k h.1)) (is_closed_stays (cell_at ns k) (linked.closed k (sym (placed.flags k h.1) ∙ e)))
      ]

      -- the paths of the nodes, old and new
      lead_old : (k i : ℕ) (p : List Bool) → reach ns k p ≡ Some i → reach ms k p ≡ Some i
      lead_old k i p r = still_leads ns ms j (λ n _ ne. placed.others n ne) open_here p k i r

      lead_new : (b : Bool) (c : ℕ) → kids_of (cell_at ms j) ≡ Some c → reach ms 0 (label j ++ b ∷ []) ≡ Some (side b c)
      lead_new b c e = onward ms (b ∷ []) (label j) 0 j (lead_old 0 j (label j) (linked.reached j there)) ∙ reach-kids ms b [] j (Some c) e

      new_led : (y : Cell) → cell_at ms j ≡ y → ((c : ℕ) → kids_of y ≡ Some c → c ≡ length ns) → length ms ≡ length ns + (if is_cut y then 2 else 0) → (k : ℕ) → length ns ≤ k → k < length ms → reach ms 0 (relabelled k) ≡ Some k
      new_led Open e ks size k past here = absurd (omega arith)
      new_led Removed e ks size k past here = absurd (omega arith)
      new_led (Inner s) e ks size k past here = absurd (omega arith)
      new_led (Small s) e ks size k past here = absurd (omega arith)
      new_led (Cut s v a c) e ks size k past here =
          let at_end : c ≡ length ns = ks c refl in
          let kids : kids_of (cell_at ms j) ≡ Some (length ns) = ap kids_of e ∙ ap Some at_end in
          elim (lt_or (length ns) k) [
            | inr le ↦ let w : k ≡ length ns = omega arith in
                ap (λ (n : ℕ). reach ms 0 (relabelled n)) w ∙ ap (reach ms 0) (relabel-low label j (length ns)) ∙ lead_new false (length ns) kids ∙ ap Some (sym w)
            | inl lt ↦ let w : k ≡ length ns + 1 = omega arith in
                ap (λ (n : ℕ). reach ms 0 (relabelled n)) w ∙ ap (reach ms 0) (relabel-high label j (length ns)) ∙ lead_new true (length ns) kids ∙ ap Some (sym w)
          ]

      led : (k : ℕ) → k < length ms → reach ms 0 (relabelled k) ≡ Some k
      led k here = elim (lt_or k (length ns)) [
        | inl lt ↦ ap (reach ms 0) (relabel-old label j (length ns) k lt) ∙ lead_old 0 k (label k) (linked.reached k lt)
        | inr le ↦ new_led x placed.here shows.kids_there placed.size k le here
      ]

      pub relinked : IsLinked d fs ms relabelled
      relinked = record {
        some = let h : length ns ≤ length ms = size_at_least in omega arith;
        root = relabel-old label j (length ns) 0 linked.some ∙ linked.root;
        reached = led;
        kids = families;
        starts = starts;
        closed = marks;
      }

-- marks change no tree
module _ (d : ℕ) (es : List Bounds) (ns ms : List Node) (remarked : IsRemarked ns ms) where
  shown_remarked : (f : ℕ) → ((k : ℕ) → tree_at d es ms f k ≡ tree_at d es ns f k) → (x : Cell) → shown d es ms f x ≡ shown d es ns f x
  shown_remarked f ih Open = refl
  shown_remarked f ih Removed = refl
  shown_remarked f ih (Inner s) = refl
  shown_remarked f ih (Small s) = refl
  shown_remarked f ih (Cut s v a c) = λ i. cut (kept d es s) v a (ih c i) (ih (c + 1) i)

  pub tree_remarked : (f k : ℕ) → tree_at d es ms f k ≡ tree_at d es ns f k
  tree_remarked zero k = tree_at-zero d es ms k ∙ sym (tree_at-zero d es ns k)
  tree_remarked (suc f) k =
      tree_at-is d es ms f k (cell_at ns k) (remarked.cells k) ∙ shown_remarked f (tree_remarked f) (cell_at ns k)
      ∙ sym (tree_at-is d es ns f k (cell_at ns k) refl)

  pub linked_remarked : (label : ℕ → List Bool) → IsLinked d es ns label → IsLinked d es ms label
  linked_remarked label h = record {
    some = let s : 0 < length ns = h.some in omega (arith, remarked.size);
    root = h.root;
    reached = λ k here. same_reach ns ms remarked.cells (label k) 0 ∙ h.reached k (let e : length ms ≡ length ns = remarked.size in omega arith);
    kids = λ k c e. let f : Family ns label k c = h.kids k c (sym (ap kids_of (remarked.cells k)) ∙ e) in
        record { there = let t : c + 1 < length ns = f.there in omega (arith, remarked.size); low = f.low; high = f.high; short = f.short };
    starts = λ k s e. h.starts k s (sym (ap start_of (remarked.cells k)) ∙ e);
    closed = remarked.right;
  }
