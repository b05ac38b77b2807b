-- Steps of the walks through an arena.
use Rattle.std.proofs.Common.{if◌then◌else◌, ◌≡◌, ◌≢◌, inl, inr, ℕ, zero, suc, ◌+◌, ◌-◌, ◌<◌, ◌≤◌, Bool, true, false, Some, None, List, [], ◌∷◌, ◌++◌, length, take, drop, set, get_or, refl, sym, ◌∙◌, ap, arith, length-append, length-take, length-set, slice_index_or, subst, get_or-take, get_or-set_same, get_or-set_other, add-one}
use Rattle.std.proofs.Math.Seq.{drop-cons}
use Rattle.std.proofs.lemmas.Bool.Decides.{eqb_tells}
use Rattle.std.proofs.lemmas.List.{get_or_past, get_or_append_left, get_or-append_right}
use Rattle.pv_tree.specs.Arena.{reach, cell_at, closed_at, kids_of, side, open_node, IsClosed, IsPlaced, is_cut, IsRemarked, MarksRight}
use Rattle.pv_tree.specs.declared.cell.Cell.{Cell}
use Rattle.pv_tree.specs.declared.cell.Cell.TheVariants.{Open, Removed, Inner, Small, Cut}
use Rattle.pv_tree.specs.declared.cell.Node.{Node}
use Rattle.pv_tree.proofs.Cells.{lt_or, reach-is, step_to}

pub side_there : (b : Bool) (c n : ℕ) → c + 1 < n → side b c < n
side_there true c n h = h
side_there false c n h = omega arith

module _ (ns : List Node) (k steps i : ℕ) (path : List Bool) (within : steps ≤ length path) (more : i < steps) (rest : reach ns k (drop i (take steps path)) ≡ reach ns 0 (take steps path)) where
  path_at : drop i (take steps path) ≡ get_or path i false ∷ drop (suc i) (take steps path)
  path_at =
      let size : length (take steps path) ≡ steps = simp length-take (omega arith) in
      let inside : i < length (take steps path) = omega arith in
      drop-cons (take steps path) i false inside
      ∙ ap (λ (b : Bool). b ∷ drop (suc i) (take steps path)) (rw get_or-take refl)

  one_step : reach ns k (drop i (take steps path)) ≡ step_to ns (get_or path i false) (drop (suc i) (take steps path)) (kids_of (cell_at ns k))
  one_step = ap (reach ns k) path_at ∙ reach-is ns (get_or path i false) (drop (suc i) (take steps path)) k (cell_at ns k) refl

  pub descend_stop : kids_of (cell_at ns k) ≡ None → None ≡ reach ns 0 (take steps path)
  descend_stop none = sym (ap (step_to ns (get_or path i false) (drop (suc i) (take steps path))) none) ∙ sym one_step ∙ rest

  pub descend_step : (c : ℕ) → kids_of (cell_at ns k) ≡ Some c → reach ns (side (get_or path i false) c) (drop (i + 1) (take steps path)) ≡ reach ns 0 (take steps path)
  descend_step c some = rw add-one (sym (ap (step_to ns (get_or path i false) (drop (suc i) (take steps path))) some) ∙ sym one_step ∙ rest)

-- an open node that becomes a cut
module _ (ns : List Node) (j : ℕ) (x : Cell) (there : j < length ns) where
  abbrev opened : List Node
  opened = (set ns j (record { cell = x; closed = false }) ++ open_node ∷ []) ++ open_node ∷ []

  opened_old : (k : ℕ) → k < length ns → slice_index_or opened k open_node ≡ slice_index_or (set ns j (record { cell = x; closed = false })) k open_node
  opened_old k h =
      let size : length (set ns j (record { cell = x; closed = false })) ≡ length ns = length-set ns j (record { cell = x; closed = false }) in
      let m : length (set ns j (record { cell = x; closed = false }) ++ open_node ∷ []) ≡ length ns + 1 = length-append (set ns j (record { cell = x; closed = false })) (open_node ∷ []) ∙ ap (λ (n : ℕ). n + 1) size in
      get_or_append_left (set ns j (record { cell = x; closed = false }) ++ open_node ∷ []) (open_node ∷ []) open_node k (omega arith)
      ∙ get_or_append_left (set ns j (record { cell = x; closed = false })) (open_node ∷ []) open_node k (omega arith)

  single : (i : ℕ) → slice_index_or (open_node ∷ []) i open_node ≡ open_node
  single zero = refl
  single (suc i) = refl

  opened_new : (k : ℕ) → length ns ≤ k → slice_index_or opened k open_node ≡ open_node
  opened_new k h =
      let size : length (set ns j (record { cell = x; closed = false })) ≡ length ns = length-set ns j (record { cell = x; closed = false }) in
      let m : length (set ns j (record { cell = x; closed = false }) ++ open_node ∷ []) ≡ length ns + 1 = length-append (set ns j (record { cell = x; closed = false })) (open_node ∷ []) ∙ ap (λ (n : ℕ). n + 1) size in
      elim (lt_or k (length ns + 1)) [
        | inl lt ↦ get_or_append_left (set ns j (record { cell = x; closed = false }) ++ open_node ∷ []) (open_node ∷ []) open_node k (omega arith)
            ∙ get_or-append_right (set ns j (record { cell = x; closed = false })) (open_node ∷ []) (length ns) k open_node size h ∙ single (k - length ns)
        | inr le ↦ get_or-append_right (set ns j (record { cell = x; closed = false }) ++ open_node ∷ []) (open_node ∷ []) (length ns + 1) k open_node m le ∙ single (k - (length ns + 1))
      ]

  opened_here : slice_index_or opened j open_node ≡ record { cell = x; closed = false }
  opened_here = opened_old j there ∙ get_or-set_same ns j (record { cell = x; closed = false }) open_node there

  opened_others : (k : ℕ) → k ≢ j → slice_index_or opened k open_node ≡ slice_index_or ns k open_node
  opened_others k ne = elim (lt_or k (length ns)) [
    | inl lt ↦ opened_old k lt ∙ get_or-set_other ns j k (record { cell = x; closed = false }) open_node ne
    | inr le ↦ opened_new k le ∙ sym (get_or_past ns k open_node le)
  ]

  pub placed_cut : is_cut x ≡ true → IsPlaced ns opened j x
  placed_cut h = record {
    here = ap (λ (n : Node). n.cell) opened_here;
    others = λ k ne. ap (λ (n : Node). n.cell) (opened_others k ne);
    flags = λ k ne. ap (λ (n : Node). n.closed) (opened_others k ne);
    flag_here = λ e. let w : false ≡ true = sym (ap (λ (n : Node). n.closed) opened_here) ∙ e in cc;
    size = length-append (set ns j (record { cell = x; closed = false }) ++ open_node ∷ []) (open_node ∷ [])
        ∙ ap (λ (n : ℕ). n + 1) (length-append (set ns j (record { cell = x; closed = false })) (open_node ∷ []) ∙ ap (λ (n : ℕ). n + 1) (length-set ns j (record { cell = x; closed = false })))
        ∙ (let e : (length ns + 1) + 1 ≡ length ns + 2 = omega arith in e)
        ∙ ap (λ (b : Bool). length ns + (if b then 2 else 0)) (sym h);
  }

-- a cut that is marked as closed
module _ (ns : List Node) (k c : ℕ) (n : Node) (there : k < length ns) (kids : kids_of (cell_at ns k) ≡ Some c) (low : closed_at ns c ≡ true) (high : closed_at ns (c + 1) ≡ true) (right : MarksRight ns) (same : n.cell ≡ cell_at ns k) where
  cells_stay : (i : ℕ) → cell_at (set ns k n) i ≡ cell_at ns i
  cells_stay i = elim (eqb_tells i k) [
    | inl h ↦ ap (cell_at (set ns k n)) h.1 ∙ ap (λ (m : Node). m.cell) (get_or-set_same ns k n open_node there) ∙ same ∙ sym (ap (cell_at ns) h.1)
    | inr h ↦ ap (λ (m : Node). m.cell) (get_or-set_other ns k i n open_node h.1)
  ]

  module _ (now : n.closed ≡ true) where
    marked_stays : (i : ℕ) → closed_at ns i ≡ true → closed_at (set ns k n) i ≡ true
    marked_stays i e = elim (eqb_tells i k) [
      | inl h ↦ ap (closed_at (set ns k n)) h.1 ∙ ap (λ (m : Node). m.closed) (get_or-set_same ns k n open_node there) ∙ now
      | inr h ↦ ap (λ (m : Node). m.closed) (get_or-set_other ns k i n open_node h.1) ∙ e
    ]

    closed_more : (x : Cell) → IsClosed ns x → IsClosed (set ns k n) x
    closed_more Open h = h
    closed_more Removed h = tt
    closed_more (Inner s) h = tt
    closed_more (Small s) h = tt
    closed_more (Cut s v a i) h = (marked_stays i h.0, marked_stays (i + 1) h.1)

    closed_here : (x : Cell) → kids_of x ≡ Some c → IsClosed ns x
    closed_here Open e = cc
    closed_here Removed e = tt
    closed_here (Inner s) e = tt
    closed_here (Small s) e = tt
    closed_here (Cut s v a i) e = let w : c ≡ i = cc in (ap (closed_at ns) (sym w) ∙ low, ap (λ (m : ℕ). closed_at ns (m + 1)) (sym w) ∙ high)

    still_right : (i : ℕ) → closed_at (set ns k n) i ≡ true → IsClosed (set ns k n) (cell_at (set ns k n) i)
    still_right i e = subst (IsClosed (set ns k n)) (sym (cells_stay i)) (closed_more (cell_at ns i) (elim (eqb_tells i k) [
      | inl h ↦ subst (λ (m : ℕ). IsClosed ns (cell_at ns m)) (sym h.1) (closed_here (cell_at ns k) kids)
      | inr h ↦ right i (sym (ap (λ (m : Node). m.closed) (get_or-set_other ns k i n open_node h.1)) ∙ e)
    ]))

    pub marked : IsRemarked ns (set ns k n)
    marked = record { cells = cells_stay; size = length-set ns k n; right = still_right }
