-- A whole paving in which an open leaf became another whole paving.
use Rattle.std.proofs.Common.{◌≡◌, ◌≢◌, inl, inr, ℕ, zero, suc, ◌+◌, ◌-◌, ◌*◌, ◌^◌, ◌<◌, ◌≤◌, Bool, true, false, cond, Some, List, [], ◌∷◌, ◌++◌, length, take, drop, map, set, get_or, refl, sym, ◌∙◌, ap, arith, subst, append_assoc, append-nil, length-append, length-set, get_or-set_same, get_or-set_other}
use Rattle.std.specs.Option.{option_map}
use Rattle.std.proofs.Math.Dec.{ltb}
use Rattle.std.proofs.Math.ListN.{get_or-map}
use Rattle.std.proofs.Math.Nat.{mul-add}
use Rattle.std.proofs.lemmas.Bool.{lt-ltb, le-ltb}
use Rattle.std.proofs.lemmas.Bool.Decides.{eqb_tells}
use Rattle.std.proofs.lemmas.List.{get_or_append_left, get_or-append_right, length-map, length-drop, take_all}
use Rattle.pv_interval.specs.Bounds.{Bounds}
use Rattle.pv_tree.specs.Trees.{Tree, leaf, subtree, graft, height, box_of, Paves, counts_of, settled_of}
use Rattle.pv_tree.specs.Arena.{tree_at, whole_tree, reach, cell_at, closed_at, open_node, kids_of, start_of, Family, IsLinked, IsClosed, IsRemarked, MarksRight, HasKids, IsWhole, Adds}
use Rattle.pv_tree.specs.Intakes.{moved, moved_cell, CanMoveCell, CanMove, IsTakenIn}
use Rattle.pv_tree.specs.declared.cell.Cell.{Cell}
use Rattle.pv_tree.specs.declared.cell.Cell.TheVariants.{Open, Removed, Inner, Small, Cut}
use Rattle.pv_tree.specs.declared.cell.Node.{Node}
use Rattle.pv_tree.specs.declared.outcome.Counts.{Counts}
use Rattle.pv_tree.proofs.TreeFacts.{graft_paves, graft_counts}
use Rattle.pv_tree.proofs.Cells.{lt_or, missing_mark, has_kids_there, onward, still_leads}
use Rattle.pv_tree.proofs.ArenaFacts.{tree_at-is, grafted, reach_label}
use Rattle.pv_tree.proofs.Placing.{low_whole, tree_remarked, linked_remarked, longer_kept}
use Rattle.pv_tree.proofs.Wholes.{take_length, subtree_there, open_there, fuel, box_length, adds_unique}
use Rattle.pv_tree.proofs.Intaken.{deeper, deeper-is, enough, MovedKids, moved_kids, MovedStart, moved_start, kid_later, cell_new, cell_here, tree_taken, leads_in, closed_in, cut_deep, tall}

one_on : (xs : List Node) (i : ℕ) → get_or (drop 1 xs) i open_node ≡ get_or xs (suc i) open_node
one_on [] i = refl
one_on (x ∷ xs) i = refl

pub rest_is : (more : List Node) → take (length more - 1) (drop 1 more) ≡ drop 1 more
rest_is more = take_all (length more - 1) (drop 1 more) (omega (arith, length-drop 1 more))

pub rest_moves : (more : List Node) (n e : ℕ) → CanMove more n e → CanMove (take (length more - 1) (drop 1 more)) n e
rest_moves more n e h =
    subst (λ (xs : List Node). CanMove xs n e) (sym (rest_is more))
    (record { cells = λ k. subst (λ (x : Node). CanMoveCell x.cell n e) (sym (one_on more k)) (h.cells (suc k)) })

-- the list of nodes after an intake
module _ (ns more : List Node) (j n e : ℕ) (there : j < length ns) (some : 0 < length more) (one_less : length ns ≡ n + 1) where
  abbrev root_there : List Node
  root_there = set ns j (moved n e (get_or more 0 open_node))

  abbrev pub intaken : List Node
  intaken = set ns j (moved n e (get_or more 0 open_node)) ++ map (moved n e) (drop 1 more)

  root_size : length root_there ≡ length ns
  root_size = length-set ns j (moved n e (get_or more 0 open_node))

  intaken_new : (k : ℕ) → 0 < k → get_or intaken (k + n) open_node ≡ moved n e (get_or more k open_node)
  intaken_new zero h = absurd (omega arith)
  intaken_new (suc k) h =
      let past : length ns ≤ suc k + n = omega arith in
      let at : suc k + n - length ns ≡ k = omega arith in
      get_or-append_right root_there (map (moved n e) (drop 1 more)) (length ns) (suc k + n) open_node root_size past
      ∙ ap (λ (i : ℕ). get_or (map (moved n e) (drop 1 more)) i open_node) at
      ∙ get_or-map (moved n e) (drop 1 more) k open_node
      ∙ ap (moved n e) (one_on more k)

  pub taken_in : IsTakenIn ns intaken more j n e
  taken_in = record {
    here = get_or_append_left root_there (map (moved n e) (drop 1 more)) open_node j (let s : length root_there ≡ length ns = root_size in omega arith)
        ∙ get_or-set_same ns j (moved n e (get_or more 0 open_node)) open_node there;
    old = λ k h ne. get_or_append_left root_there (map (moved n e) (drop 1 more)) open_node k (let s : length root_there ≡ length ns = root_size in omega arith)
        ∙ get_or-set_other ns j k (moved n e (get_or more 0 open_node)) open_node ne;
    new = intaken_new;
    size = omega (arith, length-append root_there (map (moved n e) (drop 1 more)), root_size, length-map (drop 1 more) (moved n e), length-drop 1 more);
  }

  pub taken_from : (ms : List Node) (x : Node) → x ≡ moved n e (get_or more 0 open_node) → ms ≡ set ns j x ++ map (moved n e) (take (length more - 1) (drop 1 more)) → IsTakenIn ns ms more j n e
  taken_from ms x root is =
      subst (λ (xs : List Node). IsTakenIn ns xs more j n e)
      (sym (is ∙ ap (λ (y : Node). set ns j y ++ map (moved n e) (take (length more - 1) (drop 1 more))) root ∙ ap (λ (xs : List Node). set ns j (moved n e (get_or more 0 open_node)) ++ map (moved n e) xs) (rest_is more)))
      taken_in

module _ (d : ℕ) (es part : List Bounds) (ns ms more : List Node) (j n : ℕ) (label inside : ℕ → List Bool) (linked : IsLinked d es ns label) (inner_linked : IsLinked d part more inside) where
  module _ (taken : IsTakenIn ns ms more j n (length es)) (one_less : length ns ≡ n + 1) (there : j < length ns) (is_open : cell_at ns j ≡ Open) (deep : length (label j) + height (whole_tree d part more) ≤ 200) where
    abbrev pub joined : ℕ → List Bool
    joined k = cond (ltb k (length ns)) (label k) (label j ++ inside (k - n))

    joined_old : (k : ℕ) → k < length ns → joined k ≡ label k
    joined_old k h = ap (λ (b : Bool). cond b (label k) (label j ++ inside (k - n))) (lt-ltb k (length ns) h)

    joined_new : (k : ℕ) → 0 < k → joined (k + n) ≡ label j ++ inside k
    joined_new k h =
        let past : length ns ≤ k + n = omega arith in
        let e : (k + n) - n ≡ k = omega arith in
        ap (λ (b : Bool). cond b (label (k + n)) (label j ++ inside ((k + n) - n))) (le-ltb (k + n) (length ns) past) ∙ ap (λ (m : ℕ). label j ++ inside m) e

    joined_here : joined j ≡ label j ++ inside 0
    joined_here = joined_old j there ∙ sym (ap (λ (q : List Bool). label j ++ q) inner_linked.root ∙ append-nil (label j))

    same : (k : ℕ) → k < length ns → k ≢ j → cell_at ms k ≡ cell_at ns k
    same k h ne = ap (λ (x : Node). x.cell) (taken.old k h ne)

    size : length ms ≡ n + length more
    size = omega (arith, taken.size, one_less)

    here_new : cell_at ms j ≡ moved_cell n (length es) (cell_at more 0)
    here_new = cell_here d es part ns ms more j n inside inner_linked taken

    later_new : (k : ℕ) → 0 < k → cell_at ms (k + n) ≡ moved_cell n (length es) (cell_at more k)
    later_new = cell_new d es part ns ms more j n inside inner_linked taken

    -- a cut of the other has steps left under the open node
    shallow : (k c : ℕ) → kids_of (cell_at more k) ≡ Some c → length (label j) + length (inside k) < 200
    shallow k c e =
        let short : length (inside k) < 200 = (inner_linked.kids k c e).short in
        let few : length (inside k) ≤ 200 = omega arith in
        let sub : subtree (whole_tree d part more) (inside k) ≡ Some (tree_at d part more (suc (200 - length (inside k))) k) =
        subtree_there d part more (inside k) few
        ∙ ap (λ (q : List Bool). option_map (tree_at d part more (suc (200 - length (inside k)))) (reach more 0 q)) (take_length (inside k))
        ∙ ap (option_map (tree_at d part more (suc (200 - length (inside k))))) (inner_linked.reached k (has_kids_there more k c e)) in
        let high : 0 < height (tree_at d part more (suc (200 - length (inside k))) k) =
        subst (λ (t : Tree). 0 < height t) (sym (tree_at-is d part more (200 - length (inside k)) k (cell_at more k) refl)) (tall d part more (200 - length (inside k)) (cell_at more k) c e) in
        let below : length (inside k) < height (whole_tree d part more) = cut_deep (whole_tree d part more) (inside k) (tree_at d part more (suc (200 - length (inside k))) k) sub high in
        omega arith

    onto : (k m : ℕ) (b : Bool) (c : ℕ) → joined m ≡ label j ++ inside k → 0 < c → inside c ≡ inside k ++ b ∷ [] → joined (c + n) ≡ joined m ++ b ∷ []
    onto k m b c l later e =
        joined_new c later ∙ ap (λ (q : List Bool). label j ++ q) e ∙ sym (append_assoc (label j) (inside k) (b ∷ []))
        ∙ ap (λ (q : List Bool). q ++ b ∷ []) (sym l)

    family_in : (k m c : ℕ) → cell_at ms m ≡ moved_cell n (length es) (cell_at more k) → joined m ≡ label j ++ inside k → kids_of (cell_at ms m) ≡ Some c → Family ms joined m c
    family_in k m c e l h =
        let w : MovedKids n (cell_at more k) c = moved_kids n (length es) (cell_at more k) c (sym (ap kids_of e) ∙ h) in
        let to : c ≡ w.from + n = w.to in
        let family : Family more inside k w.from = inner_linked.kids k w.from w.is in
        let later : 0 < w.from = kid_later d es part ns ms more j n inside inner_linked taken k w.from w.is in
        let high_later : 0 < w.from + 1 = omega arith in
        let within : w.from + 1 < length more = family.there in
        let at : c + 1 ≡ (w.from + 1) + n = omega arith in
        let deep_here : length (label j) + length (inside k) < 200 = shallow k w.from w.is in
        let count : length (joined m) ≡ length (label j) + length (inside k) = ap length l ∙ length-append (label j) (inside k) in
        let all : length ms ≡ n + length more = size in
        record {
          there = omega arith;
          low = ap joined to ∙ onto k m false w.from l later family.low;
          high = ap joined at ∙ onto k m true (w.from + 1) l high_later family.high;
          short = omega arith;
        }

    family_old : (k c : ℕ) → kids_of (cell_at ns k) ≡ Some c → Family ms joined k c
    family_old k c e =
        let family : Family ns label k c = linked.kids k c e in
        let within : c + 1 < length ns = family.there in
        let all : length ms ≡ n + length more = size in
        let some : 0 < length more = inner_linked.some in
        let low_there : c < length ns = omega arith in
        let label_k : joined k ≡ label k = joined_old k (has_kids_there ns k c e) in
        let short_k : length (label k) < 200 = family.short in
        let count : length (joined k) ≡ length (label k) = ap length label_k in
        record {
          there = omega arith;
          low = joined_old c low_there ∙ family.low ∙ ap (λ (l : List Bool). l ++ false ∷ []) (sym label_k);
          high = joined_old (c + 1) within ∙ family.high ∙ ap (λ (l : List Bool). l ++ true ∷ []) (sym label_k);
          short = omega arith;
        }

    back : (k : ℕ) → length ns ≤ k → (k - n) + n ≡ k
    back k le = omega (arith, one_less)

    back_later : (k : ℕ) → length ns ≤ k → 0 < k - n
    back_later k le = omega (arith, one_less)

    families : (k c : ℕ) → kids_of (cell_at ms k) ≡ Some c → Family ms joined k c
    families k c e = elim (lt_or k (length ns)) [
      | inl lt ↦ elim (eqb_tells k j) [
        | inl h ↦ subst (λ (m : ℕ). Family ms joined m c) (sym h.1) (family_in 0 j c here_new joined_here (sym (ap (λ (m : ℕ). kids_of (cell_at ms m)) h.1) ∙ e))
        | inr h ↦ family_old k c (sym (ap kids_of (same k lt h.1)) ∙ e)
      ]
      | inr le ↦ subst (λ (m : ℕ). Family ms joined m c) (back k le)
          (family_in (k - n) ((k - n) + n) c (later_new (k - n) (back_later k le)) (joined_new (k - n) (back_later k le)) (ap (λ (m : ℕ). kids_of (cell_at ms m)) (back k le) ∙ e))
    ]

    lead_old : (k : ℕ) (p : List Bool) → reach ns 0 p ≡ Some k → reach ms 0 p ≡ Some k
    lead_old k p r = still_leads ns ms j same is_open p 0 k r

    led : (k : ℕ) → k < length ms → reach ms 0 (joined k) ≡ Some k
    led k here = elim (lt_or k (length ns)) [
      | inl lt ↦ ap (reach ms 0) (joined_old k lt) ∙ lead_old k (label k) (linked.reached k lt)
      | inr le ↦
          let within : k - n < length more = omega (arith, size, one_less) in
          ap (λ (m : ℕ). reach ms 0 (joined m)) (sym (back k le)) ∙ ap (reach ms 0) (joined_new (k - n) (back_later k le))
          ∙ onward ms (inside (k - n)) (label j) 0 j (lead_old j (label j) (linked.reached j there))
          ∙ leads_in d es part ns ms more j n inside inner_linked taken (inside (k - n)) (k - n) (back_later k le) (inner_linked.reached (k - n) within)
          ∙ ap Some (back k le)
    ]

    start_in : (k m s : ℕ) → cell_at ms m ≡ moved_cell n (length es) (cell_at more k) → start_of (cell_at ms m) ≡ Some s → s + d ≤ length (es ++ part)
    start_in k m s e h =
        let w : MovedStart (length es) (cell_at more k) s = moved_start n (length es) (cell_at more k) s (sym (ap start_of e) ∙ h) in
        let to : s ≡ w.from + length es = w.to in
        let within : w.from + d ≤ length part = inner_linked.starts k w.from w.is in
        omega (arith, length-append es part)

    starts : (k s : ℕ) → start_of (cell_at ms k) ≡ Some s → s + d ≤ length (es ++ part)
    starts k s e = elim (lt_or k (length ns)) [
      | inl lt ↦ elim (eqb_tells k j) [
        | inl h ↦ start_in 0 j s here_new (sym (ap (λ (m : ℕ). start_of (cell_at ms m)) h.1) ∙ e)
        | inr h ↦ let w : s + d ≤ length es = linked.starts k s (sym (ap start_of (same k lt h.1)) ∙ e) in omega (arith, length-append es part)
      ]
      | inr le ↦ start_in (k - n) ((k - n) + n) s (later_new (k - n) (back_later k le)) (ap (λ (m : ℕ). start_of (cell_at ms m)) (back k le) ∙ e)
    ]

    closed_stays : (k : ℕ) → closed_at ns k ≡ true → closed_at ms k ≡ true
    closed_stays k e = elim (lt_or k (length ns)) [
      | inl lt ↦ elim (eqb_tells k j) [
        | inl h ↦ absurd (subst (IsClosed ns) (ap (cell_at ns) h.1 ∙ is_open) (linked.closed k e))
        | inr h ↦ ap (λ (x : Node). x.closed) (taken.old k lt h.1) ∙ e
      ]
      | inr le ↦ let w : false ≡ true = sym (missing_mark ns k le) ∙ e in cc
    ]

    is_closed_stays : (y : Cell) → IsClosed ns y → IsClosed ms y
    is_closed_stays Open h = h
    is_closed_stays Removed h = tt
    is_closed_stays (Inner s) h = tt
    is_closed_stays (Small s) h = tt
    is_closed_stays (Cut s v a c) h = (closed_stays c h.0, closed_stays (c + 1) h.1)

    mark_in : (k m : ℕ) → cell_at ms m ≡ moved_cell n (length es) (cell_at more k) → closed_at more k ≡ true → IsClosed ms (cell_at ms m)
    mark_in = closed_in d es part ns ms more j n inside inner_linked taken

    marks : MarksRight ms
    marks k e = elim (lt_or k (length ns)) [
      | inl lt ↦ elim (eqb_tells k j) [
        | inl h ↦ subst (λ (m : ℕ). IsClosed ms (cell_at ms m)) (sym h.1) (mark_in 0 j here_new (sym (ap (λ (x : Node). x.closed) taken.here) ∙ sym (ap (closed_at ms) h.1) ∙ e))
        | inr h ↦ subst (IsClosed ms) (sym (same k lt h.1)) (is_closed_stays (cell_at ns k) (linked.closed k (sym (ap (λ (x : Node). x.closed) (taken.old k lt h.1)) ∙ e)))
      ]
      | inr le ↦ subst (λ (m : ℕ). IsClosed ms (cell_at ms m)) (back k le)
          (mark_in (k - n) ((k - n) + n) (later_new (k - n) (back_later k le)) (sym (ap (λ (x : Node). x.closed) (taken.new (k - n) (back_later k le))) ∙ ap (closed_at ms) (back k le) ∙ e))
    ]

    pub joined_linked : IsLinked d (es ++ part) ms joined
    joined_linked = record {
      some = omega (arith, size, inner_linked.some);
      root = joined_old 0 linked.some ∙ linked.root;
      reached = led;
      kids = families;
      starts = starts;
      closed = marks;
    }

-- how many ends a stage of a leaf has
pub part_few : (b es b' part : List Bounds) (ns more : List Node) (counts part_counts : Counts) (p : List Bool) → IsWhole b es ns counts → IsWhole b' part more part_counts → b' ≡ box_of b (whole_tree (length b) es ns) p → length part ≤ length b * settled_of part_counts
part_few b es b' part ns more counts part_counts p whole stage root =
    let places : length b' ≡ length b = ap length root ∙ box_length b (whole_tree (length b) es ns) p whole.paving.paves in
    let v : length part ≤ length b' * settled_of part_counts = stage.few_ends in
    let u : length b' * settled_of part_counts ≡ length b * settled_of part_counts = ap (λ (d : ℕ). d * settled_of part_counts) places in
    omega arith

module _ (b es b' part : List Bounds) (ns ms more : List Node) (counts part_counts : Counts) (p : List Bool) (j n : ℕ) where
  module _ (whole : IsWhole b es ns counts) (stage : IsWhole b' part more part_counts) (root : b' ≡ box_of b (whole_tree (length b) es ns) p) (short : length p ≤ 200) (reached : reach ns 0 (take (length p) p) ≡ Some j) (there : j < length ns)
      (is_open : subtree (whole_tree (length b) es ns) p ≡ Some leaf) (deep : length p + height (whole_tree (length b') part more) ≤ 200) (taken : IsTakenIn ns ms more j n (length es)) (one_less : length ns ≡ n + 1) where
    places : length b' ≡ length b
    places = ap length root ∙ box_length b (whole_tree (length b) es ns) p whole.paving.paves

    reach_p : reach ns 0 p ≡ Some j
    reach_p = ap (reach ns 0) (sym (take_length p)) ∙ reached

    label_j : whole.arena.label j ≡ p
    label_j = reach_label (length b) es ns whole.arena.label whole.arena.linked p 0 j reach_p ∙ ap (λ (l : List Bool). l ++ p) whole.arena.linked.root

    inner_linked : IsLinked (length b) part more stage.arena.label
    inner_linked = subst (λ (d : ℕ). IsLinked d part more stage.arena.label) places stage.arena.linked

    deep_here : length (whole.arena.label j) + height (whole_tree (length b) part more) ≤ 200
    deep_here =
        let e : length (whole.arena.label j) ≡ length p = ap length label_j in
        let t : height (whole_tree (length b') part more) ≡ height (whole_tree (length b) part more) = ap (λ (d : ℕ). height (whole_tree d part more)) places in
        omega (arith, deep)

    open_here : cell_at ns j ≡ Open
    open_here = open_there (length b) es ns p short j reached is_open

    abbrev label_all : ℕ → List Bool
    label_all = joined (length b) es part ns ms more j n whole.arena.label stage.arena.label whole.arena.linked inner_linked taken one_less there open_here deep_here

    linked_all : IsLinked (length b) (es ++ part) ms label_all
    linked_all = joined_linked (length b) es part ns ms more j n whole.arena.label stage.arena.label whole.arena.linked inner_linked taken one_less there open_here deep_here

    pub graft_kids : HasKids ms
    graft_kids = record { some = linked_all.some; kids = λ k c e. (linked_all.kids k c e).there }

    pub graft_marks : MarksRight ms
    graft_marks = linked_all.closed

    module _ (ks : List Node) (after : Counts) (remarked : IsRemarked ms ks) (adds : Adds counts part_counts after) where
      stage_tree : tree_at (length b) (es ++ part) ms (suc (200 - length p)) j ≡ whole_tree (length b') part more
      stage_tree =
          let all : suc (deeper (200 - length p) (length p)) ≡ 201 = let e : deeper (200 - length p) (length p) ≡ (200 - length p) + length p = deeper-is (200 - length p) (length p) in omega arith in
          let t : height (whole_tree (length b') part more) ≡ height (whole_tree (length b) part more) = ap (λ (d : ℕ). height (whole_tree d part more)) places in
          let low : height (whole_tree (length b) part more) ≤ 200 - length p = omega (arith, deep) in
          tree_taken (length b) es part ns ms more j n stage.arena.label inner_linked taken (200 - length p)
          ∙ enough (length b) part more (length p) (200 - length p) 0 (subst (λ (f : ℕ). height (tree_at (length b) part more f 0) ≤ 200 - length p) (sym all) low)
          ∙ ap (λ (f : ℕ). tree_at (length b) part more f 0) all
          ∙ sym (ap (λ (d : ℕ). whole_tree d part more) places)

      pub graft_tree : whole_tree (length b) (es ++ part) ks ≡ graft (whole_tree (length b) es ns) p (whole_tree (length b') part more)
      graft_tree =
          tree_remarked (length b) (es ++ part) ms ks remarked 201 0
          ∙ ap (λ (f : ℕ). tree_at (length b) (es ++ part) ms f 0) (sym (fuel (length b) es ns p short))
          ∙ grafted (length b) es ns whole.arena.label whole.arena.linked (es ++ part) ms j (λ k h ne. ap (λ (x : Node). x.cell) (taken.old k h ne)) (longer_kept (length b) es (es ++ part) (record { more = part; longer = refl }))
          (suc (200 - length p)) p 0 reach_p
          ∙ ap (λ (f : ℕ). graft (tree_at (length b) es ns f 0) p (tree_at (length b) (es ++ part) ms (suc (200 - length p)) j)) (fuel (length b) es ns p short)
          ∙ ap (graft (whole_tree (length b) es ns) p) stage_tree

      graft_linked : IsLinked (length b) (es ++ part) ks label_all
      graft_linked = linked_remarked (length b) (es ++ part) ms ks remarked label_all linked_all

      graft_counted : after ≡ counts_of (whole_tree (length b) (es ++ part) ks)
      graft_counted =
          adds_unique counts part_counts after (counts_of (graft (whole_tree (length b) es ns) p (whole_tree (length b') part more))) adds
          (subst (λ (c : Counts). Adds c part_counts (counts_of (graft (whole_tree (length b) es ns) p (whole_tree (length b') part more)))) (sym whole.counted)
          (subst (λ (c : Counts). Adds (counts_of (whole_tree (length b) es ns)) c (counts_of (graft (whole_tree (length b) es ns) p (whole_tree (length b') part more)))) (sym stage.counted)
          (graft_counts (whole_tree (length b) es ns) p (whole_tree (length b') part more) is_open)))
          ∙ sym (ap counts_of graft_tree)

      graft_settled : settled_of after ≡ settled_of counts + settled_of part_counts
      graft_settled = omega (arith, adds.cut, adds.removed, adds.inner, adds.small)

      graft_bound : settled_of after + after.open_leaves ≤ length ks
      graft_bound = omega (arith, taken.size, remarked.size, adds.cut, adds.removed, adds.inner, adds.small, adds.open_leaves, whole.bound, stage.bound)

      graft_few_nodes : length ks ≤ 1 + 2 * settled_of after
      graft_few_nodes = omega (arith, taken.size, remarked.size, graft_settled, whole.few_nodes, stage.few_nodes)

      graft_few_ends : length (es ++ part) ≤ length b * settled_of after
      graft_few_ends =
          let e : length b * settled_of after ≡ length b * (settled_of counts + settled_of part_counts) = ap (λ (m : ℕ). length b * m) graft_settled in
          let m : length b * (settled_of counts + settled_of part_counts) ≡ length b * settled_of counts + length b * settled_of part_counts = mul-add (length b) (settled_of counts) (settled_of part_counts) in
          let w : length es ≤ length b * settled_of counts = whole.few_ends in
          let v : length part ≤ length b * settled_of part_counts = part_few b es b' part ns more counts part_counts p whole stage root in
          let l : length (es ++ part) ≡ length es + length part = length-append es part in
          omega arith

      pub graft_whole : IsWhole b (es ++ part) ks after
      graft_whole = record {
        arena = record { label = label_all; linked = graft_linked };
        paving = record {
          box = whole.paving.box;
          paves = subst (Paves b) (sym graft_tree)
              (graft_paves b (whole_tree (length b) es ns) p (whole_tree (length b') part more) is_open whole.paving.paves (subst (λ (x : List Bounds). Paves x (whole_tree (length b') part more)) root stage.paving.paves));
          depth = low_whole (length b) (es ++ part) ks label_all graft_linked;
        };
        counted = graft_counted;
        bound = graft_bound;
        few_nodes = graft_few_nodes;
        few_ends = graft_few_ends;
      }

-- the room that a graft takes
pub ends_split : (d spare taken : ℕ) → taken ≤ spare → d * spare ≡ d * taken + d * (spare - taken)
ends_split d spare taken le = let e : spare ≡ taken + (spare - taken) = omega arith in ap (λ (n : ℕ). d * n) e ∙ mul-add d taken (spare - taken)

pub ends_room : (d part spare taken ends room : ℕ) → taken ≤ spare → part ≤ d * taken → ends + d * spare ≤ room → (ends + part) + d * (spare - taken) ≤ room
ends_room d part spare taken ends room le few h = omega (arith, ends_split d spare taken le)

pub can_move : (b' part : List Bounds) (more : List Node) (part_counts : Counts) (n e spare nodes_room ends_room : ℕ) → IsWhole b' part more part_counts → settled_of part_counts ≤ spare → n + 1 + 2 * spare ≤ nodes_room → e + length part ≤ ends_room → nodes_room < 2 ^ 63 → ends_room < 2 ^ 63 → CanMove more n e
can_move b' part more part_counts n e spare nodes_room ends_room stage le nodes ends nodes_fit ends_fit = record {
  cells = λ k. record {
    kids = λ c h. let w : c + 1 < length more = (stage.arena.linked.kids k c h).there in let few : length more ≤ 1 + 2 * settled_of part_counts = stage.few_nodes in omega arith;
    starts = λ s h. let w : s + length b' ≤ length part = stage.arena.linked.starts k s h in omega (arith, stage.paving.box.few, stage.paving.box.some);
  };
}
