-- A search, leaf by leaf: what is known is what the definition says of the paving so far.
use Rattle.std.proofs.Common.{◌≡◌, ℕ, zero, suc, ◌+◌, ◌-◌, ◌<◌, ◌≤◌, Bool, true, false, IsTrue, cond, List, [], ◌∷◌, ◌++◌, length, refl, sym, ◌∙◌, ap, subst, append_assoc, append-nil, arith}
use Rattle.std.specs.Prelude.{not, ◌&&◌, Option, Some, None}
use Rattle.std.proofs.lemmas.Bool.{true≢false}
use Rattle.pv_num.specs.Extended.{Extended}
use Rattle.pv_num.specs.Order.{le}
use Rattle.pv_num.proofs.Orders.{le-refl, le-trans}
use Rattle.pv_interval.specs.Bounds.{Bounds}
use Rattle.pv_expr.specs.Terms.{Term}
use Rattle.pv_tree.specs.Trees.{leaf, subtree, graft, box_of, settled, settled_of, counts_of}
use Rattle.pv_tree.specs.Stages.{Rule, IsStage}
use Rattle.pv_tree.specs.Holes.{Growing, growth_over, rest_of, settle_next, pass_next, IsNext}
use Rattle.pv_tree.specs.declared.outcome.Outcome.{Outcome}
use Rattle.pv_tree.specs.declared.outcome.Outcome.TheVariants.{Removed, Inner, Small, Cut}
use Rattle.pv_tree.proofs.KnownLeaves.{next_tree, next_holes, next_root}
use Rattle.pv_tree.proofs.TreeFacts.{settled_more}
use Rattle.pv_least.specs.declared.candidate.Candidate.TheVariants.{Low, Centre, High}
use Rattle.pv_least.specs.declared.found.BestPoint.{BestPoint}
use Rattle.pv_least.specs.declared.found.Least.{Least}
use Rattle.pv_least.specs.Objectives.{low_of, admits}
use Rattle.pv_least.specs.Searches.{Leaf, open_leaf, inner_leaf, small_leaf, leaves_of, lows, points, as_list, least_of, candidate, counting, better, first_least, upper_of, first_admitted, lower_of, best_of, next_of, settled_where, searched}
use Rattle.pv_least.specs.Running.{nothing_found, lowered, tried_at, tried, passed_by, settled_by, open_leaves, IsKnown, IsDone, IsSearch}
use Rattle.pv_least.proofs.Choosing.{least_of-more, first_least-more, better_falls}
use Rattle.pv_least.proofs.Leaves.{kept_by, leaves_after, lows-append, points-append, points-open}

-- ---- what is known of the leaves that were settled or passed

lower_after : (t : Term) (ls : List Leaf) (l : Leaf) (b : List Bounds) (low : Extended) → low ≡ least_of (lows t ls) → lows t (l ∷ []) ≡ as_list (low_of t b) ++ []
    → lowered low (low_of t b) ≡ least_of (lows t (ls ++ l ∷ []))
lower_after t ls l b low e f =
    ap (λ x. lowered x (low_of t b)) e
    ∙ sym (least_of-more (lows t ls) (low_of t b))
    ∙ ap (λ xs. least_of (lows t ls ++ xs)) (sym (append-nil (as_list (low_of t b))) ∙ sym f)
    ∙ ap least_of (sym (lows-append t ls (l ∷ [])))

best_same : (t : Term) (ls ms : List Leaf) (best : Option BestPoint) → best ≡ first_least (points t ls) → points t ms ≡ [] → best ≡ first_least (points t (ls ++ ms))
best_same t ls ms best e f =
    e ∙ ap first_least (sym (append-nil (points t ls)) ∙ ap (λ ps. points t ls ++ ps) (sym f) ∙ sym (points-append t ls ms))

three_more : (ps : List BestPoint) (o p q best : Option BestPoint) → best ≡ first_least ps
    → better (better (better best o) p) q ≡ first_least (ps ++ (as_list o ++ (as_list p ++ as_list q)))
three_more ps o p q best e =
    ap (λ x. better (better (better x o) p) q) e
    ∙ ap (λ x. better (better x p) q) (sym (first_least-more ps o))
    ∙ ap (λ x. better x q) (sym (first_least-more (ps ++ as_list o) p))
    ∙ sym (first_least-more ((ps ++ as_list o) ++ as_list p) q)
    ∙ ap first_least (append_assoc (ps ++ as_list o) (as_list p) (as_list q) ∙ append_assoc ps (as_list o) (as_list p ++ as_list q))

best_tried : (t : Term) (ls : List Leaf) (to : List Bounds) (best : Option BestPoint) → best ≡ first_least (points t ls) → tried t to best ≡ first_least (points t (ls ++ inner_leaf to ∷ []))
best_tried t ls to best e =
    three_more (points t ls) (candidate t to Low) (candidate t to Centre) (candidate t to High) best e
    ∙ ap (λ ps. first_least (points t ls ++ ps)) (sym (append-nil (counting t to)))
    ∙ ap first_least (sym (points-append t ls (inner_leaf to ∷ [])))

known_settled : (t : Term) (ls : List Leaf) (l : Least) (o : Outcome) → IsKnown t ls l → IsKnown t (ls ++ kept_by o) (settled_by t l o)
known_settled t ls l Removed h = record { lower = h.lower ∙ ap (λ x. least_of (lows t x)) (sym (append-nil ls)); best = h.best ∙ ap (λ x. first_least (points t x)) (sym (append-nil ls)) }
known_settled t ls l (Inner to) h = record { lower = lower_after t ls (inner_leaf to) to l.lower h.lower refl; best = best_tried t ls to l.best h.best }
known_settled t ls l (Small to) h = record { lower = lower_after t ls (small_leaf to) to l.lower h.lower refl; best = best_same t ls (small_leaf to ∷ []) l.best h.best refl }
known_settled t ls l (Cut to v a) h = record { lower = h.lower ∙ ap (λ x. least_of (lows t x)) (sym (append-nil ls)); best = h.best ∙ ap (λ x. first_least (points t x)) (sym (append-nil ls)) }

known_passed : (t : Term) (ls : List Leaf) (l : Least) (p : List Bool) (b : List Bounds) (is_next : Bool) → IsKnown t ls l → IsKnown t (ls ++ open_leaf p b ∷ []) (passed_by l (low_of t b) is_next)
known_passed t ls l p b n h = record { lower = lower_after t ls (open_leaf p b) b l.lower h.lower refl; best = best_same t ls (open_leaf p b ∷ []) l.best h.best refl }

settled_falls : (t : Term) (l : Least) (o : Outcome) → IsTrue (le (upper_of (settled_by t l o).best) (upper_of l.best))
settled_falls t l Removed = le-refl (upper_of l.best)
settled_falls t l (Inner to) =
    le-trans _ (upper_of (tried_at t to Low l.best)) _
    (le-trans _ (upper_of (tried_at t to Centre (tried_at t to Low l.best))) _
    (better_falls (tried_at t to Centre (tried_at t to Low l.best)) (candidate t to High))
    (better_falls (tried_at t to Low l.best) (candidate t to Centre)))
    (better_falls l.best (candidate t to Low))
settled_falls t l (Small to) = le-refl (upper_of l.best)
settled_falls t l (Cut to v a) = le-refl (upper_of l.best)

-- ---- leaves that are admitted

refused_below : (o : Option Extended) (u v : Extended) (s : Bool) → admits o u ≡ s → IsTrue (le u v) → admits o v ≡ false → s ≡ false
refused_below o u v false e h k = refl
refused_below None u v true e h k = sym e
refused_below (Some low) u v true e h k = absurd (true≢false (sym (le-trans low u v e h) ∙ k))

first_of_no : {A : Type 0} (s : Bool) (p : A) (o : Option A) → (if_some : cond s (Some p) o ≡ None) → s ≡ false
first_of_no true p o e = cc
first_of_no false p o e = refl

rest_of_no : {A : Type 0} (s : Bool) (p : A) (o : Option A) → cond s (Some p) o ≡ None → o ≡ None
rest_of_no true p o e = cc
rest_of_no false p o e = e

pub none_admitted_below : (t : Term) (u v : Extended) (ls : List Leaf) → IsTrue (le u v) → first_admitted t v ls ≡ None → first_admitted t u ls ≡ None
none_admitted_below t u v [] h e = refl
none_admitted_below t u v (open_leaf p b ∷ ls) h e =
    let out = refused_below (low_of t b) u v (admits (low_of t b) u) refl h (first_of_no (admits (low_of t b) v) p (first_admitted t v ls) e) in
    ap (λ s. cond s (Some p) (first_admitted t u ls)) out ∙ none_admitted_below t u v ls h (rest_of_no (admits (low_of t b) v) p (first_admitted t v ls) e)
none_admitted_below t u v (inner_leaf to ∷ ls) h e = none_admitted_below t u v ls h e
none_admitted_below t u v (small_leaf to ∷ ls) h e = none_admitted_below t u v ls h e

-- behind leaves of which none is admitted the search goes on
admitted_behind : (t : Term) (u : Extended) (ls ms : List Leaf) → first_admitted t u ls ≡ None → first_admitted t u (ls ++ ms) ≡ first_admitted t u ms
admitted_behind t u [] ms e = refl
admitted_behind t u (open_leaf p b ∷ ls) ms e =
    ap (λ s. cond s (Some p) (first_admitted t u (ls ++ ms))) (first_of_no (admits (low_of t b) u) p (first_admitted t u ls) e)
    ∙ admitted_behind t u ls ms (rest_of_no (admits (low_of t b) u) p (first_admitted t u ls) e)
admitted_behind t u (inner_leaf to ∷ ls) ms e = admitted_behind t u ls ms e
admitted_behind t u (small_leaf to ∷ ls) ms e = admitted_behind t u ls ms e

none_in_front : (t : Term) (u : Extended) (ls ms : List Leaf) → first_admitted t u (ls ++ ms) ≡ None → first_admitted t u ls ≡ None
none_in_front t u [] ms e = refl
none_in_front t u (open_leaf p b ∷ ls) ms e =
    ap (λ s. cond s (Some p) (first_admitted t u ls)) (first_of_no (admits (low_of t b) u) p (first_admitted t u (ls ++ ms)) e)
    ∙ none_in_front t u ls ms (rest_of_no (admits (low_of t b) u) p (first_admitted t u (ls ++ ms)) e)
none_in_front t u (inner_leaf to ∷ ls) ms e = none_in_front t u ls ms e
none_in_front t u (small_leaf to ∷ ls) ms e = none_in_front t u ls ms e

kept_is_shut : (t : Term) (u : Extended) (o : Outcome) → first_admitted t u (kept_by o) ≡ None
kept_is_shut t u Removed = refl
kept_is_shut t u (Inner to) = refl
kept_is_shut t u (Small to) = refl
kept_is_shut t u (Cut to v a) = refl

-- ---- the search so far

pub search_begins : (rule : Rule) (depth : ℕ) (t : Term) (root : List Bounds) (budget : ℕ) → IsStage rule depth root leaf leaf → IsSearch rule depth t root budget (growth_over root) nothing_found
unfolding searched
search_begins rule depth t root budget stage = record {
  passed = [];
  over = refl;
  leaves = refl;
  known = record { lower = refl; best = refl };
  tree = refl;
  stage = stage;
  count = refl;
  within = omega arith;
  done = refl;
}

module _ (rule : Rule) (depth : ℕ) (t : Term) (root : List Bounds) (budget : ℕ) (g : Growing) (l : Least) (h : IsSearch rule depth t root budget g l) where
  -- the best point of the paving so far is the running one
  pub best_now : best_of t root g.tree ≡ l.best
  best_now =
      ap (λ ls. first_least (points t ls)) h.leaves
      ∙ ap first_least (points-append t h.passed (open_leaves g.holes) ∙ ap (λ ps. points t h.passed ++ ps) (points-open t g.holes) ∙ append-nil (points t h.passed))
      ∙ sym h.known.best

  next_now : next_of t root g.tree ≡ first_admitted t (upper_of l.best) (h.passed ++ open_leaves g.holes)
  next_now = (λ i. first_admitted t (upper_of (best_now i)) (h.leaves i))

  module _ (p : List Bool) (n : IsNext g p) where
    abbrev low_now : Option Extended
    low_now = low_of t n.hole.box

    leaves_now : leaves_of root g.tree ≡ h.passed ++ open_leaf n.hole.path n.hole.box ∷ open_leaves n.rest
    leaves_now = h.leaves ∙ ap (λ hs. h.passed ++ open_leaves hs) n.is

    -- a leaf is passed
    passed_done : (was : Bool) (is_next : Bool) (rest : Bool) → IsDone t (upper_of l.best) h.passed l.settled budget was → admits low_now (upper_of l.best) ≡ is_next → (is_next ≡ true → l.settled ≡ budget)
        → IsDone t (upper_of l.best) (h.passed ++ open_leaf n.hole.path n.hole.box ∷ []) l.settled budget (was && not is_next)
    passed_done true true rest d e k = (λ none. let some : first_admitted t (upper_of l.best) (h.passed ++ open_leaf n.hole.path n.hole.box ∷ []) ≡ Some n.hole.path = admitted_behind t (upper_of l.best) h.passed (open_leaf n.hole.path n.hole.box ∷ []) d ∙ ap (λ s. cond s (Some n.hole.path) None) e in cc, k refl)
    passed_done true false rest d e k = admitted_behind t (upper_of l.best) h.passed (open_leaf n.hole.path n.hole.box ∷ []) d ∙ ap (λ s. cond s (Some n.hole.path) None) e
    passed_done false s rest d e k = (λ none. d.0 (none_in_front t (upper_of l.best) h.passed (open_leaf n.hole.path n.hole.box ∷ []) none), d.1)

    pub search_passes : (is_next : Bool) → admits low_now (upper_of l.best) ≡ is_next → (is_next ≡ true → l.settled ≡ budget)
        → IsSearch rule depth t root budget (pass_next g) (passed_by l low_now is_next)
    search_passes is_next e k = record {
      passed = h.passed ++ open_leaf n.hole.path n.hole.box ∷ [];
      over = h.over;
      leaves = leaves_now
          ∙ sym (append_assoc h.passed (open_leaf n.hole.path n.hole.box ∷ []) (open_leaves n.rest))
          ∙ ap (λ hs. (h.passed ++ open_leaf n.hole.path n.hole.box ∷ []) ++ open_leaves (rest_of hs)) (sym n.is);
      known = known_passed t h.passed l n.hole.path n.hole.box is_next h.known;
      tree = h.tree;
      stage = h.stage;
      count = h.count;
      within = h.within;
      done = passed_done l.done is_next true h.done e k;
    }

    -- a leaf is settled
    module _ (more : l.settled < budget) (admitted : admits low_now (upper_of l.best) ≡ true) (o : Outcome) (is : o ≡ rule n.hole.box (depth - length p) (length p)) where
      none_passed : (was : Bool) → IsDone t (upper_of l.best) h.passed l.settled budget was → (was ≡ true) × (first_admitted t (upper_of l.best) h.passed ≡ None)
      none_passed true d = (refl, d)
      none_passed false d = absurd (omega (arith, more, d.1))

      is_first : next_of t root g.tree ≡ Some p
      is_first =
          next_now
          ∙ admitted_behind t (upper_of l.best) h.passed (open_leaves g.holes) (none_passed l.done h.done).1
          ∙ ap (λ hs. first_admitted t (upper_of l.best) (open_leaves hs)) n.is
          ∙ ap (λ s. cond s (Some n.hole.path) (first_admitted t (upper_of l.best) (open_leaves n.rest))) admitted
          ∙ ap Some (sym n.path)

      same_box : box_of root g.tree p ≡ n.hole.box
      same_box = (λ i. box_of (back i) g.tree (n.path i)) ∙ n.box
        where
          back : root ≡ g.root
          back = sym h.over

      same_tree : (settle_next g o).tree ≡ graft g.tree p (settled (rule (box_of root g.tree p) (depth - length p) (length p)))
      same_tree = next_tree g p o n ∙ ap (λ x. graft g.tree p (settled x)) (is ∙ ap (λ b. rule b (depth - length p) (length p)) (sym same_box))

      tree_after : (settle_next g o).tree ≡ searched rule depth t root (suc l.settled)
      unfolding searched
      tree_after =
          same_tree
          ∙ ap (settled_where rule depth root g.tree) (sym is_first)
          ∙ ap (λ x. settled_where rule depth root x (next_of t root x)) h.tree

      is_leaf : subtree g.tree p ≡ Some leaf
      is_leaf = ap (subtree g.tree) n.path ∙ n.is_leaf

      settled_count : (o : Outcome) → (settled_by t l o).settled ≡ suc l.settled
      settled_count Removed = omega arith
      settled_count (Inner to) = omega arith
      settled_count (Small to) = omega arith
      settled_count (Cut to v a) = omega arith

      settled_done : (o : Outcome) → (settled_by t l o).done ≡ l.done
      settled_done Removed = refl
      settled_done (Inner to) = refl
      settled_done (Small to) = refl
      settled_done (Cut to v a) = refl

      none_after : first_admitted t (upper_of (settled_by t l o).best) (h.passed ++ kept_by o) ≡ None
      none_after =
          admitted_behind t _ h.passed (kept_by o) (none_admitted_below t _ (upper_of l.best) h.passed (settled_falls t l o) (none_passed l.done h.done).1)
          ∙ kept_is_shut t _ o

      leaves_then : leaves_of root (settle_next g o).tree ≡ (h.passed ++ kept_by o) ++ open_leaves (settle_next g o).holes
      leaves_then =
          ap (leaves_of root) (next_tree g p o n ∙ ap (λ q. graft g.tree q (settled o)) n.path)
          ∙ leaves_after root g.tree n.hole n.rest h.passed o n.is_leaf (ap (λ b. box_of b g.tree n.hole.path) (sym h.over) ∙ n.box) leaves_now
          ∙ ap (λ hs. (h.passed ++ kept_by o) ++ open_leaves hs) (sym (next_holes g p o n))

      pub search_settles : IsStage rule depth root leaf (graft g.tree p (settled (rule (box_of root g.tree p) (depth - length p) (length p)))) → IsSearch rule depth t root budget (settle_next g o) (settled_by t l o)
      search_settles stage = record {
        passed = h.passed ++ kept_by o;
        over = next_root g o ∙ h.over;
        leaves = leaves_then;
        known = known_settled t h.passed l o h.known;
        stage = subst (IsStage rule depth root leaf) (sym same_tree) stage;
        tree = tree_after ∙ ap (searched rule depth t root) (sym (settled_count o));
        count = ap (λ x. settled_of (counts_of x)) (next_tree g p o n) ∙ settled_more g.tree p o is_leaf ∙ (let w : settled_of (counts_of g.tree) ≡ l.settled = h.count in let v : (settled_by t l o).settled ≡ suc l.settled = settled_count o in omega arith);
        within = let v : (settled_by t l o).settled ≡ suc l.settled = settled_count o in omega (arith, more, v);
        done = subst (IsDone t (upper_of (settled_by t l o).best) (h.passed ++ kept_by o) (settled_by t l o).settled budget) (sym (settled_done o ∙ (none_passed l.done h.done).0)) none_after;
      }

  -- no leaf is to come
  module _ (over : g.holes ≡ []) where
    leaves_end : leaves_of root g.tree ≡ h.passed
    leaves_end = h.leaves ∙ ap (λ hs. h.passed ++ open_leaves hs) over ∙ append-nil h.passed

    next_end : next_of t root g.tree ≡ first_admitted t (upper_of l.best) h.passed
    next_end = next_now ∙ ap (λ ls. first_admitted t (upper_of l.best) ls) (sym h.leaves ∙ leaves_end)

    stays : (n k : ℕ) → next_of t root (searched rule depth t root n) ≡ None → searched rule depth t root (k + n) ≡ searched rule depth t root n
    unfolding searched
    stays n zero e = let none : 0 + n ≡ n = omega arith in ap (searched rule depth t root) none
    stays n (suc k) e =
        let same = stays n k e in
        let next : next_of t root (searched rule depth t root (k + n)) ≡ None = ap (next_of t root) same ∙ e in
        let one : suc k + n ≡ suc (k + n) = omega arith in
        ap (searched rule depth t root) one
        ∙ ap (settled_where rule depth root (searched rule depth t root (k + n))) next
        ∙ same

    tree_end : (done : Bool) → IsDone t (upper_of l.best) h.passed l.settled budget done → g.tree ≡ searched rule depth t root budget
    tree_end true d =
        let none : next_of t root (searched rule depth t root l.settled) ≡ None = ap (next_of t root) (sym h.tree) ∙ next_end ∙ d in
        let within : l.settled ≤ budget = h.within in
        let rest : budget ≡ (budget - l.settled) + l.settled = omega arith in
        h.tree ∙ sym (ap (searched rule depth t root) rest ∙ stays l.settled (budget - l.settled) none)
    tree_end false d = h.tree ∙ ap (searched rule depth t root) d.1

    pub last_tree : g.tree ≡ searched rule depth t root budget
    last_tree = tree_end l.done h.done

    pub last_lower : l.lower ≡ lower_of t root (searched rule depth t root budget)
    last_lower = h.known.lower ∙ ap (λ ls. least_of (lows t ls)) (sym leaves_end) ∙ ap (lower_of t root) last_tree

    pub last_best : l.best ≡ best_of t root (searched rule depth t root budget)
    last_best = sym best_now ∙ ap (best_of t root) last_tree

    pub last_settled : l.settled ≡ settled_of (counts_of (searched rule depth t root budget))
    last_settled = sym h.count ∙ ap (λ x. settled_of (counts_of x)) last_tree

    none_where_done : (done : Bool) → IsDone t (upper_of l.best) h.passed l.settled budget done → IsTrue done → first_admitted t (upper_of l.best) h.passed ≡ None
    none_where_done true d e = d
    none_where_done false d e = absurd (true≢false (sym e))

    done_where_none : (done : Bool) → IsDone t (upper_of l.best) h.passed l.settled budget done → first_admitted t (upper_of l.best) h.passed ≡ None → IsTrue done
    done_where_none true d e = refl
    done_where_none false d e = absurd (d.0 e)

    pub last_done : IsTrue l.done → next_of t root (searched rule depth t root budget) ≡ None
    last_done e = ap (next_of t root) (sym last_tree) ∙ next_end ∙ none_where_done l.done h.done e

    pub last_open : next_of t root (searched rule depth t root budget) ≡ None → IsTrue l.done
    last_open e = done_where_none l.done h.done (sym next_end ∙ ap (next_of t root) last_tree ∙ e)
