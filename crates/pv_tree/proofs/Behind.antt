-- The open leaves that stand behind a path.
use Rattle.std.proofs.Common.{◌≡◌, ℕ, suc, ◌+◌, ◌-◌, ◌<◌, ◌≤◌, Bool, true, false, cond, Option, Some, None, List, [], ◌∷◌, ◌++◌, map, length, drop, get_or, refl, sym, ◌∙◌, ap, arith, length-append}
use Rattle.std.specs.List.{filter}
use Rattle.std.proofs.lemmas.List.Elements.{filter-append}
use Rattle.std.proofs.Math.Seq.{drop-cons, drop-length}
use Rattle.std.specs.Option.{option_map, IfSome}
use Rattle.pv_num.specs.Extended.{Extended}
use Rattle.pv_interval.specs.Bounds.{Bounds}
use Rattle.pv_tree.specs.Trees.{Tree, leaf, removed, inner, small, cut, first, behind, precedes, opens, subtree}
use Rattle.pv_tree.specs.Arena.{cell_at, kids_of, whole_tree}
use Rattle.pv_tree.specs.Spots.{AreCutInto, opens_below, first_below, first_behind, either}
use Rattle.pv_tree.specs.declared.cell.Cell.{Cell}
use Rattle.pv_tree.specs.declared.cell.Cell.TheVariants.{Open, Removed, Inner, Small, Cut}
use Rattle.pv_tree.specs.declared.cell.Node.{Node}
use Rattle.pv_tree.specs.declared.search.Spot.{Spot}
use Rattle.pv_tree.specs.declared.search.Pair.{Pair}
use Rattle.pv_tree.proofs.Searches.{listed, opens_below-is, cut_listed, one_more, below_opens, map_same, first_of_two}

filter_keep : (test : List Bool → Bool) (b : Bool) (xs : List (List Bool)) → ((q : List Bool) → test (b ∷ q) ≡ true) → filter test (map (λ p. b ∷ p) xs) ≡ map (λ p. b ∷ p) xs
filter_keep test b [] h = refl
filter_keep test b (x ∷ xs) h = ap (λ (t : Bool). cond t ((b ∷ x) ∷ filter test (map (λ p. b ∷ p) xs)) (filter test (map (λ p. b ∷ p) xs))) (h x) ∙ ap (λ (l : List (List Bool)). (b ∷ x) ∷ l) (filter_keep test b xs h)

filter_drop : (test : List Bool → Bool) (b : Bool) (xs : List (List Bool)) → ((q : List Bool) → test (b ∷ q) ≡ false) → filter test (map (λ p. b ∷ p) xs) ≡ []
filter_drop test b [] h = refl
filter_drop test b (x ∷ xs) h = ap (λ (t : Bool). cond t ((b ∷ x) ∷ filter test (map (λ p. b ∷ p) xs)) (filter test (map (λ p. b ∷ p) xs))) (h x) ∙ filter_drop test b xs h

map_cond : (b : Bool) (t : Bool) (x : List Bool) (xs : List (List Bool)) → map (λ p. b ∷ p) (cond t (x ∷ xs) xs) ≡ cond t ((b ∷ x) ∷ map (λ p. b ∷ p) xs) (map (λ p. b ∷ p) xs)
map_cond b true x xs = refl
map_cond b false x xs = refl

filter_below : (test below : List Bool → Bool) (b : Bool) (xs : List (List Bool)) → ((q : List Bool) → test (b ∷ q) ≡ below q) → filter test (map (λ p. b ∷ p) xs) ≡ map (λ p. b ∷ p) (filter below xs)
filter_below test below b [] h = refl
filter_below test below b (x ∷ xs) h =
    ap (λ (t : Bool). cond t ((b ∷ x) ∷ filter test (map (λ p. b ∷ p) xs)) (filter test (map (λ p. b ∷ p) xs))) (h x)
    ∙ ap (λ (l : List (List Bool)). cond (below x) ((b ∷ x) ∷ l) l) (filter_below test below b xs h)
    ∙ sym (map_cond b (below x) x (filter below xs))

behind_end : (xs ys : List (List Bool)) → behind [] (map (λ p. false ∷ p) xs ++ map (λ p. true ∷ p) ys) ≡ map (λ p. false ∷ p) xs ++ map (λ p. true ∷ p) ys
behind_end xs ys =
    filter-append (precedes []) (map (λ p. false ∷ p) xs) (map (λ p. true ∷ p) ys)
    ∙ (λ i. filter_keep (precedes []) false xs (λ q. refl) i ++ filter_keep (precedes []) true ys (λ q. refl) i)

behind_low : (q : List Bool) (xs ys : List (List Bool)) → behind (false ∷ q) (map (λ p. false ∷ p) xs ++ map (λ p. true ∷ p) ys) ≡ map (λ p. false ∷ p) (behind q xs) ++ map (λ p. true ∷ p) ys
behind_low q xs ys =
    filter-append (precedes (false ∷ q)) (map (λ p. false ∷ p) xs) (map (λ p. true ∷ p) ys)
    ∙ (λ i. filter_below (precedes (false ∷ q)) (precedes q) false xs (λ p. refl) i ++ filter_keep (precedes (false ∷ q)) true ys (λ p. refl) i)

behind_high : (q : List Bool) (xs ys : List (List Bool)) → behind (true ∷ q) (map (λ p. false ∷ p) xs ++ map (λ p. true ∷ p) ys) ≡ map (λ p. true ∷ p) (behind q ys)
behind_high q xs ys =
    filter-append (precedes (true ∷ q)) (map (λ p. false ∷ p) xs) (map (λ p. true ∷ p) ys)
    ∙ (λ i. filter_drop (precedes (true ∷ q)) false xs (λ p. refl) i ++ filter_below (precedes (true ∷ q)) (precedes q) true ys (λ p. refl) i)

nothing_precedes_root : (p : List Bool) → precedes p [] ≡ false
nothing_precedes_root [] = refl
nothing_precedes_root (b ∷ p) = refl

behind_leaf : (ns : List Node) (f : ℕ) (x : Cell) (p : List Bool) → kids_of x ≡ None → behind p (listed ns f x) ≡ []
behind_leaf ns f Open p e = ap (λ (t : Bool). cond t ([] ∷ []) []) (nothing_precedes_root p)
behind_leaf ns f Removed p e = refl
behind_leaf ns f (Inner s) p e = refl
behind_leaf ns f (Small s) p e = refl
behind_leaf ns f (Cut s v a c) p e = cc

pub later_none : (ns : List Node) (spot : Spot) (after : List Bool) → length spot.path ≤ 200 → kids_of (cell_at ns spot.at) ≡ None → None ≡ first_behind ns spot after
unfolding first_behind
later_none ns spot after short e =
    let none : behind after (opens_below ns (201 - length spot.path) spot.at) ≡ [] =
    ap (behind after) (ap (λ (n : ℕ). opens_below ns n spot.at) (one_more (length spot.path) short) ∙ opens_below-is ns (200 - length spot.path) spot.at (cell_at ns spot.at) refl)
    ∙ behind_leaf ns (200 - length spot.path) (cell_at ns spot.at) after e in
    sym (ap (λ (l : List (List Bool)). option_map (λ (p : List Bool). spot.path ++ p) (first l)) none)

module _ (ns : List Node) (spot : Spot) (kids : Pair) (h : AreCutInto ns spot kids) where
  fuel_low : 201 - length kids.low.path ≡ 200 - length spot.path
  fuel_low = let short : length spot.path < 200 = h.short in let e : length kids.low.path ≡ length spot.path + 1 = ap length h.low_path ∙ length-append spot.path (false ∷ []) in omega arith

  fuel_high : 201 - length kids.high.path ≡ 200 - length spot.path
  fuel_high = let short : length spot.path < 200 = h.short in let e : length kids.high.path ≡ length spot.path + 1 = ap length h.high_path ∙ length-append spot.path (true ∷ []) in omega arith

  opens_here : opens_below ns (201 - length spot.path) spot.at ≡ map (λ p. false ∷ p) (opens_below ns (200 - length spot.path) kids.low.at) ++ map (λ p. true ∷ p) (opens_below ns (200 - length spot.path) (kids.low.at + 1))
  opens_here =
      let short : length spot.path < 200 = h.short in
      ap (λ (n : ℕ). opens_below ns n spot.at) (one_more (length spot.path) (omega arith)) ∙ opens_below-is ns (200 - length spot.path) spot.at (cell_at ns spot.at) refl
      ∙ cut_listed ns (200 - length spot.path) (cell_at ns spot.at) kids.low.at h.low_at

  pub later_end : (after : List Bool) → after ≡ [] → either (first_below ns kids.low) (first_below ns kids.high) ≡ first_behind ns spot after
  unfolding first_below first_behind
  later_end after e =
      (λ i. either (option_map (λ (p : List Bool). h.low_path i ++ p) (first (opens_below ns (fuel_low i) kids.low.at))) (option_map (λ (p : List Bool). h.high_path i ++ p) (first (opens_below ns (fuel_high i) (h.high_at i)))))
      ∙ sym (first_of_two spot.path (opens_below ns (200 - length spot.path) kids.low.at) (opens_below ns (200 - length spot.path) (kids.low.at + 1)))
      ∙ ap (λ (l : List (List Bool)). option_map (λ (p : List Bool). spot.path ++ p) (first l)) (sym (behind_end (opens_below ns (200 - length spot.path) kids.low.at) (opens_below ns (200 - length spot.path) (kids.low.at + 1))))
      ∙ (λ i. option_map (λ (p : List Bool). spot.path ++ p) (first (behind (sym e i) (sym opens_here i))))

  pub later_low : (after q : List Bool) → after ≡ false ∷ q → either (first_behind ns kids.low q) (first_below ns kids.high) ≡ first_behind ns spot after
  unfolding first_below first_behind
  later_low after q e =
      (λ i. either (option_map (λ (p : List Bool). h.low_path i ++ p) (first (behind q (opens_below ns (fuel_low i) kids.low.at)))) (option_map (λ (p : List Bool). h.high_path i ++ p) (first (opens_below ns (fuel_high i) (h.high_at i)))))
      ∙ sym (first_of_two spot.path (behind q (opens_below ns (200 - length spot.path) kids.low.at)) (opens_below ns (200 - length spot.path) (kids.low.at + 1)))
      ∙ ap (λ (l : List (List Bool)). option_map (λ (p : List Bool). spot.path ++ p) (first l)) (sym (behind_low q (opens_below ns (200 - length spot.path) kids.low.at) (opens_below ns (200 - length spot.path) (kids.low.at + 1))))
      ∙ (λ i. option_map (λ (p : List Bool). spot.path ++ p) (first (behind (sym e i) (sym opens_here i))))

  pub later_high : (after q : List Bool) → after ≡ true ∷ q → first_behind ns kids.high q ≡ first_behind ns spot after
  unfolding first_below first_behind
  later_high after q e =
      (λ i. option_map (λ (p : List Bool). h.high_path i ++ p) (first (behind q (opens_below ns (fuel_high i) (h.high_at i)))))
      ∙ sym (first_of_two spot.path [] (behind q (opens_below ns (200 - length spot.path) (kids.low.at + 1))))
      ∙ ap (λ (l : List (List Bool)). option_map (λ (p : List Bool). spot.path ++ p) (first l)) (sym (behind_high q (opens_below ns (200 - length spot.path) kids.low.at) (opens_below ns (200 - length spot.path) (kids.low.at + 1))))
      ∙ (λ i. option_map (λ (p : List Bool). spot.path ++ p) (first (behind (sym e i) (sym opens_here i))))

  pub low_rest : (after : List Bool) → length spot.path < length after → get_or after (length spot.path) false ≡ false → drop (length spot.path) after ≡ false ∷ drop (length kids.low.path) after
  low_rest after more e =
      let size : length kids.low.path ≡ suc (length spot.path) = ap length h.low_path ∙ length-append spot.path (false ∷ []) ∙ (let w : length spot.path + 1 ≡ suc (length spot.path) = omega arith in w) in
      drop-cons after (length spot.path) false more ∙ (λ i. e i ∷ drop (sym size i) after)

  pub high_rest : (after : List Bool) → length spot.path < length after → get_or after (length spot.path) false ≡ true → drop (length spot.path) after ≡ true ∷ drop (length kids.high.path) after
  high_rest after more e =
      let size : length kids.high.path ≡ suc (length spot.path) = ap length h.high_path ∙ length-append spot.path (true ∷ []) ∙ (let w : length spot.path + 1 ≡ suc (length spot.path) = omega arith in w) in
      drop-cons after (length spot.path) false more ∙ (λ i. e i ∷ drop (sym size i) after)

pub no_rest : (n : ℕ) (after : List Bool) → n ≡ length after → drop n after ≡ []
no_rest n after e = ap (λ (m : ℕ). drop m after) e ∙ drop-length after

pub behind_whole : (d : ℕ) (es : List Bounds) (ns : List Node) (path after : List Bool) → path ≡ [] → first_behind ns (record { at = 0; path = path }) (drop (length path) after) ≡ first (behind after (opens (whole_tree d es ns)))
unfolding first_behind
behind_whole d es ns path after e =
    map_same (first (behind (drop (length path) after) (opens_below ns (201 - length path) 0))) path e
    ∙ ap (λ (q : List Bool). first (behind (drop (length q) after) (opens_below ns (201 - length q) 0))) e
    ∙ ap (λ (l : List (List Bool)). first (behind after l)) (below_opens d es ns 201 0)

-- what stands behind a path in a tree's list of open leaves is an open leaf
abbrev AllOpen : Tree → List (List Bool) → Type 0
AllOpen t [] = Unit {0}
AllOpen t (p ∷ ps) = (subtree t p ≡ Some leaf) × AllOpen t ps

all_append : (t : Tree) (xs ys : List (List Bool)) → AllOpen t xs → AllOpen t ys → AllOpen t (xs ++ ys)
all_append t [] ys h k = k
all_append t (x ∷ xs) ys h k = (h.0, all_append t xs ys h.1 k)

all_low : (to : List Bounds) (v : ℕ) (a : Extended) (l r : Tree) (xs : List (List Bool)) → AllOpen l xs → AllOpen (cut to v a l r) (map (λ p. false ∷ p) xs)
all_low to v a l r [] h = tt
all_low to v a l r (x ∷ xs) h = (h.0, all_low to v a l r xs h.1)

all_high : (to : List Bounds) (v : ℕ) (a : Extended) (l r : Tree) (xs : List (List Bool)) → AllOpen r xs → AllOpen (cut to v a l r) (map (λ p. true ∷ p) xs)
all_high to v a l r [] h = tt
all_high to v a l r (x ∷ xs) h = (h.0, all_high to v a l r xs h.1)

all_open : (t : Tree) → AllOpen t (opens t)
all_open leaf = (refl, tt)
all_open removed = tt
all_open (inner to) = tt
all_open (small to) = tt
all_open (cut to v a l r) = all_append (cut to v a l r) (map (λ p. false ∷ p) (opens l)) (map (λ p. true ∷ p) (opens r)) (all_low to v a l r (opens l) (all_open l)) (all_high to v a l r (opens r) (all_open r))

all_cond : (t : Tree) (b : Bool) (x : List Bool) (xs : List (List Bool)) → subtree t x ≡ Some leaf → AllOpen t xs → AllOpen t (cond b (x ∷ xs) xs)
all_cond t true x xs h k = (h, k)
all_cond t false x xs h k = k

all_filter : (t : Tree) (test : List Bool → Bool) (xs : List (List Bool)) → AllOpen t xs → AllOpen t (filter test xs)
all_filter t test [] h = tt
all_filter t test (x ∷ xs) h = all_cond t (test x) x (filter test xs) h.0 (all_filter t test xs h.1)

all_first : (t : Tree) (xs : List (List Bool)) (q : List Bool) → AllOpen t xs → first xs ≡ Some q → subtree t q ≡ Some leaf
all_first t [] q h e = cc
all_first t (x ∷ xs) q h e = let w : x ≡ q = cc in ap (subtree t) (sym w) ∙ h.0

pub behind_is_open : (t : Tree) (after : List Bool) (o : Option (List Bool)) → o ≡ first (behind after (opens t)) → IfSome o (λ p. subtree t p ≡ Some leaf)
behind_is_open t after None e = tt
behind_is_open t after (Some q) e = all_first t (behind after (opens t)) q (all_filter t (precedes after) (opens t) (all_open t)) (sym e)

pub more_steps : (d n e m : ℕ) → d ≡ e → n ≡ m → e ≤ m → (d ≡ n → ⊥) → e < m
more_steps d n e m p q h f = omega (arith, p, q, f)
