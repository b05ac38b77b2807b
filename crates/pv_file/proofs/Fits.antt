-- Trees that may stand at open leaves, and their text.
use Rattle.std.proofs.Common.{◌≡◌, ℕ, suc, ◌+◌, ◌<◌, ◌≤◌, ◌^◌, max, Bool, true, false, List, [], ◌∷◌, ◌++◌, length, Option, Some, None, refl, sym, subst, arith, append_assoc, length-append}
use Rattle.std.specs.Fmt.{decimal}
use Rattle.pv_num.specs.Extended.{Extended}
use Rattle.pv_num.specs.Parts.{IsNumber, number_text}
use Rattle.pv_interval.specs.Bounds.{Bounds}
use Rattle.pv_box.specs.Boxes.{lower_half, upper_half}
use Rattle.pv_tree.specs.Trees.{Tree, leaf, removed, inner, small, cut, top, subtree, height, Paves}
use Rattle.pv_tree.specs.Holes.{Hole, fill}
use Rattle.pv_tree.proofs.Pieces.{fill_removed, fill_inner, fill_small, fill_cut, fill_open}
use Rattle.pv_tree.specs.declared.outcome.Outcome.{Outcome}
use Rattle.pv_tree.specs.declared.outcome.Outcome.TheVariants.{Removed, Inner, Small, Cut}
use Rattle.pv_file.specs.declared.version.Version.{Version}
use Rattle.pv_file.specs.declared.version.Version.TheVariants.{One, Two}
use Rattle.pv_file.specs.Lines.{kept_text, pair_text, cut_text, node_line_with, top_line, lines_of}
use Rattle.pv_file.specs.Readings.{IsFree, HasNumbers, IsPavingInFormat, settled_count}
use Rattle.pv_file.specs.Words.{IsPlain, IsKeptOf, end_text, part_text}
use Rattle.pv_file.specs.Reading.{IsRightNode, holes_after, tree_after, count_of}
use Rattle.pv_file.proofs.Numbers.{decimal_plain, number_plain, end_text_plain}
use Rattle.pv_file.proofs.Ends.{kept_step}
use Rattle.pv_file.proofs.Rights.{kept_inner, kept_small, kept_cut, few_places}

-- ---- Trees at holes

pub record FitsHole (hole : Hole) (s : Tree) : Type 0 where
  pub paves : Paves hole.box s
  pub numbers : HasNumbers s
  pub depth : length hole.path + height s ≤ 200

pub at_root : (b : List Bounds) (t : Tree) → IsPavingInFormat b t → FitsHole (record { path = []; box = b }) t
at_root b t p = record { paves = p.paving.paves; numbers = p.numbers; depth = omega (arith, p.paving.depth) }

abbrev pub FitHoles : List Hole → List Tree → Type 0
FitHoles [] [] = Unit {0}
FitHoles [] (s ∷ ss) = ⊥
FitHoles (hole ∷ holes) [] = ⊥
FitHoles (hole ∷ holes) (s ∷ ss) = FitsHole hole s × FitHoles holes ss

abbrev pub AreShort : List Hole → Type 0
AreShort [] = Unit {0}
AreShort (hole ∷ holes) = (length hole.path ≤ 200) × AreShort holes

abbrev pub kids : Tree → List Tree
kids leaf = []
kids removed = []
kids (inner to) = []
kids (small to) = []
kids (cut to var at low high) = low ∷ high ∷ []

abbrev pub holes_text : Version → List Hole → List Tree → List ℕ
holes_text v [] ss = []
holes_text v (hole ∷ holes) [] = []
holes_text v (hole ∷ holes) (s ∷ ss) = lines_of v hole.box s ++ holes_text v holes ss

abbrev pub settled_in : List Tree → ℕ
settled_in [] = 0
settled_in (s ∷ ss) = settled_count s + settled_in ss

-- ---- One node of a tree at a hole

pub fill_step : (t : Tree) (hole : Hole) (holes : List Hole) (s : Tree) (ss : List Tree) → subtree t hole.path ≡ Some leaf
    → fill t (hole ∷ holes) (s ∷ ss) ≡ fill (tree_after t hole (top s)) (holes_after hole (top s) ++ holes) (kids s ++ ss)
fill_step t hole holes leaf ss is_leaf = fill_open t hole holes ss is_leaf
fill_step t hole holes removed ss is_leaf = fill_removed t hole holes ss
fill_step t hole holes (inner to) ss is_leaf = fill_inner t hole holes to ss
fill_step t hole holes (small to) ss is_leaf = fill_small t hole holes to ss
fill_step t hole holes (cut to var at low high) ss is_leaf = fill_cut t hole holes to var at low high ss

pub regroup : (t l h p : List ℕ) → (t ++ (10 ∷ (l ++ h))) ++ p ≡ (t ++ 10 ∷ []) ++ (l ++ (h ++ p))
regroup t l h p = simp append_assoc

pub text_step : (v : Version) (hole : Hole) (holes : List Hole) (s : Tree) (ss : List Tree)
    → holes_text v (hole ∷ holes) (s ∷ ss) ≡ (top_line v hole.box s ++ 10 ∷ []) ++ holes_text v (holes_after hole (top s) ++ holes) (kids s ++ ss)
text_step v hole holes leaf ss = refl
text_step v hole holes removed ss = refl
text_step v hole holes (inner to) ss = refl
text_step v hole holes (small to) ss = refl
text_step v hole holes (cut to var at low high) ss =
    regroup (top_line v hole.box (cut to var at low high)) (lines_of v (lower_half to var at) low) (lines_of v (upper_half to var at) high) (holes_text v holes ss)

pub deep_low : (p : List Bool) (b : Bool) (low high : Tree) → length p + suc (max (height low) (height high)) ≤ 200 → length (p ++ b ∷ []) + height low ≤ 200
deep_low p b low high h = let l : length (p ++ b ∷ []) ≡ length p + 1 = length-append p (b ∷ []) in omega (arith, l, h)

pub deep_high : (p : List Bool) (b : Bool) (low high : Tree) → length p + suc (max (height low) (height high)) ≤ 200 → length (p ++ b ∷ []) + height high ≤ 200
deep_high p b low high h = let l : length (p ++ b ∷ []) ≡ length p + 1 = length-append p (b ∷ []) in omega (arith, l, h)

pub fit_down : (hole : Hole) (holes : List Hole) (s : Tree) (ss : List Tree) → FitsHole hole s → FitHoles holes ss → FitHoles (holes_after hole (top s) ++ holes) (kids s ++ ss)
fit_down hole holes leaf ss f fs = fs
fit_down hole holes removed ss f fs = fs
fit_down hole holes (inner to) ss f fs = fs
fit_down hole holes (small to) ss f fs = fs
fit_down hole holes (cut to var at low high) ss f fs = (
  record { paves = f.paves.3; numbers = f.numbers.2; depth = deep_low hole.path false low high f.depth },
  (record { paves = f.paves.4; numbers = f.numbers.3; depth = deep_high hole.path true low high f.depth }, fs),
)

pub short_cut : (p : List Bool) (low high : Tree) → length p + suc (max (height low) (height high)) ≤ 200 → length p < 200
short_cut p low high h = omega (arith, h)

pub right_top : (hole : Hole) (s : Tree) → FitsHole hole s → IsRightNode hole.path hole.box (top s)
right_top hole leaf f = tt
right_top hole removed f = (record { fits = tt; keeps = tt; numbers = tt }, tt)
right_top hole (inner to) f = (record { fits = f.paves.1; keeps = f.paves.0; numbers = f.numbers }, tt)
right_top hole (small to) f = (record { fits = f.paves.1; keeps = f.paves.0; numbers = f.numbers }, tt)
right_top hole (cut to var at low high) f = (
  record { fits = (f.paves.1, f.paves.2); keeps = f.paves.0; numbers = (f.numbers.0, f.numbers.1) },
  short_cut hole.path low high f.depth,
)

-- The tree whose top node is given, and whose children stand at the first holes.
pub record Lifted (hole : Hole) (holes : List Hole) (q : Option Outcome) (below : List Tree) : Type 0 where
  pub tree : Tree
  pub others : List Tree
  pub is_top : top tree ≡ q
  pub are : below ≡ kids tree ++ others
  pub fits : FitsHole hole tree
  pub fit : FitHoles holes others

no_depth : (p : List Bool) → length p ≤ 200 → length p + 0 ≤ 200
no_depth p h = omega (arith, h)

cut_depth : (p : List Bool) (a b : Bool) (low high : Tree) → length (p ++ a ∷ []) + height low ≤ 200 → length (p ++ b ∷ []) + height high ≤ 200
    → length p + suc (max (height low) (height high)) ≤ 200
cut_depth p a b low high h k =
    let l : length (p ++ a ∷ []) ≡ length p + 1 = length-append p (a ∷ []) in
    let m : length (p ++ b ∷ []) ≡ length p + 1 = length-append p (b ∷ []) in
    omega (arith, l, m, h, k)

pub fit_up : (hole : Hole) (holes : List Hole) (q : Option Outcome) (below : List Tree) → length hole.path ≤ 200 → IsRightNode hole.path hole.box q
    → FitHoles (holes_after hole q ++ holes) below → Lifted hole holes q below
fit_up hole holes None below short right fit = record {
  tree = leaf;
  others = below;
  is_top = refl;
  are = refl;
  fits = record { paves = tt; numbers = tt; depth = no_depth hole.path short };
  fit = fit;
}
fit_up hole holes (Some Removed) below short right fit = record {
  tree = removed;
  others = below;
  is_top = refl;
  are = refl;
  fits = record { paves = tt; numbers = tt; depth = no_depth hole.path short };
  fit = fit;
}
fit_up hole holes (Some (Inner to)) below short right fit = record {
  tree = inner to;
  others = below;
  is_top = refl;
  are = refl;
  fits = record { paves = (right.0.keeps, right.0.fits); numbers = right.0.numbers; depth = no_depth hole.path short };
  fit = fit;
}
fit_up hole holes (Some (Small to)) below short right fit = record {
  tree = small to;
  others = below;
  is_top = refl;
  are = refl;
  fits = record { paves = (right.0.keeps, right.0.fits); numbers = right.0.numbers; depth = no_depth hole.path short };
  fit = fit;
}
fit_up hole holes (Some (Cut to var at)) [] short right fit = absurd fit
fit_up hole holes (Some (Cut to var at)) (low ∷ []) short right fit = absurd fit.1
fit_up hole holes (Some (Cut to var at)) (low ∷ high ∷ others) short right fit = record {
  tree = cut to var at low high;
  others = others;
  is_top = refl;
  are = refl;
  fits = record {
    paves = (right.0.keeps, right.0.fits.0, right.0.fits.1, fit.0.paves, fit.1.0.paves);
    numbers = (right.0.numbers.0, right.0.numbers.1, fit.0.numbers, fit.1.0.numbers);
    depth = cut_depth hole.path false true low high fit.0.depth fit.1.0.depth;
  };
  fit = fit.1.1;
}

pub count_step : (s : Tree) (ss : List Tree) → settled_in (s ∷ ss) ≡ count_of (top s) + settled_in (kids s ++ ss)
count_step leaf ss = omega arith
count_step removed ss = omega arith
count_step (inner to) ss = omega arith
count_step (small to) ss = omega arith
count_step (cut to var at low high) ss = omega arith

short_after : (p : List Bool) (b : Bool) → length p < 200 → length (p ++ b ∷ []) ≤ 200
short_after p b h = let l : length (p ++ b ∷ []) ≡ length p + 1 = length-append p (b ∷ []) in omega (arith, l, h)

pub shorts_after : (hole : Hole) (holes : List Hole) (q : Option Outcome) → IsRightNode hole.path hole.box q → AreShort holes → AreShort (holes_after hole q ++ holes)
shorts_after hole holes None right s = s
shorts_after hole holes (Some Removed) right s = s
shorts_after hole holes (Some (Inner to)) right s = s
shorts_after hole holes (Some (Small to)) right s = s
shorts_after hole holes (Some (Cut to var at)) right s = (short_after hole.path false right.1, (short_after hole.path true right.1, s))

-- ---- Holes that stay open

abbrev pub leaves : List Hole → List Tree
leaves [] = []
leaves (hole ∷ holes) = leaf ∷ leaves holes

pub fit_leaves : (holes : List Hole) → AreShort holes → FitHoles holes (leaves holes)
fit_leaves [] h = tt
fit_leaves (hole ∷ holes) h = (record { paves = tt; numbers = tt; depth = no_depth hole.path h.0 }, fit_leaves holes h.1)

pub count_leaves : (holes : List Hole) → settled_in (leaves holes) ≡ 0
count_leaves [] = refl
count_leaves (hole ∷ holes) = let rest : settled_in (leaves holes) ≡ 0 = count_leaves holes in omega (arith, rest)

-- ---- A node's line has no line feed

abbrev AreOver : List ℕ → Type 0
AreOver [] = Unit {0}
AreOver (c ∷ cs) = (10 < c) × AreOver cs

over_free : (xs : List ℕ) → AreOver xs → IsFree 10 xs
over_free [] h = tt
over_free (c ∷ cs) h = (λ e. omega (arith, h.0, e), over_free cs h.1)

over_append : (xs ys : List ℕ) → AreOver xs → AreOver ys → AreOver (xs ++ ys)
over_append [] ys p q = q
over_append (c ∷ cs) ys p q = (p.0, over_append cs ys p.1 q)

plain_over : (xs : List ℕ) → IsPlain xs → AreOver xs
plain_over [] h = tt
plain_over (c ∷ cs) h = (omega (arith, h.0), plain_over cs h.1)

pair_over : (a b : List ℕ) → IsPlain a → IsPlain b → AreOver (pair_text a b)
pair_over a b p q = (omega arith, over_append a (32 ∷ b) (plain_over a p) (omega arith, plain_over b q))

kept_over : (v : Version) (b to : List Bounds) → IsKeptOf b to → AreOver (kept_text v b to)
kept_over One [] [] k = tt
kept_over Two [] [] k = tt
kept_over v [] (x ∷ xs) k = absurd k
kept_over v (old ∷ b) [] k = absurd k
kept_over v (old ∷ b) (x ∷ xs) k =
    subst AreOver (sym (kept_step v old b x xs))
    (over_append (part_text v old x) (kept_text v b xs)
    (pair_over (end_text v old.lo x.lo) (end_text v old.hi x.hi) (end_text_plain v old.lo x.lo k.0.numbers.lo) (end_text_plain v old.hi x.hi k.0.numbers.hi)) (kept_over v b xs k.1))

cut_over : (var : ℕ) (at : Extended) → var < 2 ^ 64 → IsNumber at → AreOver (cut_text var at)
cut_over var at h g = (omega arith, (omega arith, over_append (decimal var) (32 ∷ number_text at) (plain_over (decimal var) (decimal_plain var h)) (omega arith, plain_over (number_text at) (number_plain at g))))

line_over : (v : Version) (p : List Bool) (b : List Bounds) (q : Option Outcome) → IsRightNode p b q → AreOver (node_line_with (kept_text v b) q)
line_over v p b None r = (omega arith, tt)
line_over v p b (Some Removed) r = (omega arith, tt)
line_over v p b (Some (Inner to)) r = (omega arith, kept_over v b to (kept_inner b to r.0))
line_over v p b (Some (Small to)) r = (omega arith, kept_over v b to (kept_small b to r.0))
line_over v p b (Some (Cut to var at)) r =
    let few : var < 12 = few_places b to var at r.0 in
    over_append (cut_text var at) (kept_text v b to) (cut_over var at (omega (arith, few)) r.0.numbers.1) (kept_over v b to (kept_cut b to var at r.0))

pub line_free : (v : Version) (p : List Bool) (b : List Bounds) (q : Option Outcome) → IsRightNode p b q → IsFree 10 (node_line_with (kept_text v b) q)
line_free v p b q r = over_free (node_line_with (kept_text v b) q) (line_over v p b q r)
