-- Different pavings have different texts.
use Rattle.std.proofs.Common.{◌≡◌, ℕ, suc, ◌<◌, ◌^◌, Bool, true, false, cond, List, [], ◌∷◌, ◌++◌, Option, Some, None, ℤ, refl, sym, ◌∙◌, ap, subst, arith, append_assoc}
use Rattle.std.specs.Prelude.{codes, unsigned_abs}
use Rattle.std.specs.Fmt.{decimal, signed_decimal}
use Rattle.std.specs.Ordering.{eq_by_cmp}
use Rattle.std.proofs.lemmas.Fmt.{decimal_injective, signed_decimal_injective}
use Rattle.std.proofs.lemmas.List.{append_cancel_left}
use Rattle.pv_num.specs.Extended.{Extended, NegInf, Fin, PosInf}
use Rattle.pv_num.specs.Grid.{IsGrid}
use Rattle.pv_num.specs.Order.{order_of}
use Rattle.pv_num.specs.Laws.{same-Decides}
use Rattle.pv_num.specs.Parts.{HasNoColon, number_text, IsNumber, IsValue}
use Rattle.pv_num.proofs.Texts.{IsSpelled, spelling, spelled_text, minus_text, plus_text, minus_only, plus_only, whole_no_colon, fits_mag, some_some, none_some, fin_is, other_head}
use Rattle.pv_interval.specs.Bounds.{Bounds}
use Rattle.pv_box.specs.Boxes.{lower_half, upper_half}
use Rattle.pv_tree.specs.Trees.{Tree, leaf, removed, inner, small, cut, top}
use Rattle.pv_tree.specs.Holes.{Hole}
use Rattle.pv_tree.specs.declared.outcome.Outcome.{Outcome}
use Rattle.pv_tree.specs.declared.outcome.Outcome.TheVariants.{Removed, Inner, Small, Cut}
use Rattle.pv_file.specs.declared.version.Version.{Version}
use Rattle.pv_file.specs.declared.version.Version.TheVariants.{One, Two}
use Rattle.pv_file.specs.Lines.{kept_text, pair_text, line_with, node_line_with, top_line, lines_of}
use Rattle.pv_file.specs.Texts.{identity_text, header_text}
use Rattle.pv_file.specs.Readings.{IsFree, TextsDiffer, OneIdentity}
use Rattle.pv_file.specs.Words.{IsKeptOf, end_text, part_text}
use Rattle.pv_file.specs.Reading.{IsRightNode}
use Rattle.pv_file.proofs.Bytes.{split_once, tails_same, same_words}
use Rattle.pv_interval.proofs.Alike.{same_bounds}
use Rattle.pv_file.proofs.Numbers.{number_plain, end_text_plain, decimal_plain, no_mark}
use Rattle.pv_file.proofs.Ends.{kept_step, kept_ends}
use Rattle.pv_file.proofs.Rights.{kept_inner, kept_small, kept_cut, few_places, line_inner, line_small, line_cut}
use Rattle.pv_file.proofs.Fits.{FitsHole, at_root, fit_down, right_top, line_free}
use Rattle.pv_file.proofs.Steps.{same_line}
use Rattle.pv_file.proofs.Wholes.{same_version, header_first, same_digest}
use Rattle.pv_file.proofs.Headers.{identity_free}

-- ---- Numbers

free_from : (xs : List ℕ) → HasNoColon xs → IsFree 58 xs
free_from [] h = tt
free_from (c ∷ cs) h = (h 0 (omega arith), free_from cs (λ k l e. h (suc k) (omega (arith, l)) e))

no_colon_free : (z : ℤ) → unsigned_abs z < 2 ^ 63 → IsFree 58 (signed_decimal z)
no_colon_free z h = free_from (signed_decimal z) (whole_no_colon z h)

same_value : (m e z y : ℤ) → IsGrid y → IsValue m e z → IsValue m e y → Fin z ≡ Fin y
same_value m e z y g p q = sym (fin_is m e z (Fin y) (y, refl, g, q) p)

same_spelling : (z y m e n f : ℤ) → IsSpelled z m e → IsSpelled y n f → IsGrid y → signed_decimal m ++ 58 ∷ signed_decimal e ≡ signed_decimal n ++ 58 ∷ signed_decimal f → Fin z ≡ Fin y
same_spelling z y m e n f s t g h =
    let split = split_once 58 (signed_decimal m) (signed_decimal n) (58 ∷ signed_decimal e) (58 ∷ signed_decimal f) (no_colon_free m s.m_fits) (no_colon_free n t.m_fits) refl refl h in
    let e_fits : unsigned_abs e < 2 ^ 63 = omega (arith, s.e_fits) in
    let f_fits : unsigned_abs f < 2 ^ 63 = omega (arith, t.e_fits) in
    let whole : m ≡ n = signed_decimal_injective m n (fits_mag m s.m_fits) (fits_mag n t.m_fits) split.0 in
    let power : e ≡ f = signed_decimal_injective e f (fits_mag e e_fits) (fits_mag f f_fits) (tails_same 58 58 (signed_decimal e) (signed_decimal f) split.1) in
    same_value n f z y g (subst (λ (x : ℤ). IsValue n x z) power (subst (λ (x : ℤ). IsValue x e z) whole s.value)) t.value

same_number : (x y : Extended) → IsNumber x → IsNumber y → number_text x ≡ number_text y → x ≡ y
same_number NegInf y g h e = sym (minus_only y h (sym minus_text ∙ e))
same_number (Fin z) NegInf g h e = minus_only (Fin z) g (sym minus_text ∙ sym e)
same_number (Fin z) (Fin y) g h e =
    let s = (spelling z g).spelled in
    let t = (spelling y h).spelled in
    same_spelling z y (spelling z g).m (spelling z g).e (spelling y h).m (spelling y h).e s t h
    (sym (spelled_text z (spelling z g).m (spelling z g).e s) ∙ e ∙ spelled_text y (spelling y h).m (spelling y h).e t)
same_number (Fin z) PosInf g h e = plus_only (Fin z) g (sym plus_text ∙ sym e)
same_number PosInf y g h e = sym (plus_only y h (sym plus_text ∙ e))

same_changes : (old x y : Extended) (a b : Bool) → eq_by_cmp order_of x old ≡ a → eq_by_cmp order_of y old ≡ b → IsNumber x → IsNumber y
    → cond a (codes "=") (number_text x) ≡ cond b (codes "=") (number_text y) → x ≡ y
same_changes old x y true true p q g h e = (same-Decides x old).0 p ∙ sym ((same-Decides y old).0 q)
same_changes old x y true false p q g h e = absurd (no_mark y h e)
same_changes old x y false true p q g h e = absurd (no_mark x g (sym e))
same_changes old x y false false p q g h e = same_number x y g h e

same_end : (v : Version) (old x y : Extended) → IsNumber x → IsNumber y → end_text v old x ≡ end_text v old y → x ≡ y
same_end One old x y g h e = same_number x y g h e
same_end Two old x y g h e = same_changes old x y _ _ refl refl g h e

-- ---- Boxes

same_kept : (v : Version) (b xs ys : List Bounds) → IsKeptOf b xs → IsKeptOf b ys → kept_text v b xs ≡ kept_text v b ys → xs ≡ ys
same_kept v [] [] [] k l e = refl
same_kept v [] [] (y ∷ ys) k l e = absurd l
same_kept v [] (x ∷ xs) ys k l e = absurd k
same_kept v (old ∷ b) [] ys k l e = absurd k
same_kept v (old ∷ b) (x ∷ xs) [] k l e = absurd l
same_kept v (old ∷ b) (x ∷ xs) (y ∷ ys) k l e =
    let whole : part_text v old x ++ kept_text v b xs ≡ part_text v old y ++ kept_text v b ys = sym (kept_step v old b x xs) ∙ e ∙ kept_step v old b y ys in
    let words = same_words _ _ _ _ (kept_text v b xs) (kept_text v b ys) (end_text_plain v old.lo x.lo k.0.numbers.lo) (end_text_plain v old.hi x.hi k.0.numbers.hi)
    (end_text_plain v old.lo y.lo l.0.numbers.lo) (end_text_plain v old.hi y.hi l.0.numbers.hi) (kept_ends v b xs) (kept_ends v b ys) whole in
    let first : x ≡ y = same_bounds x y (same_end v old.lo x.lo y.lo k.0.numbers.lo l.0.numbers.lo words.0) (same_end v old.hi x.hi y.hi k.0.numbers.hi l.0.numbers.hi words.1) in
    let others : xs ≡ ys = same_kept v b xs ys k.1 l.1 words.2 in
    ap (λ (z : Bounds). z ∷ xs) first ∙ ap (λ (zs : List Bounds). y ∷ zs) others

-- ---- Nodes

only_removed : (v : Version) (b : List Bounds) (o : Outcome) → codes "X" ≡ line_with (kept_text v b) o → o ≡ Removed
only_removed v b Removed e = refl
only_removed v b (Inner to) e = absurd (other_head 73 88 (kept_text v b to) [] (omega arith) (sym e))
only_removed v b (Small to) e = absurd (other_head 83 88 (kept_text v b to) [] (omega arith) (sym e))
only_removed v b (Cut to var at) e = absurd (other_head 67 88 _ [] (omega arith) (sym e))

same_cuts : (v : Version) (p : List Bool) (b to to' : List Bounds) (var var' : ℕ) (at at' : Extended) → IsRightNode p b (Some (Cut to var at)) → IsRightNode p b (Some (Cut to' var' at'))
    → line_with (kept_text v b) (Cut to var at) ≡ line_with (kept_text v b) (Cut to' var' at') → Cut to var at ≡ Cut to' var' at'
same_cuts v p b to to' var var' at at' f g e =
    let few : var < 12 = few_places b to var at f.0 in
    let few' : var' < 12 = few_places b to' var' at' g.0 in
    let small : var < 2 ^ 64 = omega (arith, few) in
    let small' : var' < 2 ^ 64 = omega (arith, few') in
    let words = same_words (decimal var) (number_text at) (decimal var') (number_text at') (kept_text v b to) (kept_text v b to') (decimal_plain var small) (number_plain at f.0.numbers.1)
    (decimal_plain var' small') (number_plain at' g.0.numbers.1) (kept_ends v b to) (kept_ends v b to')
    (tails_same 67 67 (pair_text (decimal var) (number_text at) ++ kept_text v b to) (pair_text (decimal var') (number_text at') ++ kept_text v b to') e) in
    let place : var ≡ var' = decimal_injective var var' small small' words.0 in
    let number : at ≡ at' = same_number at at' f.0.numbers.1 g.0.numbers.1 words.1 in
    let kept : to ≡ to' = same_kept v b to to' (kept_cut b to var at f.0) (kept_cut b to' var' at' g.0) words.2 in
    ap (λ (x : List Bounds). Cut x var at) kept ∙ ap (λ (x : ℕ). Cut to' x at) place ∙ ap (λ (x : Extended). Cut to' var' x) number

same_outcome : (v : Version) (p : List Bool) (b : List Bounds) (o q : Outcome) → IsRightNode p b (Some o) → IsRightNode p b (Some q)
    → line_with (kept_text v b) o ≡ line_with (kept_text v b) q → o ≡ q
same_outcome v p b Removed q f g e = sym (only_removed v b q e)
same_outcome v p b (Inner to) q f g e =
    let i = line_inner v b (73 ∷ kept_text v b to) (kept_text v b to) q refl e in
    let right : IsRightNode p b (Some (Inner i.0)) = subst (λ (x : Outcome). IsRightNode p b (Some x)) i.1 g in
    ap Inner (same_kept v b to i.0 (kept_inner b to f.0) (kept_inner b i.0 right.0) i.2) ∙ sym i.1
same_outcome v p b (Small to) q f g e =
    let i = line_small v b (83 ∷ kept_text v b to) (kept_text v b to) q refl e in
    let right : IsRightNode p b (Some (Small i.0)) = subst (λ (x : Outcome). IsRightNode p b (Some x)) i.1 g in
    ap Small (same_kept v b to i.0 (kept_small b to f.0) (kept_small b i.0 right.0) i.2) ∙ sym i.1
same_outcome v p b (Cut to var at) q f g e =
    let i = line_cut v b (line_with (kept_text v b) (Cut to var at)) _ q refl e in
    let right : IsRightNode p b (Some (Cut i.0 i.1 i.2)) = subst (λ (x : Outcome). IsRightNode p b (Some x)) i.3 g in
    same_cuts v p b to i.0 var i.1 at i.2 f right (e ∙ ap (line_with (kept_text v b)) i.3) ∙ sym i.3

not_open : (v : Version) (b : List Bounds) (o : Outcome) → codes "O" ≡ line_with (kept_text v b) o → ⊥
not_open v b Removed e = other_head 79 88 [] [] (omega arith) e
not_open v b (Inner to) e = other_head 73 79 (kept_text v b to) [] (omega arith) (sym e)
not_open v b (Small to) e = other_head 79 83 [] (kept_text v b to) (omega arith) e
not_open v b (Cut to var at) e = other_head 67 79 _ [] (omega arith) (sym e)

pub same_node : (v : Version) (p : List Bool) (b : List Bounds) (o q : Option Outcome) → IsRightNode p b o → IsRightNode p b q
    → node_line_with (kept_text v b) o ≡ node_line_with (kept_text v b) q → o ≡ q
same_node v p b None None f g e = refl
same_node v p b None (Some q) f g e = absurd (not_open v b q e)
same_node v p b (Some o) None f g e = absurd (not_open v b o (sym e))
same_node v p b (Some o) (Some q) f g e = ap Some (same_outcome v p b o q f g e)

-- ---- Trees

leaf_only : (t : Tree) → None ≡ top t → leaf ≡ t
leaf_only leaf e = refl
leaf_only removed e = absurd (none_some _ e)
leaf_only (inner to) e = absurd (none_some _ e)
leaf_only (small to) e = absurd (none_some _ e)
leaf_only (cut to var at low high) e = absurd (none_some _ e)

abbrev tree_of : Outcome → Tree
tree_of Removed = removed
tree_of (Inner to) = inner to
tree_of (Small to) = small to
tree_of (Cut to var at) = cut to var at leaf leaf

abbrev is_a_cut : Outcome → Bool
is_a_cut Removed = false
is_a_cut (Inner to) = false
is_a_cut (Small to) = false
is_a_cut (Cut to var at) = true

-- A settled node that is no cut is told by its outcome.
plain_only : (o : Outcome) (t : Tree) → is_a_cut o ≡ false → Some o ≡ top t → tree_of o ≡ t
plain_only o leaf p e = absurd (none_some o (sym e))
plain_only o removed p e = ap tree_of (some_some o Removed e)
plain_only o (inner to) p e = ap tree_of (some_some o (Inner to) e)
plain_only o (small to) p e = ap tree_of (some_some o (Small to) e)
plain_only o (cut to var at low high) p e =
    let yes : is_a_cut o ≡ true = ap is_a_cut (some_some o (Cut to var at) e) in cc

record CutOnly (to : List Bounds) (var : ℕ) (at : Extended) (t : Tree) : Type 0 where
  pub low : Tree
  pub high : Tree
  pub is : t ≡ cut to var at low high

abbrev recut : Tree → Tree → Outcome → Tree
recut low high Removed = removed
recut low high (Inner to) = inner to
recut low high (Small to) = small to
recut low high (Cut to var at) = cut to var at low high

no_cut : (o : Outcome) (to : List Bounds) (var : ℕ) (at : Extended) → is_a_cut o ≡ false → Some (Cut to var at) ≡ Some o → ⊥
no_cut o to var at p e = let yes : true ≡ is_a_cut o = ap is_a_cut (some_some (Cut to var at) o e) in cc

cut_only : (to : List Bounds) (var : ℕ) (at : Extended) (t : Tree) → Some (Cut to var at) ≡ top t → CutOnly to var at t
cut_only to var at leaf e = absurd (none_some _ (sym e))
cut_only to var at removed e = absurd (no_cut Removed to var at refl e)
cut_only to var at (inner x) e = absurd (no_cut (Inner x) to var at refl e)
cut_only to var at (small x) e = absurd (no_cut (Small x) to var at refl e)
cut_only to var at (cut x w a low high) e = record { low = low; high = high; is = sym (ap (recut low high) (some_some (Cut to var at) (Cut x w a) e)) }

abbrev below : Version → Tree → List ℕ
below v leaf = []
below v removed = []
below v (inner to) = []
below v (small to) = []
below v (cut to var at low high) = lines_of v (lower_half to var at) low ++ lines_of v (upper_half to var at) high

split_lines : (v : Version) (b : List Bounds) (s : Tree) (r : List ℕ) → lines_of v b s ++ r ≡ top_line v b s ++ 10 ∷ (below v s ++ r)
split_lines v b leaf r = append_assoc (top_line v b leaf) (10 ∷ []) r
split_lines v b removed r = append_assoc (top_line v b removed) (10 ∷ []) r
split_lines v b (inner to) r = append_assoc (top_line v b (inner to)) (10 ∷ []) r
split_lines v b (small to) r = append_assoc (top_line v b (small to)) (10 ∷ []) r
split_lines v b (cut to var at low high) r = append_assoc (top_line v b (cut to var at low high)) (10 ∷ below v (cut to var at low high)) r

-- The first nodes are the same, and so is what follows.
first_same : (v : Version) (hole : Hole) (s t : Tree) (r q : List ℕ) → FitsHole hole s → FitsHole hole t → lines_of v hole.box s ++ r ≡ lines_of v hole.box t ++ q
    → (top s ≡ top t) × (below v s ++ r ≡ below v t ++ q)
first_same v hole s t r q f g e =
    let rs : IsRightNode hole.path hole.box (top s) = right_top hole s f in
    let rt : IsRightNode hole.path hole.box (top t) = right_top hole t g in
    let lines = same_line _ (top_line v hole.box s) (top_line v hole.box t) (below v s ++ r) (below v t ++ q) (line_free v hole.path hole.box (top s) rs)
    (line_free v hole.path hole.box (top t) rt) (split_lines v hole.box s r) (e ∙ split_lines v hole.box t q) in
    (same_node v hole.path hole.box (top s) (top t) rs rt lines.0, lines.1)

no_more : (v : Version) (s t : Tree) (r q : List ℕ) → s ≡ t → below v s ++ r ≡ below v t ++ q → below v s ++ r ≡ below v s ++ q
no_more v s t r q e f = f ∙ ap (λ (x : Tree). below v x ++ q) (sym e)

same_tree : (v : Version) (hole : Hole) (s t : Tree) (r q : List ℕ) → FitsHole hole s → FitsHole hole t → lines_of v hole.box s ++ r ≡ lines_of v hole.box t ++ q → (s ≡ t) × (r ≡ q)
same_tree v hole leaf t r q f g e =
    let first = first_same v hole leaf t r q f g e in
    let is : leaf ≡ t = leaf_only t first.0 in (is, no_more v leaf t r q is first.1)
same_tree v hole removed t r q f g e =
    let first = first_same v hole removed t r q f g e in
    let is : removed ≡ t = plain_only Removed t refl first.0 in (is, no_more v removed t r q is first.1)
same_tree v hole (inner to) t r q f g e =
    let first = first_same v hole (inner to) t r q f g e in
    let is : inner to ≡ t = plain_only (Inner to) t refl first.0 in (is, no_more v (inner to) t r q is first.1)
same_tree v hole (small to) t r q f g e =
    let first = first_same v hole (small to) t r q f g e in
    let is : small to ≡ t = plain_only (Small to) t refl first.0 in (is, no_more v (small to) t r q is first.1)
same_tree v hole (cut to var at low high) t r q f g e =
    let first = first_same v hole (cut to var at low high) t r q f g e in
    let other = cut_only to var at t first.0 in
    let fits : FitsHole hole (cut to var at other.low other.high) = subst (λ (x : Tree). FitsHole hole x) other.is g in
    let mine = fit_down hole [] (cut to var at low high) [] f tt in
    let its = fit_down hole [] (cut to var at other.low other.high) [] fits tt in
    let whole : (lines_of v (lower_half to var at) low ++ lines_of v (upper_half to var at) high) ++ r
    ≡ (lines_of v (lower_half to var at) other.low ++ lines_of v (upper_half to var at) other.high) ++ q = first.1 ∙ ap (λ (x : Tree). below v x ++ q) other.is in
    let one = same_tree v (record { path = hole.path ++ false ∷ []; box = lower_half to var at }) low other.low (lines_of v (upper_half to var at) high ++ r)
    (lines_of v (upper_half to var at) other.high ++ q) mine.0 its.0
    (sym (append_assoc (lines_of v (lower_half to var at) low) _ r) ∙ whole ∙ append_assoc (lines_of v (lower_half to var at) other.low) _ q) in
    let two = same_tree v (record { path = hole.path ++ true ∷ []; box = upper_half to var at }) high other.high r q mine.1.0 its.1.0 one.1 in
    (ap (λ (x : Tree). cut to var at x high) one.0 ∙ ap (λ (x : Tree). cut to var at other.low x) two.0 ∙ sym other.is, two.1)

pub texts-differ : TextsDiffer
texts-differ v identity b s t p q e =
    (same_tree v (record { path = []; box = b }) s t [] [] (at_root b s p) (at_root b t q)
    (ap (λ (x : List ℕ). x ++ []) (append_cancel_left (header_text v identity) (lines_of v b s) (lines_of v b t) e))).0

pub one-identity : OneIdentity
one-identity v w d other b s t h k e =
    let mine = header_first v d (lines_of v b s) in
    let its = header_first w other (lines_of w b t) in
    let first = same_version _ v w (identity_text d ++ 10 ∷ lines_of v b s) (identity_text other ++ 10 ∷ lines_of w b t) mine (e ∙ its) in
    let second = same_line _ (identity_text d) (identity_text other) (lines_of v b s) (lines_of w b t) (identity_free d h) (identity_free other k) refl first.1 in
    (first.0, same_digest d other h k second.0)
