-- The lines of settled nodes are short, and so are files.
use Rattle.std.proofs.Common.{◌≡◌, ℕ, zero, suc, ◌+◌, ◌*◌, ◌%◌, ◌^◌, ◌<◌, ◌≤◌, Bool, true, false, cond, List, [], ◌∷◌, ◌++◌, length, Option, Some, codes, decimal, ℤ, pos, negsuc, neg_ℤ, ◌-ℤ◌, refl, sym, subst, inl, inr, arith, length-append}
use Rattle.std.specs.Fmt.{signed_decimal}
use Rattle.std.specs.Ordering.{eq_by_cmp}
use Rattle.std.proofs.lemmas.Fmt.{length_signed_le, length-decimal-le}
use Rattle.std.proofs.lemmas.Int.{ints}
use Rattle.std.proofs.lemmas.Bool.{cases_lt}
use Rattle.std.proofs.lemmas.Nat.{pow_pos, pow-add}
use Rattle.std.proofs.Math.Nat.{pow-le-pow_right, mul-le-mul_right, mul-le-mul_left, le_of_mul-le-mul_right}
use Rattle.hex.specs.Hex.{encode_lower, lower_digits}
use Rattle.hex.proofs.HexLemmas.{length-encode_with}
use lib.Signed.{mag}
use Rattle.pv_num.specs.Extended.{Extended, NegInf, Fin, PosInf}
use Rattle.pv_num.specs.Grid.{IsGridSize}
use Rattle.pv_num.specs.Order.{order_of}
use Rattle.pv_num.specs.Parts.{number_text, parts_text, odd_of, twos, IsNumber}
use Rattle.pv_num.specs.declared.convert.Parts.TheVariants.{Fin as FinParts}
use Rattle.pv_num.proofs.Canonical.{twos-greatest, odd_of-value, odd_of-odd}
use Rattle.pv_num.proofs.Texts.{none_some}
use Rattle.pv_interval.specs.Bounds.{Bounds}
use Rattle.pv_box.specs.Boxes.{lower_half, upper_half}
use Rattle.pv_tree.specs.Trees.{Tree, leaf, removed, inner, small, cut, top, box_of, outcome_at}
use Rattle.pv_tree.specs.Holes.{Hole}
use Rattle.pv_tree.specs.declared.outcome.Outcome.{Outcome}
use Rattle.pv_tree.specs.declared.outcome.Outcome.TheVariants.{Removed, Inner, Small, Cut}
use Rattle.pv_file.specs.declared.version.Version.{Version}
use Rattle.pv_file.specs.declared.version.Version.TheVariants.{One, Two}
use Rattle.pv_file.specs.Lines.{pair_text, ends_text, change_text, changes_text, kept_text, cut_text, line_with, lines_of}
use Rattle.pv_file.specs.Texts.{IsDigest, version_text, identity_text, header_text}
use Rattle.pv_file.specs.Readings.{HaveNumberEnds, IsRightFor, settled_count}
use Rattle.pv_file.specs.Reading.{IsRightNode}
use Rattle.pv_file.specs.Lengths.{open_count, LinesAreShort, OpenLeavesAreFew, FilesAreShort, FilesHaveLimit, FilesAreRead}
use Rattle.pv_file.proofs.Rights.{few_places}
use Rattle.pv_file.proofs.Fits.{FitsHole, at_root, fit_down, right_top}

-- ---- The canonical parts of a number are small

odd_small : (n m k : ℕ) → 0 < n → n ≡ m * 2 ^ k → odd_of n ≤ m
odd_small n m k p e =
    let le : k ≤ twos n = twos-greatest n m k p (sym e) in
    let wide : 2 ^ k ≤ 2 ^ twos n = pow-le-pow_right (omega arith) le in
    let scaled : odd_of n * 2 ^ k ≤ odd_of n * 2 ^ twos n = mul-le-mul_left (odd_of n) wide in
    le_of_mul-le-mul_right (omega (arith, scaled, odd_of-value n, e)) (pow_pos k)

odd_some : (n : ℕ) → 0 < n → 1 ≤ odd_of n
odd_some n p = let o : odd_of n % 2 ≡ 1 = odd_of-odd n p in omega (arith, o)

few_twos : (n m k a b : ℕ) → 0 < n → n ≡ m * 2 ^ k → m < 2 ^ a → k ≤ b → twos n < a + b
few_twos n m k a b p e l le = elim (cases_lt (twos n) (a + b)) [
  | inl h ↦ h
  | inr h ↦
      let wide : 2 ^ (a + b) ≤ 2 ^ twos n = pow-le-pow_right (omega arith) h in
      let once : 1 * 2 ^ twos n ≤ odd_of n * 2 ^ twos n = mul-le-mul_right (2 ^ twos n) (odd_some n p) in
      let power : 2 ^ k ≤ 2 ^ b = pow-le-pow_right (omega arith) le in
      let outer : m * 2 ^ k ≤ m * 2 ^ b = mul-le-mul_left m power in
      let sum : 2 ^ (a + b) ≡ 2 ^ a * 2 ^ b = pow-add 2 a b in
      let below : 2 ^ a * 2 ^ b ≤ m * 2 ^ b = omega (arith, wide, once, outer, sum, odd_of-value n, e) in
      let small : 2 ^ a ≤ m = le_of_mul-le-mul_right below (pow_pos b) in
      absurd (omega (arith, small, l))
]

record AreSmall (n : ℕ) : Type 0 where
  odd : odd_of n < 2 ^ 62
  twos : twos n < 1024

small_parts : (n : ℕ) → 0 < n → IsGridSize n → AreSmall n
small_parts n p g = record {
  odd = let l : odd_of n ≤ g.mantissa = odd_small n g.mantissa g.exponent p g.value in omega (arith, l, g.mantissa_fits);
  twos = few_twos n g.mantissa g.exponent 62 962 p g.value g.mantissa_fits g.exponent_fits;
}

-- ---- Their text is short

near : (z : ℤ) (t : ℕ) → z ≡ pos t -ℤ pos 512 → t < 1024 → mag z < 600
near (pos n) t e l = omega (arith, ints, e, l)
near (negsuc n) t e l = omega (arith, ints, e, l)

exponent_near : (t : ℕ) → t < 1024 → mag (pos t -ℤ pos 512) + 1 < 10 ^ 3
exponent_near t l = let n : mag (pos t -ℤ pos 512) < 600 = near (pos t -ℤ pos 512) t refl l in omega (arith, n)

exponent_word : (t : ℕ) → t < 1024 → mag (pos t -ℤ pos 512) < 2 ^ 63
exponent_word t l = let n : mag (pos t -ℤ pos 512) < 600 = near (pos t -ℤ pos 512) t refl l in omega (arith, n)

joined : (m e : List ℕ) → length m ≤ 20 → length e ≤ 4 → length (m ++ 58 ∷ e) ≤ 25
joined m e a b = omega (arith, length-append m (58 ∷ e), a, b)

two_parts : (m : ℤ) (t : ℕ) → mag m < 2 ^ 62 → t < 1024 → length (parts_text (FinParts m (pos t -ℤ pos 512))) ≤ 25
two_parts m t a b =
    joined (signed_decimal m) (signed_decimal (pos t -ℤ pos 512)) (length_signed_le 19 m (omega (arith, a)) (omega (arith, a)))
    (length_signed_le 3 (pos t -ℤ pos 512) (exponent_near t b) (exponent_word t b))

mag_neg : (n b : ℕ) → n < b → mag (neg_ℤ (pos n)) < b
mag_neg zero b l = l
mag_neg (suc n) b l = omega (arith, l)

few : (xs : List ℕ) (n : ℕ) → length xs ≡ n → n ≤ 25 → length xs ≤ 25
few xs n e l = omega (arith, e, l)

nought : length (parts_text (FinParts (pos 0) (pos 0))) ≤ 25
nought = joined (signed_decimal (pos 0)) (signed_decimal (pos 0)) (length_signed_le 19 (pos 0) (omega arith) (omega arith)) (length_signed_le 3 (pos 0) (omega arith) (omega arith))

short_number : (x : Extended) → IsNumber x → length (number_text x) ≤ 25
unfolding number_text
short_number NegInf h = few (codes "-oo") 3 refl (omega arith)
short_number PosInf h = few (codes "+oo") 3 refl (omega arith)
short_number (Fin (pos zero)) h = nought
short_number (Fin (pos (suc n))) h = let s : AreSmall (suc n) = small_parts (suc n) (omega arith) h in two_parts (pos (odd_of (suc n))) (twos (suc n)) s.odd s.twos
short_number (Fin (negsuc n)) h =
    let s : AreSmall (suc n) = small_parts (suc n) (omega arith) h in
    two_parts (neg_ℤ (pos (odd_of (suc n)))) (twos (suc n)) (mag_neg (odd_of (suc n)) (2 ^ 62) s.odd) s.twos

short_change : (b : Bool) (x : Extended) → IsNumber x → length (cond b (codes "=") (number_text x)) ≤ 25
short_change true x h = omega arith
short_change false x h = short_number x h

-- ---- Lines are short

more_ends : (low high ends : List ℕ) (n : ℕ) → length low ≤ 25 → length high ≤ 25 → length ends ≤ n * 52 → length (pair_text low high ++ ends) ≤ suc n * 52
more_ends low high ends n h k l = omega (arith, length-append (pair_text low high) ends, length-append low (32 ∷ high), h, k, l)

short_ends : (v : Version) (b to : List Bounds) → HaveNumberEnds to → length (kept_text v b to) ≤ length to * 52
short_ends One b [] h = omega arith
short_ends One b (x ∷ xs) h =
    more_ends (number_text x.lo) (number_text x.hi) (ends_text xs) (length xs) (short_number x.lo h.0.lo) (short_number x.hi h.0.hi) (short_ends One b xs h.1)
short_ends Two [] to h = omega arith
short_ends Two (old ∷ b) [] h = omega arith
short_ends Two (old ∷ b) (x ∷ xs) h =
    more_ends (change_text old.lo x.lo) (change_text old.hi x.hi) (changes_text b xs) (length xs) (short_change (eq_by_cmp order_of x.lo old.lo) x.lo h.0.lo)
    (short_change (eq_by_cmp order_of x.hi old.hi) x.hi h.0.hi) (short_ends Two b xs h.1)

-- An inner or a small node's line, without its line feed.
pub short_line : (v : Version) (b to : List Bounds) (letter : ℕ) → HaveNumberEnds to → length to ≤ 12 → length (letter ∷ kept_text v b to) < 660
short_line v b to letter h l = omega (arith, short_ends v b to h, l)

front_length : (var at ends : List ℕ) → length var ≤ 2 → length at ≤ 25 → length ends ≤ 624 → length ((codes "C " ++ (var ++ (codes " " ++ at))) ++ ends) < 660
front_length var at ends h k l =
    omega (arith, length-append (codes "C " ++ (var ++ (codes " " ++ at))) ends, length-append var (codes " " ++ at), h, k, l)

-- A cut's line, without its line feed.
pub short_cut : (v : Version) (b to : List Bounds) (var : ℕ) (at : Extended) → HaveNumberEnds to → length to ≤ 12 → var < 12 → IsNumber at
    → length (cut_text var at ++ kept_text v b to) < 660
short_cut v b to var at h l few n =
    front_length (decimal var) (number_text at) (kept_text v b to) (length-decimal-le 2 var (omega arith) (omega (arith, few)) (omega (arith, few)))
    (short_number at n) (omega (arith, short_ends v b to h, l))

with_feed : (line : List ℕ) → length line < 660 → length (line ++ 10 ∷ []) ≤ 660
with_feed line h = omega (arith, length-append line (10 ∷ []), h)

short_node : (v : Version) (b : List Bounds) (o : Outcome) → IsRightFor b o → length (line_with (kept_text v b) o ++ 10 ∷ []) ≤ 660
short_node v b Removed r = omega arith
short_node v b (Inner to) r = with_feed (73 ∷ kept_text v b to) (short_line v b to 73 r.numbers r.keeps.few)
short_node v b (Small to) r = with_feed (83 ∷ kept_text v b to) (short_line v b to 83 r.numbers r.keeps.few)
short_node v b (Cut to var at) r =
    with_feed (cut_text var at ++ kept_text v b to) (short_cut v b to var at r.numbers.0 r.keeps.few (few_places b to var at r) r.numbers.1)

-- ---- Lines of a tree's nodes

settled_here : (hole : Hole) (t : Tree) (o : Outcome) → FitsHole hole t → top t ≡ Some o → IsRightFor hole.box o
settled_here hole t o f e = (subst (λ (q : Option Outcome). IsRightNode hole.path hole.box q) e (right_top hole t f)).0

settled_at : (hole : Hole) (t : Tree) (p : List Bool) (o : Outcome) → FitsHole hole t → outcome_at t p ≡ Some o → IsRightFor (box_of hole.box t p) o
settled_at hole t [] o f e = settled_here hole t o f e
settled_at hole leaf (s ∷ p) o f e = absurd (none_some o e)
settled_at hole removed (s ∷ p) o f e = absurd (none_some o e)
settled_at hole (inner to) (s ∷ p) o f e = absurd (none_some o e)
settled_at hole (small to) (s ∷ p) o f e = absurd (none_some o e)
settled_at hole (cut to var at low high) (false ∷ p) o f e = settled_at _ low p o (fit_down hole [] (cut to var at low high) [] f tt).0 e
settled_at hole (cut to var at low high) (true ∷ p) o f e = settled_at _ high p o (fit_down hole [] (cut to var at low high) [] f tt).1.0 e

pub lines-short : LinesAreShort
lines-short v b t p o paving e = short_node v (box_of b t p) o (settled_at (record { path = []; box = b }) t p o (at_root b t paving) e)

-- ---- Files

pub leaves-few : OpenLeavesAreFew
leaves-few leaf = omega arith
leaves-few removed = omega arith
leaves-few (inner to) = omega arith
leaves-few (small to) = omega arith
leaves-few (cut to var at low high) = omega (arith, leaves-few low, leaves-few high)

cut_and_halves : (line low high : List ℕ) (s t m n : ℕ) → length (line ++ 10 ∷ []) ≤ 660 → length low ≤ 660 * s + 2 * m → length high ≤ 660 * t + 2 * n
    → length (line ++ (10 ∷ (low ++ high))) ≤ 660 * (1 + (s + t)) + 2 * (m + n)
cut_and_halves line low high s t m n h k l =
    omega (arith, length-append line (10 ∷ (low ++ high)), length-append line (10 ∷ []), length-append low high, h, k, l)

tree_short : (v : Version) (hole : Hole) (t : Tree) → FitsHole hole t → length (lines_of v hole.box t) ≤ 660 * settled_count t + 2 * open_count t
tree_short v hole leaf f = omega arith
tree_short v hole removed f = omega arith
tree_short v hole (inner to) f = short_node v hole.box (Inner to) (settled_here hole (inner to) (Inner to) f refl)
tree_short v hole (small to) f = short_node v hole.box (Small to) (settled_here hole (small to) (Small to) f refl)
tree_short v hole (cut to var at low high) f =
    let down = fit_down hole [] (cut to var at low high) [] f tt in
    let here = short_node v hole.box (Cut to var at) (settled_here hole (cut to var at low high) (Cut to var at) f refl) in
    let first = tree_short v (record { path = hole.path ++ false ∷ []; box = lower_half to var at }) low down.0 in
    let second = tree_short v (record { path = hole.path ++ true ∷ []; box = upper_half to var at }) high down.1.0 in
    let whole = cut_and_halves (cut_text var at ++ kept_text v hole.box to) (lines_of v (lower_half to var at) low) (lines_of v (upper_half to var at) high)
    (settled_count low) (settled_count high) (open_count low) (open_count high) here first second in
    omega (arith, whole)

version_length : (v : Version) → length (version_text v) ≡ 8
version_length One = refl
version_length Two = refl

header_length : (v : Version) (d : List ℕ) → IsDigest d → length (header_text v d) ≡ 83
header_length v d h =
    let first : length (version_text v) ≡ 8 = version_length v in
    let digits : length (encode_lower d) ≡ 2 * length d = length-encode_with lower_digits d in
    omega (arith, first, digits, h.count, length-append (version_text v) (10 ∷ (identity_text d ++ 10 ∷ [])), length-append (identity_text d) (10 ∷ []))

pub files-short : FilesAreShort
files-short v d b t h paving =
    omega (arith, length-append (header_text v d) (lines_of v b t), header_length v d h, tree_short v (record { path = []; box = b }) t (at_root b t paving))

pub files-limit : FilesHaveLimit
files-limit n v d b t h paving few = omega (arith, files-short v d b t h paving, leaves-few t, few)

pub files-read : FilesAreRead
files-read n v d b t h paving few = omega (arith, files-limit n v d b t h paving few)
