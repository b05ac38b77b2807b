-- Full trees and stages of a lawful rule: they pave, they are sound, and a step leads from stage to stage.
use Rattle.std.proofs.Common.{◌≡◌, inl, inr, ℕ, zero, suc, ◌+◌, ◌-◌, ◌<◌, ◌≤◌, Bool, true, false, Some, None, List, [], ◌∷◌, ◌++◌, map, length, get_or, set, length-set, get_or-set_same, get_or-set_other, if◌then◌else◌, refl, sym, ◌∙◌, ap, arith, subst}
use Rattle.std.specs.Prelude.{All}
use Rattle.pv_num.specs.Extended.{Extended, NegInf, Fin, PosInf}
use Rattle.std.proofs.lemmas.Bool.Decides.{eqb_tells}
use Rattle.pv_num.specs.Order.{order_of}
use Rattle.pv_interval.specs.Bounds.{Bounds, IsInterval, between}
use Rattle.pv_interval.specs.Points.{Point}
use Rattle.pv_box.specs.Boxes.{IsBox, lower_half, upper_half}
use Rattle.pv_tree.specs.Trees.{Tree, leaf, removed, inner, small, cut, top, subtree, outcome_at, graft, box_of, opens, settled, Paves, Fits, KeepsBox, CutsAbove, HasDepth, IsStrictlyInside, IsBetween}
use Rattle.pv_tree.specs.Stages.{Rule, full, full_of, Grows, IsStage, IsStageFrom}
use Rattle.pv_tree.specs.Sets.{IsSound, IsSoundOutcome}
use Rattle.pv_tree.specs.Laws.{IsLawful}
use Rattle.pv_tree.specs.declared.outcome.Outcome.{Outcome}
use Rattle.pv_tree.specs.declared.outcome.Outcome.TheVariants.{Removed, Inner, Small, Cut}
use Rattle.pv_tree.proofs.Wholes.{half_length, within_length}
use Rattle.pv_tree.proofs.Halves.{inside_there, inside_place, lower_set, upper_set, less_is_le}

-- the full tree by its outcome at the root
abbrev pub rest : Rule → ℕ → List Bounds → ℕ → Tree
rest rule zero b k = leaf
rest rule (suc d) b k = full rule d b k

abbrev pub grown : Rule → ℕ → ℕ → Outcome → Tree
grown rule d k Removed = removed
grown rule d k (Inner to) = inner to
grown rule d k (Small to) = small to
grown rule d k (Cut to v a) = cut to v a (rest rule d (lower_half to v a) (suc k)) (rest rule d (upper_half to v a) (suc k))

settled_grown : (rule : Rule) (k : ℕ) (o : Outcome) → settled o ≡ grown rule zero k o
settled_grown rule k Removed = refl
settled_grown rule k (Inner to) = refl
settled_grown rule k (Small to) = refl
settled_grown rule k (Cut to v a) = refl

pub full-is : (rule : Rule) (d : ℕ) (b : List Bounds) (k : ℕ) (o : Outcome) → rule b d k ≡ o → full rule d b k ≡ grown rule d k o
unfolding full
full-is rule zero b k o e = ap settled e ∙ settled_grown rule k o
full-is rule (suc d) b k o e = ap (grown rule (suc d) k) e

pub record IsCut (t : Tree) (to : List Bounds) (v : ℕ) (a : Extended) : Type 0 where
  pub low : Tree
  pub high : Tree
  pub is : t ≡ cut to v a low high

pub top_removed : (t : Tree) → top t ≡ Some Removed → t ≡ removed
top_removed leaf e = cc
top_removed removed e = refl
top_removed (inner x) e = cc
top_removed (small x) e = cc
top_removed (cut x w b l r) e = cc

pub top_inner : (t : Tree) (to : List Bounds) → top t ≡ Some (Inner to) → t ≡ inner to
top_inner leaf to e = cc
top_inner removed to e = cc
top_inner (inner x) to e = let w : x ≡ to = cc in ap inner w
top_inner (small x) to e = cc
top_inner (cut x w b l r) to e = cc

pub top_small : (t : Tree) (to : List Bounds) → top t ≡ Some (Small to) → t ≡ small to
top_small leaf to e = cc
top_small removed to e = cc
top_small (inner x) to e = cc
top_small (small x) to e = let w : x ≡ to = cc in ap small w
top_small (cut x w b l r) to e = cc

pub top_cut : (t : Tree) (to : List Bounds) (v : ℕ) (a : Extended) → top t ≡ Some (Cut to v a) → IsCut t to v a
top_cut leaf to v a e = cc
top_cut removed to v a e = cc
top_cut (inner x) to v a e = cc
top_cut (small x) to v a e = cc
top_cut (cut x w b l r) to v a e =
    let p : x ≡ to = cc in let q : w ≡ v = cc in let s : b ≡ a = cc in
    record { low = l; high = r; is = λ i. cut (p i) (q i) (s i) l r }

pub grows_low : (to to' : List Bounds) (v v' : ℕ) (a a' : Extended) (l r m n : Tree) → Grows (cut to v a l r) (cut to' v' a' m n) → Grows l m
grows_low to to' v v' a a' l r m n h p o e = h (false ∷ p) o e

pub grows_high : (to to' : List Bounds) (v v' : ℕ) (a a' : Extended) (l r m n : Tree) → Grows (cut to v a l r) (cut to' v' a' m n) → Grows r n
grows_high to to' v v' a a' l r m n h p o e = h (true ∷ p) o e

pub grows_leaf : (t : Tree) → Grows leaf t
grows_leaf t [] o e = cc
grows_leaf t (b ∷ p) o e = cc

pub grows_self : (t : Tree) → Grows t t
grows_self t p o e = e

pub grows_cut : (to : List Bounds) (v : ℕ) (a : Extended) (l r m n : Tree) → Grows l m → Grows r n → Grows (cut to v a l r) (cut to v a m n)
grows_cut to v a l r m n h k [] o e = e
grows_cut to v a l r m n h k (false ∷ p) o e = h p o e
grows_cut to v a l r m n h k (true ∷ p) o e = k p o e

pub grows_on : (r s t : Tree) → Grows r s → Grows s t → Grows r t
grows_on r s t h k p o e = k p o (h p o e)

-- a part of a sound paving is sound
pub grows_sound : (inside : Point → Type 0) (b : List Bounds) (s t : Tree) → Grows s t → IsSound inside b t → IsSound inside b s
grows_sound inside b leaf t h k = tt
grows_sound inside b removed t h k = subst (IsSound inside b) (top_removed t (h [] Removed refl)) k
grows_sound inside b (inner to) t h k = subst (IsSound inside b) (top_inner t to (h [] (Inner to) refl)) k
grows_sound inside b (small to) t h k = subst (IsSound inside b) (top_small t to (h [] (Small to) refl)) k
grows_sound inside b (cut to v a l r) t h k =
    let c : IsCut t to v a = top_cut t to v a (h [] (Cut to v a) refl) in
    let g : Grows (cut to v a l r) (cut to v a c.low c.high) = subst (Grows (cut to v a l r)) c.is h in
    let s : IsSound inside b (cut to v a c.low c.high) = subst (IsSound inside b) c.is k in (
      s.0,
      grows_sound inside (lower_half to v a) l c.low (grows_low to to v v a a l r c.low c.high g) s.1,
      grows_sound inside (upper_half to v a) r c.high (grows_high to to v v a a l r c.low c.high g) s.2,
    )

-- and a part of a paving paves
pub grows_paves : (b : List Bounds) (s t : Tree) → Grows s t → Paves b t → Paves b s
grows_paves b leaf t h k = tt
grows_paves b removed t h k = tt
grows_paves b (inner to) t h k = subst (Paves b) (top_inner t to (h [] (Inner to) refl)) k
grows_paves b (small to) t h k = subst (Paves b) (top_small t to (h [] (Small to) refl)) k
grows_paves b (cut to v a l r) t h k =
    let c : IsCut t to v a = top_cut t to v a (h [] (Cut to v a) refl) in
    let g : Grows (cut to v a l r) (cut to v a c.low c.high) = subst (Grows (cut to v a l r)) c.is h in
    let s : Paves b (cut to v a c.low c.high) = subst (Paves b) c.is k in (
      s.0,
      s.1,
      s.2,
      grows_paves (lower_half to v a) l c.low (grows_low to to v v a a l r c.low c.high g) s.3,
      grows_paves (upper_half to v a) r c.high (grows_high to to v v a a l r c.low c.high g) s.4,
    )

map_empty : (b : Bool) (xs : List (List Bool)) → map (λ p. b ∷ p) xs ≡ [] → xs ≡ []
map_empty b [] e = refl
map_empty b (x ∷ xs) e = cc

first_empty : (xs ys : List (List Bool)) → xs ++ ys ≡ [] → xs ≡ []
first_empty [] ys e = refl
first_empty (x ∷ xs) ys e = cc

second_empty : (xs ys : List (List Bool)) → xs ++ ys ≡ [] → ys ≡ []
second_empty [] ys e = e
second_empty (x ∷ xs) ys e = cc

-- what has no open leaf has grown as far as it can
pub grown_whole : (s t : Tree) → Grows s t → opens s ≡ [] → s ≡ t
grown_whole leaf t h e = cc
grown_whole removed t h e = sym (top_removed t (h [] Removed refl))
grown_whole (inner to) t h e = sym (top_inner t to (h [] (Inner to) refl))
grown_whole (small to) t h e = sym (top_small t to (h [] (Small to) refl))
grown_whole (cut to v a l r) t h e =
    let c : IsCut t to v a = top_cut t to v a (h [] (Cut to v a) refl) in
    let g : Grows (cut to v a l r) (cut to v a c.low c.high) = subst (Grows (cut to v a l r)) c.is h in
    let low : l ≡ c.low = grown_whole l c.low (grows_low to to v v a a l r c.low c.high g) (map_empty false (opens l) (first_empty (map (λ p. false ∷ p) (opens l)) (map (λ p. true ∷ p) (opens r)) e)) in
    let high : r ≡ c.high = grown_whole r c.high (grows_high to to v v a a l r c.low c.high g) (map_empty true (opens r) (second_empty (map (λ p. false ∷ p) (opens l)) (map (λ p. true ∷ p) (opens r)) e)) in
    (λ i. cut to v a (low i) (high i)) ∙ sym c.is

-- settling an open leaf
pub graft_grows : (t : Tree) (p : List Bool) (s : Tree) → subtree t p ≡ Some leaf → Grows t (graft t p s)
graft_grows leaf [] s e = grows_leaf s
graft_grows removed [] s e = cc
graft_grows (inner to) [] s e = cc
graft_grows (small to) [] s e = cc
graft_grows (cut to v a l r) [] s e = cc
graft_grows (cut to v a l r) (false ∷ p) s e = grows_cut to v a l r (graft l p s) r (graft_grows l p s e) (grows_self r)
graft_grows (cut to v a l r) (true ∷ p) s e = grows_cut to v a l r l (graft r p s) (grows_self l) (graft_grows r p s e)
graft_grows leaf (b ∷ p) s e = cc
graft_grows removed (b ∷ p) s e = cc
graft_grows (inner to) (b ∷ p) s e = cc
graft_grows (small to) (b ∷ p) s e = cc

pub settled_grows : (t : Tree) (o : Outcome) → top t ≡ Some o → Grows (settled o) t
settled_grows t Removed e = subst (Grows removed) (sym (top_removed t e)) (grows_self removed)
settled_grows t (Inner to) e = subst (Grows (inner to)) (sym (top_inner t to e)) (grows_self (inner to))
settled_grows t (Small to) e = subst (Grows (small to)) (sym (top_small t to e)) (grows_self (small to))
settled_grows t (Cut to v a) e =
    let c : IsCut t to v a = top_cut t to v a e in
    subst (Grows (cut to v a leaf leaf)) (sym c.is) (grows_cut to v a leaf leaf c.low c.high (grows_leaf c.low) (grows_leaf c.high))

pub step_grows : (t : Tree) (p : List Bool) (f : Tree) (o : Outcome) → subtree t p ≡ Some leaf → Grows t f → outcome_at f p ≡ Some o → Grows (graft t p (settled o)) f
step_grows leaf [] f o e h k = settled_grows f o k
step_grows removed [] f o e h k = cc
step_grows (inner to) [] f o e h k = cc
step_grows (small to) [] f o e h k = cc
step_grows (cut to v a l r) [] f o e h k = cc
step_grows (cut to v a l r) (false ∷ p) f o e h k =
    let c : IsCut f to v a = top_cut f to v a (h [] (Cut to v a) refl) in
    let g : Grows (cut to v a l r) (cut to v a c.low c.high) = subst (Grows (cut to v a l r)) c.is h in
    let at : outcome_at c.low p ≡ Some o = ap (λ (t : Tree). outcome_at t (false ∷ p)) (sym c.is) ∙ k in
    subst (Grows (cut to v a (graft l p (settled o)) r)) (sym c.is)
    (grows_cut to v a (graft l p (settled o)) r c.low c.high (step_grows l p c.low o e (grows_low to to v v a a l r c.low c.high g) at) (grows_high to to v v a a l r c.low c.high g))
step_grows (cut to v a l r) (true ∷ p) f o e h k =
    let c : IsCut f to v a = top_cut f to v a (h [] (Cut to v a) refl) in
    let g : Grows (cut to v a l r) (cut to v a c.low c.high) = subst (Grows (cut to v a l r)) c.is h in
    let at : outcome_at c.high p ≡ Some o = ap (λ (t : Tree). outcome_at t (true ∷ p)) (sym c.is) ∙ k in
    subst (Grows (cut to v a l (graft r p (settled o)))) (sym c.is)
    (grows_cut to v a l (graft r p (settled o)) c.low c.high (grows_low to to v v a a l r c.low c.high g) (step_grows r p c.high o e (grows_high to to v v a a l r c.low c.high g) at))
step_grows leaf (b ∷ p) f o e h k = cc
step_grows removed (b ∷ p) f o e h k = cc
step_grows (inner to) (b ∷ p) f o e h k = cc
step_grows (small to) (b ∷ p) f o e h k = cc

-- the halves of a cut box are boxes
lower_interval : (a : Extended) (x : Bounds) → IsInterval x → IsBetween a x → IsInterval (between x.lo a)
lower_interval NegInf x h k = absurd k
lower_interval (Fin n) x h k = record { ordered = less_is_le (order_of x.lo (Fin n)) k.0; lo_open = h.lo_open; hi_open = λ e. cc }
lower_interval PosInf x h k = absurd k

upper_interval : (a : Extended) (x : Bounds) → IsInterval x → IsBetween a x → IsInterval (between a x.hi)
upper_interval NegInf x h k = absurd k
upper_interval (Fin n) x h k = record { ordered = less_is_le (order_of (Fin n) x.hi) k.1; lo_open = λ e. cc; hi_open = h.hi_open }
upper_interval PosInf x h k = absurd k

all_set : (b : List Bounds) (v : ℕ) (x : Bounds) → v < length b → All IsInterval b → IsInterval x → All IsInterval (set b v x)
all_set b v x there h k i d less =
    let size : length (set b v x) ≡ length b = length-set b v x in
    elim (eqb_tells i v) [
      | inl e ↦ subst IsInterval (sym (ap (λ (n : ℕ). get_or (set b v x) n d) e.1 ∙ get_or-set_same b v x d there)) k
      | inr e ↦ subst IsInterval (sym (get_or-set_other b v i x d e.1)) (h i d (omega arith))
    ]

half_intervals : (low : Bool) (b : List Bounds) (v : ℕ) (a : Extended) → All IsInterval b → IsStrictlyInside a v b → All IsInterval (if low then lower_half b v a else upper_half b v a)
half_intervals true b v a h k =
    let there : v < length b = inside_there a v b k in
    subst (All IsInterval) (lower_set b v a (between a a) there) (all_set b v (between (get_or b v (between a a)).lo a) there h (lower_interval a (get_or b v (between a a)) (h v (between a a) there) (inside_place a v b (between a a) k)))
half_intervals false b v a h k =
    let there : v < length b = inside_there a v b k in
    subst (All IsInterval) (upper_set b v a (between a a) there) (all_set b v (between a (get_or b v (between a a)).hi) there h (upper_interval a (get_or b v (between a a)) (h v (between a a) there) (inside_place a v b (between a a) k)))

pub half_box : (low : Bool) (b : List Bounds) (v : ℕ) (a : Extended) → IsBox b → IsStrictlyInside a v b → IsBox (if low then lower_half b v a else upper_half b v a)
half_box low b v a h k =
    let size : length (if low then lower_half b v a else upper_half b v a) ≡ length b = half_length low b v a in
    let some : 0 < length b = h.some in
    let few : length b ≤ 12 = h.few in
    record { some = omega arith; few = omega arith; intervals = half_intervals low b v a h.intervals k }

module _ (rule : Rule) (depth dims : ℕ) (inside : Point → Type 0) (laws : IsLawful rule depth dims inside) where
  abbrev Is : (List Bounds → Tree → Type 0) → ℕ → List Bounds → ℕ → Type 0
  Is P d b k = IsBox b → length b ≡ dims → P b (rest rule d b k)

  grown_paves : (d : ℕ) (b : List Bounds) (k : ℕ) → ((c : List Bounds) (k : ℕ) → Is Paves d c k) → (o : Outcome) → length b ≡ dims → Fits b o → KeepsBox o → CutsAbove d o → Paves b (grown rule d k o)
  grown_paves d b k ih Removed e f h c = tt
  grown_paves d b k ih (Inner to) e f h c = (h, f)
  grown_paves d b k ih (Small to) e f h c = (h, f)
  grown_paves d b k ih (Cut to v a) e f h c =
      let size : length to ≡ dims = within_length to b f.0 ∙ e in
      (h, f.0, f.1, ih (lower_half to v a) (suc k) (half_box true to v a h f.1) (half_length true to v a ∙ size), ih (upper_half to v a) (suc k) (half_box false to v a h f.1) (half_length false to v a ∙ size))

  pub full_paves : (d : ℕ) (b : List Bounds) (k : ℕ) → IsBox b → length b ≡ dims → Paves b (full rule d b k)
  full_paves zero b k h e =
      subst (Paves b) (sym (full-is rule zero b k (rule b zero k) refl))
      (grown_paves zero b k (λ c n i s. tt) (rule b zero k) e (laws.fits b zero k h e) (laws.keeps_box b zero k h e) (laws.ends b zero k h e))
  full_paves (suc d) b k h e =
      subst (Paves b) (sym (full-is rule (suc d) b k (rule b (suc d) k) refl))
      (grown_paves (suc d) b k (full_paves d) (rule b (suc d) k) e (laws.fits b (suc d) k h e) (laws.keeps_box b (suc d) k h e) (laws.ends b (suc d) k h e))

  grown_sound : (d : ℕ) (b : List Bounds) (k : ℕ) → ((c : List Bounds) (k : ℕ) → Is (IsSound inside) d c k) → (o : Outcome) → length b ≡ dims → Fits b o → KeepsBox o → IsSoundOutcome inside b o → IsSound inside b (grown rule d k o)
  grown_sound d b k ih Removed e f h s = s
  grown_sound d b k ih (Inner to) e f h s = s
  grown_sound d b k ih (Small to) e f h s = s
  grown_sound d b k ih (Cut to v a) e f h s =
      let size : length to ≡ dims = within_length to b f.0 ∙ e in
      (s, ih (lower_half to v a) (suc k) (half_box true to v a h f.1) (half_length true to v a ∙ size), ih (upper_half to v a) (suc k) (half_box false to v a h f.1) (half_length false to v a ∙ size))

  pub full_sound : (d : ℕ) (b : List Bounds) (k : ℕ) → IsBox b → length b ≡ dims → IsSound inside b (full rule d b k)
  full_sound zero b k h e =
      subst (IsSound inside b) (sym (full-is rule zero b k (rule b zero k) refl))
      (grown_sound zero b k (λ c n i s. tt) (rule b zero k) e (laws.fits b zero k h e) (laws.keeps_box b zero k h e) (laws.sound b zero k h e))
  full_sound (suc d) b k h e =
      subst (IsSound inside b) (sym (full-is rule (suc d) b k (rule b (suc d) k) refl))
      (grown_sound (suc d) b k (full_sound d) (rule b (suc d) k) e (laws.fits b (suc d) k h e) (laws.keeps_box b (suc d) k h e) (laws.sound b (suc d) k h e))

  pub full_of_paves : (b : List Bounds) (t : Tree) (k : ℕ) → IsBox b → length b ≡ dims → Paves b t → Paves b (full_of rule depth b t k)
  unfolding full_of
  full_of_paves b leaf k h e p = full_paves (depth - k) b k h e
  full_of_paves b removed k h e p = tt
  full_of_paves b (inner to) k h e p = p
  full_of_paves b (small to) k h e p = p
  full_of_paves b (cut to v a l r) k h e p =
      let size : length to ≡ dims = within_length to b p.1 ∙ e in (
        p.0,
        p.1,
        p.2,
        full_of_paves (lower_half to v a) l (suc k) (half_box true to v a p.0 p.2) (half_length true to v a ∙ size) p.3,
        full_of_paves (upper_half to v a) r (suc k) (half_box false to v a p.0 p.2) (half_length false to v a ∙ size) p.4,
      )

  pub full_of_sound : (b : List Bounds) (t : Tree) (k : ℕ) → IsBox b → length b ≡ dims → Paves b t → IsSound inside b t → IsSound inside b (full_of rule depth b t k)
  unfolding full_of
  full_of_sound b leaf k h e p s = full_sound (depth - k) b k h e
  full_of_sound b removed k h e p s = s
  full_of_sound b (inner to) k h e p s = s
  full_of_sound b (small to) k h e p s = s
  full_of_sound b (cut to v a l r) k h e p s =
      let size : length to ≡ dims = within_length to b p.1 ∙ e in (
        s.0,
        full_of_sound (lower_half to v a) l (suc k) (half_box true to v a p.0 p.2) (half_length true to v a ∙ size) p.3 s.1,
        full_of_sound (upper_half to v a) r (suc k) (half_box false to v a p.0 p.2) (half_length false to v a ∙ size) p.4 s.2,
      )

  -- every stage of a sound opening is sound
  pub stage_sound : (b : List Bounds) (opening t : Tree) → IsBox b → length b ≡ dims → Paves b opening → IsSound inside b opening → IsStage rule depth b opening t → IsSound inside b t
  stage_sound b opening t h e p s stage = grows_sound inside b t (full_of rule depth b opening 0) stage.grows (full_of_sound b opening 0 h e p s)

  -- the full tree of an open leaf, one level down
  pub leaf_cut : (b : List Bounds) (k : ℕ) (to : List Bounds) (v : ℕ) (a : Extended) → IsBox b → length b ≡ dims → rule b (depth - k) k ≡ Cut to v a
      → full_of rule depth b leaf k ≡ cut to v a (full_of rule depth (lower_half to v a) leaf (suc k)) (full_of rule depth (upper_half to v a) leaf (suc k))
  unfolding full_of
  leaf_cut b k to v a h e r =
      let some : 0 < depth - k = subst (CutsAbove (depth - k)) r (laws.ends b (depth - k) k h e) in
      let less : depth - k ≡ suc (depth - suc k) = omega arith in
      full-is rule (depth - k) b k (Cut to v a) r ∙ (λ i. cut to v a (rest rule (less i) (lower_half to v a) (suc k)) (rest rule (less i) (upper_half to v a) (suc k)))

  top_grown : (d : ℕ) (k : ℕ) (o : Outcome) → top (grown rule d k o) ≡ Some o
  top_grown d k Removed = refl
  top_grown d k (Inner to) = refl
  top_grown d k (Small to) = refl
  top_grown d k (Cut to v a) = refl

  pub top_leaf : (b : List Bounds) (k : ℕ) → top (full_of rule depth b leaf k) ≡ Some (rule b (depth - k) k)
  unfolding full_of
  top_leaf b k = ap top (full-is rule (depth - k) b k (rule b (depth - k) k) refl) ∙ top_grown (depth - k) k (rule b (depth - k) k)

  pub full_of_cut : (b to : List Bounds) (v : ℕ) (a : Extended) (l r : Tree) (k : ℕ) → full_of rule depth b (cut to v a l r) k ≡ cut to v a (full_of rule depth (lower_half to v a) l (suc k)) (full_of rule depth (upper_half to v a) r (suc k))
  unfolding full_of
  full_of_cut b to v a l r k = refl

  -- what the full tree of an opening has at a leaf of a stage is the rule's outcome for the leaf's box
  abbrev RuleAt : List Bool → Tree → Tree → List Bounds → ℕ → ℕ → Type 0
  RuleAt p opening t b k n =
      IsBox b → length b ≡ dims → Paves b opening → Grows opening t → Grows t (full_of rule depth b opening k) → subtree t p ≡ Some leaf → n ≡ length p + k
      → outcome_at (full_of rule depth b opening k) p ≡ Some (rule (box_of b t p) (depth - n) n)

  rule_at_root : (opening : Tree) (b : List Bounds) (k n : ℕ) → RuleAt [] opening leaf b k n
  rule_at_root leaf b k n h e q g f l m = let w : k ≡ n = omega (arith, m) in top_leaf b k ∙ ap (λ (i : ℕ). Some (rule b (depth - i) i)) w
  rule_at_root removed b k n h e q g f l m = let w : None ≡ Some Removed = g [] Removed refl in cc
  rule_at_root (inner to) b k n h e q g f l m = let w : None ≡ Some (Inner to) = g [] (Inner to) refl in cc
  rule_at_root (small to) b k n h e q g f l m = let w : None ≡ Some (Small to) = g [] (Small to) refl in cc
  rule_at_root (cut to v a x y) b k n h e q g f l m = let w : None ≡ Some (Cut to v a) = g [] (Cut to v a) refl in cc

  rule_at_cut : (s : Bool) (p : List Bool) → ((opening t : Tree) (b : List Bounds) (k n : ℕ) → RuleAt p opening t b k n) → (to : List Bounds) (v : ℕ) (a : Extended) (x y l r : Tree) (b : List Bounds) (k n : ℕ)
      → RuleAt (s ∷ p) (cut to v a x y) (cut to v a l r) b k n
  rule_at_cut false p ih to v a x y l r b k n h e q g f u m =
      let f' : Grows (cut to v a l r) (cut to v a (full_of rule depth (lower_half to v a) x (suc k)) (full_of rule depth (upper_half to v a) y (suc k))) = subst (Grows (cut to v a l r)) (full_of_cut b to v a x y k) f in
      let size : length to ≡ dims = within_length to b q.1 ∙ e in
      ap (λ (z : Tree). outcome_at z (false ∷ p)) (full_of_cut b to v a x y k)
      ∙ ih x l (lower_half to v a) (suc k) n (half_box true to v a q.0 q.2) (half_length true to v a ∙ size) q.3 (grows_low to to v v a a x y l r g)
      (grows_low to to v v a a l r (full_of rule depth (lower_half to v a) x (suc k)) (full_of rule depth (upper_half to v a) y (suc k)) f') u (omega (arith, m))
  rule_at_cut true p ih to v a x y l r b k n h e q g f u m =
      let f' : Grows (cut to v a l r) (cut to v a (full_of rule depth (lower_half to v a) x (suc k)) (full_of rule depth (upper_half to v a) y (suc k))) = subst (Grows (cut to v a l r)) (full_of_cut b to v a x y k) f in
      let size : length to ≡ dims = within_length to b q.1 ∙ e in
      ap (λ (z : Tree). outcome_at z (true ∷ p)) (full_of_cut b to v a x y k)
      ∙ ih y r (upper_half to v a) (suc k) n (half_box false to v a q.0 q.2) (half_length false to v a ∙ size) q.4 (grows_high to to v v a a x y l r g)
      (grows_high to to v v a a l r (full_of rule depth (lower_half to v a) x (suc k)) (full_of rule depth (upper_half to v a) y (suc k)) f') u (omega (arith, m))

  -- below an open leaf of the opening the full tree is as below a cut into two open leaves
  rule_at_leaf : (s : Bool) (p : List Bool) → ((opening t : Tree) (b : List Bounds) (k n : ℕ) → RuleAt p opening t b k n) → (to : List Bounds) (v : ℕ) (a : Extended) (l r : Tree) (b : List Bounds) (k n : ℕ) → RuleAt (s ∷ p) leaf (cut to v a l r) b k n
  rule_at_leaf s p ih to v a l r b k n h e q g f u m =
      let is : Some (rule b (depth - k) k) ≡ Some (Cut to v a) = sym (top_leaf b k) ∙ f [] (Cut to v a) refl in
      let is_cut : rule b (depth - k) k ≡ Cut to v a = cc in
      let same : full_of rule depth b leaf k ≡ full_of rule depth b (cut to v a leaf leaf) k = leaf_cut b k to v a h e is_cut ∙ sym (full_of_cut b to v a leaf leaf k) in
      let fits : Fits b (Cut to v a) = subst (Fits b) is_cut (laws.fits b (depth - k) k h e) in
      let keeps : KeepsBox (Cut to v a) = subst KeepsBox is_cut (laws.keeps_box b (depth - k) k h e) in
      ap (λ (z : Tree). outcome_at z (s ∷ p)) same
      ∙ rule_at_cut s p ih to v a leaf leaf l r b k n h e (keeps, fits.0, fits.1, tt, tt) (grows_cut to v a leaf leaf l r (grows_leaf l) (grows_leaf r)) (subst (Grows (cut to v a l r)) same f) u m

  rule_at_any : (s : Bool) (p : List Bool) → ((opening t : Tree) (b : List Bounds) (k n : ℕ) → RuleAt p opening t b k n) → (opening : Tree) (to : List Bounds) (v : ℕ) (a : Extended) (l r : Tree) (b : List Bounds) (k n : ℕ) → RuleAt (s ∷ p) opening (cut to v a l r) b k n
  rule_at_any s p ih leaf to v a l r b k n h e q g f u m = rule_at_leaf s p ih to v a l r b k n h e q g f u m
  rule_at_any s p ih removed to v a l r b k n h e q g f u m = let w : Some (Cut to v a) ≡ Some Removed = g [] Removed refl in cc
  rule_at_any s p ih (inner x) to v a l r b k n h e q g f u m = let w : Some (Cut to v a) ≡ Some (Inner x) = g [] (Inner x) refl in cc
  rule_at_any s p ih (small x) to v a l r b k n h e q g f u m = let w : Some (Cut to v a) ≡ Some (Small x) = g [] (Small x) refl in cc
  rule_at_any s p ih (cut to' v' a' x y) to v a l r b k n h e q g f u m =
      let w : Some (Cut to v a) ≡ Some (Cut to' v' a') = g [] (Cut to' v' a') refl in
      let i : to ≡ to' = cc in let j : v ≡ v' = cc in let o : a ≡ a' = cc in
      let same : cut to v a x y ≡ cut to' v' a' x y = λ z. cut (i z) (j z) (o z) x y in
      subst (λ (z : Tree). RuleAt (s ∷ p) z (cut to v a l r) b k n) same (rule_at_cut s p ih to v a x y l r b k n) h e q g f u m

  pub rule_at : (p : List Bool) (opening t : Tree) (b : List Bounds) (k n : ℕ) → RuleAt p opening t b k n
  rule_at [] opening leaf b k n h e q g f l m = rule_at_root opening b k n h e q g f l m
  rule_at [] opening removed b k n h e q g f l m = cc
  rule_at [] opening (inner to) b k n h e q g f l m = cc
  rule_at [] opening (small to) b k n h e q g f l m = cc
  rule_at [] opening (cut to v a x y) b k n h e q g f l m = cc
  rule_at (s ∷ p) opening (cut to v a x y) b k n h e q g f l m = rule_at_any s p (rule_at p) opening to v a x y b k n h e q g f l m
  rule_at (s ∷ p) opening leaf b k n h e q g f l m = cc
  rule_at (s ∷ p) opening removed b k n h e q g f l m = cc
  rule_at (s ∷ p) opening (inner to) b k n h e q g f l m = cc
  rule_at (s ∷ p) opening (small to) b k n h e q g f l m = cc

  -- a step at an open leaf leads from stage to stage
  pub step_from : (opening t : Tree) (b : List Bounds) (p : List Bool) (k : ℕ) → IsBox b → length b ≡ dims → Paves b opening → IsStageFrom rule depth b opening k t → subtree t p ≡ Some leaf
      → IsStageFrom rule depth b opening k (graft t p (settled (rule (box_of b t p) (depth - (k + length p)) (k + length p))))
  step_from opening t b p k h e q stage l =
      let n = k + length p in let o = rule (box_of b t p) (depth - n) n in (
        grows_on opening t (graft t p (settled o)) stage.0 (graft_grows t p (settled o) l),
        step_grows t p (full_of rule depth b opening k) o l stage.1 (rule_at p opening t b k n h e q stage.0 stage.1 l (omega arith)),
      )

  pub step_stage : (opening t : Tree) (b : List Bounds) (p : List Bool) → IsBox b → length b ≡ dims → Paves b opening → IsStage rule depth b opening t → subtree t p ≡ Some leaf
      → IsStage rule depth b opening (graft t p (settled (rule (box_of b t p) (depth - length p) (length p))))
  step_stage opening t b p h e q stage l =
      let from : 0 + length p ≡ length p = omega arith in
      let next = subst (λ n. IsStageFrom rule depth b opening 0 (graft t p (settled (rule (box_of b t p) (depth - n) n)))) from (step_from opening t b p 0 h e q (stage.grown, stage.grows) l) in
      record { grown = next.0; grows = next.1 }

  -- and a stage with no open leaf is the full tree
  pub whole_stage : (b : List Bounds) (opening t : Tree) → IsStage rule depth b opening t → opens t ≡ [] → t ≡ full_of rule depth b opening 0
  whole_stage b opening t stage e = grown_whole t (full_of rule depth b opening 0) stage.grows e

  pub opening_stage : (b : List Bounds) → IsStage rule depth b leaf leaf
  opening_stage b = record { grown = grows_leaf leaf; grows = grows_leaf (full_of rule depth b leaf 0) }

pub depth_from : (p : List Bool) (o : Outcome) (depth d : ℕ) → depth ≤ 200 → d ≡ depth - length p → CutsAbove d o → HasDepth p o
depth_from p Removed depth d h e c = tt
depth_from p (Inner to) depth d h e c = tt
depth_from p (Small to) depth d h e c = tt
depth_from p (Cut to v a) depth d h e c = omega (arith, h, e, c)

pub stage_either : (rule : Rule) (depth : ℕ) (b c : List Bounds) (opening old new s : Tree) (ok : Bool) → c ≡ b → new ≡ (if ok then s else old) → IsStage rule depth b opening s → IsStage rule depth b opening old → IsStage rule depth c opening new
stage_either rule depth b c opening old new s true e f h k = subst (λ (x : List Bounds). IsStage rule depth x opening new) (sym e) (subst (IsStage rule depth b opening) (sym f) h)
stage_either rule depth b c opening old new s false e f h k = subst (λ (x : List Bounds). IsStage rule depth x opening new) (sym e) (subst (IsStage rule depth b opening) (sym f) k)
