-- Leaves to come, in preorder, and the open leaves of a tree.
use Rattle.std.proofs.lemmas.List.{drop_more, take-append-drop, length-take-le}
use Rattle.std.proofs.Common.{◌≡◌, ◌≢◌, ℕ, zero, suc, ◌+◌, ◌<◌, ◌≤◌, length, take, drop, add-one, arith, Bool, true, false, List, [], ◌∷◌, ◌++◌, Some, refl, sym, ◌∙◌, ap, subst, inl, inr, ◌⊎◌, append_assoc}
use Rattle.std.specs.Prelude.{IsTrue, slice_index_or, Result, Ok, Err}
use Rattle.pv_keep.specs.declared.refusal.CampaignRefused.{CampaignRefused}
use Rattle.pv_keep.specs.declared.refusal.CampaignRefused.TheVariants as refused
use Rattle.pv_interval.specs.Bounds.{Bounds}
use Rattle.pv_tree.specs.Trees.{Tree, leaf, removed, inner, small, cut, subtree, graft, settled, precedes}
use Rattle.pv_tree.specs.Holes.{Hole, Growing, growth_over, holes_below}
use Rattle.pv_tree.specs.declared.outcome.Outcome.{Outcome}
use Rattle.pv_tree.specs.declared.outcome.Outcome.TheVariants.{Removed, Inner, Small, Cut}
use Rattle.pv_keep.specs.declared.row.Row.{Row}
use Rattle.pv_keep.specs.Rows.{AllBehind, InPreorder}
use Rattle.pv_keep.specs.Rebuilding.{IsToCome, IsPassed, IsPut, IsPutOrBad, IsBadRow, IsGoodRow, Make, IsFirstBad}
use Rattle.pv_keep.proofs.Making.{make_more}
use Rattle.pv_keep.proofs.Orders.{precedes_trans, itself_not}

-- One path goes low where the other goes high: all below the one stands before all below the other.
abbrev pub IsLeftOf : List Bool → List Bool → Type 0
IsLeftOf [] q = ⊥
IsLeftOf (b ∷ p) [] = ⊥
IsLeftOf (false ∷ p) (false ∷ q) = IsLeftOf p q
IsLeftOf (false ∷ p) (true ∷ q) = Unit {0}
IsLeftOf (true ∷ p) (false ∷ q) = ⊥
IsLeftOf (true ∷ p) (true ∷ q) = IsLeftOf p q

pub left_before : (p q : List Bool) → IsLeftOf p q → IsTrue (precedes p q)
left_before [] q h = absurd h
left_before (b ∷ p) [] h = absurd h
left_before (false ∷ p) (false ∷ q) h = left_before p q h
left_before (false ∷ p) (true ∷ q) h = refl
left_before (true ∷ p) (false ∷ q) h = absurd h
left_before (true ∷ p) (true ∷ q) h = left_before p q h

left_below : (p q u : List Bool) → IsLeftOf p q → IsLeftOf (p ++ u) q
left_below [] q u h = absurd h
left_below (b ∷ p) [] u h = absurd h
left_below (false ∷ p) (false ∷ q) u h = left_below p q u h
left_below (false ∷ p) (true ∷ q) u h = tt
left_below (true ∷ p) (false ∷ q) u h = absurd h
left_below (true ∷ p) (true ∷ q) u h = left_below p q u h

left_kids : (p : List Bool) → IsLeftOf (p ++ false ∷ []) (p ++ true ∷ [])
left_kids [] = tt
left_kids (false ∷ p) = left_kids p
left_kids (true ∷ p) = left_kids p

abbrev pub AllRight : List Bool → List Hole → Type 0
AllRight p [] = Unit {0}
AllRight p (hole ∷ holes) = IsLeftOf p hole.path × AllRight p holes

-- leaves to come, each left of those behind it
abbrev pub AreInOrder : List Hole → Type 0
AreInOrder [] = Unit {0}
AreInOrder (hole ∷ holes) = AllRight hole.path holes × AreInOrder holes

right_below : (p u : List Bool) (holes : List Hole) → AllRight p holes → AllRight (p ++ u) holes
right_below p u [] h = tt
right_below p u (hole ∷ holes) h = (left_below p hole.path u h.0, right_below p u holes h.1)

order_below : (hole : Hole) (o : Outcome) (holes : List Hole) → AllRight hole.path holes → AreInOrder holes → AreInOrder (holes_below hole o ++ holes)
order_below hole Removed holes r h = h
order_below hole (Inner to) holes r h = h
order_below hole (Small to) holes r h = h
order_below hole (Cut to var at) holes r h = (
  (left_kids hole.path, right_below hole.path (false ∷ []) holes r),
  (right_below hole.path (true ∷ []) holes r, h),
)

order_behind : (passed holes : List Hole) → AreInOrder (passed ++ holes) → AreInOrder holes
order_behind [] holes h = h
order_behind (x ∷ passed) holes h = order_behind passed holes h.1

-- The leaves to come once one was settled.
pub order_after : (passed : List Hole) (hole : Hole) (others : List Hole) (o : Outcome) → AreInOrder (passed ++ hole ∷ others) → AreInOrder (holes_below hole o ++ others)
order_after passed hole others o h =
    let k : AreInOrder (hole ∷ others) = order_behind passed (hole ∷ others) h in order_below hole o others k.0 k.1

all_right_one : (p : List Bool) (passed : List Hole) (hole : Hole) (others : List Hole) → AllRight p (passed ++ hole ∷ others) → IsLeftOf p hole.path
all_right_one p [] hole others h = h.0
all_right_one p (x ∷ passed) hole others h = all_right_one p passed hole others h.1

-- A leaf to come is left of another one, is that one, or comes behind it.
pub where_to_come : (p : List Bool) (passed : List Hole) (hole : Hole) (others : List Hole) → AreInOrder (passed ++ hole ∷ others) → IsToCome p (passed ++ hole ∷ others)
    → IsLeftOf p hole.path ⊎ (p ≡ hole.path) ⊎ IsToCome p others
where_to_come p [] hole others h (inl e) = inr (inl e)
where_to_come p [] hole others h (inr k) = inr (inr k)
where_to_come p (x ∷ passed) hole others h (inl e) = inl (subst (λ (q : List Bool). IsLeftOf q hole.path) (sym e) (all_right_one x.path passed hole others h.0))
where_to_come p (x ∷ passed) hole others h (inr k) = where_to_come p passed hole others h.1 k

-- ---- Open leaves behind a settling

abbrev IsKid : List Bool → List Bool → Outcome → Type 0
IsKid q p Removed = ⊥
IsKid q p (Inner to) = ⊥
IsKid q p (Small to) = ⊥
IsKid q p (Cut to var at) = (p ≡ q ++ false ∷ []) ⊎ (p ≡ q ++ true ∷ [])

kid_below : (b : Bool) (q p : List Bool) (o : Outcome) → IsKid q p o → IsKid (b ∷ q) (b ∷ p) o
kid_below b q p Removed k = absurd k
kid_below b q p (Inner to) k = absurd k
kid_below b q p (Small to) k = absurd k
kid_below b q p (Cut to var at) (inl e) = inl (ap (λ (r : List Bool). b ∷ r) e)
kid_below b q p (Cut to var at) (inr e) = inr (ap (λ (r : List Bool). b ∷ r) e)

abbrev OldOrKid : Tree → List Bool → List Bool → Outcome → Type 0
OldOrKid t q p o = IsKid q p o ⊎ ((subtree t p ≡ Some leaf) × (p ≢ q))

abbrev same_tail : List Bool → List Bool
same_tail [] = []
same_tail (b ∷ p) = p

below_both : (b : Bool) (t s : Tree) (q p : List Bool) (o : Outcome) → subtree s (b ∷ p) ≡ subtree t p → OldOrKid t q p o → OldOrKid s (b ∷ q) (b ∷ p) o
below_both b t s q p o e (inl k) = inl (kid_below b q p o k)
below_both b t s q p o e (inr k) = inr (e ∙ k.0, λ f. k.1 (ap same_tail f))

of_settled : (p : List Bool) (o : Outcome) → subtree (settled o) p ≡ Some leaf → IsKid [] p o
of_settled [] Removed e = cc
of_settled [] (Inner to) e = cc
of_settled [] (Small to) e = cc
of_settled [] (Cut to var at) e = cc
of_settled (b ∷ p) Removed e = cc
of_settled (b ∷ p) (Inner to) e = cc
of_settled (b ∷ p) (Small to) e = cc
of_settled (false ∷ []) (Cut to var at) e = inl refl
of_settled (true ∷ []) (Cut to var at) e = inr refl
of_settled (false ∷ (c ∷ p)) (Cut to var at) e = cc
of_settled (true ∷ (c ∷ p)) (Cut to var at) e = cc

pub open_behind : (t : Tree) (q p : List Bool) (o : Outcome) → subtree t q ≡ Some leaf → subtree (graft t q (settled o)) p ≡ Some leaf → OldOrKid t q p o
open_behind t [] p o h e = inl (of_settled p o e)
open_behind (cut to var at low high) (false ∷ q) [] o h e = cc
open_behind (cut to var at low high) (true ∷ q) [] o h e = cc
open_behind (cut to var at low high) (false ∷ q) (false ∷ p) o h e = below_both false low (cut to var at low high) q p o refl (open_behind low q p o h e)
open_behind (cut to var at low high) (false ∷ q) (true ∷ p) o h e = inr (e, λ f. cc)
open_behind (cut to var at low high) (true ∷ q) (false ∷ p) o h e = inr (e, λ f. cc)
open_behind (cut to var at low high) (true ∷ q) (true ∷ p) o h e = below_both true high (cut to var at low high) q p o refl (open_behind high q p o h e)
open_behind leaf (b ∷ q) p o h e = cc
open_behind removed (b ∷ q) p o h e = cc
open_behind (inner to) (b ∷ q) p o h e = cc
open_behind (small to) (b ∷ q) p o h e = cc

kid_to_come : (hole : Hole) (p : List Bool) (o : Outcome) (others : List Hole) → IsKid hole.path p o → IsToCome p (holes_below hole o ++ others)
kid_to_come hole p Removed others k = absurd k
kid_to_come hole p (Inner to) others k = absurd k
kid_to_come hole p (Small to) others k = absurd k
kid_to_come hole p (Cut to var at) others (inl e) = inl e
kid_to_come hole p (Cut to var at) others (inr e) = inr (inl e)

behind_kids : (hole : Hole) (p : List Bool) (o : Outcome) (others : List Hole) → IsToCome p others → IsToCome p (holes_below hole o ++ others)
behind_kids hole p Removed others k = k
behind_kids hole p (Inner to) others k = k
behind_kids hole p (Small to) others k = k
behind_kids hole p (Cut to var at) others k = inr (inr k)

pub behind_trans : (p q : List Bool) (xs : List Row) → IsTrue (precedes p q) → AllBehind q xs → AllBehind p xs
behind_trans p q [] h a = tt
behind_trans p q (x ∷ xs) h a = (precedes_trans p q x.path h a.0, behind_trans p q xs h a.1)

-- Each open leaf is to come, or all rows that are left stand behind it.
abbrev pub AreOpen : Tree → List Hole → List Row → Type 0
AreOpen t holes rows = (p : List Bool) → subtree t p ≡ Some leaf → IsToCome p holes ⊎ AllBehind p rows

open_old : (passed : List Hole) (hole : Hole) (others : List Hole) (row : Row) (rows : List Row) (p : List Bool) (o : Outcome) → hole.path ≡ row.path → AllBehind row.path rows → p ≢ row.path
    → IsLeftOf p hole.path ⊎ (p ≡ hole.path) ⊎ IsToCome p others → IsToCome p (holes_below hole o ++ others) ⊎ AllBehind p rows
open_old passed hole others row rows p o e b n (inl l) =
    inr (behind_trans p row.path rows (subst (λ (q : List Bool). IsTrue (precedes p q)) e (left_before p hole.path l)) b)
open_old passed hole others row rows p o e b n (inr (inl s)) = absurd (n (s ∙ e))
open_old passed hole others row rows p o e b n (inr (inr k)) = inl (behind_kids hole p o others k)

open_case : (t : Tree) (passed : List Hole) (hole : Hole) (others : List Hole) (row : Row) (rows : List Row) (o : Outcome) (p : List Bool) → hole.path ≡ row.path
    → AreInOrder (passed ++ hole ∷ others) → AreOpen t (passed ++ hole ∷ others) (row ∷ rows) → AllBehind row.path rows → OldOrKid t row.path p o
    → IsToCome p (holes_below hole o ++ others) ⊎ AllBehind p rows
open_case t passed hole others row rows o p e h a b (inl k) = inl (kid_to_come hole p o others (subst (λ (q : List Bool). IsKid q p o) (sym e) k))
open_case t passed hole others row rows o p e h a b (inr k) =
    elim (a p k.0) [
      | inl c ↦ open_old passed hole others row rows p o e b k.1 (where_to_come p passed hole others h c)
      | inr c ↦ inr c.1
    ]

pub open_after : (t : Tree) (passed : List Hole) (hole : Hole) (others : List Hole) (row : Row) (rows : List Row) (o : Outcome) → hole.path ≡ row.path
    → subtree t row.path ≡ Some leaf → AreInOrder (passed ++ hole ∷ others) → AreOpen t (passed ++ hole ∷ others) (row ∷ rows) → AllBehind row.path rows
    → AreOpen (graft t row.path (settled o)) (holes_below hole o ++ others) rows
open_after t passed hole others row rows o e is_leaf h a b = λ p s. open_case t passed hole others row rows o p e h a b (open_behind t row.path p o is_leaf s)

-- ---- Leaves that are passed

pub pass_more : (old mid new : List Hole) → IsPassed old mid → (hole : Hole) (rest : List Hole) → mid ≡ hole ∷ rest → new ≡ rest → IsPassed old new
pass_more old mid new p hole rest e f = (
  p.0 ++ hole ∷ [],
  p.1 ∙ ap (λ (hs : List Hole). p.0 ++ hs) e ∙ sym (append_assoc p.0 (hole ∷ []) rest) ∙ ap (λ (hs : List Hole). (p.0 ++ hole ∷ []) ++ hs) (sym f),
)

pub pass_none : (path next : List Bool) (mid new : List Hole) (hole : Hole) (rest : List Hole) → mid ≡ hole ∷ rest → new ≡ rest → next ≡ hole.path → (next ≡ path → ⊥)
    → IsToCome path mid → IsToCome path new
pass_none path next mid new hole rest e f g n k =
    subst (IsToCome path) (sym f) (elim (subst (IsToCome path) e k) [ inl h ↦ absurd (n (g ∙ sym h)) | inr h ↦ h ])

-- ---- Rows one by one

pub take_next : (rows : List Row) (i : ℕ) (d : Row) → i < length rows → take (i + 1) rows ≡ take i rows ++ slice_index_or rows i d ∷ []
take_next rows i d l = ap (λ (k : ℕ). take k rows) (add-one i) ∙ take_one rows i d l
  where
    take_one : (rows : List Row) (i : ℕ) (d : Row) → i < length rows → take (suc i) rows ≡ take i rows ++ slice_index_or rows i d ∷ []
    take_one [] i d l = absurd (omega (arith, l))
    take_one (x ∷ xs) zero d l = refl
    take_one (x ∷ xs) (suc i) d l = ap (λ (ws : List Row). x ∷ ws) (take_one xs i d (omega (arith, l)))

pub take_whole : (rows : List Row) (i : ℕ) → length rows ≤ i → take i rows ≡ rows
take_whole [] zero l = refl
take_whole [] (suc i) l = refl
take_whole (x ∷ xs) zero l = absurd (omega (arith, l))
take_whole (x ∷ xs) (suc i) l = ap (λ (ws : List Row). x ∷ ws) (take_whole xs i (omega (arith, l)))

pub open_begun : (b : List Bounds) (g : Growing) (rows : List Row) → g ≡ growth_over b → AreOpen g.tree g.holes rows
open_begun b g rows e = subst (λ (h : Growing). AreOpen h.tree h.holes rows) (sym e) (λ p s. root_open p s)
  where
    root_open : (p : List Bool) → subtree leaf p ≡ Some leaf → IsToCome p (growth_over b).holes ⊎ AllBehind p rows
    root_open [] s = inl (inl refl)
    root_open (c ∷ p) s = cc

pub order_begun : (b : List Bounds) (g : Growing) → g ≡ growth_over b → AreInOrder g.holes
order_begun b g e = subst (λ (h : Growing). AreInOrder h.holes) (sym e) (tt, tt)

pub was_put : (old new : Growing) (row : Row) (b : Bool) → IsPutOrBad old new row b → b ≡ true → IsPut old new row
was_put old new row true p e = p
was_put old new row false p e = cc

was_bad : (old new : Growing) (row : Row) (b : Bool) → IsPutOrBad old new row b → b ≡ false → (subtree old.tree row.path ≡ Some leaf → IsToCome row.path old.holes) → IsBadRow old.root old.tree row
was_bad old new row true p e = cc
was_bad old new row false p e = p

-- What holds of a growth behind some of the rows.
pub record IsGrown (b : List Bounds) (rows : List Row) (i : ℕ) (g : Growing) : Type 0 where
  pub root : g.root ≡ b
  pub made : Make b leaf (take i rows) g.tree
  pub order : AreInOrder g.holes
  pub leaves : InPreorder rows → AreOpen g.tree g.holes (drop i rows)

ordered_drop : (rows : List Row) (i : ℕ) → InPreorder rows → InPreorder (drop i rows)
ordered_drop [] zero o = tt
ordered_drop [] (suc i) o = tt
ordered_drop (x ∷ xs) zero o = o
ordered_drop (x ∷ xs) (suc i) o = ordered_drop xs i o.1

pub grown_on : (b : List Bounds) (rows : List Row) (i : ℕ) (old new : Growing) (row : Row) → IsGrown b rows i old → i < length rows → row ≡ slice_index_or rows i row → IsPut old new row
    → IsGrown b rows (i + 1) new
grown_on b rows i old new row g l e p =
    let left : drop i rows ≡ row ∷ drop (i + 1) rows = drop_more rows i row l ∙ ap (λ (r : Row). r ∷ drop (i + 1) rows) (sym e) in
    let done : take (i + 1) rows ≡ take i rows ++ row ∷ [] = take_next rows i row l ∙ ap (λ (r : Row). take i rows ++ r ∷ []) (sym e) in
    let good : IsGoodRow b old.tree row p.outcome = subst (λ (c : List Bounds). IsGoodRow c old.tree row p.outcome) g.root p.good in
    let order : AreInOrder (p.passed ++ p.hole ∷ p.others) = subst AreInOrder p.was g.order in
    record {
      root = p.root ∙ g.root;
      made = subst (λ (ws : List Row). Make b leaf ws new.tree) (sym done)
          (subst (λ (t : Tree). Make b leaf (take i rows ++ row ∷ []) t) (sym p.tree) (make_more b leaf (take i rows) old.tree row p.outcome g.made good));
      order = subst AreInOrder (sym p.holes) (order_after p.passed p.hole p.others p.outcome order);
      leaves = λ o.
          let whole : InPreorder (row ∷ drop (i + 1) rows) = subst InPreorder left (ordered_drop rows i o) in
          let were : AreOpen old.tree (p.passed ++ p.hole ∷ p.others) (row ∷ drop (i + 1) rows) =
          subst (λ (hs : List Hole). AreOpen old.tree hs (row ∷ drop (i + 1) rows)) p.was (subst (λ (ws : List Row). AreOpen old.tree old.holes ws) left (g.leaves o)) in
          subst (λ (hs : List Hole). AreOpen new.tree hs (drop (i + 1) rows)) (sym p.holes)
          (subst (λ (t : Tree). AreOpen t (holes_below p.hole p.outcome ++ p.others) (drop (i + 1) rows)) (sym p.tree)
          (open_after old.tree p.passed p.hole p.others row (drop (i + 1) rows) p.outcome p.path p.good.is_leaf order were whole.0));
    }

pub first_bad : (b : List Bounds) (rows : List Row) (i : ℕ) (old new : Growing) (row : Row) (ok : Bool) → IsGrown b rows i old → i < length rows → row ≡ slice_index_or rows i row
    → IsPutOrBad old new row ok → ok ≡ false → InPreorder rows → IsFirstBad b rows i
first_bad b rows i old new row ok g l e p f o =
    let left : drop i rows ≡ row ∷ drop (i + 1) rows = drop_more rows i row l ∙ ap (λ (r : Row). r ∷ drop (i + 1) rows) (sym e) in
    let bad : IsBadRow old.root old.tree row = was_bad old new row ok p f
    (λ s. elim (subst (λ (ws : List Row). AreOpen old.tree old.holes ws) left (g.leaves o) row.path s) [
      | inl k ↦ k
      | inr k ↦ let z : precedes row.path row.path ≡ true = k.0 in let y : precedes row.path row.path ≡ false = itself_not row.path in cc
    ]) in record {
      front = take i rows;
      row = row;
      rest = drop (i + 1) rows;
      are = sym (take-append-drop i rows) ∙ ap (λ (ws : List Row). take i rows ++ ws) left;
      number = length-take-le i rows (omega (arith, l));
      tree = old.tree;
      made = g.made;
      bad = subst (λ (c : List Bounds). IsBadRow c old.tree row) g.root bad;
    }

abbrev row_in : {T : Type 0} → Result T CampaignRefused → ℕ → ℕ
row_in (Ok t) d = d
row_in (Err refused.Memory) d = d
row_in (Err refused.Failed) d = d
row_in (Err (refused.OtherIdentity kept)) d = d
row_in (Err refused.TooMany) d = d
row_in (Err (refused.BadRow n)) d = n

pub same_bad_row : {T : Type 0} (m n : ℕ) → ◌≡◌ {A = Result T CampaignRefused} (Err (refused.BadRow m)) (Err (refused.BadRow n)) → m ≡ n
same_bad_row {T} m n e = ap {B = ℕ} (λ (r : Result T CampaignRefused). row_in r m) e
