-- The open leaves of a tree stand in preorder, so what comes behind one of them is the rest of them.
use Rattle.std.proofs.Common.{◌≡◌, ℕ, ◌-◌, ◌<◌, Bool, true, false, cond, Option, Some, None, List, [], ◌∷◌, ◌++◌, map, length, refl, sym, ◌∙◌, ap, subst, arith, append_assoc, append-nil, length-append}
use Rattle.std.proofs.lemmas.List.{reverse-reverse, map-id}
use Rattle.std.specs.Prelude.{reverse}
use Rattle.pv_tree.specs.Trees.{Tree, leaf, removed, inner, small, cut, opens, first, behind, precedes}
use Rattle.pv_board.specs.Piles.{piled}
use Rattle.pv_board.specs.Rules.{settled_in}
use Rattle.pv_board.proofs.Paths.{weigh-ones}
use Rattle.pv_board.proofs.Growth.{few_opens}
use Rattle.pv_board.proofs.Piling.{piled_back}

-- a path stands before each of a list
abbrev Leads : List Bool → List (List Bool) → Type 0
Leads p [] = Unit {0}
Leads p (q ∷ qs) = (precedes p q ≡ true) × (precedes q p ≡ false) × Leads p qs

abbrev InOrder : List (List Bool) → Type 0
InOrder [] = Unit {0}
InOrder (p ∷ ps) = Leads p ps × InOrder ps

leads_both : (p : List Bool) (xs ys : List (List Bool)) → Leads p xs → Leads p ys → Leads p (xs ++ ys)
leads_both p [] ys h k = k
leads_both p (x ∷ xs) ys h k = (h.0, h.1, leads_both p xs ys h.2 k)

leads_low : (p : List Bool) (xs : List (List Bool)) → Leads p xs → Leads (false ∷ p) (map (λ q. false ∷ q) xs)
leads_low p [] h = tt
leads_low p (x ∷ xs) h = (h.0, h.1, leads_low p xs h.2)

leads_high : (p : List Bool) (xs : List (List Bool)) → Leads p xs → Leads (true ∷ p) (map (λ q. true ∷ q) xs)
leads_high p [] h = tt
leads_high p (x ∷ xs) h = (h.0, h.1, leads_high p xs h.2)

low_leads : (p : List Bool) (ys : List (List Bool)) → Leads (false ∷ p) (map (λ q. true ∷ q) ys)
low_leads p [] = tt
low_leads p (y ∷ ys) = (refl, refl, low_leads p ys)

high_ordered : (ys : List (List Bool)) → InOrder ys → InOrder (map (λ q. true ∷ q) ys)
high_ordered [] h = tt
high_ordered (y ∷ ys) h = (leads_high y ys h.0, high_ordered ys h.1)

cut_ordered : (xs ys : List (List Bool)) → InOrder xs → InOrder ys → InOrder (map (λ q. false ∷ q) xs ++ map (λ q. true ∷ q) ys)
cut_ordered [] ys h k = high_ordered ys k
cut_ordered (x ∷ xs) ys h k = (leads_both (false ∷ x) (map (λ q. false ∷ q) xs) (map (λ q. true ∷ q) ys) (leads_low x xs h.0) (low_leads x ys), cut_ordered xs ys h.1 k)

opens_ordered : (t : Tree) → InOrder (opens t)
opens_ordered leaf = (tt, tt)
opens_ordered removed = tt
opens_ordered (inner to) = tt
opens_ordered (small to) = tt
opens_ordered (cut to var at low high) = cut_ordered (opens low) (opens high) (opens_ordered low) (opens_ordered high)

not_itself : (p : List Bool) → precedes p p ≡ false
not_itself [] = refl
not_itself (false ∷ p) = not_itself p
not_itself (true ∷ p) = not_itself p

all_behind : (p : List Bool) (ys : List (List Bool)) → Leads p ys → behind p ys ≡ ys
all_behind p [] h = refl
all_behind p (y ∷ ys) h = ap (λ (t : Bool). cond t (y ∷ behind p ys) (behind p ys)) h.0 ∙ ap (λ (l : List (List Bool)). y ∷ l) (all_behind p ys h.2)

not_before : (x p : List Bool) (xs ys : List (List Bool)) → Leads x (xs ++ p ∷ ys) → precedes p x ≡ false
not_before x p [] ys h = h.1
not_before x p (y ∷ xs) ys h = not_before x p xs ys h.2

rest_behind : (p : List Bool) (xs ys : List (List Bool)) → InOrder (xs ++ p ∷ ys) → behind p (xs ++ p ∷ ys) ≡ ys
rest_behind p [] ys h = ap (λ (t : Bool). cond t (p ∷ behind p ys) (behind p ys)) (not_itself p) ∙ all_behind p ys h.0
rest_behind p (x ∷ xs) ys h = ap (λ (t : Bool). cond t (x ∷ behind p (xs ++ p ∷ ys)) (behind p (xs ++ p ∷ ys))) (not_before x p xs ys h.0) ∙ rest_behind p xs ys h.1

-- Some open leaves are listed, and the next one is the first of the rest.
pub record AreListed (t : Tree) (listed : List (List Bool)) (next : Option (List Bool)) : Type 0 where
  pub rest : List (List Bool)
  pub all : opens t ≡ listed ++ rest
  pub is : next ≡ first rest

pub none_listed : (t : Tree) (listed : List (List Bool)) (next : Option (List Bool)) → listed ≡ [] → next ≡ first (opens t) → AreListed t listed next
none_listed t listed next none is = record { rest = opens t; all = ap (λ (l : List (List Bool)). l ++ opens t) (sym none); is = is }

pub one_listed : (t : Tree) (listed more : List (List Bool)) (next then : Option (List Bool)) (p : List Bool) → AreListed t listed next → next ≡ Some p → more ≡ listed ++ p ∷ [] → then ≡ first (behind p (opens t)) → AreListed t more then
one_listed t listed more next then p h is grown following = by h.rest h.all (sym h.is ∙ is)
  where
    by : (rest : List (List Bool)) → opens t ≡ listed ++ rest → first rest ≡ Some p → AreListed t more then
    by [] all e = cc
    by (q ∷ ys) all e =
        let same : q ≡ p = cc in
        let is_all : opens t ≡ listed ++ p ∷ ys = all ∙ ap (λ (z : List Bool). listed ++ z ∷ ys) same in
        let left : behind p (opens t) ≡ ys = ap (behind p) is_all ∙ rest_behind p listed ys (subst InOrder is_all (opens_ordered t)) in
        record {
          rest = ys;
          all = is_all ∙ sym (append_assoc listed (p ∷ []) ys) ∙ ap (λ (l : List (List Bool)). l ++ ys) (sym grown);
          is = following ∙ ap first left;
        }

pub may_list : (t : Tree) (listed : List (List Bool)) (next : Option (List Bool)) (p : List Bool) (room : ℕ) → AreListed t listed next → next ≡ Some p → settled_in t < room → length listed < room
may_list t listed next p room h is few = by h.rest h.all (sym h.is ∙ is)
  where
    by : (rest : List (List Bool)) → opens t ≡ listed ++ rest → first rest ≡ Some p → length listed < room
    by [] all e = cc
    by (q ∷ ys) all e =
        let o = few_opens t in let w = weigh-ones (opens t) in let n = ap length all ∙ length-append listed (q ∷ ys) in
        omega (arith, o, w, n, few)

pub fewer_left : (t : Tree) (listed more : List (List Bool)) (next : Option (List Bool)) (p : List Bool) → AreListed t listed next → next ≡ Some p → more ≡ listed ++ p ∷ [] → length (opens t) - length more < length (opens t) - length listed
fewer_left t listed more next p h is grown = by h.rest h.all (sym h.is ∙ is)
  where
    by : (rest : List (List Bool)) → opens t ≡ listed ++ rest → first rest ≡ Some p → length (opens t) - length more < length (opens t) - length listed
    by [] all e = cc
    by (q ∷ ys) all e =
        let n = ap length all ∙ length-append listed (q ∷ ys) in let m = ap length grown ∙ length-append listed (p ∷ []) in
        omega (arith, n, m)

pub all_piled : (t : Tree) (listed : List (List Bool)) (next : Option (List Bool)) → AreListed t listed next → next ≡ None → reverse listed ≡ piled [] t
all_piled t listed next h is = by h.rest h.all (sym h.is ∙ is)
  where
    by : (rest : List (List Bool)) → opens t ≡ listed ++ rest → first rest ≡ None → reverse listed ≡ piled [] t
    by [] all e =
        let w : opens t ≡ listed = all ∙ append-nil listed in
        ap reverse (sym w) ∙ ap reverse (sym (map-id (opens t)) ∙ sym (piled_back [] t)) ∙ reverse-reverse (piled [] t)
    by (q ∷ ys) all e = cc
