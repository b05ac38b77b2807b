-- Two numbers with a slash between them, and what they give.
use Rattle.std.proofs.Common.{◌≡◌, ◌⊎◌, inl, inr, ℕ, ◌+◌, ◌<◌, ◌≤◌, ◌==◌, if◌then◌else◌, List, [], ◌∷◌, length, refl, sym, ◌∙◌, ap, subst, arith}
use Rattle.std.specs.Prelude.{Option, Some, None, IfSome, MatchOption, codes}
use Rattle.std.specs.Str.{bytes_eq}
use Rattle.std.specs.Str.Parse.{digits_value}
use Rattle.std.proofs.lemmas.List.Splits.{length-slice_split}
use Rattle.clap.specs.Words.{Row, Text, first_of}
use Rattle.pv_scope.specs.declared.order.Order.{Order}
use Rattle.pv_scope.specs.declared.order.Order.TheVariants.{Depth, Level}
use Rattle.pv_scope.specs.declared.share.Share.{Share}
use Rattle.pv_request.specs.Requests.{words_by_slash, IsDigits, IsShare, HasNoShare, IsEffort, usual_boxes, order_name, resumes, HasBadValueFor}
use Rattle.pv_args.specs.Found.{RefusesValues}
use Rattle.pv_request.specs.declared.request.Effort.{Effort}
use Rattle.pv_request.specs.declared.refusal.Refusal.{Refusal}
use Rattle.pv_request.specs.declared.refusal.Refusal.TheVariants.{Usage, System, Contract, Objective, NoFile, ReadFault, Paving, NotStored, KeeperFault, NotPrinted, Memory, TreeLimit, Disagree, Differs}

-- ---- How many parts there are

pub not_two_of_one : (t a b : Text) → words_by_slash t ≡ t ∷ [] → words_by_slash t ≡ a ∷ b ∷ [] → ⊥
not_two_of_one t a b one two = let same : t ∷ [] ≡ a ∷ b ∷ [] = sym one ∙ two in cc

some_parts : (t : Text) → 1 ≤ length (words_by_slash t)
some_parts t = let count = length-slice_split (λ (c : ℕ). c == 47) t in omega arith

pub not_two_of_more : (t first rest second last a b : Text) → words_by_slash t ≡ first ∷ words_by_slash rest → words_by_slash rest ≡ second ∷ words_by_slash last
    → words_by_slash t ≡ a ∷ b ∷ [] → ⊥
not_two_of_more t first rest second last a b e f two =
    let all : length (words_by_slash t) ≡ length (first ∷ words_by_slash rest) = ap length e in
    let later : length (words_by_slash rest) ≡ length (second ∷ words_by_slash last) = ap length f in
    let end = some_parts last in
    let both : length (words_by_slash t) ≡ length (a ∷ b ∷ []) = ap length two in
    omega arith

-- ---- What the parts are

first_of_two : (a b c d : Text) → a ∷ b ∷ [] ≡ c ∷ d ∷ [] → a ≡ c
first_of_two a b c d e = cc

second_of_two : (a b c d : Text) → a ∷ b ∷ [] ≡ c ∷ d ∷ [] → b ≡ d
second_of_two a b c d e = cc

-- the parts of a share's text are its numbers
pub share_parts : (t number of : Text) (s : Share) → words_by_slash t ≡ number ∷ of ∷ [] → (h : IsShare t s) → (h.number ≡ number) × (h.of ≡ of)
share_parts t number of s words h =
    let same : h.number ∷ h.of ∷ [] ≡ number ∷ of ∷ [] = sym h.words ∙ words in
    (first_of_two h.number h.of number of same, second_of_two h.number h.of number of same)

-- ---- The share of two numbers

same_value : (a b : Text) (m n : ℕ) → a ≡ b → IsDigits a m → IsDigits b n → m ≡ n
same_value a b m n e h k = h.value ∙ ap (λ (t : Text). digits_value 10 t) e ∙ sym k.value

-- texts of which one is no number give no share
pub no_number : (t number of : Text) (s : Share) → words_by_slash t ≡ number ∷ of ∷ [] → ((n : ℕ) → IsDigits number n → ⊥) → IsShare t s → ⊥
no_number t number of s words none h = none s.number (subst (λ (w : Text). IsDigits w s.number) (share_parts t number of s words h).0 h.number_is)

pub no_count : (t number of : Text) (s : Share) → words_by_slash t ≡ number ∷ of ∷ [] → ((n : ℕ) → IsDigits of n → ⊥) → IsShare t s → ⊥
no_count t number of s words none h = none s.of (subst (λ (w : Text). IsDigits w s.of) (share_parts t number of s words h).1 h.of_is)

pub share_made : (t number of : Text) (k n : ℕ) (r : Option Share) → words_by_slash t ≡ number ∷ of ∷ [] → IsDigits number k → IsDigits of n
    → IfSome r (λ s. (s.number ≡ k) × (s.of ≡ n)) → (r ≡ None → k < n → n ≤ 1000000 → ⊥) → MatchOption r ((s : Share) → IsShare t s → ⊥) (λ s. IsShare t s)
share_made t number of k n None words first second sound complete = λ s h.
    let parts = share_parts t number of s words h in
    let one : s.number ≡ k = same_value h.number number s.number k parts.0 h.number_is first in
    let two : s.of ≡ n = same_value h.of of s.of n parts.1 h.of_is second in
    let less = h.less in
    let few = h.few in
    complete refl (omega arith) (omega arith)
share_made t number of k n (Some s) words first second sound complete = record {
  number = number;
  of = of;
  words = words;
  number_is = subst (λ (m : ℕ). IsDigits number m) (sym sound.0) first;
  of_is = subst (λ (m : ℕ). IsDigits of m) (sym sound.1) second;
  less = s.less;
  few = s.few;
}

-- ---- A share beside an order

pub none_in_depth : (t : Text) → ((s : Share) → IsShare t s → ⊥) → HasNoShare Depth (Some t)
none_in_depth t none None h = h
none_in_depth t none (Some s) h = none s h

pub none_by_level : (t : Text) → HasNoShare Level (Some t)
none_by_level t None h = h
none_by_level t (Some s) h = h

order_in : Text → Order
order_in t = if bytes_eq t (codes "depth") then Depth else Level

order_of : (o : Order) → order_in (order_name o) ≡ o
unfolding order_in
order_of Depth = refl
order_of Level = refl

-- a name is that of one order
one_order : (o u : Order) → order_name o ≡ order_name u → o ≡ u
one_order o u e = sym (order_of o) ∙ ap order_in e ∙ order_of u

-- a share that is refused beside the order that the options give is a bad value
pub bad_share : (rows : List Row) (e : Effort) (r : Refusal) → IsEffort usual_boxes rows e → RefusesValues (HasNoShare e.order (first_of (codes "share") rows)) r
    → RefusesValues (HasBadValueFor resumes rows) r
bad_share rows e Usage h none =
    inr (inr (inr (inr (λ o same. subst (λ (x : Order). HasNoShare x (first_of (codes "share") rows)) (one_order e.order o (sym h.order ∙ same)) none))))
bad_share rows e Memory h none = tt
bad_share rows e (System line column byte cause) h none = none
bad_share rows e (Contract byte) h none = none
bad_share rows e (Objective byte cause) h none = none
bad_share rows e (NoFile n) h none = none
bad_share rows e (ReadFault n) h none = none
bad_share rows e (Paving n fault) h none = none
bad_share rows e (NotStored n) h none = none
bad_share rows e (KeeperFault n) h none = none
bad_share rows e NotPrinted h none = none
bad_share rows e (TreeLimit n) h none = none
bad_share rows e (Disagree path a b) h none = none
bad_share rows e (Differs path a b) h none = none
