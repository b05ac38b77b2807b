-- Names that are kept in maps, and look-ups in them.
use Rattle.std.proofs.Common.{◌≡◌, ◌≤◌, ℕ, ◌+◌, drop, length, slice_get, Bool, true, false, List, ◌∷◌, refl, sym, ap, ◌∙◌, subst, Option, Some, Vec, Global, ⊎_elim}
use Rattle.std.specs.BTreeMap.{BTreeMap, UpdatesBy}
use Rattle.std.specs.Map.{AreApart, IsKeyTest, KeepsOthers, lookup, update}
use Rattle.std.specs.Ordering.{is_eq, nat_cmp}
use Rattle.std.specs.Cmp.Lexicographic.{slice_cmp}
use Rattle.std.specs.Str.{bytes_eq}
use Rattle.std.proofs.lemmas.Bool.{cases_Bool, cond-false, cond-true}
use Rattle.std.proofs.lemmas.Cmp.{eq_by_cmp_equiv, nat_list_cmp_total, nat_list_eq_equiv}
use Rattle.std.proofs.lemmas.List.{drop_all, drop_more}
use Rattle.std.proofs.lemmas.Option.{get_or_from_slice_get, slice_get_within}
use Rattle.std.proofs.lemmas.Map.Text.{is_eq-slice_cmp}
use Rattle.std.proofs.lemmas.Slice.Eq.{bytes_eq-Decides}
use Rattle.pv_parse.specs.declared.names.Meaning.TheVariants.{Variable as VariableMeaning}
use Rattle.pv_parse.specs.Meanings.{AreSame, Names, no_names, variables_from, with_known}
use Rattle.pv_parse.specs.Views.{found}

-- ---- Names that are declared alike

pub same_refl : (n : Names) → AreSame n n
same_refl n = record { known = λ name. refl; parameter = λ name. refl; pending = refl; negative = refl }

-- functions that agree are equal
pub as_one : (n m : Names) → AreSame n m → n ≡ m
as_one n m h = λ i. record { known = λ name. h.known name i; parameter = λ name. h.parameter name i; pending = h.pending i; negative = h.negative i }

by_one : (n m : Names) → n ≡ m → AreSame n m
by_one n m e = subst (λ (k : Names). AreSame n k) e (same_refl n)

-- ---- Look-ups after an insertion

apart : (bs cs ks : List ℕ) → bytes_eq bs cs ≡ false → is_eq (slice_cmp nat_cmp bs ks) ≡ true → is_eq (slice_cmp nat_cmp cs ks) ≡ false
apart bs cs ks n y =
    is_eq-slice_cmp cs ks ∙ (nat_list_eq_equiv.symm cs ks ∙ (sym (nat_list_eq_equiv.congr bs ks cs (sym (is_eq-slice_cmp bs ks) ∙ y)) ∙ n))

module _ {K X : Type 0} (eq : K → K → Bool) (test : K → Bool) where
  others : (old new : List (K × X)) → KeepsOthers eq test old new → (other : K → Bool) → IsKeyTest eq other → AreApart test other → lookup other new ≡ lookup other old
  unfolding KeepsOthers
  others old new h = h

pub found_after : {X : Type 0} (name : List ℕ) (m n : BTreeMap (Vec ℕ Global) X) (w : Option X) →
    UpdatesBy (λ x y. slice_cmp nat_cmp x.items y.items) (λ k. slice_cmp nat_cmp name k.items) m n w → (x : List ℕ) → found n x ≡ update bytes_eq (found m) name w x
found_after name m n w h x =
    ⊎_elim
    (λ y. subst (λ (l : List ℕ). found n l ≡ w) ((bytes_eq-Decides name x).0 y) h.1 ∙ sym (cond-true (bytes_eq name x) w (found m x) y))
    (λ e. others _ _ _ _ h.3 _ (λ j k. (eq_by_cmp_equiv nat_list_cmp_total).congr x j.items k.items) (λ k. apart name x k.items e) ∙ sym (cond-false (bytes_eq name x) w (found m x) e))
    (cases_Bool (bytes_eq name x))

-- ---- The variables of a system, the last one first

pub no_variables : (variables : List (List ℕ)) (i : ℕ) (n : Names) → length variables ≤ i → n ≡ no_names → AreSame n (variables_from (drop i variables) i)
no_variables variables i n past e = by_one _ _ (e ∙ ap (λ (z : List (List ℕ)). variables_from z i) (sym (drop_all i variables past)))

pub one_more : (variables : List (List ℕ)) (i j : ℕ) (x name : List ℕ) (old new : Names) → j + 1 ≡ i → slice_get variables j ≡ Some x → name ≡ x →
    AreSame old (variables_from (drop i variables) i) → AreSame new (with_known name (VariableMeaning j) old) → AreSame new (variables_from (drop j variables) j)
one_more variables i j x name old new e at is h g =
    let cut : drop j variables ≡ x ∷ drop (j + 1) variables =
    drop_more variables j x (slice_get_within variables j x at) ∙ ap (λ (z : List ℕ). z ∷ drop (j + 1) variables) (get_or_from_slice_get variables j x x at) in
    let rest : old ≡ variables_from (drop (j + 1) variables) (j + 1) = as_one _ _ h ∙ ap (λ (k : ℕ). variables_from (drop k variables) k) (sym e) in
    by_one _ _
    (as_one _ _ g
    ∙ (ap (λ (w : List ℕ). with_known w (VariableMeaning j) old) is
    ∙ (ap (with_known x (VariableMeaning j)) rest ∙ ap (λ (z : List (List ℕ)). variables_from z j) (sym cut))))
