-- Lists of boxes over the same variables.
use Rattle.std.proofs.Common.{◌≡◌, ℕ, zero, suc, ◌+◌, ◌<◌, List, [], ◌∷◌, ◌++◌, length, refl, ap, sym, ◌∙◌, drop, get_or, add-one}
use Rattle.std.proofs.Math.Seq.{drop-cons}
use Rattle.pv_ctc.specs.Contracting.{hull_with}
use Rattle.std.specs.Prelude.{option_and_then, All, Option, Some, None, slice_index_or}
use Rattle.pv_box.specs.Boxes.{hull_boxes}
use Rattle.pv_box.specs.QHull.{column, place_hull_of, places_from, q_hull_of}
use Rattle.std.proofs.lemmas.List.Elements.{All-push}
use Rattle.pv_interval.specs.Bounds.{Bounds}
use Rattle.std.proofs.lemmas.Option.{same_Some}

pub all_push : (n : ℕ) (bs : List (List Bounds)) (b : List Bounds) → All (λ c. length c ≡ n) bs → length b ≡ n → All (λ c. length c ≡ n) (bs ++ b ∷ [])
all_push n bs b h g = All-push (λ c. length c ≡ n) bs b h g

pub hulls_length : (a b : List Bounds) → length (hull_boxes a b) ≡ length a
hulls_length [] b = refl
hulls_length (x ∷ a) [] = refl
hulls_length (x ∷ a) (y ∷ b) = ap suc (hulls_length a b)

taken : (o : Option Bounds) (p : Option (List Bounds)) (c : List Bounds) (n : ℕ) → ((xs : List Bounds) → p ≡ Some xs → length xs ≡ n) → option_and_then (λ x. option_and_then (λ xs. Some (x ∷ xs)) p) o ≡ Some c → length c ≡ suc n
taken None p c n h e = absurd (cc)
taken (Some x) None c n h e = absurd (cc)
taken (Some x) (Some xs) c n h e = ap length (sym (same_Some (x ∷ xs) c e)) ∙ ap suc (h xs refl)

from_length : (q k n : ℕ) (bs : List (List Bounds)) (c : List Bounds) → places_from q k n bs ≡ Some c → length c ≡ n
from_length q k zero bs c e = ap length (sym (same_Some [] c e))
from_length q k (suc n) bs c e = taken (place_hull_of q (column k bs)) (places_from q (k + 1) n bs) c n (λ xs. from_length q (k + 1) n bs xs) e

pub q_hull_length : (q n : ℕ) (bs : List (List Bounds)) (c : List Bounds) → All (λ b. length b ≡ n) bs → 0 < length bs → q_hull_of q bs ≡ Some c → length c ≡ n
unfolding q_hull_of
q_hull_length q n bs c h l e = from_length q 0 (length (slice_index_or bs 0 [])) bs c e ∙ h 0 [] l

pub hull_more : (bs : List (List Bounds)) (i : ℕ) (b new c : List Bounds) → i < length bs → c ≡ get_or bs i c → new ≡ hull_boxes b c → hull_with new (drop (i + 1) bs) ≡ hull_with b (drop i bs)
hull_more bs i b new c h e f =
    ap (λ x. hull_with x (drop (i + 1) bs)) (f ∙ ap (hull_boxes b) e)
    ∙ ap (λ n. hull_with (hull_boxes b (get_or bs i c)) (drop n bs)) (add-one i)
    ∙ sym (ap (hull_with b) (drop-cons bs i c h))
