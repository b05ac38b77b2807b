-- The ends of a line, place by place.
use Rattle.std.proofs.Common.{◌≡◌, ℕ, suc, ◌+◌, ◌<◌, List, [], ◌∷◌, ◌++◌, length, drop, refl, sym, ◌∙◌, ap, subst, arith, append_assoc}
use Rattle.std.specs.Prelude.{slice_index_or}
use Rattle.std.proofs.Math.Seq.{drop-cons}
use Rattle.pv_interval.specs.Bounds.{Bounds}
use Rattle.pv_file.specs.declared.version.Version.{Version}
use Rattle.pv_file.specs.declared.version.Version.TheVariants.{One, Two}
use Rattle.pv_file.specs.Lines.{kept_text}
use Rattle.pv_file.proofs.Places.{kept_length}
use Rattle.pv_file.specs.Words.{EndsAWord, part_text, IsPartOf, IsKeptOf, PutsEnds}

pub kept_step : (v : Version) (old : Bounds) (b : List Bounds) (x : Bounds) (xs : List Bounds) → kept_text v (old ∷ b) (x ∷ xs) ≡ part_text v old x ++ kept_text v b xs
kept_step One old b x xs = refl
kept_step Two old b x xs = refl

pub kept_ends : (v : Version) (b to : List Bounds) → EndsAWord (kept_text v b to)
kept_ends One b [] = tt
kept_ends One b (x ∷ xs) = refl
kept_ends Two [] to = tt
kept_ends Two (old ∷ b) [] = tt
kept_ends Two (old ∷ b) (x ∷ xs) = refl

-- The places from the i-th on begin with the i-th.
pub at_place : (b : List Bounds) (i : ℕ) (d : Bounds) → i < length b → d ≡ slice_index_or b i d → drop i b ≡ d ∷ drop (i + 1) b
at_place b i d l e =
    let one : suc i ≡ i + 1 = omega arith in
    drop-cons b i d l ∙ ap (λ (x : Bounds). x ∷ drop (suc i) b) (sym e) ∙ ap (λ (k : ℕ). d ∷ drop k b) one

none_fits : (v : Version) (old : Bounds) (b : List Bounds) (bytes : List ℕ)
    → ((x : Bounds) (more : List ℕ) → IsPartOf old x → EndsAWord more → bytes ≡ part_text v old x ++ more → ⊥)
    → (to : List Bounds) → IsKeptOf (old ∷ b) to → bytes ≡ kept_text v (old ∷ b) to → ⊥
none_fits v old b bytes none [] k e = absurd k
none_fits v old b bytes none (x ∷ xs) k e = none x (kept_text v b xs) k.0 (kept_ends v b xs) (e ∙ kept_step v old b x xs)

pub no_part : (v : Version) (old : Bounds) (b bs : List Bounds) (bytes : List ℕ) → bs ≡ old ∷ b
    → ((x : Bounds) (more : List ℕ) → IsPartOf old x → EndsAWord more → bytes ≡ part_text v old x ++ more → ⊥)
    → (to : List Bounds) → IsKeptOf bs to → bytes ≡ kept_text v bs to → ⊥
no_part v old b bs bytes split none to k e =
    none_fits v old b bytes none to (subst (λ (y : List Bounds). IsKeptOf y to) split k) (subst (λ (y : List Bounds). bytes ≡ kept_text v y to) split e)

pub puts_more : (v : Version) (old part : Bounds) (b bs : List Bounds) (bytes rest : List ℕ) (before mid after : List Bounds) → bs ≡ old ∷ b
    → bytes ≡ part_text v old part ++ rest → IsPartOf old part → mid ≡ before ++ part ∷ [] → PutsEnds v b rest mid after → PutsEnds v bs bytes before after
puts_more v old part b bs bytes rest before mid after split e k m p =
    let grown : PutsEnds v (old ∷ b) bytes before after = record {
      to = part ∷ p.to;
      put = p.put ∙ ap (λ (x : List Bounds). x ++ p.to) m ∙ append_assoc before (part ∷ []) p.to;
      text = e ∙ ap (λ (x : List ℕ). part_text v old part ++ x) p.text ∙ sym (kept_step v old b part p.to);
      kept = (k, p.kept);
    } in
    subst (λ (y : List Bounds). PutsEnds v y bytes before after) (sym split) grown

-- The further intervals of a text that is known.
pub record IsFurther (v : Version) (old : Bounds) (b : List Bounds) (part : Bounds) (rest : List ℕ) (to : List Bounds) : Type 0 where
  pub others : List Bounds
  pub is : to ≡ part ∷ others
  pub kept : IsKeptOf b others
  pub text : rest ≡ kept_text v b others

known_further : (v : Version) (old : Bounds) (b : List Bounds) (bytes : List ℕ) (part : Bounds) (rest : List ℕ)
    → ((x : Bounds) (more : List ℕ) → IsPartOf old x → EndsAWord more → bytes ≡ part_text v old x ++ more → (part ≡ x) × (rest ≡ more))
    → (to : List Bounds) → IsKeptOf (old ∷ b) to → bytes ≡ kept_text v (old ∷ b) to → IsFurther v old b part rest to
known_further v old b bytes part rest one [] k e = absurd k
known_further v old b bytes part rest one (x ∷ xs) k e =
    let both : (part ≡ x) × (rest ≡ kept_text v b xs) = one x (kept_text v b xs) k.0 (kept_ends v b xs) (e ∙ kept_step v old b x xs) in record {
      others = xs;
      is = ap (λ (y : Bounds). y ∷ xs) (sym both.0);
      kept = k.1;
      text = both.1;
    }

pub further : (v : Version) (old : Bounds) (b bs : List Bounds) (bytes : List ℕ) (part : Bounds) (rest : List ℕ) → bs ≡ old ∷ b
    → ((x : Bounds) (more : List ℕ) → IsPartOf old x → EndsAWord more → bytes ≡ part_text v old x ++ more → (part ≡ x) × (rest ≡ more))
    → (to : List Bounds) → IsKeptOf bs to → bytes ≡ kept_text v bs to → IsFurther v old b part rest to
further v old b bs bytes part rest split one to k e =
    known_further v old b bytes part rest one to (subst (λ (y : List Bounds). IsKeptOf y to) split k) (subst (λ (y : List Bounds). bytes ≡ kept_text v y to) split e)

pub put_further : (part : Bounds) (xs to before mid after : List Bounds) → to ≡ part ∷ xs → mid ≡ before ++ part ∷ [] → after ≡ mid ++ xs → after ≡ before ++ to
put_further part xs to before mid after t m e =
    e ∙ ap (λ (y : List Bounds). y ++ xs) m ∙ append_assoc before (part ∷ []) xs ∙ ap (λ (y : List Bounds). before ++ y) (sym t)

pub put_alone : (v : Version) (b : List Bounds) (bytes : List ℕ) (before after : List Bounds) → before ≡ [] → (p : PutsEnds v b bytes before after) → after ≡ p.to
put_alone v b bytes before after e p = p.put ∙ ap (λ (x : List Bounds). x ++ p.to) e

pub put_length : (v : Version) (b : List Bounds) (bytes : List ℕ) (before after : List Bounds) → before ≡ [] → PutsEnds v b bytes before after → length after ≡ length b
put_length v b bytes before after e p = ap length (put_alone v b bytes before after e p) ∙ kept_length b p.to p.kept
