-- Texts that go to a sink piece by piece.
use Rattle.std.proofs.Common.{◌≡◌, ℕ, List, [], ◌++◌, length, take, drop, Option, Some, None, refl, sym, ◌∙◌, ap, append_assoc, append-nil}
use Rattle.std.specs.Prelude.{Result, Ok, Err, OnErr}
use Rattle.std.proofs.Math.Seq.{take-append_seam}
use Rattle.std.proofs.lemmas.List.{take-append-drop}
use Rattle.pv_io.specs.Outside.{appended, AppendsFront}

pub appended_twice : (told : Option (List ℕ)) (a b : List ℕ) → appended (appended told a) b ≡ appended told (a ++ b)
appended_twice None a b = refl
appended_twice (Some xs) a b = ap Some (append_assoc xs a b)

pub appended_none : (told : Option (List ℕ)) → appended told [] ≡ told
appended_none None = refl
appended_none (Some xs) = ap Some (append-nil xs)

front_is : (total xs ys : List ℕ) → total ≡ xs ++ ys → take (length xs) total ≡ xs
front_is total xs ys e = ap (take (length xs)) e ∙ take-append_seam xs ys

-- what was sent is a first part of the whole text
pub sent_front : (before after : Option (List ℕ)) (sent rest total : List ℕ) → after ≡ appended before sent → total ≡ sent ++ rest → AppendsFront before after total
sent_front before after sent rest total e t = (length sent, e ∙ ap (appended before) (sym (front_is total sent rest t)))

-- a first part of what was held went on
pub held_front : (before mid after : Option (List ℕ)) (sent held rest total : List ℕ) → mid ≡ appended before sent → total ≡ (sent ++ held) ++ rest → AppendsFront mid after held
    → AppendsFront before after total
held_front before mid after sent held rest total m t front =
    sent_front before after (sent ++ take front.0 held) (drop front.0 held ++ rest) total
    (front.1 ∙ ap (λ (x : Option (List ℕ)). appended x (take front.0 held)) m ∙ appended_twice before sent (take front.0 held))
    (t ∙ append_assoc sent held rest ∙ ap (λ (x : List ℕ). sent ++ (x ++ rest)) (sym (take-append-drop front.0 held))
    ∙ ap (λ (x : List ℕ). sent ++ x) (append_assoc (take front.0 held) (drop front.0 held) rest) ∙ sym (append_assoc sent (take front.0 held) (drop front.0 held ++ rest)))

regroup : (s h t p : List ℕ) → (s ++ h) ++ (t ++ p) ≡ (s ++ (h ++ t)) ++ p
regroup s h t p = simp append_assoc

-- one line more is held
pub line_held : (total sent held held' line pending pending' : List ℕ) → total ≡ (sent ++ held) ++ pending → pending ≡ line ++ pending' → held' ≡ held ++ line
    → total ≡ (sent ++ held') ++ pending'
line_held total sent held held' line pending pending' t p h =
    t ∙ ap (λ (x : List ℕ). (sent ++ held) ++ x) p ∙ regroup sent held line pending' ∙ ap (λ (x : List ℕ). (sent ++ x) ++ pending') (sym h)

-- a part of what is held goes on
pub part_sent : (total sent held part held' pending : List ℕ) → total ≡ (sent ++ held) ++ pending → held ≡ part ++ held' → total ≡ ((sent ++ part) ++ held') ++ pending
part_sent total sent held part held' pending t h =
    t ∙ ap (λ (x : List ℕ). (sent ++ x) ++ pending) h ∙ ap (λ (x : List ℕ). x ++ pending) (sym (append_assoc sent part held'))

-- all was sent
pub all_sent : (before mid after : Option (List ℕ)) (sent held total : List ℕ) → mid ≡ appended before sent → total ≡ (sent ++ held) ++ [] → after ≡ appended mid held
    → after ≡ appended before total
all_sent before mid after sent held total m t e =
    e ∙ ap (λ (x : Option (List ℕ)). appended x held) m ∙ appended_twice before sent held ∙ ap (appended before) (sym (t ∙ append-nil (sent ++ held)))

pub on_any : {T E P : Type 0} (r : Result T E) → P → OnErr r P
on_any (Ok x) p = tt
on_any (Err e) p = p

pub more_sent : (before mid after : Option (List ℕ)) (sent part : List ℕ) → mid ≡ appended before sent → after ≡ appended mid part → after ≡ appended before (sent ++ part)
more_sent before mid after sent part m e = e ∙ ap (λ (x : Option (List ℕ)). appended x part) m ∙ appended_twice before sent part
