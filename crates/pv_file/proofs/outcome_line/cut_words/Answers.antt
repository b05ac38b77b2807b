use Rattle.std.proofs.Common.{◌∷◌, ◌++◌, ◌∙◌, refl}
use Rattle.pv_file.proofs.Bytes.{pair_around, pair_grown}
use Rattle.pv_file.proofs.outcome_line.cut_words.Goals as goal

pub returns-in_err-one-clause-complete : goal.returns-in_err-one-clause-complete
returns-in_err-one-clause-complete c = λ a b more p q s e. absurd (c.in_err-one.ensures.complete a (32 ∷ (b ++ more)) p refl (e ∙ pair_around a b more))

pub returns-in_err-two-clause-complete : goal.returns-in_err-two-clause-complete
returns-in_err-two-clause-complete c = λ a b more p q s e.
    let one = c.in_ok-one.ensures.complete a (32 ∷ (b ++ more)) p refl (e ∙ pair_around a b more) in
    absurd (c.in_err-two.ensures.complete b more q s one.1)

pub returns-clause-complete : goal.returns-clause-complete
returns-clause-complete c = λ a b more p q s e.
    let one = c.in_ok-one.ensures.complete a (32 ∷ (b ++ more)) p refl (e ∙ pair_around a b more) in
    let two = c.in_ok-two.ensures.complete b more q s one.1 in
    (one.0, two.0, two.1)

pub returns-clause-sound : goal.returns-clause-sound
returns-clause-sound c = pair_grown _ _ _ _ _ c.in_ok-one.ensures.sound c.in_ok-two.ensures.sound
