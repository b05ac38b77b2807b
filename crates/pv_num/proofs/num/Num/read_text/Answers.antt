use Rattle.std.proofs.Common.{rules, w64, Some, ap, sym, ◌∙◌}
use Rattle.pv_num.specs.Parts.{number_text, parts_of}
use Rattle.pv_num.proofs.Texts.{minus_text, plus_text, minus_only, plus_only, finite_text, spelling, spelled_text, parts_spell, none_some, not_ends, word64, word16, pair_first, pair_second, no_fin, the_fin, the_parts}
use Rattle.std.proofs.lemmas.Int.{to_z-of_z}
use mir.Val.{SFits}
use mir.Syntax.{w16}
use Rattle.pv_num.proofs.num.Num.read_text.Goals as goal

pub returns-then-same_bytes-clause-sound : goal.returns-then-same_bytes-clause-sound
returns-then-same_bytes-clause-sound c = c.same_bytes.ensures.0 c.if-same_bytes.true ∙ sym minus_text

pub returns-then-same_bytes-clause-complete : goal.returns-then-same_bytes-clause-complete
returns-then-same_bytes-clause-complete c = λ x g e. ap Some (sym (minus_only x g (sym (c.same_bytes.ensures.0 c.if-same_bytes.true) ∙ e)))

pub returns-then-same_bytes-2-clause-sound : goal.returns-then-same_bytes-2-clause-sound
returns-then-same_bytes-2-clause-sound c = c.same_bytes-2.ensures.0 c.if-same_bytes-2.true ∙ sym plus_text

pub returns-then-same_bytes-2-clause-complete : goal.returns-then-same_bytes-2-clause-complete
returns-then-same_bytes-2-clause-complete c = λ x g e. ap Some (sym (plus_only x g (sym (c.same_bytes-2.ensures.0 c.if-same_bytes-2.true) ∙ e)))

pub returns-in_err-m-clause-complete : goal.returns-in_err-m-clause-complete
returns-in_err-m-clause-complete c = λ x g e.
    let f = finite_text x c.args.bytes.now g e (not_ends _ _ c.same_bytes.ensures c.if-same_bytes.false) (not_ends _ _ c.same_bytes-2.ensures c.if-same_bytes-2.false) in
    let s = spelling f.0 f.2 in
    absurd (none_some _ (c.in_err-m.ensures.complete s.m s.e s.spelled.m_fits s.spelled.e_fits (e ∙ ap number_text f.1 ∙ spelled_text f.0 s.m s.e s.spelled)))

pub returns-in_err-number-clause-complete : goal.returns-in_err-number-clause-complete
returns-in_err-number-clause-complete c = λ x g e.
    let f = finite_text x c.args.bytes.now g e (not_ends _ _ c.same_bytes.ensures c.if-same_bytes.false) (not_ends _ _ c.same_bytes-2.ensures c.if-same_bytes-2.false) in
    let s = spelling f.0 f.2 in
    let q = c.in_ok-m.ensures.complete s.m s.e s.spelled.m_fits s.spelled.e_fits (e ∙ ap number_text f.1 ∙ spelled_text f.0 s.m s.e s.spelled) in
    absurd (no_fin _ _ s.m s.e f.0
    (word64 c.in_ok-m.m s.m (pair_first (c.in_ok-m.m, c.in_ok-m.e) (s.m, s.e) q) s.spelled.m_fits)
    (word16 c.in_ok-m.e s.e (pair_second (c.in_ok-m.m, c.in_ok-m.e) (s.m, s.e) q) s.spelled.e_fits) f.2 s.spelled.value c.in_err-number.ensures)

pub returns-then-are_parts-clause-sound : goal.returns-then-are_parts-clause-sound
returns-then-are_parts-clause-sound c =
    let fm : SFits w64 c.in_ok-m.m = search rules in
    let fe : SFits w16 c.in_ok-m.e = search rules in
    c.in_ok-m.ensures.sound
    ∙ sym (parts_spell c.in_ok-number.number _ _ (sym c.parts.ensures.value ∙ the_parts c.in_ok-m.m c.in_ok-m.e _ _ c.parts.result (sym (to_z-of_z w64 c.in_ok-m.m fm)) (sym (to_z-of_z w16 c.in_ok-m.e fe)) (c.are_parts.ensures.0 c.if-are_parts.true)))

pub returns-then-are_parts-clause-complete : goal.returns-then-are_parts-clause-complete
returns-then-are_parts-clause-complete c = λ x g e.
    let f = finite_text x c.args.bytes.now g e (not_ends _ _ c.same_bytes.ensures c.if-same_bytes.false) (not_ends _ _ c.same_bytes-2.ensures c.if-same_bytes-2.false) in
    let s = spelling f.0 f.2 in
    let q = c.in_ok-m.ensures.complete s.m s.e s.spelled.m_fits s.spelled.e_fits (e ∙ ap number_text f.1 ∙ spelled_text f.0 s.m s.e s.spelled) in
    ap Some (the_fin _ _ s.m s.e f.0 c.in_ok-number.number
    (word64 c.in_ok-m.m s.m (pair_first (c.in_ok-m.m, c.in_ok-m.e) (s.m, s.e) q) s.spelled.m_fits)
    (word16 c.in_ok-m.e s.e (pair_second (c.in_ok-m.m, c.in_ok-m.e) (s.m, s.e) q) s.spelled.e_fits) c.in_ok-number.ensures s.spelled.value ∙ sym f.1)

pub returns-else-are_parts-clause-complete : goal.returns-else-are_parts-clause-complete
returns-else-are_parts-clause-complete c = λ x g e.
    let f = finite_text x c.args.bytes.now g e (not_ends _ _ c.same_bytes.ensures c.if-same_bytes.false) (not_ends _ _ c.same_bytes-2.ensures c.if-same_bytes-2.false) in
    let s = spelling f.0 f.2 in
    let q = c.in_ok-m.ensures.complete s.m s.e s.spelled.m_fits s.spelled.e_fits (e ∙ ap number_text f.1 ∙ spelled_text f.0 s.m s.e s.spelled) in
    let wm = word64 c.in_ok-m.m s.m (pair_first (c.in_ok-m.m, c.in_ok-m.e) (s.m, s.e) q) s.spelled.m_fits in
    let we = word16 c.in_ok-m.e s.e (pair_second (c.in_ok-m.m, c.in_ok-m.e) (s.m, s.e) q) s.spelled.e_fits in
    let r = the_fin _ _ s.m s.e f.0 c.in_ok-number.number wm we c.in_ok-number.ensures s.spelled.value in
    absurd (not_ends _ _ c.are_parts.ensures c.if-are_parts.false (the_parts _ _ s.m s.e c.parts.result wm we (c.parts.ensures.value ∙ ap parts_of r ∙ s.spelled.parts)))
