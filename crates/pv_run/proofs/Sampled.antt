-- What a sample's text and settings come to.
use Rattle.std.proofs.Common.{◌≡◌, ◌≢◌, ℕ, ◌≤◌, pos, List, Ok, Err, length, refl, sym, ◌∙◌, subst, arith}
use Rattle.std.specs.Prelude.{IsTrue, None, Some, Result, IfOk, IfErr, OnOk, codes}
use Rattle.pv_num.specs.Extended.{Extended, Fin, PosInf}
use Rattle.pv_num.specs.Order.{le}
use Rattle.pv_num.specs.Arithmetic.{ratio_of}
use Rattle.pv_num.specs.declared.num.End.TheVariants.{Down}
use Rattle.pv_num.proofs.Ratios.{ratio-from_zero, ratio-finite}
use Rattle.pv_expr.specs.Systems.{Parts}
use Rattle.pv_parse.specs.Declarations.{IsMeaning, IsSystemSentence}
use Rattle.pv_parse.specs.declared.refused.ParseRefused.{ParseRefused}
use Rattle.pv_parse.specs.declared.refused.ParseRefused.TheVariants as parse
use Rattle.pv_parse.proofs.Outcomes.{system_apart}
use Rattle.pv_ctc.specs.Refusals.{refused_at}
use Rattle.pv_ctc.specs.Symbols.{digits_token, further, token_of, tokens_at}
use Rattle.pv_tree.specs.Trees.{Tree, leaf}
use Rattle.pv_tree.specs.Stages.{full_of}
use Rattle.pv_slope.specs.Methods.{Method, method_of, settle_by}
use Rattle.pv_slope.specs.declared.form.FormSettler.{FormSettler}
use Rattle.pv_rule.specs.Systems.{IsFaultOf, IsRuleFor, RefusesSettings, search_box}
use Rattle.pv_request.specs.Refusals.{refusal_of}
use Rattle.pv_rule.specs.Pavings.{IsPaved, settled_in}
use Rattle.pv_product.specs.Products.{AreForSamples, RefusesSample, text_of, full_by}
use Rattle.pv_run.proofs.Few.{few_of_sample}
use Rattle.pv_circles.proofs.MadeSystems.{sample_sentence}
use Rattle.pv_run.specs.Samples.{IsMadeRule}
use Rattle.pv_request.specs.declared.request.Circles.{Circles}
use Rattle.pv_request.specs.declared.request.Settings.{Settings}
use Rattle.pv_request.specs.declared.refusal.Refusal.{Refusal}
use Rattle.pv_request.specs.declared.refusal.Refusal.TheVariants.{Usage, System, Contract, Objective, NoFile, ReadFault, Paving, NotStored, KeeperFault, NotPrinted, Memory, TreeLimit, Disagree, Differs}

-- ---- The width

pub eight_from : (n : Extended) → n ≡ ratio_of Down (pos 8) 1 → IsTrue (le (Fin (pos 0)) n)
eight_from n is = subst (λ (x : Extended). IsTrue (le (Fin (pos 0)) x)) (sym is) (ratio-from_zero Down 8 1 (omega arith))

pub eight_finite : (n : Extended) → n ≡ ratio_of Down (pos 8) 1 → n ≢ PosInf
eight_finite n is = subst (λ (x : Extended). x ≢ PosInf) (sym is) (ratio-finite Down (pos 8) 1 (omega arith) (omega arith)).1

-- ---- The system

-- the reader refuses the text for want of memory alone
pub not_read : (c : Circles) (text : List ℕ) (e : ParseRefused) (r : Refusal) → text ≡ text_of c → IsFaultOf text e → r ≡ refusal_of e → RefusesSample r
not_read c text parse.Memory r same fault is = subst RefusesSample (sym is) tt
not_read c text (parse.Fault byte line column cause) r same fault is =
    let sentence : IsSystemSentence (text_of c) = sample_sentence c.seed c.count c.count_fits.0 c.count_fits.1 in
    absurd (system_apart text byte cause (subst IsSystemSentence (sym same) sentence) fault.because)

pub made_rule : (c : Circles) (s : Settings) (text : List ℕ) (system : Parts) (r : Result FormSettler Refusal) → text ≡ text_of c → IsMeaning text system
    → IfOk r (λ x. IsRuleFor system s (method_of x)) → IfOk r (λ x. IsMadeRule c s (method_of x))
made_rule c s text system (Ok x) same means h = record { system = system; means = subst (λ (t : List ℕ). IsMeaning t system) same means; is = h }
made_rule c s text system (Err r) same means h = tt

-- the program names no constraint, so it is refused for no number of them
not_refused : (n : ℕ) → refused_at n (codes "prop(8)") ≡ None
unfolding refused_at tokens_at token_of further digits_token
not_refused n = refl

none_some : {byte : ℕ} → None ≡ Some byte → ⊥
none_some e = cc

no_rule : (s : Settings) (system : Parts) (r : Refusal) → AreForSamples s → RefusesSettings system s r → RefusesSample r
no_rule s system (Contract byte) for h = none_some (sym (not_refused (length system.constraints)) ∙ subst (λ (t : List ℕ). refused_at (length system.constraints) t ≡ Some byte) for.contract h)
no_rule s system Memory for h = tt
no_rule s system Usage for h = h
no_rule s system (System line column byte cause) for h = h
no_rule s system (Objective byte cause) for h = h
no_rule s system (NoFile n) for h = h
no_rule s system (ReadFault n) for h = h
no_rule s system (Paving n f) for h = h
no_rule s system (NotStored n) for h = h
no_rule s system (KeeperFault n) for h = h
no_rule s system NotPrinted for h = h
no_rule s system (TreeLimit n) for h = h
no_rule s system (Disagree p a b) for h = h
no_rule s system (Differs p a b) for h = h

pub not_made : (s : Settings) (system : Parts) (r : Result FormSettler Refusal) → AreForSamples s → IfErr r (RefusesSettings system s) → IfErr r RefusesSample
not_made s system (Ok x) for h = tt
not_made s system (Err r) for h = no_rule s system r for h

-- ---- The paving

-- so large a budget is enough for a tree of at most 14 cuts on a path
pub is_full : (rule : Method) (t : Tree) → rule.parts.depth ≡ 14 → IsPaved (settle_by rule) rule.parts.depth (search_box rule) leaf 100000 t → t ≡ full_by rule leaf
is_full rule t deep paved =
    let few : settled_in (full_of (settle_by rule) rule.parts.depth (search_box rule) leaf 0) ≤ 32767 =
    subst (λ (d : ℕ). settled_in (full_of (settle_by rule) d (search_box rule) leaf 0) ≤ 32767) (sym deep) (few_of_sample (settle_by rule) (search_box rule)) in
    paved.full (paved.fits.1 (omega arith))

pub on_ok : {T E P : Type 0} (r : Result T E) → P → OnOk r P
on_ok (Ok x) p = p
on_ok (Err e) p = tt
