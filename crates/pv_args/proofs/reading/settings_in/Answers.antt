use Rattle.std.proofs.Common.{ℕ, List, sym, ◌∙◌, ap, subst, codes}
use Rattle.pv_request.specs.Requests.{IsCount, IsWidth, value_of, bad_eps, bad_depth, bad_bisector, bad_form}
use Rattle.pv_args.specs.Found.{rows_in}
use Rattle.pv_args.proofs.reading.settings_in.Goals as goal

pub returns-in_err-eps : goal.returns-in_err-eps
returns-in_err-eps c =
    rw c.from_residual.ensures (bad_eps (λ n h. c.in_err-eps.ensures.width n (subst (λ (t : List ℕ). IsWidth t n) (sym c.text_in.ensures) h)))

pub returns-in_err-depth : goal.returns-in_err-depth
returns-in_err-depth c =
    rw c.from_residual-in_err-depth.ensures (bad_depth (λ n h. c.in_err-depth.ensures n (subst (λ (t : List ℕ). IsCount 1 200 t n) (sym c.text_in-2.ensures) h)))

pub returns-in_err-bisector : goal.returns-in_err-bisector
returns-in_err-bisector c =
    rw c.from_residual-in_err-bisector.ensures (bad_bisector (λ b h. c.in_err-bisector.ensures b (c.text_in-3.ensures ∙ h)))

pub returns-in_err-form : goal.returns-in_err-form
returns-in_err-form c =
    rw c.from_residual-in_err-form.ensures (bad_form (λ f h. c.in_err-form.ensures f
    (c.text_in-4.ensures ∙ ap (λ (usual : List ℕ). value_of (codes "form") usual (rows_in c.args.found.now)) c.name_of_form.ensures ∙ h)))
