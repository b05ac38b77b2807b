use Rattle.std.proofs.Common.{◌≡◌, ◌<◌, ◌+◌, ◌∷◌, [], sym, ◌∙◌, subst, length, length-append, ap, rules, true, false}
use Rattle.pv_tree.specs.Trees.{subtree, Fits}
use Rattle.pv_join.specs.Joins.{IsOverlaid, IsReady, IsRefusal}
use Rattle.pv_join.proofs.JoinFacts.{top_is, some_there, fits_there, depth_there}
use Rattle.pv_join.proofs.Overlays.{overlaid_open, overlaid_end, mismatch_refusal, middle, short_there, ready_low, past_low, ready_high, overlaid_cut, refusal_low, refusal_high, on_ok_map, if_err_map}
use Rattle.pv_join.proofs.merge.+overlay.Goals as goal

pub returns-in_default-clause-ok : goal.returns-in_default-clause-ok
returns-in_default-clause-ok t c = overlaid_open c.args.into.now.tree c.args.over.now.tree c.args.path (sym c.in_ok-theirs.ensures ∙ c.in_default.is)

pub settle_as-requires-clause-fits : goal.settle_as-requires-clause-fits
settle_as-requires-clause-fits t c =
    let theirs = sym c.in_ok-theirs.ensures ∙ c.in-Some.is in
    let x = some_there (subtree c.args.over.now.tree c.args.path) c.requires.theirs in
    let top = sym (top_is c.args.over.now.tree c.args.path x.0 x.1) ∙ theirs in
    subst (λ b. Fits b c.in-Some.theirs) (sym c.requires.box) (fits_there c.args.over.now.root c.args.over.now.tree c.args.path x.0 c.in-Some.theirs c.dims-places.ensures.paving.paves x.1 top)

pub settle_as-requires-clause-depth : goal.settle_as-requires-clause-depth
settle_as-requires-clause-depth t c =
    let theirs = sym c.in_ok-theirs.ensures ∙ c.in-Some.is in
    let x = some_there (subtree c.args.over.now.tree c.args.path) c.requires.theirs in
    let top = sym (top_is c.args.over.now.tree c.args.path x.0 x.1) ∙ theirs in
    depth_there c.args.over.now.tree c.args.path x.0 c.in-Some.theirs x.1 top c.dims-places.ensures.paving.depth

pub returns-in-Err-clause-refusal : goal.returns-in-Err-clause-refusal
returns-in-Err-clause-refusal t c =
    let theirs = sym c.in_ok-theirs.ensures ∙ c.in-Some.is in
    mismatch_refusal c.args.into.now.tree c.args.over.now.tree c.args.path c.in-Some.theirs c.in-Err.refusal theirs c.in-Err.ensures.differ

pub returns-then-not-goes_on-clause-ok : goal.returns-then-not-goes_on-clause-ok
returns-then-not-goes_on-clause-ok t c =
    let theirs = sym c.in_ok-theirs.ensures ∙ c.in-Some.is in
    overlaid_end c.args.into.now.tree c.settle_as.new.into.tree c.args.over.now.tree c.args.path c.in-Some.theirs theirs (sym c.is_cut-goes_on.ensures ∙ c.if-not-goes_on.true) c.in-Ok.ensures.ok

pub low-requires : goal.low-requires
low-requires t c =
    let theirs = sym c.in_ok-theirs.ensures ∙ c.in-Some.is in
    let cut = sym c.is_cut-goes_on.ensures ∙ c.if-not-goes_on.false in
    let m = middle c.args.into.now.tree c.settle_as.new.into.tree c.args.over.now.tree c.args.path c.in-Some.theirs c.requires.mine c.requires.theirs theirs cut c.in-Ok.ensures.ok in
    short_there c.args.into.now.tree c.settle_as.new.into.tree c.args.over.now.tree c.args.path m c.dims-places.ensures.paving.depth

pub overlay-requires : goal.overlay-requires
overlay-requires t c =
    let theirs = sym c.in_ok-theirs.ensures ∙ c.in-Some.is in
    let cut = sym c.is_cut-goes_on.ensures ∙ c.if-not-goes_on.false in
    let m = middle c.args.into.now.tree c.settle_as.new.into.tree c.args.over.now.tree c.args.path c.in-Some.theirs c.requires.mine c.requires.theirs theirs cut c.in-Ok.ensures.ok in
    let short : length c.args.path < 200 = short_there c.args.into.now.tree c.settle_as.new.into.tree c.args.over.now.tree c.args.path m c.dims-places.ensures.paving.depth in
    let size : length c.low.result ≡ length c.args.path + 1 = ap length c.low.ensures ∙ length-append c.args.path (false ∷ []) in
    (search rules, subst (IsReady c.settle_as.new.into c.args.over.now) (sym c.low.ensures) (ready_low c.settle_as.new.into c.args.over.now c.args.into.now.tree c.args.path m))

pub returns-in-Err-overlay-clause-refusal : goal.returns-in-Err-overlay-clause-refusal
returns-in-Err-overlay-clause-refusal t c =
    let theirs = sym c.in_ok-theirs.ensures ∙ c.in-Some.is in
    let cut = sym c.is_cut-goes_on.ensures ∙ c.if-not-goes_on.false in
    let m = middle c.args.into.now.tree c.settle_as.new.into.tree c.args.over.now.tree c.args.path c.in-Some.theirs c.requires.mine c.requires.theirs theirs cut c.in-Ok.ensures.ok in
    refusal_low c.args.into.now.tree c.settle_as.new.into.tree c.args.over.now.tree c.args.path m c.in-Err-overlay.refusal
    (subst (λ p. IsRefusal c.settle_as.new.into.tree c.args.over.now.tree p c.in-Err-overlay.refusal) c.low.ensures c.in-Err-overlay.ensures.refusal)

pub overlay-requires-2 : goal.overlay-requires-2
overlay-requires-2 t c =
    let theirs = sym c.in_ok-theirs.ensures ∙ c.in-Some.is in
    let cut = sym c.is_cut-goes_on.ensures ∙ c.if-not-goes_on.false in
    let m = middle c.args.into.now.tree c.settle_as.new.into.tree c.args.over.now.tree c.args.path c.in-Some.theirs c.requires.mine c.requires.theirs theirs cut c.in-Ok.ensures.ok in
    let low = subst (IsOverlaid c.settle_as.new.into.tree c.args.over.now.tree c.overlay.new.into.tree) c.low.ensures c.in-Ok-overlay.ensures.ok in
    let x = past_low c.args.into.now.tree c.settle_as.new.into.tree c.overlay.new.into.tree c.args.over.now.tree c.args.path m c.requires.mine low in
    let short : length c.args.path < 200 = short_there c.args.into.now.tree c.settle_as.new.into.tree c.args.over.now.tree c.args.path m c.dims-places.ensures.paving.depth in
    let size : length c.high.result ≡ length c.args.path + 1 = ap length c.high.ensures ∙ length-append c.args.path (true ∷ []) in
    (search rules, subst (IsReady c.overlay.new.into c.args.over.now) (sym c.high.ensures) (ready_high c.overlay.new.into c.args.over.now c.args.into.now.tree c.settle_as.new.into.tree c.args.path m x))

pub returns-clause-ok : goal.returns-clause-ok
returns-clause-ok t c =
    let theirs = sym c.in_ok-theirs.ensures ∙ c.in-Some.is in
    let cut = sym c.is_cut-goes_on.ensures ∙ c.if-not-goes_on.false in
    let m = middle c.args.into.now.tree c.settle_as.new.into.tree c.args.over.now.tree c.args.path c.in-Some.theirs c.requires.mine c.requires.theirs theirs cut c.in-Ok.ensures.ok in
    let low = subst (IsOverlaid c.settle_as.new.into.tree c.args.over.now.tree c.overlay.new.into.tree) c.low.ensures c.in-Ok-overlay.ensures.ok in
    let x = past_low c.args.into.now.tree c.settle_as.new.into.tree c.overlay.new.into.tree c.args.over.now.tree c.args.path m c.requires.mine low in
    on_ok_map c.overlay-2.result _ _
    (λ h. overlaid_cut c.args.into.now.tree c.settle_as.new.into.tree c.overlay.new.into.tree c.overlay-2.new.into.tree c.args.over.now.tree c.args.path m x (subst (IsOverlaid c.overlay.new.into.tree c.args.over.now.tree c.overlay-2.new.into.tree) c.high.ensures h))
    c.overlay-2.ensures.ok

pub returns-clause-refusal : goal.returns-clause-refusal
returns-clause-refusal t c =
    let theirs = sym c.in_ok-theirs.ensures ∙ c.in-Some.is in
    let cut = sym c.is_cut-goes_on.ensures ∙ c.if-not-goes_on.false in
    let m = middle c.args.into.now.tree c.settle_as.new.into.tree c.args.over.now.tree c.args.path c.in-Some.theirs c.requires.mine c.requires.theirs theirs cut c.in-Ok.ensures.ok in
    let low = subst (IsOverlaid c.settle_as.new.into.tree c.args.over.now.tree c.overlay.new.into.tree) c.low.ensures c.in-Ok-overlay.ensures.ok in
    let x = past_low c.args.into.now.tree c.settle_as.new.into.tree c.overlay.new.into.tree c.args.over.now.tree c.args.path m c.requires.mine low in
    if_err_map c.overlay-2.result _ _
    (λ e h. refusal_high c.args.into.now.tree c.settle_as.new.into.tree c.overlay.new.into.tree c.args.over.now.tree c.args.path m x e (subst (λ p. IsRefusal c.overlay.new.into.tree c.args.over.now.tree p e) c.high.ensures h))
    c.overlay-2.ensures.refusal
