-- The text that a walk is still to meet.
use Rattle.std.proofs.Common.{◌≡◌, ℕ, zero, suc, ◌-◌, ◌<◌, List, [], ◌∷◌, ◌++◌, refl, sym, ◌∙◌, ap, append_assoc, append-nil, arith}
use Rattle.pv_interval.specs.Bounds.{Bounds}
use Rattle.pv_box.specs.Boxes.{lower_half, upper_half}
use Rattle.pv_tree.specs.Trees.{Tree, leaf, removed, inner, small, cut}
use Rattle.pv_tree.specs.Pieces.{Piece, pieces_below, children_of, root_piece}
use Rattle.pv_file.specs.declared.version.Version.{Version}
use Rattle.pv_file.specs.Lines.{lines_of, top_line}
use Rattle.pv_file.specs.Walks.{pending_text, after_steps}
use Rattle.pv_file.proofs.Fits.{regroup}

visit : (v : Version) (path : _) (b : List Bounds) (t : Tree) (rest : List Piece)
    → lines_of v b t ++ pending_text v rest ≡ (top_line v b t ++ 10 ∷ []) ++ pending_text v (pieces_below path t ++ rest)
visit v path b leaf rest = refl
visit v path b removed rest = refl
visit v path b (inner to) rest = refl
visit v path b (small to) rest = refl
visit v path b (cut to var at low high) rest =
    regroup (top_line v b (cut to var at low high)) (lines_of v (lower_half to var at) low) (lines_of v (upper_half to var at) high) (pending_text v rest)

pub visit_text : (v : Version) (here : Piece) (old new rest : List Piece) → old ≡ here ∷ rest → new ≡ children_of here ++ rest
    → pending_text v old ≡ (top_line v here.box here.tree ++ 10 ∷ []) ++ pending_text v new
visit_text v here old new rest e f =
    ap (pending_text v) e ∙ visit v here.path here.box here.tree rest ∙ ap (λ (x : List Piece). (top_line v here.box here.tree ++ 10 ∷ []) ++ pending_text v x) (sym f)

pub begin_text : (v : Version) (b : List Bounds) (t : Tree) (held : List ℕ) (pending : List Piece) → pending ≡ root_piece b t ∷ []
    → held ++ lines_of v b t ≡ ([] ++ held) ++ pending_text v pending
begin_text v b t held pending e = ap (λ (x : List ℕ). held ++ x) (sym (append-nil (lines_of v b t)) ∙ sym (ap (pending_text v) e))

pub end_text : (v : Version) (sent held total : List ℕ) (pending : List Piece) → pending ≡ [] → total ≡ (sent ++ held) ++ pending_text v pending → total ≡ (sent ++ held) ++ []
end_text v sent held total pending e t = t ∙ ap (λ (x : List Piece). (sent ++ held) ++ pending_text v x) e

pub none_after : (n : ℕ) → after_steps n [] ≡ []
none_after zero = refl
none_after (suc n) = refl

-- the walk is over, and so it is after all further steps
pub over_come : (left : ℕ) (was now total : List Piece) → total ≡ after_steps left was → was ≡ [] → now ≡ was → now ≡ total
over_come left was now total t e s = s ∙ e ∙ sym (t ∙ ap (after_steps left) e ∙ none_after left)

-- no step is left
pub end_come : (left : ℕ) (was total : List Piece) → total ≡ after_steps left was → left ≡ 0 → was ≡ total
end_come left was total t e = sym (t ∙ ap (λ (n : ℕ). after_steps n was) e)

pub step_come : (left : ℕ) (here : Piece) (was now rest total : List Piece) → 0 < left → total ≡ after_steps left was → was ≡ here ∷ rest → now ≡ children_of here ++ rest
    → total ≡ after_steps (left - 1) now
step_come zero here was now rest total some t w n =
    let no_step : ⊥ = omega arith in
    absurd no_step
step_come (suc left) here was now rest total some t w n =
    let e : suc left - 1 ≡ left = omega arith in
    rw e (t ∙ ap (after_steps (suc left)) w ∙ sym (ap (after_steps left) n))

pub line_written : (total held held' line pending pending' : List ℕ) → total ≡ held ++ pending → pending ≡ line ++ pending' → held' ≡ held ++ line → total ≡ held' ++ pending'
line_written total held held' line pending pending' t p h =
    t ∙ ap (λ (x : List ℕ). held ++ x) p ∙ sym (append_assoc held line pending') ∙ ap (λ (x : List ℕ). x ++ pending') (sym h)
