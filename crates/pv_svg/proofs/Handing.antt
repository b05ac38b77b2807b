-- The lines of rectangles.
use Rattle.std.proofs.Common.{◌≡◌, ℕ, suc, ◌+◌, ◌<◌, ◌≤◌, List, [], ◌++◌, length, drop, get_or, sym, ◌∙◌, ap, append_assoc, append-nil, add-one}
use Rattle.std.proofs.Math.Seq.{drop-cons}
use Rattle.std.proofs.lemmas.List.{drop_all}
use Rattle.pv_io.proofs.Fronts.{line_held}
use Rattle.pv_svg.specs.Texts.{foot_text, rectangle_text, rectangles_text}
use Rattle.pv_svg.specs.Rectangles.{Drawn}
use Rattle.pv_svg.specs.declared.rectangle.Rectangle.{Rectangle}

-- ---- The lines to come

-- The rectangles from one on, and the last line.
abbrev pub lines_from : Drawn → ℕ → List ℕ
lines_from d i = rectangles_text d.x d.y (drop i d.rectangles) ++ foot_text

pub next_line : (d : Drawn) (i : ℕ) (r : Rectangle) → i < length d.rectangles → r ≡ get_or d.rectangles i r
    → lines_from d i ≡ rectangle_text d.x d.y r ++ lines_from d (i + 1)
next_line d i r l e =
    ap (λ rs. rectangles_text d.x d.y rs ++ foot_text) (drop-cons d.rectangles i r l)
    ∙ append_assoc (rectangle_text d.x d.y (get_or d.rectangles i r)) (rectangles_text d.x d.y (drop (suc i) d.rectangles)) foot_text
    ∙ ap (λ s. rectangle_text d.x d.y s ++ lines_from d (suc i)) (sym e)
    ∙ ap (λ n. rectangle_text d.x d.y r ++ lines_from d n) (sym (add-one i))

no_line : (d : Drawn) (i : ℕ) → length d.rectangles ≤ i → lines_from d i ≡ foot_text
no_line d i l = ap (λ rs. rectangles_text d.x d.y rs ++ foot_text) (drop_all i d.rectangles l)

-- the last line is held too
pub end_held : (d : Drawn) (sent held held' total : List ℕ) (i : ℕ) → length d.rectangles ≤ i → total ≡ (sent ++ held) ++ lines_from d i → held' ≡ held ++ foot_text
    → total ≡ (sent ++ held') ++ []
end_held d sent held held' total i l t h =
    line_held total sent held held' foot_text (lines_from d i) [] t (no_line d i l ∙ sym (append-nil foot_text)) h

-- the line is that of the picture as contracts see it
pub seen_line : (inside d : Drawn) (r : Rectangle) (held held' : List ℕ) → inside ≡ d → held' ≡ held ++ rectangle_text inside.x inside.y r
    → held' ≡ held ++ rectangle_text d.x d.y r
seen_line inside d r held held' e h = h ∙ ap (λ p. held ++ rectangle_text p.x p.y r) e
