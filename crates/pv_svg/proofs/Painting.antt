-- Paint on lists of rectangles.
use Rattle.std.proofs.Common.{◌≡◌, IsTrue, Bool, true, false, cond, Option, Some, None, List, [], ◌∷◌, ◌++◌, refl, sym, ◌∙◌, ap, subst}
use Rattle.std.proofs.lemmas.Bool.{true≢false, cond-true, cond-false, cond_both}
use Rattle.std.proofs.lemmas.List.Elements.{All-nil, All-cons, All-head, All-tail}
use Rattle.pv_svg.specs.Paints.{Spot, contains, over, last_class, paint_of, NoneContains, IsLast, PaintIsLast, LastIsPaint, BareIsUnpainted, IsOffEdges}
use Rattle.pv_svg.specs.declared.rectangle.Class.{Class}
use Rattle.pv_svg.specs.declared.rectangle.Rectangle.{Rectangle}

-- ---- The last paint

over_none : (a b : Option Class) → over a b ≡ None → (a ≡ None) × (b ≡ None)
over_none None b e = (refl, e)
over_none (Some c) b e = cc

lone_none : (t : Bool) (c : Class) → cond t (Some c) None ≡ None → t ≡ false
lone_none true c e = cc
lone_none false c e = refl

lone_some : (t : Bool) (c d : Class) → cond t (Some c) None ≡ Some d → (t ≡ true) × (d ≡ c)
lone_some true c d e = (refl, cc)
lone_some false c d e = cc

pub bare_is_unpainted : BareIsUnpainted
bare_is_unpainted spot [] e = All-nil (λ r. contains r spot ≡ false)
bare_is_unpainted spot (r ∷ rs) e =
    let parts = over_none (paint_of spot rs) (cond (contains r spot) (Some r.class) None) e in
    All-cons (λ r. contains r spot ≡ false) r rs (lone_none (contains r spot) r.class parts.1) (bare_is_unpainted spot rs parts.0)

first_painted : (spot : Spot) (r : Rectangle) (rs : List Rectangle) (class : Class) → paint_of spot rs ≡ None
    → cond (contains r spot) (Some r.class) None ≡ Some class → IsLast spot (r ∷ rs) class
first_painted spot r rs class none e =
    let here = lone_some (contains r spot) r.class class e in
    record { before = []; last = r; behind = rs; is = refl; inside = here.0; none = bare_is_unpainted spot rs none; class_is = here.1 }

later_painted : (spot : Spot) (r : Rectangle) (rs : List Rectangle) (class : Class) → IsLast spot rs class → IsLast spot (r ∷ rs) class
later_painted spot r rs class h = record {
  before = r ∷ h.before;
  last = h.last;
  behind = h.behind;
  is = ap (λ (x : List Rectangle). r ∷ x) h.is;
  inside = h.inside;
  none = h.none;
  class_is = h.class_is;
}

either_painted : (spot : Spot) (r : Rectangle) (rs : List Rectangle) (class : Class) (o : Option Class) → paint_of spot rs ≡ o
    → over o (cond (contains r spot) (Some r.class) None) ≡ Some class → (paint_of spot rs ≡ Some class → IsLast spot rs class) → IsLast spot (r ∷ rs) class
either_painted spot r rs class None none e f = first_painted spot r rs class none e
either_painted spot r rs class (Some c) some e f = later_painted spot r rs class (f (some ∙ e))

pub paint_is_last : PaintIsLast
paint_is_last spot [] class e = cc
paint_is_last spot (r ∷ rs) class e = either_painted spot r rs class (paint_of spot rs) refl e (λ k. paint_is_last spot rs class k)

unpainted : (spot : Spot) (rs : List Rectangle) → NoneContains spot rs → paint_of spot rs ≡ None
unpainted spot [] h = refl
unpainted spot (r ∷ rs) h =
    ap (λ o. over o (cond (contains r spot) (Some r.class) None)) (unpainted spot rs (All-tail (λ r. contains r spot ≡ false) r rs h))
    ∙ cond-false (contains r spot) (Some r.class) None (All-head (λ r. contains r spot ≡ false) r rs h)

painted_behind : (spot : Spot) (before behind : List Rectangle) (last : Rectangle) → IsTrue (contains last spot) → NoneContains spot behind
    → paint_of spot (before ++ last ∷ behind) ≡ Some last.class
painted_behind spot [] behind last i n =
    ap (λ o. over o (cond (contains last spot) (Some last.class) None)) (unpainted spot behind n) ∙ cond-true (contains last spot) (Some last.class) None i
painted_behind spot (r ∷ before) behind last i n = ap (λ o. over o (cond (contains r spot) (Some r.class) None)) (painted_behind spot before behind last i n)

pub last_is_paint : LastIsPaint
last_is_paint spot rs class h =
    ap (paint_of spot) h.is ∙ painted_behind spot h.before h.behind h.last h.inside h.none ∙ ap Some (sym h.class_is)

-- ---- Lists in two parts

over_assoc : (a b c : Option Class) → over (over a b) c ≡ over a (over b c)
over_assoc None b c = refl
over_assoc (Some x) b c = refl

over-none : (a : Option Class) → over a None ≡ a
over-none None = refl
over-none (Some x) = refl

pub last-append : (of_some : Rectangle → Bool) (xs ys : List Rectangle) → last_class of_some (xs ++ ys) ≡ over (last_class of_some ys) (last_class of_some xs)
last-append of_some [] ys = sym (over-none (last_class of_some ys))
last-append of_some (x ∷ xs) ys =
    ap (λ o. over o (cond (of_some x) (Some x.class) None)) (last-append of_some xs ys)
    ∙ over_assoc (last_class of_some ys) (last_class of_some xs) (cond (of_some x) (Some x.class) None)

pub none_parts : (of_some : Rectangle → Bool) (xs ys : List Rectangle) → last_class of_some (xs ++ ys) ≡ None
    → (last_class of_some xs ≡ None) × (last_class of_some ys ≡ None)
none_parts of_some xs ys e =
    let parts = over_none (last_class of_some ys) (last_class of_some xs) (sym (last-append of_some xs ys) ∙ e) in
    (parts.1, parts.0)

pub off_parts : (spot : Spot) (xs ys : List Rectangle) → IsOffEdges spot (xs ++ ys) → IsOffEdges spot xs × IsOffEdges spot ys
off_parts spot [] ys h = (tt, h)
off_parts spot (x ∷ xs) ys h = let rest = off_parts spot xs ys h.1 in ((h.0, rest.0), rest.1)

pub not_bare : (of_some : Rectangle → Bool) (r : Rectangle) → of_some r ≡ true → last_class of_some (r ∷ []) ≡ None → ⊥
not_bare of_some r i e = true≢false (sym i ∙ lone_none (of_some r) r.class e)

-- ---- What the last class has

has_over : (P : Option Class → Type 0) (later before : Option Class) → P later → (later ≡ None → P before) → P (over later before)
has_over P None before h k = k refl
has_over P (Some c) before h k = h

-- of two parts the later one decides, where it has some
pub has_both : (P : Option Class → Type 0) (of_some : Rectangle → Bool) (xs ys : List Rectangle) → P (last_class of_some ys)
    → (last_class of_some ys ≡ None → P (last_class of_some xs)) → P (last_class of_some (xs ++ ys))
has_both P of_some xs ys h k = subst P (sym (last-append of_some xs ys)) (has_over P (last_class of_some ys) (last_class of_some xs) h k)

pub has_lone : (P : Option Class → Type 0) (of_some : Rectangle → Bool) (r : Rectangle) → P None → (of_some r ≡ true → P (Some r.class)) → P (last_class of_some (r ∷ []))
has_lone P of_some r none h = cond_both (of_some r) (Some r.class) None P h (λ e. none)
