-- A board as it is opened.
use Rattle.std.proofs.Common.{◌≡◌, ℕ, ◌+◌, ◌-◌, ◌<◌, ◌≤◌, Bool, List, [], ◌∷◌, ◌++◌, length, refl, sym, ◌∙◌, ap, arith, subst}
use Rattle.std.specs.Prelude.{vec_capacity}
use Rattle.pv_interval.specs.Bounds.{Bounds}
use Rattle.pv_box.specs.Boxes.{IsBox}
use Rattle.pv_tree.specs.Trees.{Tree, Seen, subtree, opens, height, Paves, IsPaving}
use Rattle.pv_tree.specs.Stages.{Rule, IsStage}
use Rattle.pv_tree.proofs.StageLaws.{grows_self}
use Rattle.pv_board.specs.declared.mark.Mark.{Mark}
use Rattle.pv_board.specs.declared.leaves.Leaves.{Leaves}
use Rattle.pv_board.specs.Marks.{weigh, holds, issued, granted}
use Rattle.pv_board.specs.Rules.{settled_in, IsFitting}
use Rattle.pv_board.specs.Events.{free_units, IsOver}
use Rattle.pv_board.specs.Leaves.{marks_of, HasRoom, AreOpen, IsBoard, seen}
use Rattle.pv_board.specs.Piles.{piled, CanPile}
use Rattle.pv_board.proofs.Paths.{weigh-ones}
use Rattle.pv_board.proofs.Growth.{few_opens}
use Rattle.pv_board.proofs.Fulls.{full_grows}
use Rattle.pv_board.proofs.Piling.{pile_weighs}
use Rattle.pv_board.proofs.Boards.{core_of}

pub root_pile : (t : Tree) (path at : List Bool) (len room : ℕ) → path ≡ [] → at ≡ [] → height t ≤ 200 → settled_in t < room → len ≡ 0 → CanPile t path at len room
root_pile t path at len room e f h s z =
    let o = few_opens t in let w = weigh-ones (opens t) in let n = ap length f in
    record { part = t; is = ap (subtree t) e; depth = omega (arith, n, h); fits = omega (arith, o, w, s, z) }

pub root_open : (t : Tree) (at : List Bool) (old free : List (List Bool)) (ms : List Mark) → at ≡ [] → old ≡ [] → free ≡ old ++ piled at t → ms ≡ [] → (f : List Bool → ℕ) → weigh f free + weigh (λ m. f m.path) ms ≡ weigh f (opens t)
root_open t at old free ms e z is m f =
    let a : weigh f free ≡ weigh f (piled [] t) = ap (weigh f) (is ∙ (λ i. z i ++ piled (e i) t)) in
    let b : weigh f (piled [] t) ≡ weigh f (opens t) = pile_weighs f [] t in
    let c : weigh (λ (m : Mark). f m.path) ms ≡ 0 = ap (weigh (λ (m : Mark). f m.path)) m in
    omega (arith, a, b, c)

pub opened_board : (rule : Rule) (depth dims : ℕ) (root : List Bounds) (opening : Tree) (budget limit : ℕ) (p : Seen) (l : Leaves) → IsFitting rule depth dims → length root ≡ dims → IsPaving p.root p.tree → p.root ≡ root → p.tree ≡ opening
    → AreOpen l p.tree → marks_of l ≡ [] → l.left ≡ budget → settled_in p.tree + budget ≤ limit → budget ≤ p.spare → HasRoom l → settled_in p.tree + budget < vec_capacity l.free → IsBoard rule depth dims root opening budget limit (seen p l 0 0) l
opened_board rule depth dims root opening budget limit p l fits size paving r t are none left few spare room free =
    let i : issued (marks_of l) ≡ 0 = ap issued none in let g : granted (marks_of l) ≡ 0 = ap granted none in
    let n : weigh (λ (m : Mark). m.grant - 15) (marks_of l) ≡ 0 = ap (weigh (λ (m : Mark). m.grant - 15)) none in
    let s = ap settled_in t in
    record {
      opens_right = record { rule_fits = fits; box = subst (λ (b : List Bounds). IsBox b) r paving.box; places = size; paves = subst (λ (b : List Bounds). Paves b opening) r (subst (Paves p.root) t paving.paves) };
      core = core_of rule depth root opening budget limit (seen p l 0 0) l r (subst (IsStage rule depth root opening) (sym t) (record { grown = grows_self opening; grows = full_grows rule depth root opening 0 })) refl are n
          (omega (arith, i, g, left)) (omega (arith, s)) (omega (arith, i, g, left, few)) (omega (arith, i, g, left, spare));
      leaves = are;
      few_grants = n;
      room = room;
      for_free = omega (arith, i, g, left, free);
    }

pub none_held : (ms : List Mark) (q : List Bool) → issued ms ≡ 0 → holds ms q ≡ 0
none_held [] q e = refl
none_held (m ∷ ms) q e = absurd (omega (arith, e))

pub none_granted : (ms : List Mark) → issued ms ≡ 0 → granted ms ≡ 0
none_granted [] e = refl
none_granted (m ∷ ms) e = absurd (omega (arith, e))

pub recall_over : (p : Seen) (old new : Leaves) (used steps steps' : ℕ) → marks_of new ≡ [] → new.left ≡ old.left + issued (marks_of old) + granted (marks_of old) → new.stopped ≡ old.stopped → IsOver (seen p old used steps) → IsOver (seen p new used steps')
recall_over p old new used steps steps' none left stopped over =
    let i = over.none in let g = none_granted (marks_of old) i in
    let same : new.left ≡ old.left = omega (arith, left, i, g) in
    record {
      none = ap issued none;
      dry = λ may q e.
          let d = over.dry (subst (λ (n : ℕ). 0 < n) (λ k. free_units (stopped k) (same k)) may) q e in
          let z = none_held (marks_of old) q i in absurd (omega (arith, d, z));
    }
