-- The rule of a settler is one that a board takes.
use Rattle.std.proofs.Common.{◌≡◌, ℕ, sym, subst}
use Rattle.pv_tree.specs.Stages.{Rule}
use Rattle.pv_board.specs.Rules.{IsFitting}

pub fitting_of : (rule own : Rule) (depth most dims places : ℕ) → rule ≡ own → depth ≡ most → dims ≡ places → IsFitting own most places → IsFitting rule depth dims
fitting_of rule own depth most dims places e f h l =
    subst (λ (r : Rule). IsFitting r depth dims) (sym e) (subst (λ (d : ℕ). IsFitting own d dims) (sym f) (subst (λ (n : ℕ). IsFitting own most n) (sym h) l))
