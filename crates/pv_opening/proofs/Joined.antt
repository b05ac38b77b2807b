-- The join of several trees, one after the other.
use Rattle.std.proofs.Common.{◌≡◌, ◌⊎◌, inl, inr, ℕ, Bool, true, false, List, [], ◌∷◌, ◌++◌, refl, sym, ◌∙◌, ap, subst}
use Rattle.std.specs.Prelude.{Option, Some, None, IsSome}
use Rattle.pv_tree.specs.Trees.{Tree, leaf, removed, inner, small, cut, top, subtree, outcome_at}
use Rattle.pv_file.specs.Lines.{node_line, node_line_with, ends_text, outcome_line}
use Rattle.pv_file.specs.Shapes.{AppendsNodeLine}
use Rattle.pv_tree.specs.Stages.{Rule, Grows, IsStage, full_of}
use Rattle.pv_tree.specs.declared.outcome.Outcome.{Outcome}
use Rattle.pv_tree.proofs.StageLaws.{grows_leaf, grows_self, grows_on}
use Rattle.pv_join.specs.Joins.{IsJoin, settled_side, IsFirstDisagreement}
use Rattle.pv_join.proofs.JoinFacts.{side_some, side_left, top_is}
use Rattle.pv_product.specs.Files.{AllTrees, AnyTree, IsJoinOf, RefusesJoin}
use Rattle.pv_opening.specs.Reads.{IsLineAt, IsDisagree}
use Rattle.pv_request.specs.declared.refusal.Refusal.{Refusal}
use Rattle.pv_request.specs.declared.refusal.Refusal.TheVariants.{Usage, System, Contract, Objective, NoFile, ReadFault, Paving, NotStored, KeeperFault, NotPrinted, Memory, TreeLimit, Disagree, Differs}

-- ---- Lists of trees

all_more : (P : Tree → Type 0) (ts us : List Tree) → AllTrees P ts → AllTrees P us → AllTrees P (ts ++ us)
all_more P [] us h k = k
all_more P (t ∷ ts) us h k = (h.0, all_more P ts us h.1 k)

all_as : (P Q : Tree → Type 0) (ts : List Tree) → ((t : Tree) → P t → Q t) → AllTrees P ts → AllTrees Q ts
all_as P Q [] f h = tt
all_as P Q (t ∷ ts) f h = (f t h.0, all_as P Q ts f h.1)

pub any_left : (P : Tree → Type 0) (ts us : List Tree) → AnyTree P ts → AnyTree P (ts ++ us)
any_left P [] us h = absurd h
any_left P (t ∷ ts) us (inl h) = inl h
any_left P (t ∷ ts) us (inr h) = inr (any_left P ts us h)

pub any_right : (P : Tree → Type 0) (ts us : List Tree) → AnyTree P us → AnyTree P (ts ++ us)
any_right P [] us h = h
any_right P (t ∷ ts) us h = inr (any_right P ts us h)

-- ---- Joins

join_right : (a b t : Tree) → IsJoin a b t → Grows b t
join_right a b t h p o e = h.takes p ∙ side (outcome_at a p) (outcome_at b p) (h.agree p) e
  where
    side : (x y : Option Outcome) → ((u v : Outcome) → x ≡ Some u → y ≡ Some v → u ≡ v) → y ≡ Some o → settled_side x y ≡ Some o
    side None y same is = is
    side (Some u) y same is = ap Some (same u o refl is)

join_left : (a b t : Tree) → IsJoin a b t → Grows a t
join_left a b t h p o e = h.takes p ∙ side_left (outcome_at a p) (outcome_at b p) o e

pub no_trees : IsJoinOf [] leaf
no_trees = record { each = tt; only = λ p o e. nothing p o e }
  where
    nothing : (p : List Bool) (o : Outcome) → outcome_at leaf p ≡ Some o → ⊥
    nothing [] o e = cc
    nothing (b ∷ p) o e = cc

pub one_tree : (t : Tree) → IsJoinOf (t ∷ []) t
one_tree t = record { each = (grows_self t, tt); only = λ p o e. inl e }

pub one_more : (ts : List Tree) (a b t : Tree) → IsJoinOf ts a → IsJoin a b t → IsJoinOf (ts ++ b ∷ []) t
one_more ts a b t h j = record {
  each = all_more (λ s. Grows s t) ts (b ∷ []) (all_as (λ s. Grows s a) (λ s. Grows s t) ts (λ s g. grows_on s a t g (join_left a b t j)) h.each)
      (join_right a b t j, tt);
  only = λ p o e. either p o (side_some (outcome_at a p) (outcome_at b p) o (sym (j.takes p) ∙ e));
}
  where
    either : (p : List Bool) (o : Outcome) → (outcome_at a p ≡ Some o) ⊎ (outcome_at b p ≡ Some o) → AnyTree (λ s. outcome_at s p ≡ Some o) (ts ++ b ∷ [])
    either p o (inl e) = any_left (λ s. outcome_at s p ≡ Some o) ts (b ∷ []) (h.only p o e)
    either p o (inr e) = any_right (λ s. outcome_at s p ≡ Some o) ts (b ∷ []) (inl e)

-- ---- Stages

stage_any : (rule : Rule) (depth : _) (b : List _) (ts : List Tree) (p : List Bool) (o : Outcome) → AllTrees (IsStage rule depth b leaf) ts → AnyTree (λ s. outcome_at s p ≡ Some o) ts
    → outcome_at (full_of rule depth b leaf 0) p ≡ Some o
stage_any rule depth b [] p o h any = absurd any
stage_any rule depth b (t ∷ ts) p o h (inl e) = h.0.grows p o e
stage_any rule depth b (t ∷ ts) p o h (inr any) = stage_any rule depth b ts p o h.1 any

-- the join of stages of the open box is one
pub join_stage : (rule : Rule) (depth : _) (b : List _) (ts : List Tree) (t : Tree) → IsJoinOf ts t → AllTrees (IsStage rule depth b leaf) ts → IsStage rule depth b leaf t
join_stage rule depth b ts t j h = record { grown = grows_leaf t; grows = λ p o e. stage_any rule depth b ts p o h (j.only p o e) }

-- the refusal for a tree that disagrees with the join of earlier ones
pub disagreement : (ts us : List Tree) (joined next : Tree) (path : List Bool) (r : Refusal) → IsJoinOf ts joined → IsFirstDisagreement joined next path
    → IsDisagree joined next path r → RefusesJoin (ts ++ next ∷ us) r
disagreement ts us joined next path (Disagree p a b) j first h =
    let f : IsFirstDisagreement joined next p = subst (λ (q : List Bool). IsFirstDisagreement joined next q) (sym h.0) first in
    let one : IsLineAt joined p a.items = subst (λ (q : List Bool). IsLineAt joined q a.items) (sym h.0) h.1 in
    let two : IsLineAt next p b.items = subst (λ (q : List Bool). IsLineAt next q b.items) (sym h.0) h.2 in
    record {
      earlier = ts;
      next = next;
      later = us;
      are = refl;
      join = joined;
      is_join = j;
      first = f;
      joined_is = one f.here.left f.here.left_is;
      file_is = two f.here.right f.here.right_is;
    }
disagreement ts us joined next path Memory j first h = tt
disagreement ts us joined next path Usage j first h = h
disagreement ts us joined next path (System line column byte cause) j first h = h
disagreement ts us joined next path (Contract byte) j first h = h
disagreement ts us joined next path (Objective byte cause) j first h = h
disagreement ts us joined next path (NoFile n) j first h = h
disagreement ts us joined next path (ReadFault n) j first h = h
disagreement ts us joined next path (Paving n f) j first h = h
disagreement ts us joined next path (NotStored n) j first h = h
disagreement ts us joined next path (KeeperFault n) j first h = h
disagreement ts us joined next path NotPrinted j first h = h
disagreement ts us joined next path (TreeLimit n) j first h = h
disagreement ts us joined next path (Differs p a b) j first h = h

-- ---- The line of a settled node

pub there : (t : Tree) (p : List Bool) → IsSome (outcome_at t p) → IsSome (subtree t p)
there t [] h = refl
there (cut to var at low high) (false ∷ p) h = there low p h
there (cut to var at low high) (true ∷ p) h = there high p h
there leaf (b ∷ p) h = h
there removed (b ∷ p) h = h
there (inner to) (b ∷ p) h = h
there (small to) (b ∷ p) h = h

line_of_node : (s : Tree) (o : Outcome) → top s ≡ Some o → node_line s ≡ outcome_line o
line_of_node s o e = ap (node_line_with ends_text) e

node_is : (found : Option Tree) (t : Tree) (p : List Bool) (o : Outcome) (before after : List ℕ) → found ≡ subtree t p → before ≡ [] → outcome_at t p ≡ Some o
    → AppendsNodeLine before after found → after ≡ outcome_line o
node_is None t p o before after e none is h = absurd h
node_is (Some s) t p o before after e none is h = h ∙ ap (λ (x : List ℕ). x ++ node_line s) none ∙ line_of_node s o (sym (top_is t p s (sym e)) ∙ is)

pub line_is : (t : Tree) (p : List Bool) (o : Outcome) (before after : List ℕ) → before ≡ [] → outcome_at t p ≡ Some o → AppendsNodeLine before after (subtree t p) → after ≡ outcome_line o
line_is t p o before after none is h = node_is (subtree t p) t p o before after refl none is h
