-- A graph grows by whole terms.
use Rattle.std.proofs.Common.{◌≡◌, inl, inr, ℕ, ◌<◌, ◌≤◌, List, [], ◌++◌, length, refl, ap, sym, ◌∙◌, subst, arith, append_assoc, length-append}
use Rattle.std.proofs.lemmas.Bool.{cases_lt}
use Rattle.std.specs.Prelude.{Result, Ok, Err, IfOk, OnOk}
use Rattle.pv_expr.specs.declared.operators.UnaryOp.{UnaryOp}
use Rattle.pv_expr.specs.declared.operators.BinaryOp.{BinaryOp}
use Rattle.pv_expr.specs.Terms.{Term, constant, place, one, two}
use Rattle.pv_hc4.specs.declared.node.Node.{Node}
use Rattle.pv_hc4.specs.declared.node.Node.TheVariants.{One, Two}
use Rattle.pv_hc4.specs.Nodes.{term_at, node_at, node_term, terms, AreOrdered}
use Rattle.pv_hc4.specs.Building.{IsPart, HasTerm, Grows, Holds}
use Rattle.pv_expr.specs.declared.constraint.Relation.{Relation}
use Rattle.pv_expr.specs.Systems.{IsOver}
use Rattle.pv_hc4.specs.Graphs.{IsGraph, sides_of}
use Rattle.pv_hc4.proofs.Growth.{term_step, terms_keep, length-terms}

pub is_part : (t : Term) → IsPart t t
is_part (constant p q) = refl
is_part (place i) = refl
is_part (one u t) = inl refl
is_part (two o t u) = inl refl

kept_by : (old new more : List Node) (k : ℕ) → new ≡ old ++ more → k < length old → term_at (terms new) k ≡ term_at (terms old) k
kept_by old new more k e h = ap (λ ns. term_at (terms ns) k) e ∙ terms_keep old more k h

longer : (old new more : List Node) → new ≡ old ++ more → length old ≤ length new
longer old new more e = omega (arith, ap length e, length-append old more)

regrouped : (a b c m n : List Node) → b ≡ a ++ m → c ≡ b ++ n → c ≡ a ++ (m ++ n)
regrouped a b c m n e f = f ∙ ap (λ x. x ++ n) e ∙ append_assoc a m n

node_is : (d : ℕ) (new : List Node) (i : ℕ) (n : Node) → AreOrdered new d → i < length new → node_at new i ≡ n → term_at (terms new) i ≡ node_term (terms new) n
node_is d new i n o h e = term_step new i h (o.reads i h) ∙ ap (node_term (terms new)) e

-- a term that has a node keeps it
kept_term : (old new more : List Node) (s : Term) → new ≡ old ++ more → HasTerm (terms old) s → HasTerm (terms new) s
kept_term old new more s e h =
    let below : h.number < length old = omega (arith, h.within, length-terms old) in
    record {
      number = h.number;
      within = omega (arith, longer old new more e, length-terms new);
      is = kept_by old new more h.number e below ∙ h.is;
    }

here_term : (new : List Node) (i : ℕ) (s t : Term) → i < length new → term_at (terms new) i ≡ t → s ≡ t → HasTerm (terms new) s
here_term new i s t h e f = record { number = i; within = omega (arith, length-terms new); is = e ∙ sym f }

leaf_whole : (new : List Node) (i : ℕ) (t : Term) → i < length new → term_at (terms new) i ≡ t → ((s : Term) → IsPart s t → s ≡ t) → (s : Term) → IsPart s t → HasTerm (terms new) s
leaf_whole new i t h e only s p = here_term new i s t h e (only s p)

pub leaf_grows : (old new : List Node) (d i : ℕ) (n : Node) (t : Term) → AreOrdered new d → Holds old new i n → node_term (terms new) n ≡ t → ((s : Term) → IsPart s t → s ≡ t) → Grows old new i t
leaf_grows old new d i n t o h e only =
    let here = node_is d new i n o h.within h.node ∙ e in
    record {
      more = h.more;
      is = h.is;
      within = h.within;
      term = here;
      parts = λ k from below. subst (λ j. IsPart (term_at (terms new) j) t) (sym (h.only k from below)) (subst (λ s. IsPart s t) (sym here) (is_part t));
      whole = leaf_whole new i t h.within here only;
    }

pub one_grows : (a b c : List Node) (d j i : ℕ) (op : UnaryOp) (t : Term) → AreOrdered c d → Grows a b j t → Holds b c i (One op j) → Grows a c i (one op t)
one_grows a b c d j i op t o g h =
    let under = kept_by b c h.more j h.is g.within ∙ g.term in
    let here : term_at (terms c) i ≡ one op t = node_is d c i (One op j) o h.within h.node ∙ ap (one op) under in
    let whole : Term = one op t in
    record {
      more = g.more ++ h.more;
      is = regrouped a b c g.more h.more g.is h.is;
      within = h.within;
      term = here;
      parts = λ k from below.
          elim (cases_lt k (length b)) [
            | inl less ↦ inr (subst (λ s. IsPart s t) (sym (kept_by b c h.more k h.is less)) (g.parts k from less))
            | inr more ↦ subst (λ m. IsPart (term_at (terms c) m) whole) (sym (h.only k more below)) (inl here)
          ];
      whole = λ s p. elim p [
        | inl q ↦ here_term c i s whole h.within here q
        | inr q ↦ kept_term b c h.more s h.is (g.whole s q)
      ];
    }

pub two_grows : (a b c e : List Node) (d i j k : ℕ) (op : BinaryOp) (t u : Term) → AreOrdered e d → Grows a b i t → Grows b c j u → Holds c e k (Two op i j) → Grows a e k (two op t u)
two_grows a b c e d i j k op t u o g h s =
    let in_c : i < length c = omega (arith, g.within, longer b c h.more h.is) in
    let first = kept_by c e s.more i s.is in_c ∙ kept_by b c h.more i h.is g.within ∙ g.term in
    let second = kept_by c e s.more j s.is h.within ∙ h.term in
    let here : term_at (terms e) k ≡ two op t u =
    node_is d e k (Two op i j) o s.within s.node ∙ ap (λ x. two op x (term_at (terms e) j)) first ∙ ap (two op t) second in
    let whole : Term = two op t u in
    record {
      more = (g.more ++ h.more) ++ s.more;
      is = regrouped a c e (g.more ++ h.more) s.more (regrouped a b c g.more h.more g.is h.is) s.is;
      within = s.within;
      term = here;
      parts = λ m from below.
          elim (cases_lt m (length b)) [
            | inl less ↦
                let less_c : m < length c = omega (arith, longer b c h.more h.is) in
                inr (inl (subst (λ x. IsPart x t) (sym (kept_by c e s.more m s.is less_c ∙ kept_by b c h.more m h.is less)) (g.parts m from less)))
            | inr more ↦
                elim (cases_lt m (length c)) [
                  | inl less ↦ inr (inr (subst (λ x. IsPart x u) (sym (kept_by c e s.more m s.is less)) (h.parts m more less)))
                  | inr rest ↦ subst (λ x. IsPart (term_at (terms e) x) whole) (sym (s.only m rest below)) (inl here)
                ]
          ];
      whole = λ r p. elim p [
        | inl q ↦ here_term e k r whole s.within here q
        | inr q ↦ elim q [
          | inl v ↦ kept_term c e s.more r s.is (kept_term b c h.more r h.is (g.whole r v))
          | inr v ↦ kept_term c e s.more r s.is (h.whole r v)
        ]
      ];
    }

-- the same where a number may not have come, for want of memory
pub leaf_grown : {E : Type 0} (r : Result ℕ E) (old new : List Node) (d : ℕ) (n : Node) (t : Term) → OnOk r (AreOrdered new d) → IfOk r (λ i. Holds old new i n) → ((ts : List Term) → node_term ts n ≡ t) → ((s : Term) → IsPart s t → s ≡ t) → IfOk r (λ i. Grows old new i t)
leaf_grown (Ok i) old new d n t o h e only = leaf_grows old new d i n t o h (e (terms new)) only
leaf_grown (Err x) old new d n t o h e only = tt

pub one_grown : {E : Type 0} (r : Result ℕ E) (a b c : List Node) (d j : ℕ) (op : UnaryOp) (t : Term) → OnOk r (AreOrdered c d) → Grows a b j t → IfOk r (λ i. Holds b c i (One op j)) → IfOk r (λ i. Grows a c i (one op t))
one_grown (Ok i) a b c d j op t o g h = one_grows a b c d j i op t o g h
one_grown (Err x) a b c d j op t o g h = tt

pub two_grown : {E : Type 0} (r : Result ℕ E) (a b c e : List Node) (d i j : ℕ) (op : BinaryOp) (t u : Term) → OnOk r (AreOrdered e d) → Grows a b i t → Grows b c j u → IfOk r (λ k. Holds c e k (Two op i j)) → IfOk r (λ k. Grows a e k (two op t u))
two_grown (Ok k) a b c e d i j op t u o g h s = two_grows a b c e d i j k op t u o g h s
two_grown (Err x) a b c e d i j op t u o g h s = tt

-- the nodes of two sides make a graph
pub made : (a b c : List Node) (i j : ℕ) (r : Relation) (t u : Term) (d : ℕ) → AreOrdered c d → ((j k : ℕ) → j < length c → k < length c → node_at c j ≡ node_at c k → j ≡ k) → a ≡ [] → Grows a b i t → Grows b c j u → IsOver d t → IsOver d u → IsGraph (record { nodes = c; left = i; relation = r; right = j; dims = d })
made a b c i j r t u d o apart e g h p q =
    let left_is = kept_by b c h.more i h.is g.within ∙ g.term in
    record {
      ordered = o;
      left_in = omega (arith, g.within, longer b c h.more h.is);
      right_in = h.within;
      left_over = subst (IsOver d) (sym left_is) p;
      right_over = subst (IsOver d) (sym h.term) q;
      used = λ k below. elim (cases_lt k (length b)) [
        | inl less ↦
            inl (subst (λ x. IsPart x (term_at (terms c) i)) (sym (kept_by b c h.more k h.is less)) (subst (IsPart (term_at (terms b) k)) (sym left_is) (g.parts k (omega (arith, ap length e)) less)))
        | inr more ↦ inr (subst (IsPart (term_at (terms c) k)) (sym h.term) (h.parts k more below))
      ];
      whole = λ s v. elim v [
        | inl w ↦ kept_term b c h.more s h.is (g.whole s (subst (IsPart s) left_is w))
        | inr w ↦ h.whole s (subst (IsPart s) h.term w)
      ];
      apart = apart;
    }

pub same_sides : (a b c : List Node) (i j : ℕ) (r : Relation) (t u : Term) (d : ℕ) → Grows a b i t → Grows b c j u → sides_of (record { nodes = c; left = i; relation = r; right = j; dims = d }) ≡ record { left = t; relation = r; right = u }
same_sides a b c i j r t u d g h =
    ap (λ x. record { left = x; relation = r; right = term_at (terms c) j }) (kept_by b c h.more i h.is g.within ∙ g.term)
    ∙ ap (λ x. record { left = t; relation = r; right = x }) h.term
