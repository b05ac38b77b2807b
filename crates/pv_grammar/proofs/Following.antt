-- What the counts say of where a text stands is what its tokens say; and before a constraint no operation and no level is counted.
use Rattle.std.proofs.Common.{◌≡◌, ℕ, nat_lt, Bool, true, false, List, [], ◌∷◌, refl, sym, ap, ◌∙◌, subst, Ok}
use Rattle.pv_grammar.specs.declared.counts.Counts.{Counts}
use Rattle.pv_grammar.specs.declared.counts.Phase.{Phase}
use Rattle.pv_grammar.specs.declared.counts.Phase.TheVariants.{Parameters, Body, Variables, NextConstraint}
use Rattle.pv_grammar.specs.declared.symbol.Fixed.TheVariants.{Comma, Constraints, Function as FunctionWord}
use Rattle.pv_grammar.specs.declared.symbol.Symbol.{Symbol}
use Rattle.pv_grammar.specs.declared.symbol.Symbol.TheVariants.{Fixed as FixedToken, Declared, Unknown}
use Rattle.pv_grammar.specs.Counting.{Counted, counted, in_expression, moved, standing_of}
use Rattle.pv_grammar.specs.Standings.{Standing, begins_expression, begins_in, moved_by, moved_to, standing_after, standing_behind}
use Rattle.pv_grammar.proofs.Ready.{Gives, begun_seen, gives_if, made, walk}

-- ---- Where the text stands

begun_stands : (b : Bool) (p : Phase) (c : Counts) → p ≡ c.phase → standing_of (begun_seen b p c) ≡ moved_to (begins_in b p) (standing_of c)
begun_stands true NextConstraint c e = refl
begun_stands true p c e = ap (λ (q : Phase). moved_to q (standing_of c)) (sym e)
begun_stands false p c e = ap (λ (q : Phase). moved_to q (standing_of c)) (sym e)

moved_stands : (s : Symbol) (p : Phase) (l o a f v k : ℕ) → Gives (λ d. standing_of d ≡ moved_by s (standing_of (made p l o a f v k))) (moved (made p l o a f v k) s)
moved_stands (Declared taken) Variables l o a f v k = gives_if _ (nat_lt v 12) _ _ (λ t. gives_if _ taken _ _ (λ u. tt) refl) tt
moved_stands (Declared taken) Parameters l o a f v k = gives_if _ (nat_lt a 12) _ _ (λ t. gives_if _ taken _ _ (λ u. tt) refl) tt
moved_stands (Declared taken) p l o a f v k = gives_if _ taken _ _ (λ u. tt) refl
moved_stands (FixedToken FunctionWord) p l o a f v k = gives_if _ (nat_lt f 64) _ _ (λ t. refl) tt
moved_stands (FixedToken Comma) Parameters l o a f v k = gives_if _ (nat_lt a 12) _ _ (λ t. refl) tt
moved_stands (FixedToken t) Body l o a f v k = refl
moved_stands Unknown p l o a f v k = tt
moved_stands s p l o a f v k = refl

-- behind a token that was counted
pub stands_behind : (c d : Counts) (s : Symbol) → counted c s ≡ Ok d → standing_of d ≡ standing_behind (standing_of c) s
stands_behind c d s h =
    let x : Standing = moved_to (begins_in (begins_expression s) c.phase) (standing_of c) in
    subst (Gives (λ e. standing_of e ≡ moved_by s x)) h
    (walk _ (λ e. standing_of e ≡ x) c s (begun_stands (begins_expression s) c.phase c refl) (λ e l o q t. q)
    (λ e q t. subst (λ (z : Standing). Gives (λ y. standing_of y ≡ moved_by s z) (moved e s)) q (moved_stands s e.phase e.level e.operations e.parameters e.functions e.variables e.constraints)))

pub stands_after : (c : Counts) (ss : List Symbol) (d : Counts) → Counted c ss d → standing_of d ≡ standing_after (standing_of c) ss
stands_after c [] d h = ap standing_of (sym h)
stands_after c (s ∷ ss) d (e, one, rest) = stands_after e ss d rest ∙ ap (λ (x : Standing). standing_after x ss) (stands_behind c e s one)

-- ---- Before a constraint

abbrev pub CalmAt : Phase → ℕ → ℕ → Type 0
CalmAt NextConstraint l o = (l ≡ 0) × (o ≡ 0)
CalmAt p l o = Unit {0}

-- where a constraint may begin, no operation and no level is counted
abbrev pub IsCalm : Counts → Type 0
IsCalm c = CalmAt c.phase c.level c.operations

calm_in : (p : Phase) (l o : ℕ) → in_expression p ≡ true → CalmAt p l o
calm_in NextConstraint l o e = cc
calm_in p l o e = tt

begun_calm : (b : Bool) (p : Phase) (c : Counts) → IsCalm c → IsCalm (begun_seen b p c)
begun_calm true NextConstraint c h = tt
begun_calm true p c h = h
begun_calm false p c h = h

moved_calm : (s : Symbol) (p : Phase) (l o a f v k : ℕ) → CalmAt p l o → Gives IsCalm (moved (made p l o a f v k) s)
moved_calm (Declared taken) Variables l o a f v k h = gives_if _ (nat_lt v 12) _ _ (λ t. gives_if _ taken _ _ (λ u. tt) tt) tt
moved_calm (Declared taken) Parameters l o a f v k h = gives_if _ (nat_lt a 12) _ _ (λ t. gives_if _ taken _ _ (λ u. tt) tt) tt
moved_calm (Declared taken) p l o a f v k h = gives_if _ taken _ _ (λ u. tt) h
moved_calm (FixedToken FunctionWord) p l o a f v k h = gives_if _ (nat_lt f 64) _ _ (λ t. tt) tt
moved_calm (FixedToken Comma) Parameters l o a f v k h = gives_if _ (nat_lt a 12) _ _ (λ t. tt) tt
moved_calm (FixedToken Constraints) p l o a f v k h = (refl, refl)
moved_calm s Body l o a f v k h = search
moved_calm s p l o a f v k h = search

counted_calm : (c : Counts) (s : Symbol) → IsCalm c → Gives IsCalm (counted c s)
counted_calm c s h =
    walk IsCalm IsCalm c s (begun_calm (begins_expression s) c.phase c h) (λ d l o q t. calm_in d.phase l o t)
    (λ d q t. moved_calm s d.phase d.level d.operations d.parameters d.functions d.variables d.constraints q)

pub calm_after : (c : Counts) (ss : List Symbol) (d : Counts) → Counted c ss d → IsCalm c → IsCalm d
calm_after c [] d h k = subst IsCalm h k
calm_after c (s ∷ ss) d (e, one, rest) k = calm_after e ss d rest (subst (Gives IsCalm) one (counted_calm c s k))
