-- What is to come has a text that stays within the limits, where the counts fit it.
use Rattle.std.proofs.Common.{◌≡◌, ℕ, zero, suc, Bool, true, false, List, [], ◌∷◌, ◌++◌, refl, sym, subst, Option, Some, None, Ok, pos}
use Rattle.pv_expr.specs.declared.constraint.Relation.TheVariants.{Eq}
use Rattle.pv_code.specs.declared.code.Op.{Op}
use Rattle.pv_code.specs.declared.code.Op.TheVariants.{Relate}
use Rattle.pv_grammar.specs.declared.counts.Counts.{Counts}
use Rattle.pv_grammar.specs.declared.counts.Phase.{Phase}
use Rattle.pv_grammar.specs.declared.counts.Phase.TheVariants.{Constants, FunctionName, Parameters, Body, Variables, NextConstraint, Sides}
use Rattle.pv_grammar.specs.declared.symbol.Fixed.{Fixed}
use Rattle.pv_grammar.specs.declared.symbol.Fixed.TheVariants.{Open, Close, Comma, EndOfText}
use Rattle.pv_grammar.specs.declared.symbol.Symbol.{Symbol}
use Rattle.pv_grammar.specs.declared.symbol.Symbol.TheVariants.{Fixed as FixedToken, Relation as RelationToken, Number, Declared}
use Rattle.pv_grammar.specs.declared.machine.Item.{Item}
use Rattle.pv_grammar.specs.declared.machine.Item.TheVariants.{Exactly, WantConstant, WantEquals, MaybeSign, WantValue, WantFunctionName, WantParameter, MoreParameters, WantVariable, MaybeDomain, WantBound, WantRelation, WantFactor, MoreFactors, MoreTerms, MaybePower, WantExponent, MoreArguments, Then}
use Rattle.pv_grammar.specs.Grammar.{Derives, MayEnd, Produced, begun as begun_text, done, left_out, produced, step_of}
use Rattle.pv_grammar.specs.Counting.{Counted, Counting, counted, in_phase, standing_of}
use Rattle.pv_grammar.proofs.Ready.{IsAt, IsFound, Place, Ready, ReadyAfter, Rooms, behind, called, stands, through}
use Rattle.pv_grammar.proofs.Fits.{kept, left}
use Rattle.pv_grammar.proofs.Forward.{fixed_alone}
use Rattle.pv_tokens.specs.declared.token.Kind.TheVariants.{Name}
use Rattle.pv_parse.specs.ByItems.{AreBounded, AreWithin}
use Rattle.pv_parse.specs.Meanings.{Names, learnt}
use Rattle.pv_parse.specs.Sentences.{StandsFor}
use Rattle.pv_parse.proofs.Pieces.{Closes as IsClosing, IsPiece, Mean, Piece, Plain, equal_token, fixed_token, fresh, fresh_known, fresh_piece, fresh_taken, learnt_bounded, named, zero_token}

-- a text of the items, which leads from some counts to others, and can be spelled where some names are declared
pub record ClosesFrom (n : Names) (c : Counts) (items : List Item) : Type 0 where
  pub symbols : List Symbol
  pub steps : List Op
  pub counts : Counts
  pub pieces : List Piece
  pub derived : Derives items symbols steps
  pub within : Counted c symbols counts
  pub spelled : Mean n c pieces symbols

-- a text of what is to come, wherever the counts fit it
abbrev Closes : List Item → Type 0
Closes items = (n : Names) → AreBounded n → (c : Counts) → Ready c items → ClosesFrom n c items

-- ---- The token with which the shortest text of an item begins is counted

abbrev number : Symbol
number = Number (record { p = pos 0; q = 1 }) (Some 0)

abbrev shortest : Item → Option Symbol
shortest (Exactly f) = Some (FixedToken f)
shortest WantConstant = Some (Declared false)
shortest WantEquals = Some (RelationToken Eq)
shortest WantValue = Some number
shortest WantFunctionName = Some (Declared false)
shortest WantParameter = Some (Declared false)
shortest MoreParameters = Some (FixedToken Close)
shortest WantVariable = Some (Declared false)
shortest WantBound = Some number
shortest WantRelation = Some (RelationToken Eq)
shortest WantFactor = Some number
shortest WantExponent = Some number
shortest (MoreArguments zero) = Some (FixedToken Close)
shortest (MoreArguments (suc n)) = Some (FixedToken Comma)
shortest i = None

-- a name stands where one is declared
abbrev stands_in : Symbol → Phase → Bool
stands_in (Declared taken) Constants = true
stands_in (Declared taken) FunctionName = true
stands_in (Declared taken) Parameters = true
stands_in (Declared taken) Variables = true
stands_in (Declared taken) p = false
stands_in s p = true

abbrev Goes : Bool → Counting → Type 0
Goes true (Ok d) = Unit {0}
Goes b r = ⊥

abbrev Granted : Option Symbol → Counts → Type 0
Granted None c = Unit {0}
Granted (Some s) c = Goes (stands_in s c.phase) (counted c s)

abbrev phase_of : Option Phase → Phase → Phase
phase_of None p = p
phase_of (Some q) p = q

granted_in : (i : Item) (o : Option Phase) (p : Phase) (a v k : Bool) (c : Counts) → Rooms a v k c → IsFound (behind i (stands o a v k)) → Granted (shortest i) (in_phase (phase_of o p) c)
granted_in WantParameter (Some Parameters) p true v k c h f = rw h.0 tt
granted_in WantVariable (Some Variables) p a true k c h f = rw h.1 tt
granted_in WantFactor (Some NextConstraint) p a v true c h f = rw h.2 tt
granted_in (MoreArguments zero) (Some Body) p a v k c h f = tt
granted_in (Exactly EndOfText) (Some Body) p a v k c h f = absurd f
granted_in (Exactly g) None Body a v k c h f = search
granted_in i (Some Body) p a v k c h f = search
granted_in i o p a v k c h f = search

granted : (i : Item) (x : Place) (c : Counts) → IsAt x c → IsFound (behind i x) → Granted (shortest i) c
granted (Exactly Open) (called (stands (Some Body) a v k)) c h f = subst (λ (p : Phase). Granted (Some (FixedToken Open)) (in_phase p c)) (sym h.1.0) (rw h.0 tt)
granted (Exactly Open) (called (stands (Some Sides) a v k)) c h f = subst (λ (p : Phase). Granted (Some (FixedToken Open)) (in_phase p c)) (sym h.1.0) (rw h.0 tt)
granted i (called x) c h f = search
granted i (stands None a v k) c h f = granted_in i None c.phase a v k c h.1 f
granted i (stands (Some q) a v k) c h f = subst (λ (p : Phase). Granted (shortest i) (in_phase p c)) (sym h.0) (granted_in i (Some q) c.phase a v k c h.1 f)

found : (items : List Item) (o : Option Place) → IsFound (through items o) → IsFound o
found items None f = f
found items (Some x) f = tt

-- ---- The text of each item

goes_on : (b : Bool) (r : Counting) → Goes b r → (b ≡ true) × ((d : Counts) × (r ≡ Ok d))
goes_on true (Ok d) h = (refl, (d, refl))
goes_on b r h = absurd h

by_piece : (i : Item) (rest : List Item) (s : Symbol) (p : Produced) → produced i s ≡ Some p → shortest i ≡ Some s →
    ((n : Names) → AreBounded n → (q : Phase) → stands_in s q ≡ true → (x : Piece) × IsPiece x × StandsFor q n x.bytes x.kind s) → Closes (p.0 ++ rest) → Closes (i ∷ rest)
by_piece i rest s p e is spell g n b c (y, at_y, f) =
    let (there, (d, one)) = goes_on (stands_in s c.phase) (counted c s) (subst (λ (o : Option Symbol). Granted o c) is (granted i y c at_y (found rest (behind i y) f))) in
    let (x, piece, stands_for) = spell n b c.phase there in
    let h : ClosesFrom (learnt (standing_of c) s x.bytes n) d (p.0 ++ rest) = g (learnt (standing_of c) s x.bytes n) (learnt_bounded c s x.bytes n b) d (subst (λ (o : Option Produced). ReadyAfter o d rest) e (kept i s c d rest (y, at_y, f) one)) in
    record {
      symbols = s ∷ h.symbols;
      steps = p.1 ++ h.steps;
      counts = h.counts;
      pieces = x ∷ h.pieces;
      derived = begun_text i rest s h.symbols p h.steps e h.derived;
      within = (d, one, h.within);
      spelled = (d, piece, stands_for, one, h.spelled);
    }

by_token : (i : Item) (rest : List Item) (s : Symbol) (x : Plain s) (p : Produced) → produced i s ≡ Some p → shortest i ≡ Some s → Closes (p.0 ++ rest) → Closes (i ∷ rest)
by_token i rest s x p e is g = by_piece i rest s p e is (λ n b q there. (x.piece, x.is_piece, x.stands q n)) g

fresh_at : (q : Phase) (n : Names) (most : ℕ) → AreWithin n most → stands_in (Declared false) q ≡ true → StandsFor q n (fresh most) Name (Declared false)
fresh_at Constants n most b t = fresh_known n most b
fresh_at FunctionName n most b t = fresh_known n most b
fresh_at Variables n most b t = fresh_known n most b
fresh_at Parameters n most b t = fresh_taken n most b
fresh_at q n most b t = absurd (cc)

-- a fresh name
by_name : (i : Item) (rest : List Item) (p : Produced) → produced i (Declared false) ≡ Some p → shortest i ≡ Some (Declared false) → Closes (p.0 ++ rest) → Closes (i ∷ rest)
by_name i rest p e is g = by_piece i rest (Declared false) p e is (λ n (most, b) q there. (named (fresh most), fresh_piece most, fresh_at q n most b there)) g

out : (i : Item) (rest : List Item) → MayEnd i → Closes rest → Closes (i ∷ rest)
out i rest may g n b c r =
    let h : ClosesFrom n c rest = g n b c (left i c rest may r) in
    record { symbols = h.symbols; steps = step_of i ++ h.steps; counts = h.counts; pieces = h.pieces; derived = left_out i rest h.symbols h.steps may h.derived; within = h.within; spelled = h.spelled }

-- an expression, where one is being read
close_factor : (rest : List Item) → Closes rest → Closes (WantFactor ∷ rest)
close_factor rest g = by_token WantFactor rest number zero_token _ refl refl (out MaybePower rest tt g)

close_expression : (rest : List Item) → Closes rest → Closes (WantFactor ∷ MoreFactors ∷ MoreTerms ∷ rest)
close_expression rest g = close_factor (MoreFactors ∷ MoreTerms ∷ rest) (out MoreFactors (MoreTerms ∷ rest) tt (out MoreTerms rest tt g))

close_arguments : (a : ℕ) (rest : List Item) → Closes rest → Closes (MoreArguments a ∷ rest)
close_arguments zero rest g = by_token (MoreArguments zero) rest (FixedToken Close) (fixed_token Close tt) _ refl refl g
close_arguments (suc a) rest g =
    by_token (MoreArguments (suc a)) rest (FixedToken Comma) (fixed_token Comma tt) _ refl refl (close_expression (MoreArguments a ∷ rest) (close_arguments a rest g))

-- the one token that may stand there
closing : (f : Fixed) (x : Place) → IsFound (behind (Exactly f) x) → IsClosing f
closing Open x h = tt
closing f x h = search

close_fixed : (f : Fixed) (rest : List Item) → Closes rest → Closes (Exactly f ∷ rest)
close_fixed f rest g n b c (x, h, k) =
    by_token (Exactly f) rest (FixedToken f) (fixed_token f (closing f x (found rest (behind (Exactly f) x) k))) ([], []) (fixed_alone f) refl g n b c (x, h, k)

close : (i : Item) (rest : List Item) → Closes rest → Closes (i ∷ rest)
close (Exactly f) rest g = close_fixed f rest g
close WantConstant rest g =
    by_name WantConstant rest _ refl refl (by_token WantEquals (MaybeSign ∷ WantValue ∷ rest) (RelationToken Eq) equal_token _ refl refl
    (out MaybeSign (WantValue ∷ rest) tt (by_token WantValue rest number zero_token _ refl refl g)))
close WantEquals rest g = by_token WantEquals rest (RelationToken Eq) equal_token _ refl refl g
close WantValue rest g = by_token WantValue rest number zero_token _ refl refl g
close WantFunctionName rest g = by_name WantFunctionName rest _ refl refl g
close WantParameter rest g = by_name WantParameter rest _ refl refl g
close MoreParameters rest g = by_token MoreParameters rest (FixedToken Close) (fixed_token Close tt) _ refl refl g
close WantVariable rest g = by_name WantVariable rest _ refl refl (out MaybeDomain rest tt g)
close WantBound rest g = by_token WantBound rest number zero_token _ refl refl g
close WantRelation rest g =
    by_token WantRelation rest (RelationToken Eq) equal_token _ refl refl (close_expression (Then (Relate Eq) ∷ rest) (out (Then (Relate Eq)) rest tt g))
close WantFactor rest g = close_factor rest g
close WantExponent rest g = by_token WantExponent rest number zero_token _ refl refl g
close (MoreArguments a) rest g = close_arguments a rest g
close i rest g = out i rest tt g

-- items that the counts fit have a text within the limits
pub closes : (n : Names) → AreBounded n → (c : Counts) (items : List Item) → Ready c items → ClosesFrom n c items
closes n b c [] r = record { symbols = []; steps = []; counts = c; pieces = []; derived = done; within = refl; spelled = tt }
closes n b c (i ∷ items) r = close i items (λ m k d q. closes m k d items q) n b c r
