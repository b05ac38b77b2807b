-- What is known behind the tokens that were taken, in both directions; and what is first wrong there, by the items of the grammar and the
-- counts, is so by trees and their limits.
use Rattle.std.proofs.Common.{◌≡◌, ℕ, Bool, false, Option, List, [], ◌∷◌, ◌++◌, refl, sym, ◌∙◌, subst, append_assoc, ⊎_elim, Ok, Err}
use Rattle.std.proofs.lemmas.List.{append-nil}
use Rattle.pv_code.specs.declared.code.Op.{Op}
use Rattle.pv_grammar.specs.declared.cause.Cause.{Cause}
use Rattle.pv_grammar.specs.declared.counts.Counts.{Counts}
use Rattle.pv_grammar.specs.declared.counts.Phase.{Phase}
use Rattle.pv_grammar.specs.declared.counts.Phase.TheVariants.{Between, Sides, NextConstraint, Variables}
use Rattle.pv_grammar.specs.declared.machine.Item.{Item}
use Rattle.pv_grammar.specs.declared.symbol.Fixed.TheVariants.{Minus}
use Rattle.pv_grammar.specs.declared.symbol.Symbol.{Symbol}
use Rattle.pv_grammar.specs.declared.symbol.Symbol.TheVariants.{Fixed as FixedToken, Declared, Function as Call, Unknown}
use Rattle.pv_grammar.specs.ByItems.{BeginsByItems, IsCauseByItems, IsStart}
use Rattle.pv_grammar.specs.ByItems.IsCauseByItems.{beyond as beyond_items, not_allowed as not_by_items}
use Rattle.pv_grammar.specs.Causes.{Begins, IsCause, as_known, behind_caret, limit_cause}
use Rattle.pv_grammar.specs.Causes.IsCause.{beyond, named, not_allowed, unopened}
use Rattle.pv_grammar.specs.Counting.{AreCounted, Counted, Counting, counted, nothing, standing_of}
use Rattle.pv_grammar.specs.Grammar.{Derives, Produced, begun, left_out, step_of, expression_items, system_items}
use Rattle.pv_grammar.specs.Standings.{Standing, standing_after}
use Rattle.pv_grammar.specs.TreeCodes.{AreKnown, IsKnown}
use Rattle.pv_grammar.proofs.Alike.{AreTexts, expression_texts, items_begin, known_append, system_texts, tree_begins}
use Rattle.pv_grammar.proofs.Beyond.{call_at, limit_at, name_at, sign_begins}
use Rattle.pv_grammar.proofs.Derivations.{Leads}
use Rattle.pv_grammar.proofs.Exponents.{AtExponent, expression_plain, system_plain}
use Rattle.pv_grammar.proofs.Fits.{expression_starts, kept, left, system_starts}
use Rattle.pv_grammar.proofs.Following.{IsCalm, calm_after, stands_after}
use Rattle.pv_grammar.proofs.Forward.{GoesOn}
use Rattle.pv_grammar.proofs.Orderly.{Orderly, expression_orderly, system_orderly}
use Rattle.pv_grammar.proofs.Ready.{Ready, ReadyAfter}
use Rattle.pv_grammar.proofs.Within.{AreLimited, expression_limited, system_limited}
use Rattle.pv_tokens.specs.declared.token.Kind.TheVariants.{End}
use Rattle.pv_tokens.specs.declared.token.Token.{Token}
use Rattle.pv_tokens.specs.Tokens.{IsNext}
use Rattle.pv_parse.specs.ByItems.{AreBounded, IsFirstFrom, IsLimitedFrom, IsTextFrom}
use Rattle.pv_parse.specs.Faults.{ClosesWith}
use Rattle.pv_parse.specs.Meanings.{Names, no_names}
use Rattle.pv_parse.specs.Sentences.{SpellsTo, StandsFor, bytes_of}
use Rattle.pv_parse.proofs.Closings.{ClosesFrom, closes}
use Rattle.pv_parse.proofs.Continued.{continued, text_of}
use Rattle.pv_parse.proofs.KnownNames.{mean_known, stands_known}
use Rattle.pv_parse.proofs.Pieces.{none_bounded}

-- ---- Where a text begins

-- what is known where a text begins: the texts of its items are those of trees, there is room for each, and they are read in one way
pub record StartOf (start : Counts) (items : List Item) : Type 0 where
  pub texts : AreTexts items (IsTextFrom start.phase)
  pub limited : AreLimited start (IsTextFrom start.phase) (IsLimitedFrom start.phase)
  pub ready : Ready start items
  pub orderly : Orderly items
  pub plain : AtExponent false items

system_start : StartOf (nothing Between) system_items
system_start = record { texts = system_texts; limited = system_limited; ready = system_starts; orderly = system_orderly; plain = system_plain }

expression_start : StartOf (nothing Sides) expression_items
expression_start = record { texts = expression_texts; limited = expression_limited; ready = expression_starts; orderly = expression_orderly; plain = expression_plain }

pub start_of : (start : Counts) (items : List Item) → IsStart start items → StartOf start items
start_of start items is = ⊎_elim (λ (e, f). rw (e, f) system_start) (λ (e, f). rw (e, f) expression_start) is

pub limited_text : {start : Counts} {items : List Item} → StartOf start items → (ss : List Symbol) (steps : List Op) → Derives items ss steps → AreKnown ss → AreCounted start ss → IsLimitedFrom start.phase ss
limited_text o ss steps d known counted = o.limited.limited ss (o.texts.tree ss steps d known) counted

-- ---- Tokens that are counted

pub counted_all : (c : Counts) (ss : List Symbol) (d : Counts) (rest : List Symbol) (e : Counts) → Counted c ss d → Counted d rest e → Counted c (ss ++ rest) e
counted_all c [] d rest e same more = rw same more
counted_all c (r ∷ ss) d rest e (m, first, to) more = (m, first, counted_all m ss d rest e to more)

-- what is counted is counted once
ok_same : {v w : Counts} (r : Counting) → r ≡ Ok v → r ≡ Ok w → v ≡ w
ok_same r e f = cc

ok_err : {c : Counts} {cause : Cause} (r : Counting) → r ≡ Ok c → r ≡ Err cause → ⊥
ok_err r e f = cc

counted_next : (c : Counts) (ss : List Symbol) (d : Counts) (s : Symbol) (rest : List Symbol) (e : Counts) → Counted c ss d → Counted c (ss ++ s ∷ rest) e → (m : Counts) × (counted d s ≡ Ok m)
counted_next c [] d s rest e is (m, one, more) = (m, rw is at one)
counted_next c (r ∷ ss) d s rest e (m, first, to) (m', first', more) = counted_next m ss d s rest e to (rw (ok_same (counted c r) first' first) at more)

-- where items begin with a token that is counted, they have a text that begins with it and stays within the limits
goes_on : (items : List Item) (s : Symbol) (ss : List Symbol) (code : List Op) → Derives items (s ∷ ss) code → (c d : Counts) → Ready c items → counted c s ≡ Ok d →
    (rest : List Symbol) × AreCounted d rest × AreKnown rest × GoesOn items (s ∷ rest)
goes_on items s ss code (left_out i others ss' code' may x) c d r one =
    let (rest, within, are, g) = goes_on others s ss code' x c d (left i c others may r) one in
    (rest, within, are, record { steps = step_of i ++ g.steps; derived = left_out i others (s ∷ rest) g.steps may g.derived })
goes_on items s ss code (begun i others s' ss' p code' made x) c d r one =
    let ready : Ready d (p.0 ++ others) = subst (λ (z : Option Produced). ReadyAfter z d others) made (kept i s c d others r one) in
    let z = closes no_names (none_bounded no_names refl) d (p.0 ++ others) ready in
    (z.symbols, (z.counts, z.within), mean_known no_names d z.pieces z.symbols z.spelled, record { steps = p.1 ++ z.steps; derived = begun i others s z.symbols p z.steps made z.derived })

-- ---- Behind the tokens so far

pub record Reached (t : List ℕ) (known names : Names) (start counts : Counts) (first : List Item) (initial : List Op) (items : List Item) (code : List Op) (from : ℕ) : Type 0 where
  pub opening : StartOf start first
  pub before : List Symbol
  pub spelled : SpellsTo t known (standing_of start) 0 before from names
  pub within : Counted start before counts
  pub are_known : AreKnown before
  pub orderly : Orderly items
  pub ready : Ready counts items
  pub bounded : AreBounded names
  pub exponent : AtExponent (behind_caret before) items
  pub forth : (ss : List Symbol) → GoesOn first (before ++ ss) → GoesOn items ss
  pub back : (ss : List Symbol) (after : List Op) → Leads items ss code after → Leads first (before ++ ss) initial after

unfoldable pub starts : (t : List ℕ) (known : Names) (start : Counts) (items : List Item) (code : List Op) → IsStart start items → AreBounded known → Reached t known known start start items code items code 0
starts t known start items code is few =
    let o = start_of start items is in
    record { opening = o; before = []; spelled = (refl, refl); within = refl; are_known = tt; orderly = o.orderly; ready = o.ready; bounded = few; exponent = o.plain; forth = λ ss g. g; back = λ ss after l. l }

unknown_same : (p : Phase) → limit_cause p (as_known Unknown) ≡ limit_cause p Unknown
unknown_same NextConstraint = refl
unknown_same p = refl

declared_same : (p : Phase) (taken : Bool) → limit_cause p (Declared false) ≡ limit_cause p (Declared taken)
declared_same Variables taken = refl
declared_same p taken = refl

module _ {t : List ℕ} {known names : Names} {start counts : Counts} {first : List Item} {initial : List Op} {items : List Item} {code : List Op} {from : ℕ}
    (r : Reached t known names start counts first initial items code from) where
  abbrev IsText : List Symbol → Type 0
  IsText = IsTextFrom start.phase

  abbrev IsLimited : List Symbol → Type 0
  IsLimited = IsLimitedFrom start.phase

  closes_here : ClosesWith t known (standing_of start) (IsLimitedFrom start.phase) from r.before
  closes_here =
      let c : ClosesFrom names counts items = closes names r.bounded counts items r.ready in
      let l : Leads first (r.before ++ c.symbols) initial (code ++ c.steps) = r.back c.symbols (code ++ c.steps) (record { steps = c.steps; derived = c.derived; code_is = refl }) in
      record {
        tail = text_of c.pieces;
        rest = c.symbols;
        spelled = continued t known names (standing_of start) counts r.before c.symbols from c.pieces r.spelled (stands_after start r.before counts r.within) c.spelled;
        text = limited_text r.opening (r.before ++ c.symbols) l.steps l.derived (known_append r.before c.symbols r.are_known (mean_known names counts c.pieces c.symbols c.spelled))
            (c.counts, counted_all start r.before counts c.symbols c.counts r.within c.within);
      }

  -- what is whole is nothing more on the pile
  pub whole_here : (steps : List Op) → Derives first r.before steps → GoesOn items []
  whole_here steps d = r.forth [] (subst (GoesOn first) (sym (append-nil r.before)) (record { steps = steps; derived = d }))

  -- what is left of a text that begins with one token more
  pub left_over : (s : Symbol) (b : BeginsByItems first (r.before ++ s ∷ [])) → GoesOn items (s ∷ b.rest)
  left_over s b = r.forth (s ∷ b.rest) (subst (GoesOn first) (append_assoc r.before (s ∷ []) b.rest) (record { steps = b.steps; derived = b.derived }))

  -- where a text begins with a token that is counted, one within the limits does
  goes_within : (s : Symbol) (d : Counts) → BeginsByItems first (r.before ++ s ∷ []) → IsKnown s → counted counts s ≡ Ok d → Begins IsLimited (r.before ++ s ∷ [])
  goes_within s d b name one =
      let g = left_over s b in
      let (rest, (e, within), are, h) = goes_on items s b.rest g.steps g.derived counts d r.ready one in
      let l : Leads first (r.before ++ s ∷ rest) initial (code ++ h.steps) = r.back (s ∷ rest) (code ++ h.steps) (record { steps = h.steps; derived = h.derived; code_is = refl }) in
      let text : IsLimited (r.before ++ s ∷ rest) = limited_text r.opening (r.before ++ s ∷ rest) l.steps l.derived (known_append r.before (s ∷ rest) r.are_known (name, are))
      (e, counted_all start r.before counts (s ∷ rest) e r.within (d, one, within)) in
      (rest, rw (append_assoc r.before (s ∷ []) rest) text)

  -- where a text within the limits goes on with a token, the token is counted
  limited_next : (s : Symbol) → Begins IsLimited (r.before ++ s ∷ []) → (d : Counts) × (counted counts s ≡ Ok d)
  limited_next s (rest, text) =
      let (e, h) = r.opening.limited.counted ((r.before ++ s ∷ []) ++ rest) text in
      counted_next start r.before counts s rest e r.within (subst (λ (z : List Symbol). Counted start z e) (append_assoc r.before (s ∷ []) rest) h)

  none_limited : (s : Symbol) (cause : Cause) → counted counts s ≡ Err cause → ¬ Begins IsLimited (r.before ++ s ∷ [])
  none_limited s cause err b = ok_err (counted counts s) (limited_next s b).1 err

  text_begins : (s : Symbol) → Begins IsText (r.before ++ s ∷ []) → BeginsByItems first (r.before ++ s ∷ [])
  text_begins s (rest, text) = let found = r.opening.texts.derived ((r.before ++ s ∷ []) ++ rest) text in record { rest = rest; steps = found.0; derived = found.1 }

  -- no text within the limits begins with a token that has a cause
  none_begins : (s : Symbol) (cause : Cause) → IsCauseByItems first r.before counts s cause → ¬ Begins IsLimited (r.before ++ s ∷ [])
  none_begins s cause (not_by_items never is) (rest, text) = never (text_begins s (rest, r.opening.limited.text ((r.before ++ s ∷ []) ++ rest) text))
  none_begins s cause (beyond_items begins err) b = none_limited s cause err b

  calm_here : IsCalm counts
  calm_here = calm_after start r.before counts r.within r.opening.limited.calm

  limit_by : (s : Symbol) (cause : Cause) → BeginsByItems first (r.before ++ s ∷ []) → Begins IsText (r.before ++ as_known s ∷ []) → counted counts (as_known s) ≡ Err cause →
      ¬ Begins IsLimited (r.before ++ as_known s ∷ []) → IsCause IsText IsLimited r.before counts.phase s cause
  limit_by Unknown cause b begins err never =
      beyond begins never (λ h. h) (limit_at counts.phase (as_known Unknown) counts.level counts.operations counts.parameters counts.functions counts.variables counts.constraints cause tt calm_here err ∙ unknown_same counts.phase)
  limit_by (Declared taken) cause b begins err never =
      beyond begins never (λ h. h) (limit_at counts.phase (Declared false) counts.level counts.operations counts.parameters counts.functions counts.variables counts.constraints cause tt calm_here err ∙ declared_same counts.phase taken)
  limit_by (Call op n) cause b begins err never =
      ⊎_elim
      (λ (is, no_sign). beyond begins never (λ sign. let (d, one) = limited_next (FixedToken Minus) sign in no_sign d one) is)
      (λ (is, (d, one)). unopened begins never (goes_within (FixedToken Minus) d (sign_begins first r.before op n b) tt one) is)
      (call_at counts.phase op n counts.level counts.operations counts.parameters counts.functions counts.variables counts.constraints cause calm_here err)
  limit_by s cause b begins err never =
      beyond begins never (λ h. h) (limit_at counts.phase s counts.level counts.operations counts.parameters counts.functions counts.variables counts.constraints cause tt calm_here err)

  cause_by : (s : Symbol) (cause : Cause) → IsKnown (as_known s) → IsCauseByItems first r.before counts s cause → IsCause IsText IsLimited r.before counts.phase s cause
  cause_by s cause name (not_by_items never is) = not_allowed (λ b. never (items_begin first IsText r.opening.texts r.before s b)) is
  cause_by s cause name (beyond_items b err) =
      let begins = tree_begins first IsText r.opening.texts r.before s r.are_known name b in
      ⊎_elim
      (λ err'. limit_by s cause b begins err' (none_limited (as_known s) cause err'))
      (λ ((d, one), is). named (goes_within (as_known s) d (text_begins (as_known s) begins) name one) is)
      (name_at counts s cause err)

  pub first_fault : (x : Token) (s : Symbol) (cause : Cause) → IsNext t from x → StandsFor counts.phase names (bytes_of t x) x.kind s → IsCauseByItems first r.before counts s cause →
      (x.kind ≡ End → (steps : List Op) → Derives first r.before steps → ⊥) → IsFirstFrom t known start x.start cause
  first_fault x s cause next stands because no_whole =
      let there : standing_of counts ≡ standing_after (standing_of start) r.before = stands_after start r.before counts r.within in
      record {
        before = r.before;
        from = from;
        token = x;
        symbol = s;
        names = names;
        spelled = r.spelled;
        next = next;
        place = refl;
        stands = subst (λ (y : Standing). StandsFor y.phase names (bytes_of t x) x.kind s) there stands;
        closes = closes_here;
        none = none_begins s cause because;
        unfinished = λ ends text. let found = r.opening.texts.derived r.before (r.opening.limited.text r.before text) in no_whole ends found.0 found.1;
        because = subst (λ (y : Standing). IsCause IsText IsLimited r.before y.phase s cause) there (cause_by s cause (stands_known counts.phase names (bytes_of t x) x.kind s stands) because);
      }
