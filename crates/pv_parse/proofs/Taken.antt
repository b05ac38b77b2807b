-- The loop of the reader: what is known behind one token more, or at the end of the text.
use Rattle.std.proofs.Common.{◌≡◌, ◌≢◌, ℕ, Bool, false, List, [], ◌∷◌, ◌++◌, refl, sym, ap, ◌∙◌, subst, append_assoc, Some, None, Ok, Err}
use Rattle.std.proofs.lemmas.List.{append-nil}
use Rattle.pv_code.specs.declared.code.Op.{Op}
use Rattle.pv_grammar.specs.declared.cause.Cause.{Cause}
use Rattle.pv_grammar.specs.declared.counts.Counts.{Counts}
use Rattle.pv_grammar.specs.declared.machine.Item.{Item}
use Rattle.pv_grammar.specs.declared.symbol.Symbol.{Symbol}
use Rattle.pv_grammar.specs.ByItems.{BeginsByItems, IsStart}
use Rattle.pv_grammar.specs.ByItems.IsCauseByItems.{not_allowed, beyond}
use Rattle.pv_grammar.specs.Causes.{behind_caret, refusal}
use Rattle.pv_grammar.specs.Counting.{counted, standing_of}
use Rattle.pv_grammar.specs.Grammar.{Follows, MayEnd, Settles, ended, is_exponent, met, produced, step_of}
use Rattle.pv_grammar.specs.Standings.{Standing}
use Rattle.pv_grammar.proofs.Alike.{known_append}
use Rattle.pv_grammar.proofs.Derivations.{Leads, leads_back, leads_end}
use Rattle.pv_grammar.proofs.Exponents.{Met, behind_last, no_end, settled_met, taken_plain}
use Rattle.pv_grammar.proofs.Fits.{settled_ready, taken_ready}
use Rattle.pv_grammar.proofs.Following.{stands_after}
use Rattle.pv_grammar.proofs.Forward.{Closing, GoesOn, closing, refused_forth, settled_forth, settled_orderly, settled_whole, taken_forth, taken_orderly}
use Rattle.pv_grammar.proofs.Orderly.{Orderly}
use Rattle.pv_tokens.specs.declared.token.Kind.TheVariants.{End}
use Rattle.pv_tokens.specs.declared.token.Token.{Token}
use Rattle.pv_tokens.specs.Tokens.{IsNext}
use Rattle.pv_parse.specs.ByItems.{AreBounded, IsFirstFrom, IsLimitedFrom, IsToldAs}
use Rattle.pv_parse.specs.Declarations.{mark_of}
use Rattle.pv_parse.specs.Fractions.{HasFraction}
use Rattle.pv_parse.specs.Meanings.{AreSame, Names, learnt}
use Rattle.pv_parse.specs.Scopes.{Scoped, followed}
use Rattle.pv_parse.specs.Sentences.{Spells, SpellsTo, StandsFor, bytes_of}
use Rattle.pv_parse.proofs.Continued.{spells_all}
use Rattle.pv_parse.proofs.Declarations.{Told, told_none, told_one}
use Rattle.pv_parse.proofs.KnownNames.{counts_known}
use Rattle.pv_parse.proofs.Pieces.{learnt_bounded}
use Rattle.pv_parse.proofs.Reached.{Reached, counted_all, first_fault, left_over, limited_text, starts, whole_here}
use Rattle.pv_parse.proofs.Same.{as_one}

-- what is reached, and the state that the tokens lead to
pub record ReachedAs (t : List ℕ) (known names : Names) (start counts : Counts) (first : List Item) (initial : List Op) (items : List Item) (code : List Op) (from : ℕ) (old new : Scoped) : Type 0 where
  pub reached : Reached t known names start counts first initial items code from
  pub told : Told t start reached.before from old new

pub starts_told : (t : List ℕ) (known : Names) (start : Counts) (items : List Item) (code : List Op) → IsStart start items → AreBounded known → (s : Scoped) → ReachedAs t known known start start items code items code 0 s s
unfolding starts
starts_told t known start items code is few s = record { reached = starts t known start items code is few; told = told_none t start s }

settles_meets : (s : Symbol) (items : List Item) (code : List Op) (i : Item) (rest : List Item) (code' : List Op) → Settles s items code (Some i) rest code' → MayEnd i → produced i s ≢ None
settles_meets s items code i rest code' (met j items' ops meets) = meets
settles_meets s items code i rest code' (ended j items' ops o rest' more may never k) = settles_meets s items' (ops ++ step_of j) i rest' more k

-- ---- One token more

module _ {t : List ℕ} {known names : Names} {start counts : Counts} {first : List Item} {initial : List Op} {items : List Item} {code : List Op} {from : ℕ}
    (r : Reached t known names start counts first initial items code from) where
  module _ {x : Token} {s : Symbol} (next : IsNext t from x) (stands : StandsFor counts.phase names (bytes_of t x) x.kind s) where
    -- nothing more may come
    module _ {rest : List Item} {code' : List Op} (settles : Settles s items code None rest code') where
      leads_whole : Leads first r.before initial code'
      leads_whole = subst (λ (ss : List Symbol). Leads first ss initial code') (append-nil r.before) (r.back [] code' (leads_end s items rest code code' settles))

      pub whole : x.kind ≡ End → (ss : List Symbol) × Spells t known (standing_of start) ss × IsLimitedFrom start.phase ss
      whole ends = (r.before, (from, names, x, r.spelled, next, ends), limited_text r.opening r.before leads_whole.steps leads_whole.derived r.are_known (counts, r.within))

      pub whole_told : x.kind ≡ End → {old new : Scoped} → Told t start r.before from old new → IsToldAs t known start first initial code' old new
      whole_told ends h = record {
        symbols = r.before;
        spelled = (from, names, x, r.spelled, next, ends);
        within = (counts, r.within);
        are_known = r.are_known;
        steps = leads_whole.steps;
        derived = leads_whole.derived;
        code_is = leads_whole.code_is;
        marks = h.marks;
        marked = (from, h.marked);
        fractions = h.fractions;
        scoped = h.scoped;
      }

      pub too_much : ¬ (x.kind ≡ End) → IsFirstFrom t known start x.start (refusal false s)
      too_much inside =
          let m : Met (behind_caret r.before) None rest = settled_met (behind_caret r.before) s items code None rest code' settles r.exponent in
          first_fault r x s (refusal false s) next stands
          (not_allowed (λ begins. settled_forth s items code None rest code' settles begins.rest (left_over r s begins)) (ap (λ (z : Bool). refusal z s) (sym m)))
          (λ ends. absurd (inside ends))

    -- an item is met
    module _ {i : Item} {rest : List Item} {code' : List Op} (settles : Settles s items code (Some i) rest code') where
      met_here : Met (behind_caret r.before) (Some i) rest
      met_here = settled_met (behind_caret r.before) s items code (Some i) rest code' settles r.exponent

      -- which does not begin with the token
      pub refused : (b : Bool) → produced i s ≡ None → is_exponent i ≡ b → IsFirstFrom t known start x.start (refusal b s)
      refused b never wanted =
          let meets : MayEnd i → produced i s ≢ None = settles_meets s items code i rest code' settles in
          first_fault r x s (refusal b s) next stands
          (not_allowed (λ begins. refused_forth i s rest begins.rest meets never (settled_forth s items code (Some i) rest code' settles begins.rest (left_over r s begins)))
          (ap (λ (z : Bool). refusal z s) (sym wanted ∙ met_here.0)))
          (λ ends steps d. meets (settled_whole s items code (Some i) rest code' settles (whole_here r steps d) i refl) never)

      -- or does
      module _ (items'' : List Item) (code'' : List Op) (follows : Follows (produced i s) rest code' items'' code'') where
        pub taken_not_end : ¬ (x.kind ≡ End)
        taken_not_end ends =
            let none : produced i s ≡ None = ap (λ (z : Symbol). produced i z) (rw ends at stands) ∙ no_end i met_here.1 in rw none at follows

        begins_with : BeginsByItems first (r.before ++ s ∷ [])
        begins_with =
            let c : Closing items'' = closing items'' in
            let here : Leads items'' c.symbols code'' (code'' ++ c.steps) = record { steps = c.steps; derived = c.derived; code_is = refl } in
            let l : Leads first (r.before ++ s ∷ c.symbols) initial (code'' ++ c.steps) =
            r.back (s ∷ c.symbols) (code'' ++ c.steps) (leads_back items rest items'' code code' code'' (code'' ++ c.steps) i s c.symbols settles follows here) in
            record { rest = c.symbols; steps = l.steps; derived = rw (append_assoc r.before (s ∷ []) c.symbols) l.derived }

        -- the limits or the declarations forbid it
        pub forbidden : (cause : Cause) → counted counts s ≡ Err cause → IsFirstFrom t known start x.start cause
        forbidden cause one = first_fault r x s cause next stands (beyond begins_with one) (λ ends. absurd (taken_not_end ends))

        -- or it is taken
        pub taken_on : {more : Counts} → counted counts s ≡ Ok more → Reached t known (learnt (standing_of counts) s (bytes_of t x) names) start more first initial items'' code'' x.end
        taken_on {more = more} one =
            let o : Orderly (i ∷ rest) = settled_orderly s items code (Some i) rest code' settles r.orderly in
            record {
              opening = r.opening;
              before = r.before ++ s ∷ [];
              spelled = spells_all t known (standing_of start) 0 r.before from names (s ∷ []) x.end _ r.spelled
                  (subst (λ (y : Standing). SpellsTo t names y from (s ∷ []) x.end (learnt (standing_of counts) s (bytes_of t x) names)) (stands_after start r.before counts r.within)
                  (x, next, taken_not_end, stands, (refl, refl)));
              within = counted_all start r.before counts (s ∷ []) more r.within (more, one, refl);
              are_known = known_append r.before (s ∷ []) r.are_known (counts_known counts.phase names (bytes_of t x) x.kind s counts more stands one, tt);
              orderly = taken_orderly i s rest code' items'' code'' (produced i s) refl follows o;
              ready = taken_ready i s counts more rest code' items'' code'' (produced i s) refl follows one (settled_ready s counts items code (Some i) rest code' settles r.ready);
              bounded = learnt_bounded counts s (bytes_of t x) names r.bounded;
              exponent = rw (behind_last r.before s) (taken_plain i s rest code' items'' code'' (produced i s) refl follows met_here.1 met_here.2);
              forth = λ ss g.
                  taken_forth i s rest code' items'' code'' (produced i s) refl follows o ss
                  (settled_forth s items code (Some i) rest code' settles ss (r.forth (s ∷ ss) (subst (GoesOn first) (append_assoc r.before (s ∷ []) ss) g)));
              back = λ ss after l. rw (append_assoc r.before (s ∷ []) ss) (r.back (s ∷ ss) after (leads_back items rest items'' code code' code'' after i s ss settles follows l));
            }

        -- and declares what it declares
        pub taken_told : {more : Counts} → counted counts s ≡ Ok more → {old new newer : Scoped} → Told t start r.before from old new → HasFraction s → newer ≡ followed (mark_of t counts.phase s x) new →
            (kept : Names) → AreSame kept (learnt (standing_of counts) s (bytes_of t x) names) → ReachedAs t known kept start more first initial items'' code'' x.end old newer
        unfolding taken_on
        taken_told {more = more} one {old = old} {new = new} {newer = newer} h fraction is kept same =
            subst (λ (n : Names). ReachedAs t known n start more first initial items'' code'' x.end old newer) (sym (as_one kept _ same))
            (record { reached = taken_on one; told = told_one t start r.before from counts old new newer x s h r.within next fraction is })
