-- What the machine's proofs say of texts by the items of `Grammar`, in place of trees. It is for those proofs: no public contract of
-- the reader cites it. `proofs/Alike` leads from it to what `Causes` says by trees.
use Rattle.std.specs.Prelude.{◌≡◌, ◌⊎◌, List, [], ◌∷◌, ◌++◌, Err}
use Rattle.pv_code.specs.declared.code.Op.{Op}
use Rattle.pv_grammar.specs.declared.cause.Cause.{Cause}
use Rattle.pv_grammar.specs.declared.counts.Counts.{Counts}
use Rattle.pv_grammar.specs.declared.counts.Phase.TheVariants.{Between, Sides}
use Rattle.pv_grammar.specs.declared.machine.Item.{Item}
use Rattle.pv_grammar.specs.declared.symbol.Symbol.{Symbol}
use Rattle.pv_grammar.specs.Causes.{behind_caret, refusal}
use Rattle.pv_grammar.specs.Grammar.{Derives, expression_items, system_items}
use Rattle.pv_grammar.specs.Counting.{counted, nothing}

-- the text of a system begins between its blocks, and that of an expression within it
abbrev pub IsStart : Counts → List Item → Type 0
IsStart c items = ((c ≡ nothing Between) × (items ≡ system_items)) ⊎ ((c ≡ nothing Sides) × (items ≡ expression_items))

-- a text of the items begins with these tokens
pub record BeginsByItems (items : List Item) (ss : List Symbol) : Type 0 where
  pub rest : List Symbol
  pub steps : List Op
  pub derived : Derives items (ss ++ rest) steps

-- a token behind these: the grammar refuses it, or the limits and declarations do where the grammar, with them left aside, takes it
pub data IsCauseByItems (items : List Item) (before : List Symbol) (counts : Counts) (s : Symbol) (cause : Cause) : Type 0 where
  not_allowed : ¬ BeginsByItems items (before ++ s ∷ []) → cause ≡ refusal (behind_caret before) s → IsCauseByItems items before counts s cause
  beyond : BeginsByItems items (before ++ s ∷ []) → counted counts s ≡ Err cause → IsCauseByItems items before counts s cause
