-- The join of files that are read one after the other, each laid to the join of those before it.
use Rattle.std.proofs.Common.{◌≡◌, inl, inr, ℕ, List, [], ◌∷◌, ◌++◌, sym, subst, append_assoc, append-nil}
use Rattle.std.specs.Borrow.{Bor}
use Rattle.pv_slope.specs.Methods.{Method}
use Rattle.pv_tree.specs.Trees.{Tree, leaf}
use Rattle.pv_join.specs.Joins.{IsJoin}
use Rattle.pv_request.specs.Requests.{names_in}
use Rattle.pv_rule.specs.Systems.{Files, AreOnlyRead, HasRule}
use Rattle.pv_product.specs.Files.{HoldsPaving, IsJoinOf, RefusesJoin, RefusesOpening}
use Rattle.pv_opening.specs.Reads.{AreHeld, IsKeyOf, IsJoinOn, RefusesJoinOn}
use Rattle.pv_opening.specs.declared.pavings.Key.{Key}
use Rattle.pv_request.specs.declared.request.Settings.{Settings}
use Rattle.pv_request.specs.declared.refusal.Refusal.{Refusal}
use Rattle.pv_opening.proofs.Earlier.{have_before, all_refused_before, first_have, first_held}
use Rattle.pv_opening.proofs.Joined.{no_trees, one_more}

-- ---- No file is left

pub none_later : (a : Files) (limit : ℕ) (rule : Method) (names : List (Bor (List ℕ))) (ts : List Tree) (t : Tree) → names ≡ [] → IsJoinOf ts t → IsJoinOn a limit rule ts (names_in names) t
none_later a limit rule names ts t e j =
    subst (λ (ns : List (Bor (List ℕ))). IsJoinOn a limit rule ts (names_in ns) t) (sym e)
    (record { later = []; held = tt; join = subst (λ (us : List Tree). IsJoinOf us t) (sym (append-nil ts)) j })

pub none_at_all : (a : Files) (limit : ℕ) (rule : Method) (names : List (Bor (List ℕ))) (t : Tree) → names ≡ [] → t ≡ leaf → IsJoinOn a limit rule [] (names_in names) t
none_at_all a limit rule names t e is = none_later a limit rule names [] t e (subst (IsJoinOf []) (sym is) no_trees)

-- ---- A file was read, and others follow

module _ (a b : Files) (read : AreOnlyRead a b) (limit : ℕ) (rule : Method) (key : Key) (names rest : List (Bor (List ℕ))) (name : Bor (List ℕ)) (next : Tree) (is : IsKeyOf rule limit key)
    (e : names ≡ name ∷ rest) (held : HoldsPaving a key.limit key.identity key.root name.now next) where
  pub more_held : AreHeld b limit rule (names_in rest) → AreHeld a limit rule (names_in names)
  more_held h = (next ∷ h.0, first_have a b read limit rule key names rest name next h.0 is e held h.1)

  -- it is the first file
  pub first_joined : (t : Tree) → IsJoinOn b limit rule (next ∷ []) (names_in rest) t → IsJoinOn a limit rule [] (names_in names) t
  first_joined t h = record { later = next ∷ h.later; held = first_have a b read limit rule key names rest name next h.later is e held h.held; join = h.join }

  pub first_no_join : (c : Files) (r : Refusal) → RefusesJoinOn b c limit rule (next ∷ []) (names_in rest) r → RefusesJoinOn a c limit rule [] (names_in names) r
  first_no_join c r (inl h) = inl (first_held a b read c limit rule key names rest name next r is e held h)
  first_no_join c r (inr h) = inr (record { later = next ∷ h.later; held = first_have a b read limit rule key names rest name next h.later is e held h.held; refused = h.refused })

  -- it was joined with what earlier ones came to
  module _ (ts : List Tree) (earlier joined : Tree) (j : IsJoinOf ts earlier) (two : IsJoin earlier next joined) where
    pub more_joined : (t : Tree) → ((us : List Tree) → IsJoinOf us joined → IsJoinOn b limit rule us (names_in rest) t) → IsJoinOn a limit rule ts (names_in names) t
    more_joined t f = joined_so (f (ts ++ next ∷ []) (one_more ts earlier next joined j two))
      where
        joined_so : IsJoinOn b limit rule (ts ++ next ∷ []) (names_in rest) t → IsJoinOn a limit rule ts (names_in names) t
        joined_so h = record {
          later = next ∷ h.later;
          held = first_have a b read limit rule key names rest name next h.later is e held h.held;
          join = subst (λ (us : List Tree). IsJoinOf us t) (append_assoc ts (next ∷ []) h.later) h.join;
        }

    pub more_no_join : (c : Files) (r : Refusal) → ((us : List Tree) → IsJoinOf us joined → RefusesJoinOn b c limit rule us (names_in rest) r) → RefusesJoinOn a c limit rule ts (names_in names) r
    more_no_join c r f = refused_so (f (ts ++ next ∷ []) (one_more ts earlier next joined j two))
      where
        refused_so : RefusesJoinOn b c limit rule (ts ++ next ∷ []) (names_in rest) r → RefusesJoinOn a c limit rule ts (names_in names) r
        refused_so (inl h) = inl (first_held a b read c limit rule key names rest name next r is e held h)
        refused_so (inr h) = inr (record {
          later = next ∷ h.later;
          held = first_have a b read limit rule key names rest name next h.later is e held h.held;
          refused = subst (λ (us : List Tree). RefusesJoin us r) (append_assoc ts (next ∷ []) h.later) h.refused;
        })

  -- it disagrees with what earlier ones came to, and those after it were read
  pub apart : (c : Files) (ts : List Tree) (r : Refusal) → ((us : List Tree) → RefusesJoin (ts ++ next ∷ us) r) → AreHeld b limit rule (names_in rest) → RefusesJoinOn a c limit rule ts (names_in names) r
  apart c ts r f h = inr (record { later = next ∷ h.0; held = first_have a b read limit rule key names rest name next h.0 is e held h.1; refused = f h.0 })

-- ---- The system was read before the files

pub opening_refused_on : (a b : Files) → AreOnlyRead a b → (c : Files) (system : List ℕ) (names : List (List ℕ)) (s : Settings) (limit : ℕ) (rule : Method) (r : Refusal) → HasRule a system s rule
    → RefusesJoinOn b c limit rule [] names r → RefusesOpening a c system names s limit r
opening_refused_on a b read c system names s limit rule r is (inl h) =
    inr (inl (record { rule = rule; read = is; refused = all_refused_before a b read limit c rule names r h }))
opening_refused_on a b read c system names s limit rule r is (inr h) =
    inr (inr (record { rule = rule; read = is; trees = h.later; held = have_before a b read limit rule names h.later h.held; refused = h.refused }))
