-- A value that `get_str` finds is the first one of the row of its argument.
use Rattle.std.proofs.Common.{◌≡◌, ℕ, Bool, true, false, List, [], ◌∷◌, map, refl, ◌∙◌, ap, if◌then◌else◌}
use Rattle.std.specs.Prelude.{Option, Some, option_map, None, option_and_then, unwrap_or, find, slice_get}
use Rattle.std.specs.Str.{bytes_eq}
use Rattle.std.specs.Borrow.{Bor}
use Rattle.clap.specs.Facts.{Entry}
use Rattle.clap.specs.Walk.{Row, Text, row_of, first_of, all_of, rows_of}
use Rattle.clap.specs.Matches.{first_value, raw_values, matched_of}
use Rattle.clap.specs.declared.parser.matches.MatchedArg.{MatchedArg}
use Rattle.clap.specs.declared.parser.matches.Found.{Found}

abbrev value_in : Option MatchedArg → Option Text
value_in o = option_and_then (λ a. option_map (λ s. s.now) (slice_get a.vals.items 0)) o

abbrev row_in : Option Row → Option Text
row_in o = option_and_then (λ r. slice_get r.values 0) o

first_in : (vals : List (Bor (List ℕ))) → option_map (λ s. s.now) (slice_get vals 0) ≡ slice_get (map (λ s. s.now) vals) 0
first_in [] = refl
first_in (v ∷ vals) = refl

found : (xs : List Entry) (id : Text) → value_in (option_map (λ e. e.1) (find (λ e. bytes_eq e.0.now id) xs)) ≡ row_in (find (λ r. bytes_eq r.id id) (map row_of xs))
found [] id = refl
found (e ∷ xs) id =
    elim (bytes_eq e.0.now id) as (λ (t : Bool). value_in (option_map (λ x. x.1) (if t then Some e else find (λ x. bytes_eq x.0.now id) xs))
    ≡ row_in (if t then Some (row_of e) else find (λ r. bytes_eq r.id id) (map row_of xs))) [
      | true ↦ first_in e.1.vals.items
      | false ↦ found xs id
    ]

pub first_is : (f : Found) (id : Text) → first_value f id ≡ first_of id (rows_of f)
first_is f id = found f.entries.items id

-- the values that `get_raw` finds are those of the row of its argument
all_found : (xs : List Entry) (id : Text) → option_map raw_values (option_map (λ e. e.1) (find (λ e. bytes_eq e.0.now id) xs))
    ≡ option_map (λ r. r.values) (find (λ r. bytes_eq r.id id) (map row_of xs))
all_found [] id = refl
all_found (e ∷ xs) id =
    elim (bytes_eq e.0.now id) as (λ (t : Bool). option_map raw_values (option_map (λ x. x.1) (if t then Some e else find (λ x. bytes_eq x.0.now id) xs))
    ≡ option_map (λ r. r.values) (if t then Some (row_of e) else find (λ r. bytes_eq r.id id) (map row_of xs))) [
      | true ↦ refl
      | false ↦ all_found xs id
    ]

all_are : (f : Found) (id : Text) → option_map raw_values (matched_of f id) ≡ all_of id (rows_of f)
all_are f id = all_found f.entries.items id

pub some_are : (f : Found) (id : Text) (names : List Text) → Some names ≡ option_map raw_values (matched_of f id) → names ≡ unwrap_or (all_of id (rows_of f)) []
some_are f id names e = ap (λ (o : Option (List Text)). unwrap_or o []) (e ∙ all_are f id)

pub none_are : (f : Found) (id : Text) → None ≡ option_map raw_values (matched_of f id) → [] ≡ unwrap_or (all_of id (rows_of f)) []
none_are f id e = ap (λ (o : Option (List Text)). unwrap_or o []) (e ∙ all_are f id)
