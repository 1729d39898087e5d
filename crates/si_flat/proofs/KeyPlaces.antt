-- A symbol's key among those that were met.
use Rattle.std.proofs.Common.{◌≡◌, ℕ, ◌+◌, ◌≤◌, ◌<◌, true, false, cond, List, [], ◌∷◌, ◌++◌, length, map, position, Some, ap, sym, ◌∙◌, arith, length-append}
use Rattle.std.proofs.lemmas.List.{length-map}
use Rattle.std.specs.List.{list_any}
use Rattle.indexmap.specs.IndexSet.{insert_key}
use Rattle.si_defs.specs.Symbols.{Symbol, same_symbol}
use Rattle.si_defs.proofs.SymbolLaws.{symbol-Decides}
use Rattle.si_term.proofs.Inserted.{any-shown, key-shown, place-shown}
use Rattle.si_flat.specs.declared.met.SymbolKey.{SymbolKey}
use Rattle.si_flat.specs.contracts.met.SymbolKeyPartialEq.TheImpl as key_eq
use Rattle.si_flat.specs.Numbered.{place_in}
use Rattle.si_flat.specs.Flattening.{symbol_of_key, IsIndex}
use Rattle.si_flat.proofs.InsertedPlaces.{inserted-place, found_place}
use Rattle.si_flat.proofs.Keys.{key_is}
use Rattle.si_flat.proofs.NameLaws.{none_behind}

module _ (keys : List SymbolKey) (key : SymbolKey) where
  abbrev met : List Symbol
  met = map symbol_of_key keys

  abbrev own : Symbol
  own = symbol_of_key key

  same_test : list_any (key_eq.eq-value.it key) keys ≡ list_any (same_symbol own) met
  same_test = any-shown symbol_of_key key_eq.eq-value.it same_symbol key_is key keys

  -- one that was met
  pub stays : true ≡ list_any (key_eq.eq-value.it key) keys → met ≡ insert_key same_symbol met own
  stays known = sym (ap (λ b. cond b met (met ++ own ∷ [])) (sym same_test ∙ sym known))

  pub place_known : (place : ℕ) → true ≡ list_any (key_eq.eq-value.it key) keys
      → Some place ≡ position (key_eq.eq-value.it key) keys
      → IsIndex same_symbol met own place
  place_known place known at more =
      ap (λ l. place_in same_symbol (l ++ more) own) (stays known)
      ∙ inserted-place same_symbol symbol-Decides met own more
      ∙ sym (place-shown symbol_of_key key_eq.eq-value.it same_symbol key_is key keys)
      ∙ sym (found_place _ _ _ at)

  -- and one that wasn't
  pub inserted_key : (new : List SymbolKey) → new ≡ insert_key key_eq.eq-value.it keys key → map symbol_of_key new ≡ insert_key same_symbol met own
  inserted_key new is = ap (map symbol_of_key) is ∙ key-shown symbol_of_key key_eq.eq-value.it same_symbol key_is keys key

  is_new : false ≡ list_any (key_eq.eq-value.it key) keys → list_any (same_symbol own) met ≡ false
  is_new none = sym same_test ∙ sym none

  pub place_new : (new : List SymbolKey) (place : ℕ) → new ≡ insert_key key_eq.eq-value.it keys key
      → false ≡ list_any (key_eq.eq-value.it key) keys
      → place ≡ length keys
      → IsIndex same_symbol (map symbol_of_key new) own place
  place_new new place is none last more =
      ap (λ l. place_in same_symbol (l ++ more) own) (inserted_key new is)
      ∙ inserted-place same_symbol symbol-Decides met own more
      ∙ none_behind (same_symbol own) met (is_new none)
      ∙ length-map keys symbol_of_key
      ∙ sym last

  pub key_refused : (spare : ℕ) → false ≡ list_any (key_eq.eq-value.it key) keys → spare ≤ 0
      → length keys + spare < length (insert_key same_symbol met own)
  key_refused spare none full =
      let longer : length (insert_key same_symbol met own) ≡ length met + 1 =
      ap (λ b. length (cond b met (met ++ own ∷ []))) (is_new none) ∙ length-append met (own ∷ []) in
      omega (arith, longer, length-map keys symbol_of_key, full)
