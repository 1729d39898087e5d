-- Laws of the symbols that a table lacks, and of their numbers.
use Rattle.std.proofs.Common.{◌≡◌, ℕ, ◌+◌, ◌*◌, ◌≤◌, ◌^◌, Bool, true, false, true≢false, cond, not, ◌||◌, List, [], ◌∷◌, ◌++◌, length, map, refl, sym, ap, ◌∙◌, arith}
use Rattle.std.specs.Prelude.{Some, None}
use Rattle.std.specs.List.{list_any, position, position_or_len}
use Rattle.std.proofs.lemmas.List.Elements.{filter-append}
use Rattle.std.proofs.lemmas.List.Sums.{length-filter, count_by-le-length}
use Rattle.std.proofs.lemmas.Option.{same_Some, none-some}
use Rattle.indexmap.specs.IndexSet.{insert_all}
use Rattle.si_defs.specs.Symbols.{Symbol, Numbering, same_symbol}
use Rattle.si_defs.specs.Clauses.{Literal, Clause, AreSoundLiterals}
use Rattle.si_defs.specs.Entries.{literals_symbols}
use Rattle.si_defs.specs.declared.TheConstants.{MOST_OCCURRENCES}
use Rattle.si_defs.specs.declared.NameKind.TheVariants.{Word}
use Rattle.si_defs.proofs.SymbolLaws.{symbol-Decides}
use Rattle.si_term.proofs.Alone.{entries_few}
use Rattle.si_term.proofs.EntryHeads.{length-symbols}
use Rattle.si_term.proofs.Inserted.{swapped, inserted-append, inserted-firsts, inserted_length, any-shown, place-shown}
use Rattle.si_flat.specs.Numbered.{number_in}
use Rattle.si_flat.specs.Flattened.{has_number, unnumbered, numbers_from, extra_numbers}
use Rattle.si_screen.specs.ClauseRows.{lacking}
use Rattle.si_screen.specs.Walks.{symbol_of_key, MeetsSymbols}
use Rattle.si_screen.specs.declared.extra.Key.{Key}

-- ---- symbols that are met, one after the other
pub meets_then : (pairs : Numbering) (ss rs : List Symbol) (a b c : List Symbol) → MeetsSymbols pairs ss a b → MeetsSymbols pairs rs b c → MeetsSymbols pairs (ss ++ rs) a c
meets_then pairs ss rs a b c first rest =
    rest
    ∙ ap (λ l. insert_all same_symbol l (unnumbered pairs rs)) first
    ∙ sym (inserted-append same_symbol a (unnumbered pairs ss) (unnumbered pairs rs))
    ∙ ap (insert_all same_symbol a) (sym (filter-append (λ s. not (has_number pairs s)) ss rs))

pub met_lacking : (pairs : Numbering) (ls : List Literal) (extra : List Symbol) → MeetsSymbols pairs (literals_symbols ls) [] extra → extra ≡ lacking pairs ls
met_lacking pairs ls extra met = met ∙ inserted-firsts same_symbol symbol-Decides (unnumbered pairs (literals_symbols ls))

-- ---- there are no more of them than symbols in the literals
symbols_few : (ls : List Literal) → AreSoundLiterals ls → length (literals_symbols ls) ≤ MOST_OCCURRENCES
symbols_few [] sound = omega arith
symbols_few (l ∷ ls) sound =
    let c : Clause = record { name = record { kind = Word; text = [] }; role = []; literals = l ∷ ls } in
    omega (arith, length-symbols c (record { some = λ e. cc; sound = sound }), entries_few 1 (l ∷ ls), sound.no_larger)

pub extra_few : (pairs : Numbering) (ls : List Literal) (extra : List Symbol) → AreSoundLiterals ls → MeetsSymbols pairs (literals_symbols ls) [] extra → length extra ≤ MOST_OCCURRENCES
extra_few pairs ls extra sound met =
    let ss = literals_symbols ls in
    let test = λ (s : Symbol). not (has_number pairs s) in
    omega (arith, ap length met, inserted_length same_symbol [] (unnumbered pairs ss), length-filter test ss, count_by-le-length test ss, symbols_few ls sound)

-- ---- their numbers
there : (m : ℕ) (ss : List Symbol) (s : Symbol) → list_any (same_symbol s) ss ≡ true → number_in (numbers_from m ss) s ≡ m + 2 * position_or_len (same_symbol s) ss
there m [] s h = absurd (true≢false (sym h))
there m (r ∷ ss) s h =
    ap (λ b. cond b m (number_in (numbers_from (2 + m) ss) s)) (swapped same_symbol symbol-Decides r s)
    ∙ by (same_symbol s r) h (there (2 + m) ss s) where
      by : (b : Bool) → (b || list_any (same_symbol s) ss) ≡ true
          → (list_any (same_symbol s) ss ≡ true → number_in (numbers_from (2 + m) ss) s ≡ 2 + m + 2 * position_or_len (same_symbol s) ss)
          → cond b m (number_in (numbers_from (2 + m) ss) s) ≡ m + 2 * cond (not b) (1 + position_or_len (same_symbol s) ss) 0
      by true e later = omega arith
      by false e later = omega (arith, later e)

nowhere : (m : ℕ) (ss : List Symbol) (s : Symbol) → list_any (same_symbol s) ss ≡ false → number_in (numbers_from m ss) s ≡ 0
nowhere m [] s h = refl
nowhere m (r ∷ ss) s h =
    ap (λ b. cond b m (number_in (numbers_from (2 + m) ss) s)) (swapped same_symbol symbol-Decides r s)
    ∙ by (same_symbol s r) h (nowhere (2 + m) ss s) where
      by : (b : Bool) → (b || list_any (same_symbol s) ss) ≡ false → (list_any (same_symbol s) ss ≡ false → number_in (numbers_from (2 + m) ss) s ≡ 0)
          → cond b m (number_in (numbers_from (2 + m) ss) s) ≡ 0
      by true e later = absurd (true≢false e)
      by false e later = later e

abbrev pub same_key : Key → Key → Bool
same_key k l = same_symbol (symbol_of_key k) (symbol_of_key l)

some_place : (b : Bool) (n place : ℕ) → Some place ≡ cond b (Some n) None → place ≡ n
some_place true n place e = same_Some place n e
some_place false n place e = absurd (none-some place (sym e))

pub number_there : (ks : List Key) (k : Key) (place : ℕ) → Some place ≡ position (same_key k) ks → true ≡ list_any (same_key k) ks
    → number_in (extra_numbers (map symbol_of_key ks)) (symbol_of_key k) ≡ 2 ^ 31 + 2 * place
number_there ks k place at found =
    there (2 ^ 31) (map symbol_of_key ks) (symbol_of_key k) (sym (any-shown symbol_of_key same_key same_symbol (λ x y. refl) k ks) ∙ sym found)
    ∙ ap (λ n. 2 ^ 31 + 2 * n) (sym (place-shown symbol_of_key same_key same_symbol (λ x y. refl) k ks) ∙ sym (some_place _ _ place at))

pub number_nowhere : (ks : List Key) (k : Key) → false ≡ list_any (same_key k) ks → number_in (extra_numbers (map symbol_of_key ks)) (symbol_of_key k) ≡ 0
number_nowhere ks k none =
    nowhere (2 ^ 31) (map symbol_of_key ks) (symbol_of_key k) (sym (any-shown symbol_of_key same_key same_symbol (λ x y. refl) k ks) ∙ sym none)
