-- The cells of two clauses stand for their numbered terms.
use Rattle.std.proofs.Common.{◌≡◌, ℕ, ◌+◌, ◌≤◌, List, [], ◌∷◌, ◌++◌, length, refl, ap, sym, ◌∙◌, arith, append-nil, length-append}
use Rattle.std.specs.Prelude.{bytes_eq}
use Rattle.std.specs.List.{AllByRecursion}
use Rattle.std.proofs.lemmas.Slice.Eq.{bytes_eq-Decides}
use Rattle.indexmap.specs.IndexSet.{insert_all}
use Rattle.si_defs.specs.Bytes.{Bytes}
use Rattle.si_defs.specs.Terms as terms
use Rattle.si_defs.specs.Symbols.{Symbol, Numbering, same_symbol}
use Rattle.si_defs.specs.Clauses.{Literal, IsSoundLiteral, AreSoundLiterals, literals_size}
use Rattle.si_defs.specs.Entries.{literals_symbols, literals_variables}
use Rattle.si_flat.specs.declared.Owner.{Owner}
use Rattle.si_flat.specs.declared.Owner.TheVariants.{Query, Entry}
use Rattle.si_flat.specs.Cells.{Variable, cells_of, AreSound, StandsFor}
use Rattle.si_flat.specs.Numbered.{number_in, signed, place_in}
use Rattle.si_flat.specs.Flattened.{numbers_from, unnumbered}
use Rattle.si_flat.specs.Flattening.{owners_variable, WalkState, Flattens}
use Rattle.si_flat.specs.FlatClauses.{lacked_by, numbered_atoms, numbered_clause, flat_clause, clause_scheme, clause_piece, FlattensClauses}
use Rattle.si_term.proofs.Inserted.{inserted-append, inserted-firsts, inserted_extends, inserted_length}
use Rattle.si_defs.proofs.SymbolLaws.{symbol-Decides}
use Rattle.si_flat.proofs.FirstPlaces.{firsts_apart}
use Rattle.si_flat.proofs.ExtraNumbers.{all_have_from, numbers_from_zero}
use Rattle.si_flat.proofs.Walking.{symbols_few}
use Rattle.si_flat.proofs.FlattenLaws.{sound_atom}

-- ---- sizes
literals_symbols_few : (ls : List Literal) → length (literals_symbols ls) ≤ literals_size ls
literals_symbols_few [] = omega arith
literals_symbols_few (l ∷ ls) = omega (arith, length-append (terms.symbols l.atom) (literals_symbols ls), symbols_few l.atom, literals_symbols_few ls)

-- each symbol lacks a number where there is none
all_lack : (ss : List Symbol) → unnumbered [] ss ≡ ss
all_lack [] = refl
all_lack (s ∷ ss) = ap (λ l. s ∷ l) (all_lack ss)

-- ---- sound terms
module _ (number : Symbol → ℕ) (variable : Bytes → Variable) where
  count-atoms : (ls : List Literal) → terms.count (numbered_atoms number variable ls) ≡ length ls
  count-atoms [] = refl
  count-atoms (l ∷ ls) = omega (arith, count-atoms ls)

  sound_atoms : (ls : List Literal) → AllByRecursion IsSoundLiteral ls → AreSound (numbered_atoms number variable ls)
  sound_atoms [] h = tt
  sound_atoms (l ∷ ls) h = (sound_atom (signed l.positive number) variable l.atom h.0, sound_atoms ls h.1)

-- ---- one clause
module _ (pairs : Numbering) (least : ℕ) (owner : Owner) (a b : WalkState) (ls : List Literal) (names : a.names ≡ []) (cells : a.cells ≡ []) (walked : Flattens pairs (clause_scheme owner least) a b (clause_piece ls)) where
  -- with the numbers for what is met in the end
  pub clause_stands : (all : List Symbol) (more : List Symbol) → AreSoundLiterals ls → all ≡ b.extra ++ more → StandsFor b.cells (flat_clause (pairs ++ numbers_from least all) (owners_variable owner) ls)
  clause_stands all more sound is = record {
    cells_are =
        let met : b.names ++ [] ≡ terms.firsts bytes_eq (literals_variables ls) =
        append-nil b.names ∙ walked.names ∙ ap (λ l. insert_all bytes_eq l (literals_variables ls)) names ∙ inserted-firsts bytes_eq bytes_eq-Decides (literals_variables ls) in
        walked.cells [] more
        ∙ λ i. cells i ++ cells_of (numbered_clause (λ s. number_in (pairs ++ numbers_from least (sym is i)) s) (λ x. owners_variable owner (place_in bytes_eq (met i) x)) ls);
    sound = (count-atoms _ _ ls, sound_atoms _ _ ls sound.each);
  }

  -- and by itself
  pub clause_by_table : (none : a.extra ≡ []) → AreSoundLiterals ls → (more : List Symbol)
      → StandsFor b.cells (flat_clause (pairs ++ numbers_from least (lacked_by pairs ls ++ more)) (owners_variable owner) ls)
  clause_by_table none sound more =
      let met : b.extra ≡ lacked_by pairs ls =
      walked.extra ∙ ap (λ l. insert_all same_symbol l (unnumbered pairs (literals_symbols ls))) none ∙ inserted-firsts same_symbol symbol-Decides (unnumbered pairs (literals_symbols ls)) in
      clause_stands (lacked_by pairs ls ++ more) more sound (ap (λ l. l ++ more) (sym met))

-- ---- two clauses
module _ (c d : List Literal) (sound_c : AreSoundLiterals c) (sound_d : AreSoundLiterals d) (a b k e : WalkState)
    (none_met : a.names ≡ []) (none_known : a.extra ≡ []) (none_written : a.cells ≡ [])
    (first : Flattens [] (clause_scheme Query 0) a b (clause_piece c))
    (forgotten : k.names ≡ []) (kept : k.extra ≡ b.extra) (begun : k.cells ≡ []) where
  symbols_met : b.extra ≡ insert_all same_symbol [] (literals_symbols c)
  symbols_met = first.extra ∙ λ i. insert_all same_symbol (none_known i) (all_lack (literals_symbols c) i)

  pub symbols_met_few : length b.extra ≤ literals_size c
  symbols_met_few = omega (arith, ap length symbols_met, inserted_length same_symbol [] (literals_symbols c), literals_symbols_few c)

  abbrev all_symbols : List Symbol
  all_symbols = literals_symbols c ++ literals_symbols d

  few_symbols : length (terms.firsts same_symbol all_symbols) ≤ literals_size c + literals_size d
  few_symbols =
      omega (
        arith,
        ap length (inserted-firsts same_symbol symbol-Decides all_symbols),
        inserted_length same_symbol [] all_symbols,
        length-append (literals_symbols c) (literals_symbols d),
        literals_symbols_few c,
        literals_symbols_few d,
      )

  module _ (second : Flattens [] (clause_scheme Entry 0) k e (clause_piece d)) where
    all_met : e.extra ≡ terms.firsts same_symbol all_symbols
    all_met =
        second.extra
        ∙ (λ i. insert_all same_symbol (kept i) (all_lack (literals_symbols d) i))
        ∙ ap (λ l. insert_all same_symbol l (literals_symbols d)) symbols_met
        ∙ sym (inserted-append same_symbol [] (literals_symbols c) (literals_symbols d))
        ∙ inserted-firsts same_symbol symbol-Decides all_symbols

    pub clauses_written : FlattensClauses c d (b.cells, e.cells)
    clauses_written =
        let later = inserted_extends same_symbol b.extra (literals_symbols d) in
        let grown : terms.firsts same_symbol all_symbols ≡ b.extra ++ later.0 =
        sym all_met ∙ second.extra ∙ (λ i. insert_all same_symbol (kept i) (all_lack (literals_symbols d) i)) ∙ later.1 in
        record {
          first = clause_stands [] 0 Query a b c none_met none_written first (terms.firsts same_symbol all_symbols) later.0 sound_c grown;
          second = clause_stands [] 0 Entry k e d forgotten begun second (terms.firsts same_symbol all_symbols) [] sound_d (sym all_met ∙ sym (append-nil e.extra));
          complete =
              ap (λ ss. unnumbered (numbers_from 0 (terms.firsts same_symbol ss)) all_symbols) (sym (all_lack all_symbols))
              ∙ all_have_from 0 [] all_symbols;
          numbering =
              numbers_from_zero (terms.firsts same_symbol all_symbols) (firsts_apart same_symbol symbol-Decides all_symbols)
              (omega (arith, few_symbols, sound_c.no_larger, sound_d.no_larger));
        }
