-- What fits in the memory in which clauses are made flat.
use Rattle.std.proofs.Common.{◌≡◌, ℕ, ◌+◌, ◌≤◌, List, [], ◌∷◌, length, ap, ◌∙◌, arith}
use Rattle.std.specs.Prelude.{bytes_eq}
use Rattle.std.proofs.lemmas.List.{length-map}
use Rattle.std.proofs.lemmas.Slice.Eq.{bytes_eq-Decides}
use Rattle.indexmap.specs.IndexSet.{insert_all}
use Rattle.si_defs.specs.Terms as terms
use Rattle.si_defs.specs.Symbols.{Numbering, same_symbol}
use Rattle.si_defs.specs.Clauses.{Literal, literal_size, literals_size}
use Rattle.si_defs.specs.Entries.{literals_symbols, literals_variables}
use Rattle.si_defs.proofs.SymbolLaws.{symbol-Decides}
use Rattle.si_term.proofs.Inserted.{inserted-firsts}
use Rattle.si_flat.specs.declared.Cell.{Cell}
use Rattle.si_flat.specs.declared.Owner.{Owner}
use Rattle.si_flat.specs.declared.met.Met.{Met}
use Rattle.si_flat.specs.Rooms.{Room, IsNoLess}
use Rattle.si_flat.specs.Flattened.{unnumbered}
use Rattle.si_flat.specs.Flattening.{symbol_of_key, room_of, WalkState, walk_state, term_piece, Flattens, FitsRoom}
use Rattle.si_flat.specs.FlatClauses.{literals_piece, clause_piece, clause_scheme, lacked_by, IsEnoughForClause}
use Rattle.si_flat.proofs.RoomLaws.{fits_first, fits_second, length_term}
use Rattle.si_flat.proofs.ClauseWalks.{literal_scheme, clause_cells}

module _ (pairs : Numbering) where
  -- the first of some literals, and the others after it
  pub fits_literal : (room : Room) (a : WalkState) (l : Literal) (ls : List Literal)
      → FitsRoom pairs room a (literals_piece (l ∷ ls)) (literal_size l + literals_size ls)
      → FitsRoom pairs room a (term_piece l.atom) (literal_size l)
  fits_literal room a l ls fits =
      fits_first pairs room a (term_piece l.atom) (literals_piece ls) (literal_size l) (literals_size ls)
      (record { cells = fits.cells; names = fits.names; symbols = fits.symbols })

  pub fits_literals : (owner : Owner) (least : ℕ) (room more : Room) (a b : WalkState) (l : Literal) (ls : List Literal)
      → Flattens pairs (literal_scheme owner least l) a b (term_piece l.atom)
      → IsNoLess room more
      → FitsRoom pairs room a (literals_piece (l ∷ ls)) (literal_size l + literals_size ls)
      → FitsRoom pairs more b (literals_piece ls) (literals_size ls)
  fits_literals owner least room more a b l ls walked no_less fits =
      fits_second pairs room more a b (term_piece l.atom) (literals_piece ls) (literal_size l) (literals_size ls) walked.names walked.extra
      (length_term pairs (literal_scheme owner least l) a b l.atom walked) no_less
      (record { cells = fits.cells; names = fits.names; symbols = fits.symbols })

  -- the literals after the head
  pub fits_atoms : (room more : Room) (a b : WalkState) (ls : List Literal)
      → b.names ≡ a.names
      → b.extra ≡ a.extra
      → length b.cells ≡ length a.cells + 1
      → IsNoLess room more
      → FitsRoom pairs room a (clause_piece ls) (1 + literals_size ls)
      → FitsRoom pairs more b (literals_piece ls) (literals_size ls)
  fits_atoms room more a b ls names extra long no_less fits = record {
    cells = omega (arith, fits.cells, long, no_less.cells);
    names = omega (arith, fits.names, ap (λ l. length (insert_all bytes_eq l (literals_variables ls))) names, no_less.names);
    symbols = omega (arith, fits.symbols, ap (λ l. length (insert_all same_symbol l (unnumbered pairs (literals_symbols ls)))) extra, no_less.symbols);
  }

  names_are : (names : List (List ℕ)) (ls : List Literal) → names ≡ [] → insert_all bytes_eq names (literals_variables ls) ≡ terms.firsts bytes_eq (literals_variables ls)
  names_are names ls none = ap (λ l. insert_all bytes_eq l (literals_variables ls)) none ∙ inserted-firsts bytes_eq bytes_eq-Decides (literals_variables ls)

  -- it fits where nothing was met
  pub enough_fits_clause : (room more : Room) (a : WalkState) (ls : List Literal)
      → a.names ≡ []
      → a.extra ≡ []
      → a.cells ≡ []
      → IsNoLess room more
      → IsEnoughForClause pairs ls room
      → FitsRoom pairs more a (clause_piece ls) (1 + literals_size ls)
  enough_fits_clause room more a ls names extra cells no_less enough =
      let lacks = unnumbered pairs (literals_symbols ls) in
      let extra_is : insert_all same_symbol a.extra lacks ≡ lacked_by pairs ls =
      ap (λ l. insert_all same_symbol l lacks) extra ∙ inserted-firsts same_symbol symbol-Decides lacks in
      record {
        cells = omega (arith, ap length cells, enough.cells, no_less.cells);
        names = omega (arith, ap length (names_are a.names ls names), enough.names, no_less.names);
        symbols = omega (arith, ap length extra_is, enough.symbols, no_less.symbols);
      }

  -- where it was written there is room for it
  pub written_is_enough_clause : (owner : Owner) (least : ℕ) (a : WalkState) (met : Met) (cells : List Cell) (capacity : ℕ) (ls : List Literal)
      → a.names ≡ []
      → a.extra ≡ []
      → a.cells ≡ []
      → length cells ≤ capacity
      → Flattens pairs (clause_scheme owner least) a (walk_state met cells) (clause_piece ls)
      → IsEnoughForClause pairs ls (room_of met capacity)
  written_is_enough_clause owner least a met cells capacity ls names extra none within walked =
      let lacks = unnumbered pairs (literals_symbols ls) in
      record {
        cells = omega (arith, clause_cells pairs owner least a (walk_state met cells) ls none walked, within);
        names = omega (arith, ap length (walked.names ∙ names_are a.names ls names));
        symbols = omega (
          arith,
          ap length (walked.extra ∙ ap (λ l. insert_all same_symbol l lacks) extra ∙ inserted-firsts same_symbol symbol-Decides lacks),
          length-map met.extra.keys symbol_of_key,
        );
      }
