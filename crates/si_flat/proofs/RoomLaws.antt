-- What fits in memory that is kept.
use Rattle.std.proofs.Common.{◌≡◌, ℕ, ◌+◌, ◌≤◌, ◌<◌, Bool, List, [], ◌∷◌, ◌++◌, length, ap, subst, sym, ◌∙◌, arith, length-append}
use Rattle.std.specs.Prelude.{bytes_eq}
use Rattle.indexmap.specs.IndexSet.{insert_all}
use Rattle.si_defs.specs.Bytes.{Bytes}
use Rattle.si_defs.specs.Terms as terms
use Rattle.si_defs.specs.Symbols.{Symbol, Numbering, same_symbol}
use Rattle.si_defs.specs.Clauses as clauses
use Rattle.si_term.proofs.Inserted.{inserted-append, inserted_extends}
use Rattle.si_flat.specs.declared.walk.Scheme.{Scheme}
use Rattle.si_flat.specs.Cells.{Variable, cells_of}
use Rattle.si_flat.specs.Numbered.{place_in, numbered}
use Rattle.si_flat.specs.Rooms.{Room, IsNoLess}
use Rattle.si_flat.specs.Flattened.{unnumbered}
use Rattle.si_flat.specs.Flattening.{owners_variable, number_by, WalkState, WalkPiece, piece_then, term_piece, terms_piece, Flattens, FitsRoom}
use Rattle.si_flat.proofs.Subterms.{length-cells_of}
use Rattle.si_flat.proofs.Walking.{unnumbered-append, numbered_size}

pub no_less_same : (r : Room) → IsNoLess r r
no_less_same r = record { cells = omega arith; names = omega arith; symbols = omega arith }

pub no_less_then : (a b c : Room) → IsNoLess a b → IsNoLess b c → IsNoLess a c
no_less_then a b c first next = record {
  cells = omega (arith, first.cells, next.cells);
  names = omega (arith, first.names, next.names);
  symbols = omega (arith, first.symbols, next.symbols);
}

-- none goes as others come
no_fewer : {V : Type 0} (same : V → V → Bool) (known xs : List V) → length known ≤ length (insert_all same known xs)
no_fewer same known xs =
    let more = inserted_extends same known xs in
    omega (arith, ap length more.1, length-append known more.0)

module _ (pairs : Numbering) where
  names_joined : (a : WalkState) (p q : WalkPiece)
      → insert_all bytes_eq a.names (piece_then p q).variables ≡ insert_all bytes_eq (insert_all bytes_eq a.names p.variables) q.variables
  names_joined a p q = inserted-append bytes_eq a.names p.variables q.variables

  symbols_joined : (a : WalkState) (p q : WalkPiece)
      → insert_all same_symbol a.extra (unnumbered pairs (piece_then p q).symbols) ≡ insert_all same_symbol (insert_all same_symbol a.extra (unnumbered pairs p.symbols)) (unnumbered pairs q.symbols)
  symbols_joined a p q =
      ap (insert_all same_symbol a.extra) (unnumbered-append pairs p.symbols q.symbols)
      ∙ inserted-append same_symbol a.extra (unnumbered pairs p.symbols) (unnumbered pairs q.symbols)

  -- where a whole fits, its first part does
  pub fits_first : (room : Room) (a : WalkState) (p q : WalkPiece) (m n : ℕ) → FitsRoom pairs room a (piece_then p q) (m + n) → FitsRoom pairs room a p m
  fits_first room a p q m n fits = record {
    cells = omega (arith, fits.cells);
    names = omega (arith, fits.names, ap length (names_joined a p q), no_fewer bytes_eq (insert_all bytes_eq a.names p.variables) q.variables);
    symbols = omega (arith, fits.symbols, ap length (symbols_joined a p q), no_fewer same_symbol (insert_all same_symbol a.extra (unnumbered pairs p.symbols)) (unnumbered pairs q.symbols));
  }

  -- and after it the second one, where the room isn't less
  pub fits_second : (room more : Room) (a b : WalkState) (p q : WalkPiece) (m n : ℕ)
      → b.names ≡ insert_all bytes_eq a.names p.variables
      → b.extra ≡ insert_all same_symbol a.extra (unnumbered pairs p.symbols)
      → length b.cells ≡ length a.cells + m
      → IsNoLess room more
      → FitsRoom pairs room a (piece_then p q) (m + n)
      → FitsRoom pairs more b q n
  fits_second room more a b p q m n names extra long no_less fits =
      let names_are : insert_all bytes_eq a.names (piece_then p q).variables ≡ insert_all bytes_eq b.names q.variables =
      names_joined a p q ∙ ap (λ l. insert_all bytes_eq l q.variables) (sym names) in
      let symbols_are : insert_all same_symbol a.extra (unnumbered pairs (piece_then p q).symbols) ≡ insert_all same_symbol b.extra (unnumbered pairs q.symbols) =
      symbols_joined a p q ∙ ap (λ l. insert_all same_symbol l (unnumbered pairs q.symbols)) (sym extra) in
      record {
        cells = omega (arith, fits.cells, long, no_less.cells);
        names = omega (arith, fits.names, ap length names_are, no_less.names);
        symbols = omega (arith, fits.symbols, ap length symbols_are, no_less.symbols);
      }

  -- a symbol before its arguments
  abbrev pub symbol_piece : Symbol → WalkPiece
  symbol_piece s = record { variables = []; symbols = s ∷ []; cells = λ number variable. [] }

  pub fits_symbol : (room : Room) (a : WalkState) (s : Symbol) (ts : clauses.Terms) (k : ℕ)
      → FitsRoom pairs room a (term_piece (terms.app s ts)) (1 + k)
      → FitsRoom pairs room a (symbol_piece s) 1
  fits_symbol room a s ts k fits =
      fits_first room a (symbol_piece s) (terms_piece ts) 1 k (record { cells = fits.cells; names = fits.names; symbols = fits.symbols })

  pub fits_arguments : (room more : Room) (a b : WalkState) (s : Symbol) (ts : clauses.Terms) (k : ℕ)
      → b.names ≡ a.names
      → b.extra ≡ insert_all same_symbol a.extra (unnumbered pairs (s ∷ []))
      → length b.cells ≡ length a.cells + 1
      → IsNoLess room more
      → FitsRoom pairs room a (term_piece (terms.app s ts)) (1 + k)
      → FitsRoom pairs more b (terms_piece ts) k
  fits_arguments room more a b s ts k names extra long no_less fits =
      fits_second room more a b (symbol_piece s) (terms_piece ts) 1 k names extra long no_less (record { cells = fits.cells; names = fits.names; symbols = fits.symbols })

  -- so many cells more
  pub length_term : (scheme : Scheme) (a b : WalkState) (t : clauses.Term) → Flattens pairs scheme a b (term_piece t) → length b.cells ≡ length a.cells + terms.size t
  length_term scheme a b t walked =
      let n : Symbol → ℕ = number_by pairs scheme (b.extra ++ []) in
      let v : Bytes → Variable = λ x. owners_variable scheme.owner (place_in bytes_eq (b.names ++ []) x) in
      ap length (walked.cells [] [])
      ∙ length-append a.cells (cells_of (numbered n v t))
      ∙ ap (λ k. length a.cells + k) (length-cells_of (numbered n v t) ∙ numbered_size n v t)

  -- the first of some terms, and the others after it
  pub fits_head : (room : Room) (a : WalkState) (t : clauses.Term) (ts : clauses.Terms)
      → FitsRoom pairs room a (terms_piece (terms.more t ts)) (terms.size t + terms.sizes ts)
      → FitsRoom pairs room a (term_piece t) (terms.size t)
  fits_head room a t ts fits = fits_first room a (term_piece t) (terms_piece ts) (terms.size t) (terms.sizes ts) fits

  pub fits_rest : (scheme : Scheme) (room more : Room) (a b : WalkState) (t : clauses.Term) (ts : clauses.Terms)
      → Flattens pairs scheme a b (term_piece t)
      → IsNoLess room more
      → FitsRoom pairs room a (terms_piece (terms.more t ts)) (terms.size t + terms.sizes ts)
      → FitsRoom pairs more b (terms_piece ts) (terms.sizes ts)
  fits_rest scheme room more a b t ts walked no_less fits =
      fits_second room more a b (term_piece t) (terms_piece ts) (terms.size t) (terms.sizes ts) walked.names walked.extra (length_term scheme a b t walked) no_less fits

  -- ---- what is refused doesn't fit
  size_some : (t : clauses.Term) → 1 ≤ terms.size t
  size_some (terms.var x) = omega arith
  size_some (terms.app s ts) = omega arith

  pub cell_refused : (room : Room) (a : WalkState) (t : clauses.Term) → room.cells ≤ length a.cells → FitsRoom pairs room a (term_piece t) (terms.size t) → ⊥
  cell_refused room a t full fits = omega (arith, full, fits.cells, size_some t)

  pub variable_refused : (room : Room) (a : WalkState) (x : Bytes) (t : clauses.Term)
      → t ≡ terms.var x
      → room.names < length (insert_all bytes_eq a.names (x ∷ []))
      → FitsRoom pairs room a (term_piece t) (terms.size t)
      → ⊥
  variable_refused room a x t is full fits =
      let here = subst (λ u. FitsRoom pairs room a (term_piece u) (terms.size u)) is fits in omega (arith, here.names, full)

  pub symbol_refused : (room : Room) (a : WalkState) (s : Symbol) (ts : clauses.Terms) (t : clauses.Term)
      → t ≡ terms.app s ts
      → room.symbols < length (insert_all same_symbol a.extra (unnumbered pairs (s ∷ [])))
      → FitsRoom pairs room a (term_piece t) (terms.size t)
      → ⊥
  symbol_refused room a s ts t is full fits =
      let here = subst (λ u. FitsRoom pairs room a (term_piece u) (terms.size u)) is fits in
      omega (arith, (fits_symbol room a s ts (terms.sizes ts) here).symbols, full)

  pub arguments_refused : (room more : Room) (a b : WalkState) (s : Symbol) (ts : clauses.Terms) (t : clauses.Term)
      → t ≡ terms.app s ts
      → b.names ≡ a.names
      → b.extra ≡ insert_all same_symbol a.extra (unnumbered pairs (s ∷ []))
      → length b.cells ≡ length a.cells + 1
      → IsNoLess room more
      → (FitsRoom pairs more b (terms_piece ts) (terms.sizes ts) → ⊥)
      → FitsRoom pairs room a (term_piece t) (terms.size t)
      → ⊥
  arguments_refused room more a b s ts t is names extra long no_less refused fits =
      refused (fits_arguments room more a b s ts (terms.sizes ts) names extra long no_less (subst (λ u. FitsRoom pairs room a (term_piece u) (terms.size u)) is fits))
