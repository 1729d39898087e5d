-- Walks over the literals of clauses.
use Rattle.std.proofs.Common.{◌≡◌, ℕ, ◌+◌, ◌-◌, ◌^◌, Bool, true, false, List, [], ◌∷◌, ◌++◌, length, refl, ap, sym, ◌∙◌, arith, append-nil, length-append}
use Rattle.std.specs.Prelude.{bytes_eq, slice_set}
use Rattle.indexmap.specs.IndexSet.{insert_all}
use Rattle.si_defs.specs.Bytes.{Bytes}
use Rattle.si_defs.specs.Terms as terms
use Rattle.si_defs.specs.Symbols.{Symbol, Numbering, IsNumbering, same_symbol}
use Rattle.si_defs.specs.Clauses.{Literal, literals_size, literal_size}
use Rattle.si_defs.specs.Entries.{literals_symbols, literals_variables}
use Rattle.si_flat.specs.declared.Cell.{Cell}
use Rattle.si_flat.specs.declared.Cell.TheVariants as cell
use Rattle.si_flat.specs.declared.Owner.{Owner}
use Rattle.si_flat.specs.declared.met.Met.{Met}
use Rattle.si_flat.specs.declared.walk.Scheme.{Scheme}
use Rattle.si_flat.specs.Cells.{Variable, Terms, cells_of, cells_of_all}
use Rattle.si_flat.specs.Numbered.{number_in, signed, place_in, numbered}
use Rattle.si_flat.specs.Flattened.{numbers_from, unnumbered}
use Rattle.si_flat.specs.Flattening.{owners_variable, number_by, MayMeet, WalkState, WalkPiece, walk_state, term_piece, Flattens}
use Rattle.si_flat.specs.FlatClauses.{numbered_atoms, numbered_clause, literals_piece, clause_scheme, clause_piece}
use Rattle.si_flat.proofs.Subterms.{length-cells_of_all}
use Rattle.si_flat.proofs.Walking.{flattens_then, room_after, numbered_size}

-- no symbol has a number where there is none
pub no_numbers : IsNumbering []
no_numbers = record {
  one_number = λ s m n a b. absurd a;
  one_symbol = λ s r n a b. absurd a;
  even = λ s n a. absurd a;
  small = λ s n a. absurd a;
}

-- ---- signs
signed_again : (positive : Bool) (number : Symbol → ℕ) → signed positive (signed true number) ≡ signed positive number
signed_again true number = λ i s. number s
signed_again false number = refl

abbrev pub literal_scheme : Owner → ℕ → Literal → Scheme
literal_scheme owner least l = record { positive = l.positive; owner = owner; first = least }

abbrev literal_piece : Literal → WalkPiece
literal_piece l = record {
  variables = terms.variables l.atom;
  symbols = terms.symbols l.atom;
  cells = λ number variable. cells_of (numbered (signed l.positive number) variable l.atom);
}

module _ (pairs : Numbering) (owner : Owner) (least : ℕ) where
  signed_literal : (a b : WalkState) (l : Literal) → Flattens pairs (literal_scheme owner least l) a b (term_piece l.atom) → Flattens pairs (clause_scheme owner least) a b (literal_piece l)
  signed_literal a b l h = record {
    names = h.names;
    extra = h.extra;
    cells = λ xs ss.
        h.cells xs ss
        ∙ ap (λ f. a.cells ++ cells_of (numbered f (λ x. owners_variable owner (place_in bytes_eq (b.names ++ xs) x)) l.atom)) (sym (signed_again l.positive (number_in (pairs ++ numbers_from least (b.extra ++ ss)))));
  }

  pub literals_none : (a : WalkState) → Flattens pairs (clause_scheme owner least) a a (literals_piece [])
  literals_none a = record { names = refl; extra = refl; cells = λ xs ss. sym (append-nil a.cells) }

  pub literals_more : (a b c : WalkState) (l : Literal) (ls : List Literal)
      → Flattens pairs (literal_scheme owner least l) a b (term_piece l.atom)
      → Flattens pairs (clause_scheme owner least) b c (literals_piece ls)
      → Flattens pairs (clause_scheme owner least) a c (literals_piece (l ∷ ls))
  literals_more a b c l ls first rest = flattens_then pairs (clause_scheme owner least) a b c (literal_piece l) (literals_piece ls) (signed_literal a b l first) rest

  -- ---- room
  pub literal_room : (m : Met) (l : Literal) (k : ℕ) → MayMeet (clause_scheme owner least) m (literal_size l + k) → MayMeet (literal_scheme owner least l) m (literal_size l)
  literal_room m l k h = record { names = omega (arith, h.names); extra = omega (arith, h.extra) }

  pub room_left : (old new : Met) (cs ds : List Cell) (l : Literal) (k : ℕ)
      → MayMeet (clause_scheme owner least) old (literal_size l + k)
      → Flattens pairs (literal_scheme owner least l) (walk_state old cs) (walk_state new ds) (term_piece l.atom)
      → MayMeet (clause_scheme owner least) new k
  room_left old new cs ds l k room walked =
      let after = room_after pairs (literal_scheme owner least l) old new cs ds l.atom k (record { names = room.names; extra = room.extra }) walked in
      record { names = after.names; extra = after.extra }

-- ---- the head
numbered_atoms_sizes : (n : Symbol → ℕ) (v : Bytes → Variable) (ls : List Literal) → terms.sizes (numbered_atoms n v ls) ≡ literals_size ls
numbered_atoms_sizes n v [] = refl
numbered_atoms_sizes n v (l ∷ ls) = λ i. numbered_size (signed l.positive n) v l.atom i + numbered_atoms_sizes n v ls i

-- so many cells
pub clause_cells : (pairs : Numbering) (owner : Owner) (least : ℕ) (a b : WalkState) (ls : List Literal)
    → a.cells ≡ []
    → Flattens pairs (clause_scheme owner least) a b (clause_piece ls)
    → length b.cells ≡ 1 + literals_size ls
clause_cells pairs owner least a b ls none walked =
    let n : Symbol → ℕ = number_by pairs (clause_scheme owner least) (b.extra ++ []) in
    let v : Bytes → Variable = λ x. owners_variable owner (place_in bytes_eq (b.names ++ []) x) in
    omega (
      arith,
      ap length (walked.cells [] []),
      ap length none,
      length-append a.cells (cells_of (numbered_clause n v ls)),
      length-cells_of_all (numbered_atoms n v ls),
      numbered_atoms_sizes n v ls,
    )

module _ (pairs : Numbering) (owner : Owner) (least : ℕ) (b c : WalkState) (first : Cell) (ls : List Literal) (begun : b.cells ≡ first ∷ []) (walked : Flattens pairs (clause_scheme owner least) b c (literals_piece ls)) where
  -- the atoms, whatever is met later
  abbrev atoms : List Bytes → List Symbol → Terms
  atoms xs ss = numbered_atoms (number_by pairs (clause_scheme owner least) (c.extra ++ ss)) (λ x. owners_variable owner (place_in bytes_eq (c.names ++ xs) x)) ls

  all_cells : (xs : List Bytes) (ss : List Symbol) → c.cells ≡ first ∷ cells_of_all (atoms xs ss)
  all_cells xs ss = walked.cells xs ss ∙ ap (λ l. l ++ cells_of_all (atoms xs ss)) begun

  pub clause_length : length c.cells ≡ 1 + literals_size ls
  clause_length =
      omega (
        arith,
        ap length (all_cells [] []),
        length-cells_of_all (atoms [] []),
        numbered_atoms_sizes (number_by pairs (clause_scheme owner least) (c.extra ++ [])) (λ x. owners_variable owner (place_in bytes_eq (c.names ++ []) x)) ls,
      )

  pub clause_closed : (a : WalkState) (n m : ℕ) (ds : List Cell)
      → a.cells ≡ []
      → b.names ≡ a.names
      → b.extra ≡ a.extra
      → n ≡ length ls
      → m ≡ length c.cells - 0
      → ds ≡ slice_set c.cells 0 (cell.App (2 ^ 32 - 1) n m)
      → Flattens pairs (clause_scheme owner least) a (record { names = c.names; extra = c.extra; cells = ds }) (clause_piece ls)
  clause_closed a n m ds none names extra count long placed = record {
    names = walked.names ∙ ap (λ l. insert_all bytes_eq l (literals_variables ls)) names;
    extra = walked.extra ∙ ap (λ l. insert_all same_symbol l (unnumbered pairs (literals_symbols ls))) extra;
    cells = λ xs ss.
        let size : m ≡ 1 + terms.sizes (atoms xs ss) = omega (arith, long, clause_length, numbered_atoms_sizes (number_by pairs (clause_scheme owner least) (c.extra ++ ss)) (λ x. owners_variable owner (place_in bytes_eq (c.names ++ xs) x)) ls) in
        placed
        ∙ (λ i. slice_set (all_cells xs ss i) 0 (cell.App (2 ^ 32 - 1) (count i) (size i)))
        ∙ ap (λ l. l ++ cell.App (2 ^ 32 - 1) (length ls) (1 + terms.sizes (atoms xs ss)) ∷ cells_of_all (atoms xs ss)) (sym none);
  }
