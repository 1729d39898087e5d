-- Walks over terms, one after the other.
use Rattle.std.proofs.Common.{◌≡◌, ℕ, ◌+◌, ◌-◌, ◌≤◌, Bool, true, false, cond, not, List, [], ◌∷◌, ◌++◌, length, refl, ap, sym, ◌∙◌, arith, subst, append_assoc, append-nil, length-append}
use Rattle.std.specs.Prelude.{bytes_eq, slice_set}
use Rattle.std.proofs.Math.Seq.{set-append_seam}
use Rattle.indexmap.specs.IndexSet.{insert_all}
use Rattle.si_defs.specs.Bytes.{Bytes}
use Rattle.si_defs.specs.Terms as terms
use Rattle.si_defs.specs.Symbols.{Symbol, Numbering, same_symbol}
use Rattle.si_defs.specs.Clauses as clauses
use Rattle.si_flat.specs.declared.Cell.{Cell}
use Rattle.si_flat.specs.declared.Cell.TheVariants as cell
use Rattle.si_flat.specs.declared.walk.Scheme.{Scheme}
use Rattle.si_flat.specs.declared.met.Met.{Met}
use Rattle.si_flat.specs.Cells.{Variable, variable_cell, cells_of_all}
use Rattle.si_flat.specs.Numbered.{place_in, numbered, all_numbered}
use Rattle.si_flat.specs.Flattened.{unnumbered, has_number}
use Rattle.si_flat.specs.Flattening.{owners_variable, number_by, IsIndex, IsSymbolNumber, MayMeet, met_names, met_extra, WalkState, walk_state, WalkPiece, piece_then, term_piece, terms_piece, Flattens}
use Rattle.si_flat.proofs.Subterms.{length-cells_of_all}
use Rattle.si_term.proofs.Inserted.{inserted-append, inserted_extends, inserted_length}

-- ---- how many
mutual
  pub variables_few : (t : clauses.Term) → length (terms.variables t) ≤ terms.size t
  variables_few (terms.var x) = omega arith
  variables_few (terms.app s ts) = omega (arith, all_variables_few ts)

  all_variables_few : (ts : clauses.Terms) → length (terms.variables_of_all ts) ≤ terms.sizes ts
  all_variables_few terms.none = omega arith
  all_variables_few (terms.more t ts) = omega (arith, length-append (terms.variables t) (terms.variables_of_all ts), variables_few t, all_variables_few ts)

mutual
  pub symbols_few : (t : clauses.Term) → length (terms.symbols t) ≤ terms.size t
  symbols_few (terms.var x) = omega arith
  symbols_few (terms.app s ts) = omega (arith, all_symbols_few ts)

  all_symbols_few : (ts : clauses.Terms) → length (terms.symbols_of_all ts) ≤ terms.sizes ts
  all_symbols_few terms.none = omega arith
  all_symbols_few (terms.more t ts) = omega (arith, length-append (terms.symbols t) (terms.symbols_of_all ts), symbols_few t, all_symbols_few ts)

unnumbered_few : (pairs : Numbering) (ss : List Symbol) → length (unnumbered pairs ss) ≤ length ss
unnumbered_few pairs [] = omega arith
unnumbered_few pairs (s ∷ ss) = by (has_number pairs s) (unnumbered_few pairs ss) where
  by : (b : Bool) → length (unnumbered pairs ss) ≤ length ss → length (cond (not b) (s ∷ unnumbered pairs ss) (unnumbered pairs ss)) ≤ length (s ∷ ss)
  by true h = omega (arith, h)
  by false h = omega (arith, h)

mutual
  pub numbered_size : (n : Symbol → ℕ) (v : Bytes → Variable) (t : clauses.Term) → terms.size (numbered n v t) ≡ terms.size t
  numbered_size n v (terms.var x) = refl
  numbered_size n v (terms.app s ts) = ap (λ k. 1 + k) (numbered_sizes n v ts)

  pub numbered_sizes : (n : Symbol → ℕ) (v : Bytes → Variable) (ts : clauses.Terms) → terms.sizes (all_numbered n v ts) ≡ terms.sizes ts
  numbered_sizes n v terms.none = refl
  numbered_sizes n v (terms.more t ts) = λ i. numbered_size n v t i + numbered_sizes n v ts i

-- ---- room for what is left
pub room_after : (pairs : Numbering) (scheme : Scheme) (old new : Met) (cs ds : List Cell) (t : clauses.Term) (k : ℕ)
    → MayMeet scheme old (terms.size t + k)
    → Flattens pairs scheme (walk_state old cs) (walk_state new ds) (term_piece t)
    → MayMeet scheme new k
room_after pairs scheme old new cs ds t k room walked = record {
  names = omega (arith, room.names, ap length walked.names, inserted_length bytes_eq (met_names old) (terms.variables t), variables_few t);
  extra =
      omega (
        arith,
        room.extra,
        ap length walked.extra,
        inserted_length same_symbol (met_extra old) (unnumbered pairs (terms.symbols t)),
        unnumbered_few pairs (terms.symbols t),
        symbols_few t,
      );
}

pub room_symbol : (pairs : Numbering) (scheme : Scheme) (old new : Met) (s : Symbol) (k : ℕ)
    → MayMeet scheme old (1 + k)
    → met_names new ≡ met_names old
    → met_extra new ≡ insert_all same_symbol (met_extra old) (unnumbered pairs (s ∷ []))
    → MayMeet scheme new k
room_symbol pairs scheme old new s k room names extra = record {
  names = omega (arith, room.names, ap length names);
  extra = omega (arith, room.extra, ap length extra, inserted_length same_symbol (met_extra old) (unnumbered pairs (s ∷ [])), unnumbered_few pairs (s ∷ []));
}

-- ---- one after the other
pub unnumbered-append : (pairs : Numbering) (ss rs : List Symbol) → unnumbered pairs (ss ++ rs) ≡ unnumbered pairs ss ++ unnumbered pairs rs
unnumbered-append pairs [] rs = refl
unnumbered-append pairs (s ∷ ss) rs = by (has_number pairs s) (unnumbered-append pairs ss rs) where
  by : (b : Bool) → unnumbered pairs (ss ++ rs) ≡ unnumbered pairs ss ++ unnumbered pairs rs
      → cond (not b) (s ∷ unnumbered pairs (ss ++ rs)) (unnumbered pairs (ss ++ rs)) ≡ cond (not b) (s ∷ unnumbered pairs ss) (unnumbered pairs ss) ++ unnumbered pairs rs
  by true h = h
  by false h = ap (λ l. s ∷ l) h

module _ (pairs : Numbering) (scheme : Scheme) where
  -- the numbers once these have been met, and more
  abbrev symbols_by : List Symbol → List Symbol → Symbol → ℕ
  symbols_by extra more = number_by pairs scheme (extra ++ more)

  abbrev variables_by : List Bytes → List Bytes → Bytes → Variable
  variables_by names more x = owners_variable scheme.owner (place_in bytes_eq (names ++ more) x)

  -- what was met before is met still, with what came later
  names_later : (b c : WalkState) (vs : List Bytes) → c.names ≡ insert_all bytes_eq b.names vs → (more : List Bytes) × ((xs : List Bytes) → b.names ++ (more ++ xs) ≡ c.names ++ xs)
  names_later b c vs e =
      let later = inserted_extends bytes_eq b.names vs in
      (later.0, λ xs. sym (append_assoc b.names later.0 xs) ∙ ap (λ l. l ++ xs) (sym (e ∙ later.1)))

  extra_later : (b c : WalkState) (rs : List Symbol) → c.extra ≡ insert_all same_symbol b.extra rs → (more : List Symbol) × ((ss : List Symbol) → b.extra ++ (more ++ ss) ≡ c.extra ++ ss)
  extra_later b c rs e =
      let later = inserted_extends same_symbol b.extra rs in
      (later.0, λ ss. sym (append_assoc b.extra later.0 ss) ∙ ap (λ l. l ++ ss) (sym (e ∙ later.1)))

  pub flattens_none : (a : WalkState) → Flattens pairs scheme a a (terms_piece terms.none)
  flattens_none a = record { names = refl; extra = refl; cells = λ xs ss. sym (append-nil a.cells) }

  pub flattens_then : (a b c : WalkState) (p q : WalkPiece)
      → Flattens pairs scheme a b p
      → Flattens pairs scheme b c q
      → Flattens pairs scheme a c (piece_then p q)
  flattens_then a b c p q first rest = record {
    names =
        rest.names
        ∙ ap (λ l. insert_all bytes_eq l q.variables) first.names
        ∙ sym (inserted-append bytes_eq a.names p.variables q.variables);
    extra =
        rest.extra
        ∙ ap (λ l. insert_all same_symbol l (unnumbered pairs q.symbols)) first.extra
        ∙ sym (inserted-append same_symbol a.extra (unnumbered pairs p.symbols) (unnumbered pairs q.symbols))
        ∙ ap (insert_all same_symbol a.extra) (sym (unnumbered-append pairs p.symbols q.symbols));
    cells = λ xs ss.
        let names = names_later b c q.variables rest.names in
        let extra = extra_later b c (unnumbered pairs q.symbols) rest.extra in
        let n = symbols_by c.extra ss in
        let v = variables_by c.names xs in
        let one : b.cells ≡ a.cells ++ p.cells n v =
        first.cells (names.0 ++ xs) (extra.0 ++ ss)
        ∙ λ i. a.cells ++ p.cells (number_by pairs scheme (extra.1 ss i)) (λ x. owners_variable scheme.owner (place_in bytes_eq (names.1 xs i) x)) in
        rest.cells xs ss ∙ ap (λ l. l ++ q.cells n v) one ∙ append_assoc a.cells (p.cells n v) (q.cells n v);
  }

  pub flattens_more : (a b c : WalkState) (t : clauses.Term) (ts : clauses.Terms)
      → Flattens pairs scheme a b (term_piece t)
      → Flattens pairs scheme b c (terms_piece ts)
      → Flattens pairs scheme a c (terms_piece (terms.more t ts))
  flattens_more a b c t ts first rest = flattens_then a b c (term_piece t) (terms_piece ts) first rest

  -- a variable
  pub flattens_variable : (a : WalkState) (names : List Bytes) (extra : List Symbol) (x : Bytes) (n : ℕ)
      → names ≡ insert_all bytes_eq a.names (x ∷ [])
      → extra ≡ a.extra
      → IsIndex bytes_eq names x n
      → Flattens pairs scheme a (record { names = names; extra = extra; cells = a.cells ++ variable_cell (owners_variable scheme.owner n) ∷ [] }) (term_piece (terms.var x))
  flattens_variable a names extra x n names_are extra_is place = record {
    names = names_are;
    extra = extra_is;
    cells = λ xs ss. ap (λ k. a.cells ++ variable_cell (owners_variable scheme.owner k) ∷ []) (sym (place xs));
  }

  -- so many cells more
  length_after : (b c : WalkState) (ts : clauses.Terms) → Flattens pairs scheme b c (terms_piece ts) → length c.cells ≡ length b.cells + terms.sizes ts
  length_after b c ts walked =
      let n = symbols_by c.extra [] in
      let v = variables_by c.names [] in
      ap length (walked.cells [] [])
      ∙ length-append b.cells (cells_of_all (all_numbered n v ts))
      ∙ ap (λ k. length b.cells + k) (length-cells_of_all (all_numbered n v ts) ∙ numbered_sizes n v ts)

  -- after the cell of a symbol, its arguments
  pub length_behind : (cs : List Cell) (first : Cell) (b c : WalkState) (ts : clauses.Terms)
      → b.cells ≡ cs ++ first ∷ []
      → Flattens pairs scheme b c (terms_piece ts)
      → length c.cells ≡ length cs + (1 + terms.sizes ts)
  length_behind cs first b c ts cells_are walked =
      omega (arith, length_after b c ts walked, ap length cells_are, length-append cs (first ∷ []))

  -- a symbol, whose cell is put before its arguments when they have been written
  app_placed : (a b c : WalkState) (s : Symbol) (ts : clauses.Terms) (first : Cell) (n at m : ℕ)
      → b.names ≡ a.names
      → b.extra ≡ insert_all same_symbol a.extra (unnumbered pairs (s ∷ []))
      → IsSymbolNumber pairs scheme b.extra s n
      → b.cells ≡ a.cells ++ first ∷ []
      → Flattens pairs scheme b c (terms_piece ts)
      → at ≡ length a.cells
      → m ≡ length c.cells - at
      → Flattens pairs scheme a (record { names = c.names; extra = c.extra; cells = slice_set c.cells at (cell.App n s.arity m) }) (term_piece (terms.app s ts))
  app_placed a b c s ts first n at m names_are extra_is number cells_are walked at_is m_is = record {
    names = walked.names ∙ ap (λ l. insert_all bytes_eq l (terms.variables_of_all ts)) names_are;
    extra =
        walked.extra
        ∙ ap (λ l. insert_all same_symbol l (unnumbered pairs (terms.symbols_of_all ts))) extra_is
        ∙ sym (inserted-append same_symbol a.extra (unnumbered pairs (s ∷ [])) (unnumbered pairs (terms.symbols_of_all ts)))
        ∙ ap (insert_all same_symbol a.extra) (sym (unnumbered-append pairs (s ∷ []) (terms.symbols_of_all ts)));
    cells = λ xs ss.
        let extra = extra_later b c (unnumbered pairs (terms.symbols_of_all ts)) walked.extra in
        let f = symbols_by c.extra ss in
        let v = variables_by c.names xs in
        let us = all_numbered f v ts in
        let is_number : n ≡ f s = sym (number (extra.0 ++ ss)) ∙ ap (λ l. number_by pairs scheme l s) (extra.1 ss) in
        let is_length : m ≡ 1 + terms.sizes us =
        omega (arith, m_is, at_is, length_behind a.cells first b c ts cells_are walked, numbered_sizes f v ts) in
        let all : c.cells ≡ a.cells ++ first ∷ cells_of_all us =
        walked.cells xs ss ∙ ap (λ l. l ++ cells_of_all us) cells_are ∙ append_assoc a.cells (first ∷ []) (cells_of_all us) in
        (λ i. slice_set (all i) (at_is i) (cell.App (is_number i) s.arity (is_length i)))
        ∙ set-append_seam a.cells first (cells_of_all us) (cell.App (f s) s.arity (1 + terms.sizes us));
  }

  -- the same of a term and of cells that are told by equations
  pub flattens_app : (a b c : WalkState) (s : Symbol) (ts : clauses.Terms) (first : Cell) (n at m : ℕ)
      → b.names ≡ a.names
      → b.extra ≡ insert_all same_symbol a.extra (unnumbered pairs (s ∷ []))
      → IsSymbolNumber pairs scheme b.extra s n
      → b.cells ≡ a.cells ++ first ∷ []
      → Flattens pairs scheme b c (terms_piece ts)
      → at ≡ length a.cells
      → m ≡ length c.cells - at
      → (t : clauses.Term) (ds : List Cell)
      → t ≡ terms.app s ts
      → ds ≡ slice_set c.cells at (cell.App n s.arity m)
      → Flattens pairs scheme a (record { names = c.names; extra = c.extra; cells = ds }) (term_piece t)
  flattens_app a b c s ts first n at m names_are extra_is number cells_are walked at_is m_is t ds is placed =
      let told = app_placed a b c s ts first n at m names_are extra_is number cells_are walked at_is m_is in
      let closed = subst (λ cs. Flattens pairs scheme a (record { names = c.names; extra = c.extra; cells = cs }) (term_piece (terms.app s ts))) (sym placed) told in
      subst (λ u. Flattens pairs scheme a (record { names = c.names; extra = c.extra; cells = ds }) (term_piece u)) (sym is) closed
