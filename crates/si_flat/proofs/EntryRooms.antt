-- Room for an entry.
use Rattle.std.proofs.Common.{◌≡◌, ℕ, ◌≤◌, [], length, ap, subst, ◌∙◌, arith}
use Rattle.std.proofs.lemmas.List.{length-map}
use Rattle.std.specs.Prelude.{bytes_eq}
use Rattle.std.proofs.lemmas.Slice.Eq.{bytes_eq-Decides}
use Rattle.indexmap.specs.IndexSet.{insert_all}
use Rattle.si_defs.specs.Terms as terms
use Rattle.si_defs.specs.Symbols.{Numbering, same_symbol}
use Rattle.si_defs.specs.Clauses as clauses
use Rattle.si_defs.specs.Entries as entries
use Rattle.si_defs.proofs.SymbolLaws.{symbol-Decides}
use Rattle.si_term.proofs.Inserted.{inserted-firsts}
use Rattle.si_flat.specs.declared.Owner.{Owner}
use Rattle.si_flat.specs.declared.walk.TheConstants.{FEW_CELLS}
use Rattle.si_flat.specs.declared.walk.Scheme.{Scheme}
use Rattle.si_flat.specs.declared.walk.WrittenEntry.{WrittenEntry}
use Rattle.si_flat.specs.Rooms.{Room, IsNoLess}
use Rattle.si_defs.specs.Entries.{whole_of}
use Rattle.si_flat.specs.Flattened.{unnumbered, is_positive, IsEnoughFor}
use Rattle.si_flat.specs.Flattening.{symbol_of_key, room_of, WalkState, walk_state, empty_walk, entry_scheme, term_piece, Flattens, FitsRoom, WritesEntry}
use Rattle.si_flat.proofs.FlattenLaws.{names_written, extra_written}
use Rattle.si_flat.proofs.RoomLaws.{length_term}

-- it fits where nothing was met or written
pub enough_fits : (pairs : Numbering) (e : entries.Entry) (room more : Room) (start : WalkState)
    → start.names ≡ []
    → start.extra ≡ []
    → start.cells ≡ []
    → IsNoLess room more
    → IsEnoughFor pairs e room
    → FitsRoom pairs more start (term_piece (whole_of e)) (terms.size (whole_of e))
enough_fits pairs e room more start names extra cells no_less enough =
    let names_are : insert_all bytes_eq start.names (terms.variables (whole_of e)) ≡ entries.distinct_variables e =
    ap (λ l. insert_all bytes_eq l (terms.variables (whole_of e))) names
    ∙ inserted-firsts bytes_eq bytes_eq-Decides (terms.variables (whole_of e)) in
    let lacks = unnumbered pairs (terms.symbols (whole_of e)) in
    let extra_is : insert_all same_symbol start.extra lacks ≡ terms.firsts same_symbol lacks =
    ap (λ l. insert_all same_symbol l lacks) extra ∙ inserted-firsts same_symbol symbol-Decides lacks in
    record {
      cells = omega (arith, ap length cells, enough.cells, no_less.cells);
      names = omega (arith, ap length names_are, enough.names, no_less.names);
      symbols = omega (arith, ap length extra_is, enough.symbols, no_less.symbols);
    }

-- where it was written there is room for it
pub written_is_enough : (pairs : Numbering) (owner : Owner) (e : entries.Entry) (w : WrittenEntry) (capacity : ℕ)
    → FEW_CELLS ≤ capacity
    → length w.cells.items ≤ capacity
    → WritesEntry pairs owner e w
    → IsEnoughFor pairs e (room_of w.met capacity)
written_is_enough pairs owner e w capacity few within h =
    let long = length_term pairs (entry_scheme owner (is_positive e)) empty_walk (walk_state w.met w.cells.items) (whole_of e) h in
    record {
      few = few;
      cells = omega (arith, long, within);
      names = omega (arith, ap length (names_written pairs owner e w h));
      symbols = omega (arith, ap length (extra_written pairs owner e w h), length-map w.met.extra.keys symbol_of_key);
    }

-- a walk from nothing over the entry's term has written the entry
pub entry_walked : (pairs : Numbering) (owner : Owner) (e : entries.Entry) (scheme : Scheme) (start : WalkState) (w : WrittenEntry) (t : clauses.Term)
    → scheme ≡ entry_scheme owner (is_positive e)
    → start ≡ empty_walk
    → t ≡ whole_of e
    → Flattens pairs scheme start (walk_state w.met w.cells.items) (term_piece t)
    → WritesEntry pairs owner e w
entry_walked pairs owner e scheme start w t scheme_is start_is is walked =
    subst (λ u. Flattens pairs (entry_scheme owner (is_positive e)) empty_walk (walk_state w.met w.cells.items) (term_piece u)) is
    (subst (λ s. Flattens pairs (entry_scheme owner (is_positive e)) s (walk_state w.met w.cells.items) (term_piece t)) start_is
    (subst (λ s. Flattens pairs s start (walk_state w.met w.cells.items) (term_piece t)) scheme_is walked))
