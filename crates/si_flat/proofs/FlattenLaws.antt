-- The cells of an entry stand for its numbered term.
use Rattle.std.proofs.Common.{◌≡◌, ℕ, ◌+◌, Bool, ◌==◌, List, [], ◌∷◌, ◌++◌, map, refl, ap, subst, sym, ◌∙◌, append-nil}
use Rattle.std.specs.Prelude.{bytes_eq, true, false, not, IsFalse, ◌↔◌}
use Rattle.std.proofs.lemmas.Slice.Eq.{bytes_eq-Decides}
use Rattle.si_defs.specs.Bytes.{Bytes}
use Rattle.si_defs.specs.Terms as terms
use Rattle.si_defs.specs.Symbols.{Symbol, Numbering, same_symbol}
use Rattle.si_defs.specs.Clauses as clauses
use Rattle.si_defs.specs.Clauses.{IsSoundTerm, AreSoundTerms, IsSoundAtom}
use Rattle.si_defs.specs.Entries as entries
use Rattle.si_term.specs.Terms.{symbol_of}
use Rattle.si_flat.specs.declared.Owner.{Owner}
use Rattle.si_flat.specs.declared.Owner.TheVariants.{Query, Entry}
use Rattle.si_flat.specs.declared.walk.WrittenEntry.{WrittenEntry}
use Rattle.si_flat.specs.Cells.{Variable, query, same_variable, cells_of, IsSound, AreSound, IsWhole}
use Rattle.si_flat.specs.declared.flatten.FlatQuery.{FlatQuery}
use Rattle.si_flat.specs.Numbered.{number_in, signed, place_in, numbered, all_numbered}
use Rattle.si_defs.specs.Entries.{whole_of}
use Rattle.si_flat.specs.Flattened.{extra_numbers, unnumbered, is_positive, IsSoundEntry, numbered_entry, IsNumberedBy, IsFlatOf, IsQueryNumbering, FlattensPattern, FillsEntry}
use Rattle.si_flat.specs.Flattening.{owners_variable, met_names, met_extra, number_by, entry_scheme, WritesEntry}
use Rattle.si_term.proofs.Inserted.{inserted-firsts}
use Rattle.si_flat.proofs.ExtraNumbers.{all_have, extra_numbering}
use Rattle.si_defs.proofs.SymbolLaws.{symbol-Decides}
use Rattle.si_flat.proofs.FirstPlaces.{numbered_by}

-- ---- each symbol keeps its arguments
count-numbered : (n : Symbol → ℕ) (v : Bytes → Variable) (ts : clauses.Terms) → terms.count (all_numbered n v ts) ≡ terms.count ts
count-numbered n v terms.none = refl
count-numbered n v (terms.more t ts) = ap (λ k. 1 + k) (count-numbered n v ts)

mutual
  sound_numbered : (n : Symbol → ℕ) (v : Bytes → Variable) (t : clauses.Term) → IsSoundTerm t → IsSound (numbered n v t)
  sound_numbered n v (terms.var x) h = tt
  sound_numbered n v (terms.app s ts) h = (count-numbered n v ts ∙ sym h.0.with_arity, sound_all_numbered n v ts h.1)

  sound_all_numbered : (n : Symbol → ℕ) (v : Bytes → Variable) (ts : clauses.Terms) → AreSoundTerms ts → AreSound (all_numbered n v ts)
  sound_all_numbered n v terms.none h = tt
  sound_all_numbered n v (terms.more t ts) h = (sound_numbered n v t h.0, sound_all_numbered n v ts h.1)

pub sound_atom : (n : Symbol → ℕ) (v : Bytes → Variable) (t : clauses.Term) → IsSoundAtom t → IsSound (numbered n v t)
sound_atom n v (terms.var x) h = absurd h
sound_atom n v (terms.app s ts) h = (count-numbered n v ts ∙ sym h.0.with_arity, sound_all_numbered n v ts h.1)

sound_whole : (n : Symbol → ℕ) (v : Bytes → Variable) (e : entries.Entry) → IsSoundEntry e → IsSound (numbered n v (whole_of e))
sound_whole n v (entries.literal_entry l) h = sound_atom n v l.atom h.0
sound_whole n v (entries.term_entry t) h = sound_numbered n v t h.0

-- ---- what was written
pub extra_written : (pairs : Numbering) (owner : Owner) (e : entries.Entry) (w : WrittenEntry) → WritesEntry pairs owner e w → met_extra w.met ≡ terms.firsts same_symbol (unnumbered pairs (terms.symbols (whole_of e)))
extra_written pairs owner e w h = h.extra ∙ inserted-firsts same_symbol symbol-Decides (unnumbered pairs (terms.symbols (whole_of e)))

pub names_written : (pairs : Numbering) (owner : Owner) (e : entries.Entry) (w : WrittenEntry) → WritesEntry pairs owner e w → met_names w.met ≡ entries.distinct_variables e
names_written pairs owner e w h = h.names ∙ inserted-firsts bytes_eq bytes_eq-Decides (terms.variables (whole_of e))

cells_written : (pairs : Numbering) (owner : Owner) (e : entries.Entry) (w : WrittenEntry) → WritesEntry pairs owner e w → w.cells.items ≡ cells_of (numbered_entry (pairs ++ extra_numbers (met_extra w.met)) (owners_variable owner) e)
cells_written pairs owner e w h =
    let names : met_names w.met ++ [] ≡ entries.distinct_variables e =
    append-nil (met_names w.met) ∙ names_written pairs owner e w h in
    h.cells [] []
    ∙ λ i. cells_of (numbered (number_by pairs (entry_scheme owner (is_positive e)) (append-nil (met_extra w.met) i)) (λ x. owners_variable owner (place_in bytes_eq (names i) x)) (whole_of e))

numbered_whole : (pairs : Numbering) (variable : ℕ → Variable) (e : entries.Entry) → ((i j : ℕ) → same_variable (variable i) (variable j) ≡ (i == j)) → IsNumberedBy variable (numbered_entry pairs variable e)
numbered_whole pairs variable (entries.literal_entry l) tells = numbered_by (signed l.positive (number_in pairs)) variable tells l.atom
numbered_whole pairs variable (entries.term_entry t) tells = numbered_by (number_in pairs) variable tells t

owner_tells : (owner : Owner) (i j : ℕ) → same_variable (owners_variable owner i) (owners_variable owner j) ≡ (i == j)
owner_tells Query i j = refl
owner_tells Entry i j = refl

pub flat_written : (pairs : Numbering) (owner : Owner) (e : entries.Entry) (w : WrittenEntry) → IsSoundEntry e → WritesEntry pairs owner e w → IsFlatOf (pairs ++ extra_numbers (met_extra w.met)) (owners_variable owner) e w.cells.items
flat_written pairs owner e w sound h = record {
  stands = record { cells_are = cells_written pairs owner e w h; sound = sound_whole _ _ e sound };
  numbered = numbered_whole (pairs ++ extra_numbers (met_extra w.met)) (owners_variable owner) e (owner_tells owner);
}

-- of an entry whose symbols all have numbers
pub flat_known : (pairs : Numbering) (owner : Owner) (e : entries.Entry) (w : WrittenEntry) → IsSoundEntry e → WritesEntry pairs owner e w → met_extra w.met ≡ [] → IsFlatOf pairs (owners_variable owner) e w.cells.items
flat_known pairs owner e w sound h none =
    subst (λ ps. IsFlatOf ps (owners_variable owner) e w.cells.items) (ap (λ ss. pairs ++ extra_numbers ss) none ∙ append-nil pairs) (flat_written pairs owner e w sound h)

-- none was met where none lacks a number, and the other way round
firsts_none : {V : Type 0} (same : V → V → Bool) (xs : List V) → terms.firsts same xs ≡ [] → xs ≡ []
firsts_none same [] h = refl
firsts_none same (x ∷ xs) h = cc

pub all_numbered_of : (pairs : Numbering) (owner : Owner) (e : entries.Entry) (w : WrittenEntry) → WritesEntry pairs owner e w → met_extra w.met ≡ [] → unnumbered pairs (terms.symbols (whole_of e)) ≡ []
all_numbered_of pairs owner e w h none = firsts_none same_symbol _ (sym (extra_written pairs owner e w h) ∙ none)

pub sound_pattern : (p : clauses.Pattern) → clauses.IsSoundPattern p → IsSoundEntry (entries.pattern_entry p)
sound_pattern (clauses.literal_pattern l) h = h
sound_pattern (clauses.term_pattern t) h = h

-- what was written for a pattern is its flat term
module _ (pairs : Numbering) (p : clauses.Pattern) (e : entries.Entry) (w : WrittenEntry) (is : e ≡ entries.pattern_entry p) (sound : clauses.IsSoundPattern p) (h : WritesEntry pairs Query e w) where
  own : WritesEntry pairs Query (entries.pattern_entry p) w
  own = subst (λ k. WritesEntry pairs Query k w) is h

  flat_of_pattern : IsFlatOf (pairs ++ extra_numbers (met_extra w.met)) query (entries.pattern_entry p) w.cells.items
  flat_of_pattern = flat_written pairs Query (entries.pattern_entry p) w (sound_pattern p sound) own

  pub pattern_whole : IsWhole w.cells.items
  pattern_whole = (_, flat_of_pattern.stands)

  pub pattern_written : (q : FlatQuery) → q.flat ≡ w.cells.items → map symbol_of q.extra ≡ met_extra w.met → FlattensPattern pairs p q
  pattern_written q cells copied =
      let all = terms.symbols (whole_of (entries.pattern_entry p)) in
      let lacks = copied ∙ extra_written pairs Query (entries.pattern_entry p) w own in
      record {
        extra = lacks;
        flat =
            subst (λ l. IsFlatOf (pairs ++ extra_numbers (map symbol_of q.extra)) query (entries.pattern_entry p) l) (sym cells)
            (subst (λ ss. IsFlatOf (pairs ++ extra_numbers ss) query (entries.pattern_entry p) w.cells.items) (sym copied) flat_of_pattern);
        complete = ap (λ ss. unnumbered (pairs ++ extra_numbers ss) all) lacks ∙ all_have pairs all;
        numbering = λ numbering. subst (λ ss. IsQueryNumbering (pairs ++ extra_numbers ss)) (sym lacks) (extra_numbering pairs all numbering);
      }

-- ---- an entry in a buffer
pub entry_filled : (pairs : Numbering) (e : entries.Entry) (w : WrittenEntry) (extra : Bool)
    → IsSoundEntry e
    → WritesEntry pairs Entry e w
    → (IsFalse extra ↔ (met_extra w.met ≡ []))
    → FillsEntry pairs e w.cells.items (met_names w.met) (not extra)
entry_filled pairs e w true sound h tells = λ none.
    let bad : true ≡ false = tells.1 (extra_written pairs Entry e w h ∙ ap (terms.firsts same_symbol) none) in
    absurd cc
entry_filled pairs e w false sound h tells =
    let none : met_extra w.met ≡ [] = tells.0 refl in
    record {
      known = all_numbered_of pairs Entry e w h none;
      flat = flat_known pairs Entry e w sound h none;
      are_names = names_written pairs Entry e w h;
    }
