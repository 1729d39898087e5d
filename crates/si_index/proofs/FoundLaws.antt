-- What an answer tells of its hits.
use Rattle.std.proofs.Common.{◌≡◌, ◌≢◌, ℕ, zero, suc, ◌<◌, List, [], ◌∷◌, ◌++◌, length, map, get_or, refl, ap, sym, ◌∙◌, subst, arith}
use Rattle.std.specs.Prelude.{slice_get, None, Some}
use Rattle.std.specs.List.{AllByRecursion}
use Rattle.std.proofs.lemmas.List.{length-map}
use Rattle.std.proofs.lemmas.Option.{get_or_from_slice_get, none-some, same_Some}
use Rattle.si_defs.specs.Bytes.{Bytes}
use Rattle.si_defs.specs.Symbols.{Symbol, Numbering, IsNumbering}
use Rattle.si_defs.specs.Clauses.{IsSoundPattern, IsSoundClause}
use Rattle.si_defs.specs.Entries.{Entry, Placed, pattern_entry, distinct_variables, whole_of}
use Rattle.si_defs.proofs.ListLaws.{all_get}
use Rattle.si_state.specs.Signatures.{IsSignatureOf}
use Rattle.si_term.specs.Terms.{symbol_of}
use Rattle.si_term.specs.Meaning.{place_of}
use Rattle.si_term.specs.declared.term.Sym.{Sym}
use Rattle.si_flat.specs.Numbered.{number_in}
use Rattle.si_flat.specs.Flattened.{FlattensPattern, extra_numbers, query_numbers}
use Rattle.si_form.specs.declared.solution.Binding.{Binding}
use Rattle.si_form.specs.Answers.{StandsForList}
use Rattle.si_form.specs.Numberings.{variable_by, list_by, symbols_of}
use Rattle.si_form.specs.TableNumbers.{HaveNumbers}
use Rattle.si_index.specs.Finding.{position_and_place}
use Rattle.si_index.specs.Showing.{ShowsEntry}
use Rattle.si_index.specs.Slots.{HasSlots}
use Rattle.si_index.proofs.EntryLaws.{all_clauses_known}
use Rattle.si_index.specs.Searching.{numbers_of, pattern_in, IsReadyToSearch, SolvesEntry, HasList, IsMatch, hit_of}
use Rattle.si_index.specs.declared.search.Search.{Search}
use Rattle.si_index.specs.declared.wanted.Leaf.{Leaf}
use Rattle.si_index.specs.declared.gather.Match.{Match}

-- the numbers of a search are those of its index, whose clauses are sound
pub is_ready : (s : Search) → numbers_of s ≡ s.index.now.numbers → IsNumbering s.index.now.numbers → IsSoundPattern (pattern_in s) → FlattensPattern (numbers_of s) (pattern_in s) s.query → HasSlots s.index.now s.slots
    → IsSignatureOf s.index.now.clauses s.signature.now → AllByRecursion IsSoundClause s.index.now.clauses → IsReadyToSearch s
is_ready s numbers numbering sound flat slots signed clauses = record {
  numbering = subst IsNumbering (sym numbers) numbering;
  sound = sound;
  flat = flat;
  slots = slots;
  known = all_clauses_known (numbers_of s) s.index.now.clauses s.signature.now refl signed clauses;
}

-- there are as many hits as matches
pub inside : (ms : List Match) (n : ℕ) (hits : List (ℕ × Placed)) → map hit_of ms ≡ hits → n < length hits → n < length ms
inside ms n hits seen h = omega (arith, h, ap length seen, length-map ms hit_of)

-- the hit of a match that an index read
pub hit_at : (ms : List Match) (n : ℕ) (m : Match) → n < length ms → m ≡ get_or ms n m → slice_get (map hit_of ms) n ≡ Some (hit_of m)
hit_at ms n m h read = at ms n m h ∙ ap (λ k. Some (hit_of k)) (sym read) where
  at : (ms : List Match) (n : ℕ) (d : Match) → n < length ms → slice_get (map hit_of ms) n ≡ Some (hit_of (get_or ms n d))
  at [] n d h = absurd (omega arith)
  at (m ∷ ms) zero d h = cc
  at (m ∷ ms) (suc n) d h = at ms n d (omega arith)

pub place_at : (ms : List Match) (n : ℕ) (m : Match) → n < length ms → m ≡ get_or ms n m → slice_get (map position_and_place (map hit_of ms)) n ≡ Some (m.hit.clause, place_of m.hit.place)
place_at ms n m h read = at ms n m h ∙ ap (λ (k : Match). Some (k.hit.clause, place_of k.hit.place)) (sym read) where
  at : (ms : List Match) (n : ℕ) (d : Match) → n < length ms → slice_get (map position_and_place (map hit_of ms)) n ≡ Some ((get_or ms n d).hit.clause, place_of (get_or ms n d).hit.place)
  at [] n d h = absurd (omega arith)
  at (m ∷ ms) zero d h = cc
  at (m ∷ ms) (suc n) d h = at ms n d (omega arith)

pub each_at : (P : Match → Type 0) (ms : List Match) (n : ℕ) (m : Match) → n < length ms → m ≡ get_or ms n m → AllByRecursion P ms → P m
each_at P ms n m h read all = subst P (sym read) (all_get P ms n m all h)

-- the match that a hit's number reads
pub match_at : (s : Search) (leaves : List Leaf) (ms : List Match) (n : ℕ) (m : Match) (hits : List (ℕ × Placed)) → map hit_of ms ≡ hits → n < length hits → m ≡ get_or ms n m → AllByRecursion (IsMatch s leaves) ms → IsMatch s leaves m
match_at s leaves ms n m hits seen h = each_at (IsMatch s leaves) ms n m (inside ms n hits seen h)

-- a leaf that is read by its number has the list of the entry
module _ (s : Search) (e : Entry) (leaves : List Leaf) (n : ℕ) (read : Leaf) (h : HasList s e leaves n) (is : read ≡ get_or leaves n read) where
  has_own : read.list ≡ Some h.0
  has_own = ap (λ (l : Leaf). l.list) (is ∙ get_or_from_slice_get leaves n h.1.0 read h.1.1) ∙ h.1.2

  pub is_made : read.list ≢ None
  is_made none = none-some h.0 (sym none ∙ has_own)

  pub solves_at : (list : List Binding) → read.list ≡ Some list → SolvesEntry s.relation (query_numbers (numbers_of s) s.query.extra) (pattern_in s) e list
  solves_at list own = subst (SolvesEntry s.relation (query_numbers (numbers_of s) s.query.extra) (pattern_in s) e) (same_Some h.0 list (sym has_own ∙ own)) h.2

-- what was solved is shown
pub shows_entry : (s : Search) (numbers : Numbering) (e : Entry) (bindings : List Binding) (query_names entry_names : List Bytes) (extra : List Sym)
    → numbers_of s ≡ numbers
    → IsReadyToSearch s
    → SolvesEntry s.relation (query_numbers (numbers_of s) s.query.extra) (pattern_in s) e bindings
    → query_names ≡ distinct_variables (pattern_entry (pattern_in s))
    → entry_names ≡ distinct_variables e
    → map symbol_of extra ≡ map symbol_of s.query.extra
    → ShowsEntry numbers s.relation (pattern_in s) e (record { solution = bindings; query_names = query_names; entry_names = entry_names; extra = extra })
shows_entry s numbers e bindings query_names entry_names extra same ready solved queries entries copied =
    subst (λ ns. ShowsEntry ns s.relation (pattern_in s) e (record { solution = bindings; query_names = query_names; entry_names = entry_names; extra = extra })) same
    (record {
      extra = copied ∙ ready.flat.extra;
      query_names = queries;
      entry_names = entries;
      solution = solved.solution;
      solves = solved.solves;
      parts = solved.parts;
      symbols = subst (λ (l : List Symbol). HaveNumbers (numbers_of s ++ extra_numbers l) (symbols_of (whole_of (pattern_entry (pattern_in s))) (whole_of e))) (sym copied) solved.symbols;
      list = subst (λ (l : List Symbol). StandsForList bindings (list_by (number_in (numbers_of s ++ extra_numbers l)) (variable_by query_names entry_names) solved.solution)) (sym copied)
          (subst (λ l. StandsForList bindings (list_by (number_in (query_numbers (numbers_of s) s.query.extra)) (variable_by query_names l) solved.solution)) (sym entries)
          (subst (λ l. StandsForList bindings (list_by (number_in (query_numbers (numbers_of s) s.query.extra)) (variable_by l (distinct_variables e)) solved.solution)) (sym queries) solved.list));
    })
