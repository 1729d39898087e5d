-- What is shown of a hit can be printed.
use Rattle.std.proofs.Common.{◌≡◌, ℕ, subst}
use Rattle.si_defs.specs.Clauses.{Pattern}
use Rattle.si_defs.specs.Entries.{Entry, pattern_entry, whole_of}
use Rattle.si_defs.specs.declared.Relation.{Relation}
use Rattle.si_defs.specs.Symbols.{Numbering}
use Rattle.si_index.specs.Finding.{Finding}
use Rattle.si_index.specs.declared.found.Shown.{Shown}
use Rattle.si_index.specs.Showing.{ShowsEntry, ShowsHit}
use Rattle.si_index.proofs.ShownNames.{query_named, entry_named}
use Rattle.si_reply.specs.NamedLists.{Naming, naming, ShowsList}
use Rattle.si_reply.proofs.ShownLists.{shows_list}

module _ (numbers : Numbering) (relation : Relation) (p : Pattern) (e : Entry) (s : Shown) (shown : ShowsEntry numbers relation p e s) where
  abbrev names : Naming
  names = naming numbers s.extra s.query_names s.entry_names

  shows_entry : ShowsList names s.solution shown.solution
  shows_entry = shows_list names (whole_of (pattern_entry p)) (whole_of e) (query_named numbers relation p e s shown) (entry_named numbers relation p e s shown) shown.symbols s.solution shown.solution shown.list shown.parts

-- the same of a hit, by equal numbers
pub shows_hit : (f : Finding) (n : ℕ) (numbers : Numbering) (s : Shown) → f.index.numbers ≡ numbers → (h : ShowsHit f n s)
    → ShowsList (naming numbers s.extra s.query_names s.entry_names) s.solution h.2.solution
shows_hit f n numbers s same h =
    subst (λ m. ShowsList (naming m s.extra s.query_names s.entry_names) s.solution h.2.solution) same
    (shows_entry f.index.numbers f.relation f.pattern h.0.1.entry s h.2)
