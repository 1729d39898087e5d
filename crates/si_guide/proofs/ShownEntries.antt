-- What is shown of an entry can be printed, by the numbers of the table that it was found in.
use Rattle.std.proofs.Common.{◌≡◌, subst}
use Rattle.si_defs.specs.Clauses.{Pattern}
use Rattle.si_defs.specs.Entries.{Entry, pattern_entry, whole_of}
use Rattle.si_defs.specs.declared.Relation.{Relation}
use Rattle.si_defs.specs.Symbols.{Numbering}
use Rattle.si_index.specs.declared.found.Shown.{Shown}
use Rattle.si_index.specs.Showing.{ShowsEntry}
use Rattle.si_index.proofs.ShownNames.{query_named, entry_named}
use Rattle.si_reply.specs.NamedLists.{Naming, naming, ShowsList}
use Rattle.si_reply.proofs.ShownLists.{shows_list}

module _ (numbers : Numbering) (relation : Relation) (p : Pattern) (e : Entry) (s : Shown) (shown : ShowsEntry numbers relation p e s) where
  abbrev names : Naming
  names = naming numbers s.extra s.query_names s.entry_names

  pub shows_entry : (others : Numbering) → numbers ≡ others → ShowsList (naming others s.extra s.query_names s.entry_names) s.solution shown.solution
  shows_entry others same =
      subst (λ m. ShowsList (naming m s.extra s.query_names s.entry_names) s.solution shown.solution) same
      (shows_list names (whole_of (pattern_entry p)) (whole_of e) (query_named numbers relation p e s shown) (entry_named numbers relation p e s shown) shown.symbols s.solution shown.solution shown.list shown.parts)
