-- What is shown of a hit names each variable of the pattern and of the entry.
use Rattle.std.proofs.Common.{sym, subst}
use Rattle.std.specs.Prelude.{bytes_eq}
use Rattle.si_defs.specs.Bytes.{Bytes}
use Rattle.si_defs.specs.Clauses.{Pattern}
use Rattle.si_defs.specs.Entries.{Entry, pattern_entry, whole_of}
use Rattle.si_defs.specs.Substitutions.{IsAmong}
use Rattle.si_defs.specs.declared.Relation.{Relation}
use Rattle.si_defs.specs.Terms.{variables}
use Rattle.si_defs.specs.Symbols.{Numbering}
use Rattle.si_defs.proofs.SymbolLaws.{text_is}
use Rattle.si_flat.proofs.FirstPlaces.{among_firsts}
use Rattle.si_index.specs.declared.found.Shown.{Shown}
use Rattle.si_index.specs.Showing.{ShowsEntry}

module _ (numbers : Numbering) (relation : Relation) (p : Pattern) (e : Entry) (s : Shown) (shown : ShowsEntry numbers relation p e s) (x : Bytes) where
  pub query_named : IsAmong (variables (whole_of (pattern_entry p))) x → IsAmong s.query_names x
  query_named a = subst (λ l. IsAmong l x) (sym shown.query_names) (among_firsts bytes_eq text_is (variables (whole_of (pattern_entry p))) x a)

  pub entry_named : IsAmong (variables (whole_of e)) x → IsAmong s.entry_names x
  entry_named a = subst (λ l. IsAmong l x) (sym shown.entry_names) (among_firsts bytes_eq text_is (variables (whole_of e)) x a)
