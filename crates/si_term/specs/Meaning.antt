-- What names, literals, clauses, patterns, places and entries of the program stand for.
use Rattle.std.specs.Prelude.{map}
use Rattle.si_defs.specs.Clauses as clauses
use Rattle.si_defs.specs.Entries as entries
use Rattle.si_term.specs.Terms.{term_of}
use Rattle.si_term.specs.declared.clause.Name.{Name}
use Rattle.si_term.specs.declared.clause.Literal.{Literal}
use Rattle.si_term.specs.declared.clause.Clause.{Clause}
use Rattle.si_term.specs.declared.clause.Place.{Place}
use Rattle.si_term.specs.declared.clause.Pattern.{Pattern}
use Rattle.si_term.specs.declared.clause.Pattern.TheVariants as pattern
use Rattle.si_term.specs.declared.clause.Entry.{Entry}
use Rattle.si_term.specs.declared.clause.Entry.TheVariants as entry

abbrev pub name_of : Name → clauses.Name
name_of n = record { kind = n.kind; text = n.text }

abbrev pub literal_of : Literal → clauses.Literal
literal_of l = record { positive = l.positive; atom = term_of l.atom }

abbrev pub clause_of : Clause → clauses.Clause
clause_of c = record { name = name_of c.name; role = c.role; literals = map literal_of c.literals }

abbrev pub place_of : Place → entries.Place
place_of p = record { literal = p.literal; path = p.path }

abbrev pub pattern_of : Pattern → clauses.Pattern
pattern_of (pattern.Lit l) = clauses.literal_pattern (literal_of l)
pattern_of (pattern.Term t) = clauses.term_pattern (term_of t)

abbrev pub entry_of : Entry → entries.Entry
entry_of (entry.Lit l) = entries.literal_entry (literal_of l.now)
entry_of (entry.Sub t) = entries.term_entry (term_of t.now)
