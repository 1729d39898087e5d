-- What the values of the readers stand for.
use Rattle.std.specs.Prelude.{List, map}
use Rattle.si_defs.specs.Bytes.{Bytes}
use Rattle.si_defs.specs.Clauses as clauses
use Rattle.si_defs.specs.Grammar as grammar
use Rattle.si_term.specs.Meaning.{name_of, literal_of}
use Rattle.si_term.specs.declared.clause.Name.{Name}
use Rattle.si_term.specs.declared.clause.Literal.{Literal}
use Rattle.si_parse.specs.declared.grammar.includes.Selection.{Selection}
use Rattle.si_parse.specs.declared.grammar.includes.Selection.TheVariants as selection

abbrev pub names_of : List Name → List clauses.Name
names_of ns = map name_of ns

abbrev pub literals_of : List Literal → List clauses.Literal
literals_of ls = map literal_of ls

abbrev pub selection_of : Selection → grammar.Selection
selection_of selection.All = grammar.all
selection_of (selection.Only ns) = grammar.only (names_of ns)

-- the name and the role of a clause
abbrev pub heading_of : Name × Bytes → clauses.Name × Bytes
heading_of h = (name_of h.0, h.1)

-- the file and the names of an include
abbrev pub include_of : Bytes × Selection → Bytes × grammar.Selection
include_of i = (i.0, selection_of i.1)
