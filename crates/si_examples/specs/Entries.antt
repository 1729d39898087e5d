-- The entries of clauses, and their places.
use Rattle.std.specs.Prelude.{◌≡◌, ℕ, true, List, [], ◌∷◌, codes}
use Rattle.si_defs.specs.Bytes.{Bytes}
use Rattle.si_defs.specs.Terms as terms
use Rattle.si_defs.specs.Symbols.{Symbol}
use Rattle.si_defs.specs.Clauses.{Term, Clause}
use Rattle.si_defs.specs.Entries.{Entry, literal_entry, term_entry, Placed, entries}
use Rattle.si_defs.specs.Substitutions.{IsAmong}
use Rattle.si_defs.specs.declared.SymKind.TheVariants.{Word}
use Rattle.si_defs.specs.declared.Side.TheVariants.{Predicate, Function}
use Rattle.si_defs.specs.declared.NameKind.TheVariants as named
use Rattle.si_state.specs.States.{State, empty_state}

-- ---- the terms of the examples
-- a word inside a term, with as many arguments as it has here
abbrev pub function : {V : Type 0} → Bytes → List (terms.Term Symbol V) → terms.Term Symbol V
function text ts =
    terms.app (record {
      kind = Word;
      text = text;
      side = Function;
      arity = terms.count (terms.row ts);
    }) (terms.row ts)

-- a word at the head of an atom
abbrev pub predicate : {V : Type 0} → Bytes → List (terms.Term Symbol V) → terms.Term Symbol V
predicate text ts =
    terms.app (record {
      kind = Word;
      text = text;
      side = Predicate;
      arity = terms.count (terms.row ts);
    }) (terms.row ts)

abbrev pub variable : Bytes → Term
variable x = terms.var x

abbrev pub constant : {V : Type 0} → Bytes → terms.Term Symbol V
constant text = function text []

-- f(X)
abbrev pub f_of_x : Term
f_of_x = function (codes "f") (variable (codes "X") ∷ [])

-- a
abbrev pub a : {V : Type 0} → terms.Term Symbol V
a = constant (codes "a")

-- the atom p(f(X),a)
abbrev pub first_atom : Term
first_atom = predicate (codes "p") (f_of_x ∷ a ∷ [])

-- f(Y,a)
abbrev pub f_of_y_a : Term
f_of_y_a = function (codes "f") (variable (codes "Y") ∷ a ∷ [])

-- the atom p(X,f(Y,a))
abbrev pub second_atom : Term
second_atom = predicate (codes "p") (variable (codes "X") ∷ f_of_y_a ∷ [])

-- the clause of one atom, with this name
abbrev pub fact : Bytes → Term → Clause
fact name atom = record {
  name = record { kind = named.Word; text = name };
  role = codes "axiom";
  literals = record { positive = true; atom = atom } ∷ [];
}

-- ---- their entries
abbrev pub placed : Entry → List ℕ → Placed
placed entry path = record { entry = entry; place = record { literal = 1; path = path } }

abbrev pub positive_literal : Term → Entry
positive_literal atom = literal_entry (record { positive = true; atom = atom })

-- the entries of p(f(X),a): the literal, f(X) and a
abbrev pub FirstEntries : Type 0
FirstEntries =
    entries (fact (codes "c1") first_atom)
    ≡ placed (positive_literal first_atom) [] ∷ placed (term_entry f_of_x) (1 ∷ [])
    ∷ placed (term_entry a) (2 ∷ []) ∷ []

-- those of p(X,f(Y,a)): the literal, f(Y,a) at 2 and a at 2.2
abbrev pub SecondEntries : Type 0
SecondEntries =
    entries (fact (codes "c2") second_atom)
    ≡ placed (positive_literal second_atom) [] ∷ placed (term_entry f_of_y_a) (2 ∷ [])
    ∷ placed (term_entry a) (2 ∷ 2 ∷ []) ∷ []

-- a variable is no entry: none of p(X,f(Y,a)) stands at 1
abbrev pub NoVariableEntry : Type 0
NoVariableEntry = (e : Entry)
    → IsAmong (entries (fact (codes "c2") second_atom)) (placed e (1 ∷ [])) → ⊥

-- the atom of a literal is no term entry
abbrev pub NoAtomEntry : Type 0
NoAtomEntry = (path : List ℕ)
    → IsAmong (entries (fact (codes "c1") first_atom)) (placed (term_entry first_atom) path) → ⊥

-- these clauses are kept
abbrev pub keeping : List Clause → State
keeping clauses = record empty_state { clauses = clauses }
