-- What holds of an index: its clauses are stored by its rules, its register is theirs, two trees
-- hold their entries, and their rows are right.
use Rattle.std.specs.Prelude.{◌≡◌, ℕ, ◌≤◌, List, [], map, None}
use Rattle.si_defs.specs.Clauses.{Clause, IsSoundClause}
use Rattle.si_defs.specs.Symbols.{Numbering}
use Rattle.si_defs.specs.Substitutions.{IsAmong}
use Rattle.si_defs.specs.Entries.{clause_symbols}
use Rattle.si_defs.specs.declared.TheConstants.{MOST_OCCURRENCES}
use Rattle.si_state.specs.States.{Rules}
use Rattle.si_state.specs.Signatures.{numbering}
use Rattle.si_term.specs.Meaning.{clause_of, name_of}
use Rattle.si_flat.specs.Flattened.{unnumbered}
use Rattle.si_flat.specs.Numbered.{number_in}
use Rattle.si_screen.specs.ClauseRows.{IsRowOf}
use Rattle.si_term.specs.declared.clause.Clause as term
use Rattle.si_held.specs.TwoTrees.{TwoTrees, Hold}
use Rattle.si_sign.specs.Stores.{IsStored}
use Rattle.si_index.specs.Kept.{clauses_of}
use Rattle.si_index.specs.Register.{IsRegisterOf}
use Rattle.si_index.specs.Names.{key_of_name}
use Rattle.si_index.specs.declared.register.Register.{Register}

pub record IsKeptIndex (rules : Rules) (items : List (ℕ × term.Clause)) (register : Register)
    : Type 0 where
  pub small : rules.entries ≤ MOST_OCCURRENCES
  pub stored : IsStored rules (clauses_of items)
  pub registered : IsRegisterOf items register

-- the clauses of a list, each by its key
abbrev pub keyed_clauses : List (ℕ × term.Clause) → List (ℕ × Clause)
keyed_clauses items = map (λ p. (p.0, clause_of p.1)) items

abbrev pub AreHeld : List (ℕ × term.Clause) → Register → TwoTrees → Type 0
AreHeld items register trees = Hold (numbering register.signature) (keyed_clauses items) trees

-- a row that stands under the key of one of these clauses is the clause's, by these numbers
abbrev pub HaveRows : Numbering → List (ℕ × term.Clause) → List (ℕ × List ℕ) → Type 0
HaveRows numbers items rows = (key : ℕ) (c : term.Clause) (row : List ℕ) → IsAmong items (key, c)
    → IsAmong rows (key, row) → IsRowOf (number_in numbers) (clause_of c).literals row

-- The clause may be put beside these: its symbols have numbers, its name is free, and two trees
-- hold the others' entries.
pub record MayKeep (clause : term.Clause) (items : List (ℕ × term.Clause)) (register : Register)
    (trees : TwoTrees) : Type 0 where
  pub sound : IsSoundClause (clause_of clause)
  pub numbered : unnumbered (numbering register.signature) (clause_symbols (clause_of clause)) ≡ []
  pub free : key_of_name items register.names (name_of clause.name) ≡ None
  pub held : AreHeld items register trees
