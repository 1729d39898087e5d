-- The register of some clauses: the keys of their names, their symbols, and how many entries they
-- have.
use Rattle.std.specs.Prelude.{◌≡◌, ℕ, ◌+◌, ◌<◌, ◌≤◌, List, [], ◌∷◌, ◌++◌, None, Some, IsSome, length}
use Rattle.si_defs.specs.Clauses.{Name, Clause}
use Rattle.si_defs.specs.Symbols.{Symbol, times}
use Rattle.si_defs.specs.Entries.{clause_symbols, state_symbols, entries, state_entries}
use Rattle.si_defs.specs.Substitutions.{IsAmong}
use Rattle.si_state.specs.States.{Rules}
use Rattle.si_state.specs.Acceptance.{AllAgree}
use Rattle.si_state.specs.Signatures.{IsSignature, IsSignatureOf, KeepsNumbers, known_symbols, uses_of, total}
use Rattle.si_term.specs.Meaning.{name_of}
use Rattle.si_term.specs.declared.clause.Clause as term
use Rattle.si_sign.specs.Shapes.{NamesFirstClash}
use Rattle.si_sign.specs.declared.faults.AddFault.{AddFault}
use Rattle.si_sign.specs.declared.faults.AddFault.TheVariants as add_fault
use Rattle.si_keyed.specs.Keyed.{HasKey}
use Rattle.si_index.specs.Kept.{clauses_of}
use Rattle.si_index.specs.Names.{key_of_name, AreNamed, ChangesName, NameLeadsAway}
use Rattle.si_index.specs.declared.register.Register.{Register}
use Rattle.si_index.specs.declared.names.ClauseNames.{ClauseNames}

-- it is the register of these clauses
pub record IsRegisterOf (items : List (ℕ × term.Clause)) (register : Register) : Type 0 where
  pub names : AreNamed items (key_of_name items register.names)
  pub signature : IsSignature register.signature
  pub signed : IsSignatureOf (clauses_of items) register.signature
  pub used : total register.signature ≡ length (state_symbols (clauses_of items))
  pub counted : register.entries ≡ length (state_entries (clauses_of items))

-- the clause is put last by this key, and its name leads to it
pub record IsPut (key : ℕ) (clause : term.Clause) (items new : List (ℕ × term.Clause))
    (old names : ClauseNames) : Type 0 where
  pub fresh : HasKey items key → ⊥
  pub pushed : new ≡ items ++ (key, clause) ∷ []
  pub name : ChangesName (name_of clause.name) (Some key) (key_of_name items old)
      (key_of_name new names)

abbrev pub HasPut : term.Clause → (items new : List (ℕ × term.Clause)) → (old names : ClauseNames)
    → Type 0
HasPut clause items new old names = (key : ℕ) × IsPut key clause items new old names

-- the clause may be entered by these rules
pub record Admits (rules : Rules) (items : List (ℕ × term.Clause)) (register : Register)
    (clause : Clause) : Type 0 where
  pub free : key_of_name items register.names clause.name ≡ None
  pub agree : AllAgree (known_symbols register.signature) (clause_symbols clause)
  pub room : register.entries + length (entries clause) ≤ rules.entries

-- the symbols and the entries of the clause are counted
pub record CountsClause (clause : Clause) (old new : Register) : Type 0 where
  pub names : new.names ≡ old.names
  pub uses : (s : Symbol)
      → uses_of new.signature s ≡ uses_of old.signature s + times s (clause_symbols clause)
  pub sum : total new.signature ≡ total old.signature + length (clause_symbols clause)
  pub entered : new.entries ≡ old.entries + length (entries clause)
  pub signature : IsSignature new.signature
  pub numbers : KeepsNumbers old.signature new.signature

-- they are counted no more
pub record UncountsClause (clause : Clause) (old new : Register) : Type 0 where
  pub uses : (s : Symbol)
      → uses_of new.signature s + times s (clause_symbols clause) ≡ uses_of old.signature s
  pub sum : total new.signature + length (clause_symbols clause) ≡ total old.signature
  pub entered : new.entries + length (entries clause) ≡ old.entries
  pub signature : IsSignature new.signature
  pub numbers : KeepsNumbers old.signature new.signature

-- the clause is struck out, and its name leads to its key no more
pub record StrikesOut (clause : Clause) (key : ℕ) (old new : Register) : Type 0 where
  pub name : NameLeadsAway clause.name key old.names new.names
  pub counts : UncountsClause clause old new

-- the register says the same of these clauses
pub record IsSameRegister (items : List (ℕ × term.Clause)) (old new : Register) : Type 0 where
  pub names : (name : Name) → key_of_name items new.names name ≡ key_of_name items old.names name
  pub uses : (s : Symbol) → uses_of new.signature s ≡ uses_of old.signature s
  pub sum : total new.signature ≡ total old.signature
  pub entered : new.entries ≡ old.entries
  pub signature : IsSignature new.signature
  pub numbers : KeepsNumbers old.signature new.signature

-- why a clause isn't entered
abbrev pub Bars : Rules → List (ℕ × term.Clause) → Register → Clause → AddFault → Type 0
Bars rules items register clause add_fault.Taken =
    IsSome (key_of_name items register.names clause.name)
Bars rules items register clause (add_fault.Clash c) =
    (key_of_name items register.names clause.name ≡ None)
    × NamesFirstClash (known_symbols register.signature) (clause_symbols clause) c
Bars rules items register clause (add_fault.Full needed most) =
    (key_of_name items register.names clause.name ≡ None)
    × AllAgree (known_symbols register.signature) (clause_symbols clause)
    × (rules.entries < needed) × (needed ≡ register.entries + length (entries clause))
    × (most ≡ rules.entries)
Bars rules items register clause add_fault.Memory = Unit {0}
