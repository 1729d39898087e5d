-- Which clauses are kept (this project's profile): those of a state have distinct names.
use Rattle.std.specs.Prelude.{◌≡◌, ℕ, ◌+◌, ◌≤◌, ◌<◌, List, [], ◌∷◌, ◌++◌, length}
use Rattle.std.specs.List.{AllByRecursion}
use Rattle.si_defs.specs.Symbols.{Symbol}
use Rattle.si_defs.specs.Clauses.{Name, Clause}
use Rattle.si_defs.specs.Entries.{entries, state_entries, clause_symbols, state_symbols}
use Rattle.si_defs.specs.Substitutions.{IsAmong, AreDistinct}
use Rattle.si_state.specs.States.{Rules}

abbrev pub names : List Clause → List Name
names [] = []
names (c ∷ cs) = c.name ∷ names cs

-- a kept clause has the name
abbrev pub IsTaken : List Clause → Name → Type 0
IsTaken clauses name = IsAmong (names clauses) name

abbrev pub HasDistinctNames : List Clause → Type 0
HasDistinctNames clauses = AreDistinct (names clauses)

-- ---- one side and one arity for each kind and text
-- two symbols of one kind and text that differ in side or arity
pub record Clashes (s r : Symbol) : Type 0 where
  pub kind : s.kind ≡ r.kind
  pub text : s.text ≡ r.text
  pub differ : s.side ≡ r.side → s.arity ≡ r.arity → ⊥

-- none of the known symbols clashes with s
abbrev pub Agrees : List Symbol → Symbol → Type 0
Agrees known s = AllByRecursion (λ r. Clashes s r → ⊥) known

-- each of these agrees with the known ones, and with those before it
abbrev pub AllAgree : List Symbol → List Symbol → Type 0
AllAgree known [] = Unit {0}
AllAgree known (s ∷ ss) = Agrees known s × AllAgree (known ++ s ∷ []) ss

-- the first of them that doesn't, how many stand before it, and a symbol that it clashes with
pub record IsFirstClash (known own : List Symbol) (occurrence : ℕ)
    (found kept : Symbol) : Type 0 where
  pub before : List Symbol
  pub after : List Symbol
  pub splits : own ≡ before ++ found ∷ after
  pub position : occurrence ≡ length before
  pub earlier : AllAgree known before
  pub against : IsAmong (known ++ before) kept
  pub clashes : Clashes found kept

-- ---- a clause is tried
-- the number of entries that there would be
abbrev pub needed : List Clause → Clause → ℕ
needed clauses clause = length (state_entries clauses) + length (entries clause)

-- the clause is accepted, and stands last
pub record Accepts (rules : Rules) (clauses : List Clause) (clause : Clause)
    (new : List Clause) : Type 0 where
  pub free : IsTaken clauses clause.name → ⊥
  pub agree : AllAgree (state_symbols clauses) (clause_symbols clause)
  pub room : needed clauses clause ≤ rules.entries
  pub added : new ≡ clauses ++ clause ∷ []

-- Why a clause is refused: its name is taken; a symbol of it is misused, and clashes with another
-- one; or so many entries would be too many. A misused symbol goes by its occurrence: by the number,
-- from 0, that it has among the occurrences of symbols in the clause, whatever the entries are.
pub data Refusal : Type 0 where
  taken : Refusal
  misused : ℕ → Symbol → Symbol → Refusal
  full : ℕ → Refusal

-- the first reason that there is
abbrev pub Refuses : Rules → List Clause → Clause → Refusal → Type 0
Refuses rules clauses clause taken = IsTaken clauses clause.name
Refuses rules clauses clause (misused occurrence found kept) =
    (IsTaken clauses clause.name → ⊥)
    × IsFirstClash (state_symbols clauses) (clause_symbols clause) occurrence found kept
Refuses rules clauses clause (full n) =
    (IsTaken clauses clause.name → ⊥) × AllAgree (state_symbols clauses) (clause_symbols clause)
    × (rules.entries < needed clauses clause) × (n ≡ needed clauses clause)

-- ---- a clause goes
-- the clause with this name is gone, and the others stay in order
pub record Removes (clauses : List Clause) (name : Name) (removed : Clause)
    (new : List Clause) : Type 0 where
  pub before : List Clause
  pub after : List Clause
  pub splits : clauses ≡ before ++ removed ∷ after
  pub named : removed.name ≡ name
  pub rest : new ≡ before ++ after
