-- Names, literals, clauses and patterns (TPTP, the CNF part), over terms whose variables are named
-- by texts.
use Rattle.std.specs.Prelude.{◌≡◌, ℕ, ◌≤◌, ◌+◌, Bool, List, [], ◌∷◌, codes}
use Rattle.std.specs.List.{AllByRecursion}
use Rattle.si_defs.specs.Bytes.{Bytes}
use Rattle.si_defs.specs.Terms as terms
use Rattle.si_defs.specs.Symbols.{Symbol}
use Rattle.si_defs.specs.declared.SymKind.{SymKind}
use Rattle.si_defs.specs.declared.SymKind.TheVariants.{Word, Dollar, Number, Distinct, Equal}
use Rattle.si_defs.specs.declared.Side.{Side}
use Rattle.si_defs.specs.declared.Side.TheVariants.{Predicate, Function}
use Rattle.si_defs.specs.declared.NameKind.{NameKind}
use Rattle.si_defs.specs.declared.TheConstants.{MOST_OCCURRENCES}

-- the terms of clauses and of patterns
abbrev pub Term : Type 0
Term = terms.Term Symbol Bytes

abbrev pub Terms : Type 0
Terms = terms.Terms Symbol Bytes

-- the name of a clause
pub record Name : Type 0 where
  pub kind : NameKind
  pub text : Bytes

-- an atom, or its negation
pub record Literal : Type 0 where
  pub positive : Bool
  pub atom : Term

pub record Clause : Type 0 where
  pub name : Name
  pub role : Bytes
  pub literals : List Literal

-- what is searched for
pub data Pattern : Type 0 where
  literal_pattern : Literal → Pattern
  term_pattern : Term → Pattern

-- A kind fixes what the symbol may be: a number and a distinct object are constants, equality is a
-- predicate of two.
abbrev pub IsSoundSymbol : SymKind → Bytes → Side → ℕ → Type 0
IsSoundSymbol Word text side arity = Unit {0}
IsSoundSymbol Dollar text side arity = Unit {0}
IsSoundSymbol Number text side arity = (side ≡ Function) × (arity ≡ 0)
IsSoundSymbol Distinct text side arity = (side ≡ Function) × (arity ≡ 0)
IsSoundSymbol Equal text side arity = (text ≡ codes "=") × (side ≡ Predicate) × (arity ≡ 2)

-- a symbol stands on a side, with as many arguments as its arity
pub record Fits (s : Symbol) (side : Side) (arguments : ℕ) : Type 0 where
  pub on_side : s.side ≡ side
  pub with_arity : s.arity ≡ arguments
  pub of_kind : IsSoundSymbol s.kind s.text s.side s.arity

-- A term inside an atom, or by itself, by its form. The bound on its size stands with the values
-- below.
abbrev mutual
  pub IsSoundTerm : Term → Type 0
  IsSoundTerm (terms.var x) = Unit {0}
  IsSoundTerm (terms.app s ts) = Fits s Function (terms.count ts) × AreSoundTerms ts

  pub AreSoundTerms : Terms → Type 0
  AreSoundTerms terms.none = Unit {0}
  AreSoundTerms (terms.more t ts) = IsSoundTerm t × AreSoundTerms ts

abbrev pub IsSoundAtom : Term → Type 0
IsSoundAtom (terms.var x) = ⊥
IsSoundAtom (terms.app s ts) = Fits s Predicate (terms.count ts) × AreSoundTerms ts

abbrev pub IsSoundLiteral : Literal → Type 0
IsSoundLiteral l = IsSoundAtom l.atom

abbrev pub literal_size : Literal → ℕ
literal_size l = terms.size l.atom

abbrev pub literals_size : List Literal → ℕ
literals_size [] = 0
literals_size (l ∷ ls) = literal_size l + literals_size ls

pub record AreSoundLiterals (ls : List Literal) : Type 0 where
  pub each : AllByRecursion IsSoundLiteral ls
  pub no_larger : literals_size ls ≤ MOST_OCCURRENCES

pub record IsSoundClause (c : Clause) : Type 0 where
  pub some : c.literals ≡ [] → ⊥
  pub sound : AreSoundLiterals c.literals

abbrev pub IsSoundPattern : Pattern → Type 0
IsSoundPattern (literal_pattern l) = IsSoundLiteral l × (literal_size l ≤ MOST_OCCURRENCES)
IsSoundPattern (term_pattern t) = IsSoundTerm t × (terms.size t ≤ MOST_OCCURRENCES)
