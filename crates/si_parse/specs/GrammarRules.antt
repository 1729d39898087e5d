-- The parts of terms, literals, formulas and items that the readers read one after another.
use Rattle.std.specs.Prelude.{◌≡◌, ◌≢◌, ◌⊎◌, ℕ, ◌+◌, Bool, true, false, List, [], ◌∷◌, ◌++◌, Option, Some, None, replicate, IsTrue}
use Rattle.si_defs.specs.Bytes.{Bytes}
use Rattle.si_defs.specs.Terms as terms
use Rattle.si_defs.specs.Symbols.{Symbol}
use Rattle.si_defs.specs.Clauses.{Term, Literal, Name}
use Rattle.si_defs.specs.Tokens.{Token, mark, lower}
use Rattle.si_defs.specs.Grammar.{IsTerm, IsAtom, IsInequation, IsLiteral, IsName, IsExtra, Selection, IsItem, include_item, balances, left_bracket, right_bracket, comma, full_stop, not_equal, equality}
use Rattle.si_defs.specs.declared.SymKind.{SymKind}
use Rattle.si_defs.specs.declared.SymKind.TheVariants.{Word, Dollar, Number, Distinct, Equal}
use Rattle.si_defs.specs.declared.Side.TheVariants.{Predicate, Function}
use Rattle.si_defs.specs.declared.TokenKind.TheVariants as token

-- ---- rows
-- each after a sign
abbrev pub AreMore : {M : Type 0} → (M → List Token → Type 0) → Token → List M → List Token → Type 0
AreMore Means sign [] ts = ts ≡ []
AreMore Means sign (m ∷ ms) ts =
    (first : List Token) × (others : List Token) × Means m first × AreMore Means sign ms others
    × (ts ≡ sign ∷ first ++ others)

-- at least one, with a sign between each two
abbrev pub AreSeparated : {M : Type 0} → (M → List Token → Type 0) → Token → List M
    → List Token → Type 0
AreSeparated Means sign [] ts = ⊥
AreSeparated Means sign (m ∷ ms) ts =
    (first : List Token) × (others : List Token) × Means m first × AreMore Means sign ms others
    × (ts ≡ first ++ others)

-- one token
abbrev pub IsMark : ℕ → List Token → Type 0
IsMark c ts = ts ≡ mark c ∷ []

-- ---- terms
-- the symbol of a function
abbrev pub function_symbol : SymKind → Bytes → ℕ → Symbol
function_symbol kind text arity =
    record { kind = kind; text = text; side = Function; arity = arity }

-- terms with commas between them
abbrev pub AreTerms : List Term → List Token → Type 0
AreTerms us ts = AreSeparated IsTerm comma us ts

-- what stands after the head of a term: nothing, or arguments in brackets
abbrev pub IsApplied : SymKind → Bytes → Term → List Token → Type 0
IsApplied kind text (terms.var x) ts = ⊥
IsApplied kind text (terms.app s terms.none) ts = (s ≡ function_symbol kind text 0) × (ts ≡ [])
IsApplied kind text (terms.app s (terms.more u us)) ts =
    (s ≡ function_symbol kind text (1 + terms.count us))
    × ((inner : List Token) × AreTerms (u ∷ terms.list us) inner
    × (ts ≡ left_bracket ∷ inner ++ right_bracket ∷ []))

-- ---- literals
-- the atom of a term that is read as one: its head is a word
abbrev pub as_atom : Term → Option Term
as_atom (terms.var x) = None
as_atom (terms.app s us) = by s.kind where
  by : SymKind → Option Term
  by Word =
      Some (terms.app (record { kind = Word; text = s.text; side = Predicate; arity = s.arity }) us)
  by Dollar =
      Some (terms.app (record {
        kind = Dollar;
        text = s.text;
        side = Predicate;
        arity = s.arity;
      }) us)
  by Number = None
  by Distinct = None
  by Equal = None

-- the positive literal of an atom
abbrev pub positively : Term → Literal
positively m = record { positive = true; atom = m }

-- two terms as the sides of an equation
abbrev pub equation : Term → Term → Term
equation l r = terms.app equality (terms.more l (terms.more r terms.none))

-- the sign of an equation, and of its negation
abbrev pub equation_sign : Bool → Token
equation_sign true = mark 61
equation_sign false = not_equal

abbrev pub IsEquationSign : Bool → List Token → Type 0
IsEquationSign positive ts = ts ≡ equation_sign positive ∷ []

-- a literal that does not begin with a tilde
abbrev pub IsStatement : Literal → List Token → Type 0
IsStatement l ts = by l.positive where
  by : Bool → Type 0
  by true = IsAtom l.atom ts
  by false = IsInequation l.atom ts

-- an atom, bare or in round brackets
abbrev pub IsNegated : Term → List Token → Type 0
IsNegated m ts =
    (IsAtom m ts)
    ⊎ ((inner : List Token) × IsAtom m inner × (ts ≡ left_bracket ∷ inner ++ right_bracket ∷ []))

-- ---- formulas
-- literals with bars between them
abbrev pub AreLiterals : List Literal → List Token → Type 0
AreLiterals ls ts = AreSeparated IsLiteral (mark 124) ls ts

-- so many closing brackets
abbrev pub AreClosing : ℕ → List Token → Type 0
AreClosing n ts = ts ≡ replicate n right_bracket

-- ---- clauses
-- a word and a bracket, as items begin
abbrev pub IsOpening : Bytes → List Token → Type 0
IsOpening word ts = ts ≡ lower word ∷ left_bracket ∷ []

-- one token that is a name
abbrev pub IsNameToken : Name → List Token → Type 0
IsNameToken n ts = (t : Token) × IsName n t × (ts ≡ t ∷ [])

-- one token that is a lower word
abbrev pub IsRole : Bytes → List Token → Type 0
IsRole text ts = ts ≡ lower text ∷ []

-- the name and the role of a clause, each before a comma
abbrev pub IsHeading : Name × Bytes → List Token → Type 0
IsHeading h ts = (t : Token) × IsName h.0 t × (ts ≡ t ∷ comma ∷ lower h.1 ∷ comma ∷ [])

-- annotations after their comma, up to and with the closing bracket of the clause
abbrev pub AreAnnotations : List Token → Type 0
AreAnnotations ts =
    (notes : List Token) × (notes ≢ []) × IsTrue (balances notes [])
    × (ts ≡ notes ++ right_bracket ∷ [])

-- what stands after the formula of a clause, up to and with its closing bracket
abbrev pub IsClosed : List Token → Type 0
IsClosed ts = (extra : List Token) × IsExtra extra × (ts ≡ extra ++ right_bracket ∷ [])

-- ---- includes
-- one token that is a text in single quotes
abbrev pub IsFileToken : Bytes → List Token → Type 0
IsFileToken text ts = ts ≡ record { kind = token.Single; text = text } ∷ []

-- names with commas between them
abbrev pub AreNames : List Name → List Token → Type 0
AreNames ns ts = AreSeparated IsNameToken comma ns ts

-- names in square brackets
abbrev pub AreChosen : List Name → List Token → Type 0
AreChosen ns ts = (inner : List Token) × AreNames ns inner × (ts ≡ mark 91 ∷ inner ++ mark 93 ∷ [])

-- a closing bracket and a full stop
abbrev pub AreLast : List Token → Type 0
AreLast ts = ts ≡ right_bracket ∷ full_stop ∷ []

-- the file and the names of an include
abbrev pub IsInclude : Bytes × Selection → List Token → Type 0
IsInclude i ts = IsItem (include_item i.0 i.1) ts
