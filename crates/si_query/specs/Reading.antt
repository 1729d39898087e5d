-- What readers give that write cells as they read tokens. What was read is in si_parse's words, and
-- what was written in si_flat's.
use Rattle.std.specs.Prelude.{◌≡◌, ◌⊎◌, ℕ, ◌+◌, ◌^◌, ◌<◌, ◌≤◌, Bool, false, List, length, Some}
use Rattle.std.specs.List.{AllByRecursion}
use Rattle.si_defs.specs.Bytes.{Bytes}
use Rattle.si_defs.specs.Terms as terms
use Rattle.si_defs.specs.Symbols.{Numbering}
use Rattle.si_defs.specs.Clauses as clauses
use Rattle.si_defs.specs.Tokens.{Token, mark}
use Rattle.si_defs.specs.Grammar.{IsTerm, IsAtom, IsLiteral, IsHead}
use Rattle.si_defs.specs.declared.SymKind.{SymKind}
use Rattle.si_defs.specs.declared.Side.TheVariants.{Predicate}
use Rattle.si_defs.specs.declared.TokenKind.{TokenKind}
use Rattle.si_defs.specs.declared.TokenKind.TheVariants.{NotEqual}
use Rattle.si_defs.specs.declared.TheConstants.{MOST_BYTES}
use Rattle.si_lex.specs.Lexemes.{token_of, tokens_of}
use Rattle.si_lex.specs.declared.lexeme.Lexeme.{Lexeme}
use Rattle.si_parse.specs.GrammarRules.{AreTerms, IsApplied, IsNegated, IsStatement, as_atom, function_symbol}
use Rattle.si_parse.specs.Parsing.{ReadsTokens, NoBracket, NoEquation, NoTerm}
use Rattle.si_parse.specs.Reading.{IsWholePattern}
use Rattle.si_parse.specs.declared.pattern.PatternKind.{PatternKind}
use Rattle.si_parse.specs.declared.pattern.PatternKind.TheVariants.{Lit, Term}
use Rattle.si_flat.specs.declared.Owner.TheVariants.{Query}
use Rattle.si_flat.specs.declared.flatten.FlatQuery.{FlatQuery}
use Rattle.si_flat.specs.Flattened.{FlattensPattern}
use Rattle.si_flat.specs.Flattening.{WalkState, entry_scheme, term_piece, terms_piece, Flattens}
use Rattle.si_flat.specs.Writing.{WritesPiece}

-- the flat term of the pattern that all the tokens spell
abbrev pub ReadsFlat : Numbering → List Token → PatternKind → FlatQuery → Type 0
ReadsFlat pairs ts kind q =
    (p : clauses.Pattern) × IsWholePattern ts kind p × FlattensPattern pairs p q

-- ---- how many more may be numbered
-- There are numbers for a cell and a name for each token, and for so many cells more.
pub record HasNumbersFor (more : ℕ) (tokens : List Lexeme) (w : WalkState) : Type 0 where
  pub names : length w.names + length tokens ≤ MOST_BYTES
  pub cells : length w.cells + (length tokens + more) ≤ 2 ^ 30

-- no more was written than tokens were read, but for so many cells
pub record Spends (more : ℕ) (tokens rest : List Lexeme) (old new : WalkState) : Type 0 where
  pub names : length new.names + length rest ≤ length old.names + length tokens
  pub cells : length new.cells + length rest ≤ length old.cells + (length tokens + more)

-- ---- terms
-- One term was read and written. Its cells are the same by itself and in every literal.
pub record ReadsTerm (pairs : Numbering) (tokens : List Lexeme) (old new : WalkState)
    (rest : List Lexeme) : Type 0 where
  pub term : clauses.Term
  pub read : ReadsTokens IsTerm NoBracket (tokens_of tokens) (Some (term, tokens_of rest))
  pub flat : WritesPiece pairs old new (term_piece term)
  pub fewer : length rest < length tokens
  pub spends : Spends 0 tokens rest old new

-- the same of tokens after a head
pub record ReadsHeaded (pairs : Numbering) (kind : SymKind) (text : Bytes) (tokens : List Lexeme)
    (old new : WalkState) (rest : List Lexeme) : Type 0 where
  pub term : clauses.Term
  pub read : ReadsTokens (IsApplied kind text) NoBracket (tokens_of tokens)
      (Some (term, tokens_of rest))
  pub flat : WritesPiece pairs old new (term_piece term)
  pub fewer : length rest ≤ length tokens
  pub spends : Spends 1 tokens rest old new

-- a symbol that takes no arguments was written
pub record WritesConstant (pairs : Numbering) (kind : SymKind) (text : Bytes)
    (tokens : List Lexeme) (old new : WalkState) (rest : List Lexeme) : Type 0 where
  pub left : rest ≡ tokens
  pub flat : WritesPiece pairs old new
      (term_piece (terms.app (function_symbol kind text 0) terms.none))
  pub spends : Spends 1 tokens rest old new

-- so many arguments were read and written, whatever their head is
pub record ReadsApplied (pairs : Numbering) (tokens : List Lexeme) (old new : WalkState)
    (arity : ℕ) (rest : List Lexeme) : Type 0 where
  pub arguments : clauses.Terms
  pub read : (kind : SymKind) (text : Bytes)
      → ReadsTokens (IsApplied kind text) NoBracket (tokens_of tokens)
      (Some (terms.app (function_symbol kind text arity) arguments, tokens_of rest))
  pub flat : WritesPiece pairs old new (terms_piece arguments)
  pub fewer : length rest ≤ length tokens
  pub spends : Spends 0 tokens rest old new

-- so many terms with commas between them
pub record ReadsArguments (pairs : Numbering) (tokens : List Lexeme) (old new : WalkState)
    (count : ℕ) (rest : List Lexeme) : Type 0 where
  pub arguments : List clauses.Term
  pub read : ReadsTokens AreTerms NoTerm (tokens_of tokens) (Some (arguments, tokens_of rest))
  pub counted : count ≡ length arguments
  pub flat : WritesPiece pairs old new (terms_piece (terms.row arguments))
  pub fewer : length rest < length tokens
  pub spends : Spends 0 tokens rest old new

-- a token of one kind is the head of a symbol of the other, and the symbol may be a predicate
pub record IsHeadKind (kind : TokenKind) (symbol : SymKind) : Type 0 where
  pub head : (text : Bytes) → IsHead symbol text (record { kind = kind; text = text })
  pub atom : (text : Bytes) (arity : ℕ) (us : clauses.Terms)
      → as_atom (terms.app (function_symbol symbol text arity) us)
      ≡ Some (terms.app (record { kind = symbol; text = text; side = Predicate; arity = arity }) us)

-- ---- literals
-- the token is `=`, or of the kind of `!=`
abbrev pub MayBeEquationSign : Token → Type 0
MayBeEquationSign t = (t ≡ mark 61) ⊎ (t.kind ≡ NotEqual)

-- none of these tokens is such a sign
abbrev pub HasNoEquationSign : List Lexeme → Type 0
HasNoEquationSign tokens = AllByRecursion (λ l. MayBeEquationSign (token_of l) → ⊥) tokens

-- what has this meaning was read, and its atom was written as that of a literal with its sign
pub record ReadsSigned {M : Type 0} (Means : M → List Token → Type 0) (positive : M → Bool)
    (atom : M → clauses.Term) (pairs : Numbering) (tokens : List Lexeme) (old new : WalkState)
    (rest : List Lexeme) : Type 0 where
  pub meant : M
  pub read : ReadsTokens Means NoEquation (tokens_of tokens) (Some (meant, tokens_of rest))
  pub flat : Flattens pairs (entry_scheme Query (positive meant)) old new (term_piece (atom meant))

abbrev pub ReadsLiteral : Numbering → List Lexeme → WalkState → WalkState → List Lexeme → Type 0
ReadsLiteral = ReadsSigned IsLiteral (λ (l : clauses.Literal). l.positive) (λ l. l.atom)

-- atoms of negative literals
abbrev pub ReadsAtom : Numbering → List Lexeme → WalkState → WalkState → List Lexeme → Type 0
ReadsAtom = ReadsSigned IsAtom (λ m. false) (λ m. m)

abbrev pub ReadsNegated : Numbering → List Lexeme → WalkState → WalkState → List Lexeme → Type 0
ReadsNegated = ReadsSigned IsNegated (λ m. false) (λ m. m)

-- a literal without a tilde: what it says by its sign, and its atom
abbrev pub statement : Bool → clauses.Term → clauses.Literal
statement equal m = record { positive = equal; atom = m }

-- It was read, and its atom was written as that of a literal with this sign.
pub record ReadsStatement (pairs : Numbering) (equal positive : Bool) (tokens : List Lexeme)
    (old new : WalkState) (rest : List Lexeme) : Type 0 where
  pub atom : clauses.Term
  pub read : ReadsTokens IsStatement NoEquation (tokens_of tokens)
      (Some (statement equal atom, tokens_of rest))
  pub flat : Flattens pairs (entry_scheme Query positive) old new (term_piece atom)

-- ---- patterns
abbrev pub ReadsByKind : PatternKind → Numbering → List Lexeme → WalkState → WalkState
    → List Lexeme → Type 0
ReadsByKind Lit = ReadsLiteral
ReadsByKind Term = ReadsTerm
