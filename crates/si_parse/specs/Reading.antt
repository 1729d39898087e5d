-- What the readers of items, patterns, formulas, names and files give.
use Rattle.std.specs.Prelude.{◌≡◌, ℕ, ◌≤◌, List, [], ◌∷◌, length, drop, Option, Some, None}
use Rattle.si_defs.specs.Bytes.{Bytes}
use Rattle.si_defs.specs.Clauses as clauses
use Rattle.si_defs.specs.Clauses.{IsSoundClause, IsSoundPattern}
use Rattle.si_defs.specs.Tokens.{Token, AreBlanks}
use Rattle.si_defs.specs.Grammar.{Item, clause_item, include_item, left_bracket}
use Rattle.si_defs.specs.Texts.{BeginsWithItem, IsText, IsPatternText, IsFaulty, IsForeign, IsPlace, IsPattern, languages}
use Rattle.si_defs.specs.Substitutions.{IsAmong}
use Rattle.si_defs.specs.declared.TokenKind.TheVariants.{Lower}
use Rattle.si_term.specs.Meaning.{clause_of, pattern_of}
use Rattle.si_term.specs.declared.clause.Pattern.{Pattern}
use Rattle.si_lex.specs.declared.lexing.TokensEnd.{TokensEnd}
use Rattle.si_lex.specs.declared.lexing.TokensEnd.TheVariants.{End}
use Rattle.si_parse.specs.Meaning.{selection_of}
use Rattle.si_parse.specs.declared.item.Read.{Read}
use Rattle.si_parse.specs.declared.item.Read.TheVariants as read
use Rattle.si_parse.specs.declared.pattern.PatternKind.{PatternKind}
use Rattle.si_parse.specs.declared.pattern.PatternKind.TheVariants as kind

-- ---- items
-- the word of another language
abbrev pub IsLanguage : Token → Type 0
IsLanguage t = (t.kind ≡ Lower) × IsAmong languages t.text

-- the word of another language and a bracket are the first two tokens
abbrev pub AreForeign : List Token → Type 0
AreForeign [] = ⊥
AreForeign (t ∷ []) = ⊥
AreForeign (t ∷ u ∷ us) = IsLanguage t × (u ≡ left_bracket)

-- the fault at a place where no item begins, by the tokens after it
abbrev pub IsFaultAt : List Token → ℕ → Read → Type 0
IsFaultAt ts place (read.Language p) = (p ≡ place) × AreForeign ts
IsFaultAt ts place (read.Syntax p) = (p ≡ place) × (AreForeign ts → ⊥)
IsFaultAt ts place result = ⊥

-- what stands where the tokens begin with no item: nothing but blanks, or a fault
abbrev pub IsNoItem : List Token → ℕ → TokensEnd → Read → Type 0
IsNoItem [] start End result = result ≡ read.End
IsNoItem ts start why result = IsFaultAt ts start result

-- the bytes from a place up to an end are this item, and no other item begins there
pub record IsItemRead (bytes : Bytes) (at : ℕ) (item : Item) (end : ℕ) : Type 0 where
  pub from : at ≤ end
  pub within : end ≤ length bytes
  pub begins : BeginsWithItem (drop at bytes) item (drop end bytes)
  pub only : (other : Item) (rest : Bytes) → BeginsWithItem (drop at bytes) other rest
      → (other ≡ item) × (rest ≡ drop end bytes)

-- neither the end nor an item stands after the blanks, and this is the place after them
pub record IsFault (bytes : Bytes) (at place : ℕ) : Type 0 where
  pub from : at ≤ place
  pub within : place ≤ length bytes
  pub faulty : IsFaulty (drop at bytes)
  pub behind : IsPlace (drop at bytes) (drop place bytes)

abbrev pub IsRead : Bytes → ℕ → Read → Type 0
IsRead bytes at (read.Cnf c end) =
    IsItemRead bytes at (clause_item (clause_of c)) end × IsSoundClause (clause_of c)
IsRead bytes at (read.Include file s end) =
    IsItemRead bytes at (include_item file (selection_of s)) end
IsRead bytes at read.End = AreBlanks (drop at bytes)
IsRead bytes at (read.Syntax place) = IsFault bytes at place × (IsForeign (drop at bytes) → ⊥)
IsRead bytes at (read.Language place) = IsFault bytes at place × IsForeign (drop at bytes)

-- ---- whole tokens and whole texts
-- all the tokens spell this, and nothing else
abbrev pub ReadsAll : {X M : Type 0} → (X → M) → (M → List Token → Type 0) → List Token
    → Option X → Type 0
ReadsAll {M = M} view Means ts (Some x) =
    Means (view x) ts × ((other : M) → Means other ts → other ≡ view x)
ReadsAll {M = M} view Means ts None = (m : M) → Means m ts → ⊥

-- the whole bytes are this, and nothing else
abbrev pub ReadsText : {X M : Type 0} → (X → M) → (M → List Token → Type 0) → Bytes
    → Option X → Type 0
ReadsText {M = M} view Means bytes (Some x) =
    IsText (Means (view x)) bytes × ((other : M) → IsText (Means other) bytes → other ≡ view x)
ReadsText {M = M} view Means bytes None = (m : M) → IsText (Means m) bytes → ⊥

-- ---- patterns
-- a pattern of the kind that was asked for
abbrev pub IsOfKind : PatternKind → clauses.Pattern → Type 0
IsOfKind kind.Lit (clauses.literal_pattern l) = Unit {0}
IsOfKind kind.Lit (clauses.term_pattern t) = ⊥
IsOfKind kind.Term (clauses.literal_pattern l) = ⊥
IsOfKind kind.Term (clauses.term_pattern t) = Unit {0}

-- all the tokens spell this pattern, and no other one of this kind
pub record IsWholePattern (ts : List Token) (kind : PatternKind)
    (p : clauses.Pattern) : Type 0 where
  pub of_kind : IsOfKind kind p
  pub spelled : IsPattern p ts
  pub only : (other : clauses.Pattern) → IsOfKind kind other → IsPattern other ts → other ≡ p
  pub sound : IsSoundPattern p

abbrev pub ReadsWhole : List Token → PatternKind → Option Pattern → Type 0
ReadsWhole ts kind (Some p) = IsWholePattern ts kind (pattern_of p)
ReadsWhole ts kind None = (p : clauses.Pattern) → IsOfKind kind p → IsPattern p ts → ⊥

-- the whole bytes are this pattern, and no other one of this kind
pub record IsPatternRead (bytes : Bytes) (kind : PatternKind) (p : clauses.Pattern) : Type 0 where
  pub of_kind : IsOfKind kind p
  pub text : IsPatternText p bytes
  pub only : (other : clauses.Pattern) → IsOfKind kind other → IsPatternText other bytes → other ≡ p
  pub sound : IsSoundPattern p

abbrev pub ReadsPattern : Bytes → PatternKind → Option Pattern → Type 0
ReadsPattern bytes kind (Some p) = IsPatternRead bytes kind (pattern_of p)
ReadsPattern bytes kind None = (p : clauses.Pattern) → IsOfKind kind p → IsPatternText p bytes → ⊥
