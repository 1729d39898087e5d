-- What stands at a place of some bytes: the place after the blanks, and the token there.
use Rattle.std.specs.Prelude.{◌≡◌, ℕ, ◌+◌, ◌<◌, ◌≤◌, length, drop}
use Rattle.std.specs.List.{slice_range}
use Rattle.si_defs.specs.Bytes.{Bytes}
use Rattle.si_defs.specs.Tokens as defs
use Rattle.si_defs.specs.Tokens.{TokenAt, NextToken, AreBlanks}
use Rattle.si_defs.specs.Grammar.{open_behind}
use Rattle.si_defs.specs.Texts.{IsPlace}
use Rattle.si_defs.specs.declared.TheConstants.{DEEPEST_NESTING}
use Rattle.si_defs.specs.declared.TokenKind.{TokenKind}
use Rattle.si_lex.specs.declared.lexeme.Lexeme.{Lexeme}
use Rattle.si_lex.specs.declared.token.Token.{Token}
use Rattle.si_lex.specs.declared.token.Lexed.{Lexed}
use Rattle.si_lex.specs.declared.token.Lexed.TheVariants as lexed
use Rattle.si_lex.specs.Texts.{text_of}
use Rattle.si_lex.specs.Lexemes.{token_of}

-- the place after the longest blanks, or the end where nothing but blanks stands
pub record IsBehindBlanks (bytes : Bytes) (rest : Bytes) (place : ℕ) : Type 0 where
  pub within : place ≤ length bytes
  pub more : place < length bytes → IsPlace rest (drop place bytes)
  pub goes_on : place < length bytes → AreBlanks rest → ⊥
  pub end : place ≡ length bytes → AreBlanks rest

-- no token stands at the front of the bytes
abbrev pub NoTokenAt : Bytes → Type 0
NoTokenAt bytes = (t : defs.Token) (rest : Bytes) → TokenAt bytes t rest → ⊥

-- this is the token at the place
pub record IsLexemeAt (bytes : Bytes) (at : ℕ) (l : Lexeme) : Type 0 where
  pub some : 0 < length l.spelling.now
  pub within : at + length l.spelling.now ≤ length bytes
  pub stands : TokenAt (drop at bytes) (token_of l) (drop (at + length l.spelling.now) bytes)

-- no token stands at the place, where this many brackets are open, but one that nests too deep
abbrev pub NoTokenWithin : Bytes → ℕ → ℕ → Type 0
NoTokenWithin bytes at depth = (t : defs.Token) (rest : Bytes) → TokenAt (drop at bytes) t rest
    → DEEPEST_NESTING < open_behind depth t

-- this is the token at the place, and so many brackets are open after it, which is not too deep
pub record IsLexemeWithin (bytes : Bytes) (at depth : ℕ) (l : Lexeme) (behind : ℕ) : Type 0 where
  pub stands : IsLexemeAt bytes at l
  pub opened : behind ≡ open_behind depth (token_of l)
  pub shallow : behind ≤ DEEPEST_NESTING

-- the token of this kind goes from the place up to this end
pub record IsTokenTo (bytes : Bytes) (at : ℕ) (kind : TokenKind) (end : ℕ) : Type 0 where
  pub some : at < end
  pub within : end ≤ length bytes
  pub stands : TokenAt (drop at bytes)
      (record { kind = kind; text = text_of kind (slice_range bytes at end) }) (drop end bytes)

-- ---- with its text
-- the token after the blanks
pub record IsNextToken (bytes : Bytes) (at : ℕ) (t : Token) : Type 0 where
  pub from : at ≤ t.start
  pub some : t.start < t.end
  pub within : t.end ≤ length bytes
  pub behind : IsPlace (drop at bytes) (drop t.start bytes)
  pub stands : TokenAt (drop t.start bytes) (record { kind = t.kind; text = t.text })
      (drop t.end bytes)
  pub more : AreBlanks (drop at bytes) → ⊥

-- after the longest blanks, at this place, no token stands, and the bytes go on
pub record IsNextBad (bytes : Bytes) (at place : ℕ) : Type 0 where
  pub from : at ≤ place
  pub within : place < length bytes
  pub behind : IsPlace (drop at bytes) (drop place bytes)
  pub none : NoTokenAt (drop place bytes)
  pub more : AreBlanks (drop at bytes) → ⊥

-- what stands after the blanks from a place on
abbrev pub IsNext : Bytes → ℕ → Lexed → Type 0
IsNext bytes at (lexed.Token t) = IsNextToken bytes at t
IsNext bytes at lexed.End = AreBlanks (drop at bytes)
IsNext bytes at (lexed.Bad place) = IsNextBad bytes at place

-- a token stands after the blanks
abbrev pub TokenStands : Bytes → ℕ → Type 0
TokenStands bytes at = (t : defs.Token) × (rest : Bytes) × NextToken (drop at bytes) t rest
