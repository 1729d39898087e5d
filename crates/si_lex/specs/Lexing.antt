-- The tokens from a place of some bytes on: as many as there are, or those of one item.
use Rattle.std.specs.Prelude.{◌≡◌, ℕ, ◌≤◌, Bool, true, false, List, ◌++◌, length, drop}
use Rattle.si_defs.specs.Bytes.{Bytes}
use Rattle.si_defs.specs.Tokens.{Token, Begins, Consists, AreBlanks}
use Rattle.si_defs.specs.Grammar.{nesting}
use Rattle.si_defs.specs.declared.TheConstants.{DEEPEST_NESTING}
use Rattle.si_lex.specs.declared.lexing.Lexing.{Lexing}
use Rattle.si_lex.specs.declared.lexeme.Lexeme.{Lexeme}
use Rattle.si_lex.specs.declared.lexing.TokensEnd.{TokensEnd}
use Rattle.si_lex.specs.declared.lexing.TokensEnd.TheVariants.{End, Bad, FullStop}
use Rattle.si_lex.specs.Lexemes.{tokens_of}
use Rattle.si_lex.specs.Places.{IsBehindBlanks}
use Rattle.si_lex.specs.FullStops.{HasNoFullStop, GoesToFullStop, EndsAtFullStop}

-- What was read, whichever tokens are wanted, and why they end: `start` is the place after the
-- longest blanks, and so is `end` after what was read, but where a full stop ends it.
pub record IsLexed (bytes : Bytes) (at : ℕ) (tokens : List Lexeme) (start end : ℕ)
    (why : TokensEnd) (rest : Bytes) : Type 0 where
  pub from : at ≤ start
  pub onward : start ≤ end
  pub within : end ≤ length bytes
  pub first : IsBehindBlanks bytes (drop at bytes) start
  pub begins : Begins (drop at bytes) (tokens_of tokens) rest
  pub nested : nesting (tokens_of tokens) ≤ DEEPEST_NESTING
  pub behind : (why ≡ FullStop → ⊥) → IsBehindBlanks bytes rest end
  -- at the end nothing but blanks was left
  pub ended : why ≡ End → end ≡ length bytes
  pub blanks : why ≡ End → AreBlanks rest
  -- at a bad place more than blanks is left
  pub bad : why ≡ Bad → AreBlanks rest → ⊥
  -- without tokens, it says whether anything but blanks stands there
  pub faulty : (why ≡ End → ⊥) → AreBlanks (drop at bytes) → ⊥

-- All tokens, up to the first place where none stands or where brackets would nest too deep.
pub record AreAllTokens (bytes : Bytes) (at : ℕ) (tokens : List Lexeme) (start end : ℕ)
    (why : TokensEnd) : Type 0 where
  -- what stands after the last token
  pub rest : Bytes
  pub read : IsLexed bytes at tokens start end why rest
  pub no_stop : why ≡ FullStop → ⊥
  -- whatever tokens the bytes begin with, nested no deeper, they are the first of these
  pub every : (ts : List Token) (behind : Bytes) → Begins (drop at bytes) ts behind
      → nesting ts ≤ DEEPEST_NESTING
      → (others : List Token) × (tokens_of tokens ≡ ts ++ others)
  -- and whatever tokens the bytes consist of, nested no deeper, these are they
  pub whole : (ts : List Token) → Consists (drop at bytes) ts → nesting ts ≤ DEEPEST_NESTING
      → (why ≡ End) × (tokens_of tokens ≡ ts)

-- The tokens up to the first full stop outside brackets, if one comes before such a place.
pub record AreItemTokens (bytes : Bytes) (at : ℕ) (tokens : List Lexeme) (start end : ℕ)
    (why : TokensEnd) : Type 0 where
  pub rest : Bytes
  pub read : IsLexed bytes at tokens start end why rest
  -- after a full stop nothing was read
  pub stop : why ≡ FullStop → EndsAtFullStop 0 (tokens_of tokens) × (rest ≡ drop end bytes)
  pub no_stop : (why ≡ FullStop → ⊥) → HasNoFullStop 0 (tokens_of tokens)
  -- whatever tokens the bytes begin with, nested no deeper and up to a full stop at most, they are
  -- the first of these
  pub every : (ts : List Token) (behind : Bytes) → Begins (drop at bytes) ts behind
      → nesting ts ≤ DEEPEST_NESTING → GoesToFullStop 0 ts
      → (others : List Token) × (tokens_of tokens ≡ ts ++ others)

-- the one or the other
abbrev pub AreTokensUpTo : Bool → Bytes → ℕ → List Lexeme → ℕ → ℕ → TokensEnd → Type 0
AreTokensUpTo true bytes at tokens start end why = AreItemTokens bytes at tokens start end why
AreTokensUpTo false bytes at tokens start end why = AreAllTokens bytes at tokens start end why

-- all tokens are listed
abbrev pub IsLexing : Bytes → ℕ → Lexing → Type 0
IsLexing bytes at l = AreAllTokens bytes at l.tokens.items l.start l.end l.why
