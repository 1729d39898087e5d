-- Annotations that are left out of the tokens of an item.
use Rattle.std.specs.Prelude.{◌≡◌, ◌≢◌, ℕ, zero, suc, ◌≤◌, ◌⊎◌, List, [], ◌∷◌, ◌++◌, length, drop, codes, IsTrue, Bool, true, false}
use Rattle.si_defs.specs.Bytes.{Bytes}
use Rattle.si_defs.specs.Tokens.{Token, NextToken, Begins, lower}
use Rattle.si_defs.specs.Grammar.{balances, open_behind, nesting_from, comma, right_bracket}
use Rattle.si_defs.specs.declared.TheConstants.{DEEPEST_NESTING}
use Rattle.si_lex.specs.declared.lexeme.Lexeme.{Lexeme}
use Rattle.si_lex.specs.declared.lexing.Lexing.{Lexing}
use Rattle.si_lex.specs.FullStops.{HasNoFullStop, depth_from}
use Rattle.si_lex.specs.Lexemes.{token_of, tokens_of}
use Rattle.si_lex.specs.Lexing.{AreItemTokens, IsLexing}

-- ---- tokens
-- this token is a comma, and one bracket is open before it
abbrev pub IsComma : ℕ → Token → Type 0
IsComma depth t = (depth ≡ 1) × (t ≡ comma)

-- no such comma stands after so many tokens, where this many brackets are open before them
abbrev pub HasNoComma : ℕ → ℕ → List Token → Type 0
HasNoComma n depth [] = Unit {0}
HasNoComma zero depth (t ∷ ts) =
    (IsComma depth t → ⊥) × HasNoComma zero (open_behind depth t) ts
HasNoComma (suc n) depth (t ∷ ts) = HasNoComma n (open_behind depth t) ts

-- the first token is the word that begins a clause
abbrev pub BeginsClause : List Token → Type 0
BeginsClause [] = ⊥
BeginsClause (t ∷ ts) = t ≡ lower (codes "cnf")

-- These are the tokens but for annotations and the comma before them. That comma is the first
-- inside one bracket after `cnf(name,role,`, since commas of a formula stand deeper.
pub record LeavesOut (ts left : List Token) : Type 0 where
  pub front : List Token
  pub notes : List Token
  pub rest : List Token
  pub word : BeginsClause front
  pub long : 6 ≤ length front
  pub depth : depth_from 0 front ≡ 1
  pub no_comma : HasNoComma 6 0 front
  pub no_stop : HasNoFullStop 0 front
  pub some : notes ≢ []
  pub balanced : IsTrue (balances notes [])
  pub whole : ts ≡ front ++ comma ∷ notes ++ right_bracket ∷ rest
  pub without : left ≡ front ++ right_bracket ∷ rest

-- the tokens of one item, all of them or without annotations
pub record IsBriefLexing (bytes : Bytes) (at : ℕ) (l : Lexing) : Type 0 where
  pub all : List Lexeme
  pub read : AreItemTokens bytes at all l.start l.end l.why
  pub brief : (all ≡ l.tokens.items) ⊎ LeavesOut (tokens_of all) (tokens_of l.tokens.items)

-- all tokens, or those of one item
abbrev pub IsBriefUpTo : Bool → Bytes → ℕ → Lexing → Type 0
IsBriefUpTo true bytes at l = IsBriefLexing bytes at l
IsBriefUpTo false bytes at l = IsLexing bytes at l

-- ---- places
-- After the place stand annotations and the bracket that closes the clause, which ends here.
pub record IsPastAnnotations (bytes : Bytes) (at : ℕ) (bracket : Lexeme) (end : ℕ) : Type 0 where
  pub notes : List Lexeme
  pub rest : Bytes
  pub begins : Begins (drop at bytes) (tokens_of notes) rest
  pub some : tokens_of notes ≢ []
  pub balanced : IsTrue (balances (tokens_of notes) [])
  pub nested : nesting_from 1 (tokens_of notes) ≤ DEEPEST_NESTING
  pub depth : depth_from 1 (tokens_of notes) ≡ 1
  pub no_stop : HasNoFullStop 1 (tokens_of notes)
  pub closes : token_of bracket ≡ right_bracket
  pub next : NextToken rest (token_of bracket) (drop end bytes)
  pub onward : at ≤ end
  pub within : end ≤ length bytes
