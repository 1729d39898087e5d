-- What was read of all tokens of some bytes is the pattern that the bytes are.
use Rattle.std.proofs.Common.{◌≡◌, List, [], ap, sym, subst}
use Rattle.std.specs.Prelude.{Option, Some, None}
use Rattle.std.specs.Borrow.{Bor}
use Rattle.si_defs.specs.Bytes.{Bytes}
use Rattle.si_defs.specs.Clauses as clauses
use Rattle.si_defs.specs.Clauses.{literal_pattern, term_pattern, IsSoundPattern}
use Rattle.si_defs.specs.Grammar.{IsLiteral, IsTerm}
use Rattle.si_defs.specs.Texts.{IsPattern, IsPatternText}
use Rattle.si_term.specs.Terms.{term_of}
use Rattle.si_term.specs.Meaning.{literal_of}
use Rattle.si_term.specs.declared.clause.Pattern.{Pattern}
use Rattle.si_term.specs.declared.clause.Literal as program
use Rattle.si_term.specs.declared.term.Term as program_term
use Rattle.si_lex.specs.Lexemes.{tokens_of}
use Rattle.si_lex.specs.Lexing.{IsLexing}
use Rattle.si_parse.specs.Parsing.{NoBracket, NoEquation, Reads, ReadsTokens}
use Rattle.si_parse.proofs.ParseWhole.{whole_means, whole_only, whole_none}
use Rattle.si_parse.specs.Reading.{IsOfKind, ReadsPattern, IsWholePattern, ReadsWhole}
use Rattle.si_lex.specs.declared.lexeme.Lexeme.{Lexeme}
use Rattle.si_lex.specs.declared.lexing.Lexing.{Lexing}
use Rattle.si_lex.specs.declared.lexing.TokensEnd.TheVariants.{End}
use Rattle.si_parse.specs.declared.pattern.PatternKind.{PatternKind}
use Rattle.si_parse.specs.declared.pattern.PatternKind.TheVariants as kind

-- ---- tokens
-- a literal with nothing left is what all the tokens spell
pub literal_whole : (tokens : List Lexeme) (l : clauses.Literal) (r : Bor (List Lexeme)) → r.now ≡ [] → ReadsTokens IsLiteral NoEquation (tokens_of tokens) (Some (l, tokens_of r.now))
    → IsSoundPattern (literal_pattern l) → IsWholePattern (tokens_of tokens) kind.Lit (literal_pattern l)
literal_whole tokens l r none p sound =
    record {
      of_kind = tt;
      spelled = whole_means (λ (x : clauses.Literal). x) tokens tt l r none p;
      only = λ other k o. by other k o;
      sound = sound;
    } where
      by : (other : clauses.Pattern) → IsOfKind kind.Lit other → IsPattern other (tokens_of tokens) → other ≡ literal_pattern l
      by (literal_pattern m) k o = ap literal_pattern (whole_only (λ (x : clauses.Literal). x) tokens tt l r p m o)
      by (term_pattern t) k o = absurd k

-- where something is left, or nothing was found, the tokens spell no literal
pub literal_left : (tokens : List Lexeme) (found : Option (program.Literal × Bor (List Lexeme))) → Reads literal_of IsLiteral NoEquation tokens found
    → ((l : program.Literal) (r : Bor (List Lexeme)) → found ≡ Some (l, r) → r.now ≡ [] → ⊥) → (p : clauses.Pattern) → IsOfKind kind.Lit p → IsPattern p (tokens_of tokens) → ⊥
literal_left tokens found p left (literal_pattern m) k o = whole_none literal_of tokens tt found p left m o
literal_left tokens found p left (term_pattern t) k o = k

-- the same of terms
pub term_whole : (tokens : List Lexeme) (t : clauses.Term) (r : Bor (List Lexeme)) → r.now ≡ [] → ReadsTokens IsTerm NoBracket (tokens_of tokens) (Some (t, tokens_of r.now))
    → IsSoundPattern (term_pattern t) → IsWholePattern (tokens_of tokens) kind.Term (term_pattern t)
term_whole tokens t r none p sound =
    record {
      of_kind = tt;
      spelled = whole_means (λ (x : clauses.Term). x) tokens tt t r none p;
      only = λ other k o. by other k o;
      sound = sound;
    } where
      by : (other : clauses.Pattern) → IsOfKind kind.Term other → IsPattern other (tokens_of tokens) → other ≡ term_pattern t
      by (term_pattern m) k o = ap term_pattern (whole_only (λ (x : clauses.Term). x) tokens tt t r p m o)
      by (literal_pattern l) k o = absurd k

pub term_left : (tokens : List Lexeme) (found : Option (program_term.Term × Bor (List Lexeme))) → Reads term_of IsTerm NoBracket tokens found
    → ((t : program_term.Term) (r : Bor (List Lexeme)) → found ≡ Some (t, r) → r.now ≡ [] → ⊥) → (p : clauses.Pattern) → IsOfKind kind.Term p → IsPattern p (tokens_of tokens) → ⊥
term_left tokens found p left (term_pattern m) k o = whole_none term_of tokens tt found p left m o
term_left tokens found p left (literal_pattern l) k o = k

-- ---- bytes
module _ (bytes : Bytes) (k : PatternKind) (l : Lexing) (h : IsLexing bytes 0 l) where
  -- what the bytes are is spelled by all the tokens
  pattern_all : (p : clauses.Pattern) → IsPatternText p bytes → IsPattern p (tokens_of l.tokens.items)
  pattern_all p t = subst (IsPattern p) (sym (h.whole t.tokens t.consists t.nested).1) t.spelled

  -- where the tokens end with the bytes, what they spell is what the bytes are
  pub whole_read : l.why ≡ End → (result : Option Pattern) → ReadsWhole (tokens_of l.tokens.items) k result → ReadsPattern bytes k result
  whole_read e (Some p) w = record {
    of_kind = w.of_kind;
    text = record {
      tokens = tokens_of l.tokens.items;
      consists = record { rest = h.rest; begins = h.read.begins; blanks = h.read.blanks e };
      spelled = w.spelled;
      nested = h.read.nested;
    };
    only = λ other o t. w.only other o (pattern_all other t);
    sound = w.sound;
  }
  whole_read e None w = λ p o t. w p o (pattern_all p t)

  -- where they do not, the bytes are no pattern
  pub stopped_read : (l.why ≡ End → ⊥) → ReadsPattern bytes k None
  stopped_read e = λ p o t. e (h.whole t.tokens t.consists t.nested).0
