use Rattle.std.proofs.Common.{Bor, List, Option, None, Some, refl, sym, subst}
use Rattle.std.specs.Prelude.{IsFalse}
use Rattle.std.specs.Option.{is_some}
use Rattle.std.proofs.lemmas.Bool.{false≢true}
use Rattle.si_lex.specs.Lexemes.{tokens_of}
use Rattle.si_lex.specs.declared.lexeme.Lexeme.{Lexeme}
use Rattle.si_parse.specs.GrammarRules.{IsMark}
use Rattle.si_parse.specs.Parsing.{NoBracket, PassesTokens}
use Rattle.si_parse.proofs.ParseReads.{mark_front, mark_none}
use Rattle.si_parse.proofs.GrammarTerms.{no_bracket-none, opens}
use Rattle.si_parse.proofs.grammar.bracket_follows.Goals as goal

by : (tokens : List Lexeme) (found : Option (Bor (List Lexeme))) → PassesTokens (IsMark 40) tokens found
    → (IsFalse (is_some found) → NoBracket (tokens_of tokens)) × (NoBracket (tokens_of tokens) → IsFalse (is_some found))
by tokens None p = (λ h. no_bracket-none (tokens_of tokens) (mark_none p), λ h. refl)
by tokens (Some r) p = (λ h. absurd (false≢true (sym h)), λ h. absurd (opens (tokens_of tokens) (tokens_of r.now) h (mark_front p)))

pub returns : goal.returns
returns c =
    subst (λ b. (IsFalse b → NoBracket (tokens_of c.args.tokens.now)) × (NoBracket (tokens_of c.args.tokens.now) → IsFalse b)) (sym c.is_some.ensures)
    (by c.args.tokens.now c.mark_at.result c.mark_at.ensures)
