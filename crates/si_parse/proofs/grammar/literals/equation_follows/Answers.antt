use Rattle.std.proofs.Common.{Bor, List, Bool, Option, None, Some, refl, sym, subst}
use Rattle.std.specs.Prelude.{IsFalse}
use Rattle.std.specs.Option.{is_some}
use Rattle.std.proofs.lemmas.Bool.{false≢true}
use Rattle.si_lex.specs.Lexemes.{tokens_of}
use Rattle.si_lex.specs.declared.lexeme.Lexeme.{Lexeme}
use Rattle.si_parse.specs.GrammarRules.{IsEquationSign}
use Rattle.si_parse.specs.Parsing.{Anything, NoBracket, NoEquation, Reads}
use Rattle.si_parse.proofs.GrammarLiterals.{no_equation-none, equation_sign_refused}
use Rattle.si_parse.proofs.grammar.literals.equation_follows.Goals as goal

by : (tokens : List Lexeme) (found : Option (Bool × Bor (List Lexeme))) → NoBracket (tokens_of tokens) → Reads (λ b. b) IsEquationSign Anything tokens found
    → (IsFalse (is_some found) → NoEquation (tokens_of tokens)) × (NoEquation (tokens_of tokens) → IsFalse (is_some found))
by tokens None bare p = (λ h. no_equation-none (tokens_of tokens) bare p, λ h. refl)
by tokens (Some (positive, rest)) bare p = (λ h. absurd (false≢true (sym h)), λ h. absurd (equation_sign_refused p h))

pub returns-else-bracket_follows : goal.returns-else-bracket_follows
returns-else-bracket_follows c =
    subst (λ b. (IsFalse b → NoEquation (tokens_of c.args.tokens.now)) × (NoEquation (tokens_of c.args.tokens.now) → IsFalse b)) (sym c.is_some.ensures)
    (by c.args.tokens.now c.equation_sign.result (c.bracket_follows.ensures.0 c.if-bracket_follows.false) c.equation_sign.ensures)
