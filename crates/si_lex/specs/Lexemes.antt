-- What a token that stands in the bytes stands for.
use Rattle.std.specs.Prelude.{List, map}
use Rattle.si_defs.specs.Tokens.{Token}
use Rattle.si_lex.specs.declared.lexeme.Lexeme.{Lexeme}
use Rattle.si_lex.specs.Texts.{text_of}

abbrev pub token_of : Lexeme → Token
token_of l = record { kind = l.kind; text = text_of l.kind l.spelling.now }

abbrev pub tokens_of : List Lexeme → List Token
tokens_of ls = map token_of ls
