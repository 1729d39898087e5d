-- Queries that are made flat as their lines are read.
use Rattle.std.proofs.Common.{◌≡◌, Bool, List, ◌∷◌}
use Rattle.si_defs.specs.Bytes.{Bytes}
use Rattle.si_defs.specs.Symbols.{Numbering}
use Rattle.si_defs.specs.Tokens.{Token, lower}
use Rattle.si_defs.specs.declared.Relation.{Relation}
use Rattle.si_steps.specs.Commands.{explain}
use Rattle.si_steps.specs.Words.{command_text, relation_text}
use Rattle.si_steps.specs.declared.word.Word.TheVariants.{Explain}
use Rattle.si_lex.specs.declared.lexing.Lexing.{Lexing}
use Rattle.si_lex.specs.declared.lexing.TokensEnd.TheVariants.{End}
use Rattle.si_lex.specs.Lexemes.{tokens_of}
use Rattle.si_lex.specs.Lexing.{IsLexing}
use Rattle.si_parse.specs.declared.pattern.PatternKind.{PatternKind}
use Rattle.si_flat.specs.declared.flatten.FlatQuery.{FlatQuery}
use Rattle.si_query.specs.Reading.{ReadsFlat}
use Rattle.si_index.specs.Kept.{Kept}
use Rattle.si_index.specs.Explaining.{ExplainsFlat, IsQueryOf, IsSomeQuery}
use Rattle.si_index.specs.declared.explain.Explained.{Explained}
use Rattle.si_index.proofs.CountLaws.{is_query}
use Rattle.si_session.specs.Commands.{kind_word}
use Rattle.si_session.specs.Explained.{AsksForLiterals, IsExplained}
use Rattle.si_session.proofs.CommandLaws.{explains_query, line_performs}

module _ (k : Kept) (numbers : Numbering) (same : numbers ≡ k.numbers) (ts : List Token) (kind : PatternKind) (literal : Bool) (asks : AsksForLiterals kind literal) (q : FlatQuery) (read : ReadsFlat numbers ts kind q) where
  -- what was read is the query of the pattern that the tokens spell
  is_read : IsQueryOf k literal q read.0
  is_read = is_query k numbers literal q read.0 read.1.sound (asks read.0 read.1.of_kind) same read.2

  pub some_query : IsSomeQuery k literal q
  some_query = (read.0, is_read)

  -- and what is reported of that query is reported of the line
  pub explained_line : (line : Bytes) (x : Lexing) (l : IsLexing line 0 x) (r : Relation) (e : Explained) → x.why ≡ End
      → tokens_of x.tokens.items ≡ lower (command_text Explain) ∷ lower (relation_text r) ∷ lower (kind_word kind) ∷ ts → ExplainsFlat k r literal q e → IsExplained k line e
  explained_line line x l r e end these reported =
      (r, read.0, line_performs line x l (explain r read.0) end (explains_query (tokens_of x.tokens.items) ts r kind read.0 these read.1), reported read.0 is_read)
