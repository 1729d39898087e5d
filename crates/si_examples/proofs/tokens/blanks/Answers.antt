use Rattle.std.proofs.Common.{[], ◌∷◌, codes, refl, inl, inr}
use Rattle.si_defs.specs.Tokens.{lower, white, block_comment}
use Rattle.si_defs.specs.declared.TokenKind.TheVariants.{Lower}
use Rattle.si_lex.proofs.TokenLaws.{blanks_none}
use Rattle.si_examples.proofs.Pieces.{next}
use Rattle.si_examples.proofs.OpenComments.{open_comment}
use Rattle.si_examples.proofs.tokens.blanks.Goals as goal

pub returns-clause-shortest_comment : goal.returns-clause-shortest_comment
returns-clause-shortest_comment c = record {
  rest = [];
  skips = record { blanks = codes "/**/" ∷ []; each = (block_comment ([], refl, refl), tt); whole = refl };
  ends = inl refl;
}

pub returns-clause-unclosed_comment : goal.returns-clause-unclosed_comment
returns-clause-unclosed_comment c = open_comment (codes "/") refl

pub returns-clause-last_line_comment : goal.returns-clause-last_line_comment
returns-clause-last_line_comment c = record {
  rest = codes "% p";
  skips = record { blanks = codes " " ∷ []; each = (white 32 refl refl, tt); whole = refl };
  ends = inr (codes " p", refl, refl);
}

pub returns-clause-word_is_no_blank : goal.returns-clause-word_is_no_blank
returns-clause-word_is_no_blank c = λ b. blanks_none (codes "p") b (lower (codes "p")) [] (next Lower (codes "p") [] refl)
