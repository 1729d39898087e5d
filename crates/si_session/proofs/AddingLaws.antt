-- Clauses of lines that are read as those of files.
use Rattle.std.proofs.Common.{◌≡◌, ℕ, ◌∷◌, drop, refl, subst, arith}
use Rattle.si_defs.specs.Bytes.{Bytes}
use Rattle.si_defs.specs.Grammar.{clause_item}
use Rattle.si_defs.specs.Tokens.{lower, AreBlanks, NextToken, TokenAt}
use Rattle.si_steps.specs.Commands.{add, Means}
use Rattle.si_steps.specs.Words.{command_text}
use Rattle.si_steps.specs.declared.word.Word.TheVariants.{Add}
use Rattle.si_lex.specs.Places.{IsNextToken}
use Rattle.si_lex.specs.declared.token.Token as program
use Rattle.si_parse.specs.Reading.{IsItemRead}
use Rattle.si_term.specs.declared.clause.Clause.{Clause}
use Rattle.si_term.specs.Meaning.{clause_of}

-- the word, the clause after it, and nothing but blanks after that
pub added_line : (line : Bytes) (word : program.Token) (c : Clause) (end : ℕ) → IsNextToken line 0 word → record { kind = word.kind; text = word.text } ≡ lower (command_text Add)
    → IsItemRead line word.end (clause_item (clause_of c)) end → AreBlanks (drop end line) → Means (add (clause_of c)) line
added_line line word c end first is item blanks =
    record {
      tokens = lower (command_text Add) ∷ item.begins.tokens;
      consists = record { rest = drop end line; begins = (drop word.end line, next, item.begins.begins); blanks = blanks };
      spelled = record { operands = item.begins.tokens; spelled = item.begins.spelled; whole = refl };
      nested = omega (arith, item.begins.nested);
    } where
      next : NextToken line (lower (command_text Add)) (drop word.end line)
      next =
          record {
            place = drop word.start line;
            skips = first.behind.skips;
            stands = subst (λ t. TokenAt (drop word.start line) t (drop word.end line)) is first.stands;
          }
