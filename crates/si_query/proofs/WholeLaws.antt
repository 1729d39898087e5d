-- What is read with nothing left after it is the one pattern that all the tokens spell.
use Rattle.std.proofs.Common.{◌≡◌, ◌≤◌, List, [], length, true}
use Rattle.std.specs.Borrow.{Bor}
use Rattle.si_defs.specs.Symbols.{Numbering}
use Rattle.si_defs.specs.Clauses.{Pattern, literal_pattern, term_pattern, IsSoundPattern}
use Rattle.si_defs.specs.declared.TheConstants.{MOST_BYTES}
use Rattle.si_lex.specs.Lexemes.{tokens_of}
use Rattle.si_lex.specs.declared.lexeme.Lexeme.{Lexeme}
use Rattle.si_parse.specs.Reading.{IsWholePattern}
use Rattle.si_parse.specs.declared.pattern.PatternKind.{PatternKind}
use Rattle.si_parse.specs.declared.pattern.PatternKind.TheVariants as kind
use Rattle.si_parse.proofs.GrammarSound.{parsed_has, found_term, found_literal}
use Rattle.si_parse.proofs.PatternLaws.{literal_whole, term_whole}
use Rattle.si_flat.specs.Flattening.{WalkState, empty_walk, WritesPattern}
use Rattle.si_query.specs.Reading.{ReadsByKind}

module _ (tokens : List Lexeme) (few : length tokens ≤ MOST_BYTES) (r : Bor (List Lexeme)) (none : r.now ≡ []) (pairs : Numbering) (w : WalkState) where
  pub pattern_read : (k : PatternKind) → ReadsByKind k pairs tokens empty_walk w r.now → (p : Pattern) × IsWholePattern (tokens_of tokens) k p × WritesPattern pairs p w
  pattern_read kind.Lit h =
      let sound = parsed_has (λ x. IsSoundPattern (literal_pattern x)) tokens (found_literal tokens few) h.meant (tokens_of r.now) h.read in
      (literal_pattern h.meant, literal_whole tokens h.meant r none h.read sound, h.flat)
  pattern_read kind.Term h =
      let sound = parsed_has (λ x. IsSoundPattern (term_pattern x)) tokens (found_term tokens few) h.term (tokens_of r.now) h.read in
      (term_pattern h.term, term_whole tokens h.term r none h.read sound, h.flat true)
