use Rattle.std.proofs.Common.{sym, ◌∙◌}
use Rattle.std.proofs.lemmas.Bool.{false≢true}
use Rattle.si_defs.specs.Clauses.{IsSoundPattern, literal_pattern}
use Rattle.si_term.specs.Meaning.{literal_of}
use Rattle.si_parse.proofs.ParseSteps.{parses_refused}
use Rattle.si_parse.proofs.ParseReads.{reads_some, reads_none}
use Rattle.si_parse.proofs.GrammarSound.{parsed_has, found_literal}
use Rattle.si_parse.proofs.grammar.literals.literal.Goals as goal

pub returns-in_default-clause-read : goal.returns-in_default-clause-read
returns-in_default-clause-read c = reads_none literal_of c.args.tokens.now c.in_ok-literal.ensures c.in_default.is

pub returns-then-equation_follows-clause-read : goal.returns-then-equation_follows-clause-read
returns-then-equation_follows-clause-read c =
    parses_refused (reads_some literal_of c.args.tokens.now c.in_ok-literal.ensures c.in-Some.is) (λ none. false≢true (sym (c.equation_follows.ensures.1 none) ∙ c.if-equation_follows.true))

pub returns-clause-read : goal.returns-clause-read
returns-clause-read c = reads_some literal_of c.args.tokens.now c.in_ok-literal.ensures c.in-Some.is

pub returns-clause-ends : goal.returns-clause-ends
returns-clause-ends c = c.equation_follows.ensures.0 c.if-equation_follows.false

pub returns-clause-sound : goal.returns-clause-sound
returns-clause-sound c =
    parsed_has (λ l. IsSoundPattern (literal_pattern l)) c.args.tokens.now (found_literal c.args.tokens.now c.requires) _ _ (returns-clause-read c)
