use Rattle.std.proofs.Common.{Some, refl, ap}
use Rattle.si_lex.specs.Lexemes.{tokens_of}
use Rattle.si_term.specs.Meaning.{literal_of}
use Rattle.si_term.specs.Terms.{term_of}
use Rattle.si_parse.proofs.ParseSteps.{parses_at}
use Rattle.si_parse.proofs.ParseReads.{reads_some, reads_none}
use Rattle.si_parse.proofs.GrammarLiterals.{atom_some, atom_negative, atom_none}
use Rattle.si_parse.proofs.grammar.literals.atom.Goals as goal

pub returns-in_default : goal.returns-in_default
returns-in_default c = atom_none (reads_none literal_of c.args.tokens.now c.in_ok-literal.ensures c.in_default.is)

pub returns-then-literal : goal.returns-then-literal
returns-then-literal c =
    parses_at refl (ap (λ t. Some (term_of t, tokens_of c.in-Some.rest.now)) c.into_atom.ensures)
    (atom_some (literal_of c.in-Some.literal) (reads_some literal_of c.args.tokens.now c.in_ok-literal.ensures c.in-Some.is) c.if-literal.true)

pub returns-else-literal : goal.returns-else-literal
returns-else-literal c = atom_negative (literal_of c.in-Some.literal) (reads_some literal_of c.args.tokens.now c.in_ok-literal.ensures c.in-Some.is) c.if-literal.false
