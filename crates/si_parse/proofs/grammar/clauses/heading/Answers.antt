use Rattle.si_term.specs.Meaning.{name_of}
use Rattle.si_parse.specs.Parsing.{Anything}
use Rattle.si_parse.proofs.ParseReads.{reads_some, reads_none}
use Rattle.si_parse.proofs.ParseSequences.{then_some}
use Rattle.si_parse.proofs.GrammarClauses.{heading_some, heading_none, name_then, name_first, comma_then, comma_first, role_then, role_first}
use Rattle.si_parse.proofs.grammar.clauses.heading.Goals as goal

pub returns-in_default : goal.returns-in_default
returns-in_default c = heading_none (name_first (reads_none name_of c.args.tokens.now c.in_ok-name.ensures c.in_default.is))

pub returns-in_default-mark_at : goal.returns-in_default-mark_at
returns-in_default-mark_at c = heading_none (name_then (reads_some name_of c.args.tokens.now c.in_ok-name.ensures c.in-Some.is) (comma_first c.in_default-mark_at.ensures))

pub returns-in_default-2 : goal.returns-in_default-2
returns-in_default-2 c =
    heading_none (name_then (reads_some name_of c.args.tokens.now c.in_ok-name.ensures c.in-Some.is)
    (comma_then c.in-Some-mark_at.ensures (role_first (reads_none (λ t. t) c.in-Some-mark_at.rest.now c.in_ok-role.ensures c.in_default-2.is))))

pub returns-in-Some-mark_at-2 : goal.returns-in-Some-mark_at-2
returns-in-Some-mark_at-2 c =
    heading_some (then_some {F = Anything} (λ n used rest b g. tt) (reads_some name_of c.args.tokens.now c.in_ok-name.ensures c.in-Some.is)
    (then_some {F = Anything} (λ n used rest b g. tt) c.in-Some-mark_at.ensures
    (then_some {F = Anything} (λ n used rest b g. tt) (reads_some (λ t. t) c.in-Some-mark_at.rest.now c.in_ok-role.ensures c.in-Some-2.is) c.in-Some-mark_at-2.ensures)))

pub returns-in-None : goal.returns-in-None
returns-in-None c =
    heading_none (name_then (reads_some name_of c.args.tokens.now c.in_ok-name.ensures c.in-Some.is)
    (comma_then c.in-Some-mark_at.ensures (role_then (reads_some (λ t. t) c.in-Some-mark_at.rest.now c.in_ok-role.ensures c.in-Some-2.is) c.in-None.ensures)))
