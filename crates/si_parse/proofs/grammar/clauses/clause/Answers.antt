use Rattle.std.proofs.Common.{arith}
use Rattle.std.specs.Prelude.{codes}
use Rattle.si_defs.specs.Clauses as clauses
use Rattle.si_parse.specs.Meaning.{heading_of, literals_of}
use Rattle.si_parse.specs.Parsing.{Anything, NoLiteral}
use Rattle.si_parse.proofs.ParseReads.{reads_some, reads_none, passes_some, passes_none, left_shorter}
use Rattle.si_parse.proofs.ParseSequences.{then_some}
use Rattle.si_parse.proofs.GrammarNames.{opened}
use Rattle.si_parse.proofs.GrammarClauses.{clause_some, clause_none, opening_first, opening_then, heading_first, heading_then, formula_first, formula_then, closed_first, closed_then, ending_follows}
use Rattle.si_parse.proofs.GrammarSound.{parsed_has, found_clause}
use Rattle.si_parse.proofs.grammar.clauses.clause.Goals as goal

pub returns-in_default-clause-read : goal.returns-in_default-clause-read
returns-in_default-clause-read c = clause_none (opening_first (opened c.as_slice.result.now (codes "cnf") c.as_slice.ensures c.in_default.ensures))

pub returns-in_default-2-clause-read : goal.returns-in_default-2-clause-read
returns-in_default-2-clause-read c =
    clause_none (opening_then (opened c.as_slice.result.now (codes "cnf") c.as_slice.ensures c.in-Some.ensures)
    (heading_first (reads_none heading_of c.in-Some.rest.now c.in_ok-heading.ensures c.in_default-2.is)))

pub formula-requires : goal.formula-requires
formula-requires c =
    let one = left_shorter c.args.tokens.now c.in-Some.rest.now c.in-Some.ensures in
    let two = left_shorter c.in-Some.rest.now c.in-Some-2.rest.now (reads_some heading_of c.in-Some.rest.now c.in_ok-heading.ensures c.in-Some-2.is) in
    omega (arith, one, two, c.requires)

pub returns-in_default-3-clause-read : goal.returns-in_default-3-clause-read
returns-in_default-3-clause-read c =
    clause_none (opening_then (opened c.as_slice.result.now (codes "cnf") c.as_slice.ensures c.in-Some.ensures)
    (heading_then (reads_some heading_of c.in-Some.rest.now c.in_ok-heading.ensures c.in-Some-2.is)
    (formula_first (reads_none literals_of c.in-Some-2.rest.now c.in_ok-literals.ensures.read c.in_default-3.is))))

pub returns-in_default-4-clause-read : goal.returns-in_default-4-clause-read
returns-in_default-4-clause-read c =
    clause_none (opening_then (opened c.as_slice.result.now (codes "cnf") c.as_slice.ensures c.in-Some.ensures)
    (heading_then (reads_some heading_of c.in-Some.rest.now c.in_ok-heading.ensures c.in-Some-2.is)
    (formula_then (reads_some literals_of c.in-Some-2.rest.now c.in_ok-literals.ensures.read c.in-Some-3.is) (closed_first (passes_none c.in-Some-3.rest.now c.in_ok-rest.ensures c.in_default-4.is)))))

pub returns-in-Some-mark_at-clause-read : goal.returns-in-Some-mark_at-clause-read
returns-in-Some-mark_at-clause-read c =
    clause_some (then_some {F = Anything} (λ n used rest b g. tt) (opened c.as_slice.result.now (codes "cnf") c.as_slice.ensures c.in-Some.ensures)
    (then_some {F = Anything} (λ n used rest b g. tt) (reads_some heading_of c.in-Some.rest.now c.in_ok-heading.ensures c.in-Some-2.is)
    (then_some {F = NoLiteral} ending_follows (reads_some literals_of c.in-Some-2.rest.now c.in_ok-literals.ensures.read c.in-Some-3.is)
    (then_some {F = Anything} (λ n used rest b g. tt) (passes_some c.in-Some-3.rest.now c.in_ok-rest.ensures c.in-Some-4.is) c.in-Some-mark_at.ensures))))

pub returns-in-Some-mark_at-clause-sound : goal.returns-in-Some-mark_at-clause-sound
returns-in-Some-mark_at-clause-sound c =
    parsed_has clauses.IsSoundClause c.args.tokens.now (found_clause c.args.tokens.now c.requires) _ _ (returns-in-Some-mark_at-clause-read c)

pub returns-in-None-clause-read : goal.returns-in-None-clause-read
returns-in-None-clause-read c =
    clause_none (opening_then (opened c.as_slice.result.now (codes "cnf") c.as_slice.ensures c.in-Some.ensures)
    (heading_then (reads_some heading_of c.in-Some.rest.now c.in_ok-heading.ensures c.in-Some-2.is)
    (formula_then (reads_some literals_of c.in-Some-2.rest.now c.in_ok-literals.ensures.read c.in-Some-3.is)
    (closed_then (passes_some c.in-Some-3.rest.now c.in_ok-rest.ensures c.in-Some-4.is) c.in-None.ensures))))
