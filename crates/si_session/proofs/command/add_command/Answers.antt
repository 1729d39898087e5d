use Rattle.std.proofs.Common.{sym, ◌∙◌, subst}
use Rattle.si_defs.specs.Grammar.{IsClause}
use Rattle.si_term.specs.Meaning.{clause_of}
use Rattle.si_parse.specs.Parsing.{Anything, Reads}
use Rattle.si_parse.proofs.ParseWhole.{never_empty, same_left}
use Rattle.si_session.proofs.CommandLaws.{add_wrong, found_not_foreign}
use Rattle.si_session.proofs.WordTests.{not_true}
use Rattle.si_session.proofs.command.add_command.Goals as goal

pub returns-in-Some-2 : goal.returns-in-Some-2
returns-in-Some-2 c =
    let read = subst (Reads clause_of IsClause Anything c.args.tokens.now) c.in-Some.is c.in_ok-rest.ensures.read in
    add_wrong c.args.tokens.now c.in_ok-rest.field-0 c.in_ok-rest.ensures.read
    (found_not_foreign c.args.tokens.now c.in-Some.clause c.in-Some.rest read)
    (λ x r found none. never_empty c.in-Some.rest.now c.if-is_empty.ensures (same_left c.in-Some.clause x c.in-Some.rest r (sym c.in-Some.is ∙ found) none))

pub returns-in-None-2 : goal.returns-in-None-2
returns-in-None-2 c =
    add_wrong c.args.tokens.now c.in_ok-rest.field-0 c.in_ok-rest.ensures.read
    (not_true c.is_foreign.result _ c.is_foreign.ensures c.if-is_foreign.false)
    (λ x r found none. cc (c.in-None.is, found))
