use Rattle.std.proofs.Common.{sym, ◌∙◌}
use Rattle.si_parse.proofs.ParseWhole.{never_empty, same_left}
use Rattle.si_session.proofs.CommandLaws.{remove_wrong}
use Rattle.si_session.proofs.command.remove_command.Goals as goal

pub returns-in-Some-2 : goal.returns-in-Some-2
returns-in-Some-2 c =
    remove_wrong c.args.tokens.now c.in_ok-rest.field-0 c.in_ok-rest.ensures
    (λ x r found none. never_empty c.in-Some.rest.now c.if-is_empty.ensures (same_left c.in-Some.name x c.in-Some.rest r (sym c.in-Some.is ∙ found) none))

pub returns-in-None : goal.returns-in-None
returns-in-None c =
    remove_wrong c.args.tokens.now c.in_ok-rest.field-0 c.in_ok-rest.ensures
    (λ x r found none. cc (c.in-None.is, found))
