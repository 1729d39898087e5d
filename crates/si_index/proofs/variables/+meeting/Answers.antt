use Rattle.std.proofs.Common.{ap, refl, arith}
use Rattle.si_defs.specs.Terms.{size}
use Rattle.si_term.proofs.Rows.{size-read, app-term}
use Rattle.si_index.proofs.variables.+meeting.Goals as goal

pub meet_term-meet_all-requires : goal.meet_term-meet_all-requires
meet_term-meet_all-requires t c =
    omega (arith, ap size (app-term c.args.term.now c.in-App.field-0 c.in-App.arguments c.as_slice.result.now c.in-App.is c.as_slice.ensures))

pub meet_all-meet_term-requires : goal.meet_all-meet_term-requires
meet_all-meet_term-requires t c = omega (arith, size-read c.args.terms.now c.loop-i.i c.index-terms-i.result c.loop-i-test.true c.index-terms-i.is)

pub meet_all-loop-i-init : goal.meet_all-loop-i-init
meet_all-loop-i-init t c = refl
