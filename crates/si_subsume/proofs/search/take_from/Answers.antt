use Rattle.std.proofs.Common.{[], get_or}
use Rattle.std.proofs.lemmas.Option.{slice_get-get_or}
use Rattle.si_subsume.proofs.Unequal.{term_read}
use Rattle.si_subsume.proofs.Seeking.{takes_of}
use Rattle.si_subsume.proofs.search.take_from.Goals as goal

pub solve_with-requires-clause-right : goal.solve_with-requires-clause-right
solve_with-requires-clause-right c = (term_read c.args.task.now.slots c.args.task.now.targets.now c.args.number (record { ref_ptr = (0, 0); now = [] }) c.requires.searchable.targets c.requires.inside).whole

pub returns-clause-tries : goal.returns-clause-tries
returns-clause-tries c =
    takes_of c.args.task.now.slots c.args.task.now.targets.now c.args.trail.now.pairs c.solve_with.new.trail.pairs c.args.literal.now c.args.from c.args.number (get_or c.args.task.now.targets.now c.args.number (record { ref_ptr = (0, 0); now = [] })) c.solve_with.result c.solve_with.ensures.solved c.solve_with.ensures.grows c.solve_with.ensures.no c.if-number-from.false (slice_get-get_or c.args.task.now.targets.now c.args.number (record { ref_ptr = (0, 0); now = [] }) c.requires.inside)
