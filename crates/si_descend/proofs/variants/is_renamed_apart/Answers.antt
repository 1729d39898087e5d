use Rattle.std.proofs.Common.{arith}
use Rattle.si_descend.proofs.RenameLaws.{always, never, more_none, told_apart, never_more, none_more_taken, one_more_taken, takes_grows}
use Rattle.si_descend.proofs.variants.is_renamed_apart.Goals as goal

pub returns-in-NoEntry-clause-renaming : goal.returns-in-NoEntry-clause-renaming
returns-in-NoEntry-clause-renaming c =
    always (more_none c.args.slots.now c.args.trail.now.pairs c.args.trail.now.slots c.requires.frozen c.requires.solving c.requires.distinct c.args.n c.requires.known c.in-NoEntry.ensures.became)

pub returns-in-NoEntry-clause-taken : goal.returns-in-NoEntry-clause-taken
returns-in-NoEntry-clause-taken c told =
    none_more_taken c.args.slots.now c.args.trail.now.pairs c.args.trail.now.slots c.requires.frozen c.requires.solving c.requires.distinct c.args.n c.requires.known c.args.taken.now.pairs c.in-NoEntry.ensures.became c.requires.taken

pub take-requires : goal.take-requires
take-requires c = omega (arith, c.in-Variable.ensures.range, c.requires.room)

pub returns-in-Variable-clause-renaming : goal.returns-in-Variable-clause-renaming
returns-in-Variable-clause-renaming c =
    told_apart c.args.slots.now c.args.trail.now.pairs c.args.trail.now.slots c.requires.frozen c.requires.solving c.requires.distinct c.args.n c.requires.known c.in-Variable.number c.args.taken.now.pairs c.take.result c.in-Variable.ensures.became c.requires.taken c.take.ensures.free

pub returns-in-Variable-clause-taken : goal.returns-in-Variable-clause-taken
returns-in-Variable-clause-taken c =
    one_more_taken c.args.slots.now c.args.trail.now.pairs c.args.trail.now.slots c.requires.frozen c.requires.solving c.requires.distinct c.args.n c.requires.known c.in-Variable.number c.args.taken.now.pairs c.take.new.self.pairs c.take.result c.in-Variable.ensures.became c.requires.taken c.take.ensures.free c.take.ensures.takes

pub returns-in-Variable-clause-grows : goal.returns-in-Variable-clause-grows
returns-in-Variable-clause-grows c = takes_grows c.args.taken.now.pairs c.in-Variable.number c.take.new.self.pairs c.take.result c.take.ensures.takes

pub returns-in-Term-clause-renaming : goal.returns-in-Term-clause-renaming
returns-in-Term-clause-renaming c =
    never (never_more c.args.slots.now c.args.trail.now.pairs c.args.trail.now.slots c.requires.frozen c.requires.solving c.requires.distinct c.args.n c.requires.known c.in-Term.ensures.became)
