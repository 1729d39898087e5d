use Rattle.std.proofs.Common.{arith}
use Rattle.si_term.specs.Meaning.{clause_of}
use Rattle.si_term.proofs.Alone.{clause_few}
use Rattle.si_sign.proofs.PlainLaws.{sound_at, count_next, count_within}
use Rattle.si_sign.proofs.plain.entries_of.Goals as goal

pub entry_count-requires : goal.entry_count-requires
entry_count-requires c =
    clause_few (clause_of c.index-clauses-i.result)
    (sound_at c.args.clauses.now c.loop-i.i c.index-clauses-i.result c.loop-i-test.true c.index-clauses-i.is c.requires.sound)

pub overflow_add-count : goal.overflow_add-count
overflow_add-count c =
    omega (
      arith,
      c.loop-i.invariant,
      c.entry_count.ensures,
      c.from-count.ensures,
      c.requires.few,
      count_within c.args.clauses.now c.loop-i.i c.index-clauses-i.result c.loop-i-test.true c.index-clauses-i.is,
    )

pub loop-i-preserved : goal.loop-i-preserved
loop-i-preserved c =
    omega (
      arith,
      c.loop-i.invariant,
      c.entry_count.ensures,
      c.from-count.ensures,
      count_next c.args.clauses.now c.loop-i.i c.index-clauses-i.result c.loop-i-test.true c.index-clauses-i.is,
    )
