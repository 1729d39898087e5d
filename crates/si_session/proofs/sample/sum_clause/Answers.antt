use Rattle.std.proofs.Common.{rules, map, length, arith, ◌<◌, ◌≤◌, ◌^◌, drop, sym, subst}
use Rattle.std.proofs.lemmas.List.{drop_all, length-map}
use Rattle.si_defs.specs.Entries.{entries, placed_in, state_entries}
use Rattle.si_term.specs.Meaning.{clause_of, entry_of}
use Rattle.si_session.specs.Sums.{CountsEntryAnswers}
use Rattle.si_session.proofs.Sums.{entry_sound, sums_start, entry_more, entry_fits, sums_end, clause_small}
use Rattle.si_session.proofs.sample.sum_clause.Goals as goal

pub loop-number-init : goal.loop-number-init
loop-number-init c =
    let clause = clause_of c.args.clause.now in
    sums_start (state_entries c.args.index.now.clauses) (map (placed_in clause) (entries clause))

pub count_answers-requires : goal.count_answers-requires
count_answers-requires c = entry_sound (clause_of c.args.clause.now) c.loop-number.number (entry_of c.entry_at.result) c.requires.sound c.entry_at.ensures

pub overflow_add-sum : goal.overflow_add-sum
overflow_add-sum c =
    let small : c.in_ok-count_answers.field-0 < 2 ^ 32 = search rules in
    omega (
      arith,
      entry_fits (state_entries c.args.index.now.clauses) (clause_of c.args.clause.now) c.loop-number.number (entry_of c.entry_at.result) c.entry_at.ensures c.loop-number.sum c.from.result
          c.loop-number.invariant (omega (arith, small, c.from.ensures)) c.requires.few,
    )

pub loop-number-preserved : goal.loop-number-preserved
loop-number-preserved c =
    let small : c.in_ok-count_answers.field-0 < 2 ^ 32 = search rules in
    let all = state_entries c.args.index.now.clauses in
    let entry = entry_of c.entry_at.result in
    entry_more all (clause_of c.args.clause.now) c.loop-number.number entry c.entry_at.ensures c.loop-number.sum c.from.result
    c.loop-number.invariant (omega (arith, small, c.from.ensures)) (subst (CountsEntryAnswers all entry) (sym c.from.ensures) c.in_ok-count_answers.ensures)

pub returns-clause-sums : goal.returns-clause-sums
returns-clause-sums c =
    let clause = clause_of c.args.clause.now in
    let whole = map (placed_in clause) (entries clause) in
    let past : length whole ≤ c.loop-number.number = omega (arith, c.loop-number-test.false, c.entry_count-number-end.ensures, length-map (entries clause) (placed_in clause)) in
    sums_end (state_entries c.args.index.now.clauses) whole (drop c.loop-number.number whole) c.loop-number.sum (drop_all c.loop-number.number whole past) c.loop-number.invariant

pub returns-clause-small : goal.returns-clause-small
returns-clause-small c =
    let clause = clause_of c.args.clause.now in
    clause_small (state_entries c.args.index.now.clauses) clause (drop c.loop-number.number (map (placed_in clause) (entries clause))) c.loop-number.sum c.loop-number.invariant
