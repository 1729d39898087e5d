use Rattle.std.proofs.Common.{◌-◌, ◌≤◌, length, drop, arith, ap, sym, subst}
use Rattle.std.proofs.lemmas.List.{drop_all}
use Rattle.si_defs.specs.Entries.{state_entries}
use Rattle.si_defs.specs.declared.TheConstants.{MOST_OCCURRENCES}
use Rattle.si_term.specs.Meaning.{clause_of}
use Rattle.si_session.specs.Sums.{SumsTo}
use Rattle.si_session.proofs.Sums.{kept_few, clause_more, clause_fits, sums_start, sums_end}
use Rattle.si_session.proofs.sample.sum_last.Goals as goal

pub loop-at-init : goal.loop-at-init
loop-at-init c =
    let cs = c.args.index.now.clauses in
    let whole = state_entries (drop (length cs - c.args.count) cs) in
    subst (λ n. SumsTo (state_entries cs) whole (state_entries (drop (n - c.args.count) cs)) 0) (sym c.stats-kept.ensures.clauses) (sums_start (state_entries cs) whole)

pub sum_clause-requires-clause-few : goal.sum_clause-requires-clause-few
sum_clause-requires-clause-few c =
    kept_few c.args.index.now.clauses c.loop-at.at (clause_of c.clause.result.now) c.clause.ensures
    (omega (arith, c.stats-kept.ensures.stored.few, c.stats-kept.ensures.small))

pub overflow_add-sum : goal.overflow_add-sum
overflow_add-sum c =
    let cs = c.args.index.now.clauses in
    let few : length (state_entries cs) ≤ MOST_OCCURRENCES = omega (arith, c.stats-kept.ensures.stored.few, c.stats-kept.ensures.small) in
    omega (
      arith,
      clause_fits cs c.loop-at.at (clause_of c.clause.result.now) c.clause.ensures (state_entries cs) (length cs - c.args.count) c.loop-at.sum c.in_ok-sum.field-0
          c.loop-at.invariant c.in_ok-sum.ensures.small few,
    )

pub loop-at-preserved : goal.loop-at-preserved
loop-at-preserved c =
    let cs = c.args.index.now.clauses in
    clause_more cs c.loop-at.at (clause_of c.clause.result.now) c.clause.ensures (state_entries cs) (length cs - c.args.count) c.loop-at.sum c.in_ok-sum.field-0
    c.loop-at.invariant c.in_ok-sum.ensures.small c.in_ok-sum.ensures.sums

pub returns : goal.returns
returns c =
    let cs = c.args.index.now.clauses in
    let past : length cs ≤ c.loop-at.at = omega (arith, c.loop-at-test.false, c.stats-kept.ensures.clauses) in
    sums_end (state_entries cs) (state_entries (drop (length cs - c.args.count) cs)) (state_entries (drop c.loop-at.at cs)) c.loop-at.sum
    (ap state_entries (drop_all c.loop-at.at cs past)) c.loop-at.invariant
