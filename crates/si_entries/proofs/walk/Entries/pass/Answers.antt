use Rattle.std.proofs.Common.{◌+◌, refl, sym, ◌∙◌, arith}
use Rattle.si_term.specs.Terms.{term_of}
use Rattle.si_term.proofs.Rows.{positive}
use Rattle.si_entries.specs.declared.walk.Row.{Row}
use Rattle.si_entries.proofs.WalkLaws.{rows_passed, weight_passed, few_passed}
use Rattle.si_entries.proofs.walk.Entries.pass.Goals as goal

pub returns-clause-some : goal.returns-clause-some
returns-clause-some c =
    let s = c.climb.new.self in
    let t = c.in_ok-term.term.now in
    let r : Row = record { left = c.in_ok-term.left; passed = s.row.passed + 1 } in
    let first = c.in_ok-term.ensures.cases.0 in
    record {
      left = sym c.climb.ensures.inside ∙ rows_passed s.literal s.around.items s.row r t c.in_ok-term.left.now first refl refl;
      lighter = omega (arith, weight_passed s.literal s.around.items s.row r t c.in_ok-term.left.now first refl refl (positive (term_of t)), c.climb.ensures.lighter);
      few = few_passed s.literal s.around.items s.row r t c.in_ok-term.left.now first refl refl c.climb.ensures.small.row;
    }
