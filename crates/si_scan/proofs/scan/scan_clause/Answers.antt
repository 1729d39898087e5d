use Rattle.std.proofs.Common.{◌+◌, [], ◌∷◌, ◌++◌, length, map, sym, ap, subst, ◌∙◌, arith}
use Rattle.si_term.specs.Meaning.{literal_of, clause_of}
use Rattle.si_term.specs.Walks.{entries_alone}
use Rattle.si_term.proofs.Alone.{length-entries}
use Rattle.si_index.proofs.EntryLaws.{known_literal}
use Rattle.si_index.proofs.StoreLaws.{few_entries}
use Rattle.si_scan.specs.Scans.{Wants, numbers_of, posted}
use Rattle.si_scan.proofs.ScanLaws.{SoFar, so_far_start, so_far_more, so_far_end, literals_from, literals_step, literals_count, literals_end}
use Rattle.si_scan.proofs.scan.scan_clause.Goals as goal

pub loop-i-init : goal.loop-i-init
loop-i-init c =
    let W = Wants c.args.question.now in
    let old = c.args.gathered.now.found.items in
    let all = posted c.args.key 0 (entries_alone (clause_of c.args.clause.now).literals) in
    record {
      count = omega arith;
      so_far = subst (λ ls. SoFar W (posted c.args.key 0 (entries_alone (map literal_of ls))) all old old) (sym c.as_slice-literals.ensures) (so_far_start W all old);
    }

pub scan_literal-requires-clause-known : goal.scan_literal-requires-clause-known
scan_literal-requires-clause-known c =
    known_literal (numbers_of c.args.question.now) (clause_of c.args.clause.now) c.as_slice-literals.result.now c.loop-i.i c.index-literals-i.result
    (ap (map literal_of) c.as_slice-literals.ensures) c.loop-i-test.true c.index-literals-i.is c.requires.known

pub scan_literal-requires-clause-few : goal.scan_literal-requires-clause-few
scan_literal-requires-clause-few c =
    omega (
      arith,
      c.loop-i.invariant.count,
      literals_count c.as_slice-literals.result.now c.loop-i.i c.index-literals-i.result c.loop-i-test.true c.index-literals-i.is,
      ap (λ ls. length (entries_alone (map literal_of ls))) c.as_slice-literals.ensures,
      length-entries 1 (clause_of c.args.clause.now).literals,
      few_entries (clause_of c.args.clause.now) c.requires.known.sound,
    )

pub loop-i-preserved : goal.loop-i-preserved
loop-i-preserved c =
    let ls = c.as_slice-literals.result.now in
    let i = c.loop-i.i in
    let one = c.index-literals-i.result in
    let own = posted c.args.key c.loop-i.next (entries_alone (literal_of one ∷ [])) in
    let step = literals_step c.args.key c.loop-i.next ls i one c.loop-i-test.true c.index-literals-i.is
    ∙ ap (λ n. own ++ posted c.args.key n (entries_alone (literals_from ls (i + 1)))) (sym c.in_ok-next.ensures.next) in
    record {
      count = omega (arith, c.loop-i.invariant.count, literals_count ls i one c.loop-i-test.true c.index-literals-i.is, c.in_ok-next.ensures.next);
      so_far = so_far_more (Wants c.args.question.now) _ _ _ _ _ _ _ step c.loop-i.invariant.so_far c.in_ok-next.ensures.adds;
    }

pub returns : goal.returns
returns c =
    so_far_end (Wants c.args.question.now) _ _ _ _ (literals_end c.args.key c.loop-i.next c.as_slice-literals.result.now c.loop-i.i c.loop-i-test.false) c.loop-i.invariant.so_far
