use Rattle.std.proofs.Common.{◌≡◌, ℕ, List, [], length, map, sym, ap, subst, ◌∙◌, arith}
use Rattle.std.specs.List.{AllByRecursion}
use Rattle.si_term.specs.declared.clause.Clause as program_clause
use Rattle.si_index.specs.Kept.{paired, kept_clauses, clauses_of}
use Rattle.si_index.specs.Searching.{IsKnownClause}
use Rattle.si_scan.specs.Scans.{Wants, numbers_of, all_posted}
use Rattle.si_scan.proofs.ScanLaws.{SoFar, so_far_start, so_far_more, so_far_end, added_all, keyed_of, paired_items, next_clause, no_clause}
use Rattle.si_scan.proofs.scan.gather.Goals as goal

pub loop-key-init : goal.loop-key-init
loop-key-init c =
    let W = Wants c.args.question.now in
    let kept = c.args.index.now in
    let items : List (ℕ × program_clause.Clause) = c.kept-left.result in
    let all = all_posted (kept_clauses kept) in
    let same : map keyed_of items ≡ kept_clauses kept = sym (paired_items items) ∙ λ i. paired (c.kept-left.ensures.keys i) (c.kept-left.ensures.clauses i) in
    record {
      known = subst (AllByRecursion (IsKnownClause (numbers_of c.args.question.now))) (sym c.kept-left.ensures.clauses) c.requires.over.known;
      so_far = subst (λ found. SoFar W (all_posted (map keyed_of items)) all [] found) (sym c.new-2.ensures.items)
          (subst (λ l. SoFar W (all_posted l) all [] []) (sym same) (so_far_start W all []));
    }

pub scan_clause-requires-clause-known : goal.scan_clause-requires-clause-known
scan_clause-requires-clause-known c =
    let next = next_clause (λ b. b.now) c.loop-key.left c.next.new.self c.next.result c.next.ensures.steps _ c.in-Some.is in
    (subst (AllByRecursion (IsKnownClause (numbers_of c.args.question.now))) (ap clauses_of next) c.loop-key.invariant.known).0

pub loop-key-preserved : goal.loop-key-preserved
loop-key-preserved c =
    let next = next_clause (λ b. b.now) c.loop-key.left c.next.new.self c.next.result c.next.ensures.steps _ c.in-Some.is in
    record {
      known = (subst (AllByRecursion (IsKnownClause (numbers_of c.args.question.now))) (ap clauses_of next) c.loop-key.invariant.known).1;
      so_far = so_far_more (Wants c.args.question.now) _ _ _ _ _ _ _ (ap (λ l. all_posted (map keyed_of l)) next) c.loop-key.invariant.so_far c.in_ok-scan_clause.ensures;
    }

pub loop-key-smaller : goal.loop-key-smaller
loop-key-smaller c =
    let next = next_clause (λ b. b.now) c.loop-key.left c.next.new.self c.next.result c.next.ensures.steps _ c.in-Some.is in
    omega (arith, ap length next)

pub returns : goal.returns
returns c =
    let none = no_clause (λ b. b.now) c.loop-key.left c.next.new.self c.next.result c.next.ensures.steps c.in_default.is in
    added_all (Wants c.args.question.now) _ c.loop-key.gathered.found.items
    (so_far_end (Wants c.args.question.now) _ _ _ _ (ap (λ l. all_posted (map keyed_of l)) none) c.loop-key.invariant.so_far)
