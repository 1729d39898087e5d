use Rattle.std.proofs.Common.{[], length, map}
use Rattle.std.specs.List.{AllByRecursion}
use Rattle.si_index.specs.Kept.{kept_clauses, clauses_of}
use Rattle.si_index.specs.Searching.{IsKnownClause}
use Rattle.si_scan.specs.Scans.{Wants, numbers_of, all_posted}
use Rattle.si_scan.proofs.ScanLaws.{SoFar, keyed_of}
use Rattle.si_scan.proofs.scan.gather.Given as goal

-- the clauses before those that are left were tried
abbrev pub invariant-loop-key : goal.invariant-loop-key
invariant-loop-key l = record {
  known : AllByRecursion (IsKnownClause (numbers_of l.question)) (clauses_of l.left);
  so_far : SoFar (Wants l.question) (all_posted (map keyed_of l.left)) (all_posted (kept_clauses l.index)) [] l.gathered.found.items;
}

abbrev pub decreases-loop-key : goal.decreases-loop-key
decreases-loop-key l = length l.left
