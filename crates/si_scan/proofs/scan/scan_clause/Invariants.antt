use Rattle.std.proofs.Common.{◌≡◌, ◌+◌, length, map}
use Rattle.si_term.specs.Meaning.{literal_of, clause_of}
use Rattle.si_term.specs.Walks.{entries_alone}
use Rattle.si_scan.specs.Scans.{Wants, posted}
use Rattle.si_scan.proofs.ScanLaws.{SoFar, literals_from}
use Rattle.si_scan.proofs.scan.scan_clause.Given as goal

-- the literals before this one were tried
abbrev pub invariant-loop-i : goal.invariant-loop-i
invariant-loop-i l = record {
  count : l.next + length (entries_alone (literals_from l.literals l.i)) ≡ length (entries_alone (map literal_of l.literals));
  so_far : SoFar (Wants l.question) (posted l.key l.next (entries_alone (literals_from l.literals l.i))) (posted l.key 0 (entries_alone (clause_of l.clause).literals))
      l.fn.gathered.found.items
      l.gathered.found.items;
}
