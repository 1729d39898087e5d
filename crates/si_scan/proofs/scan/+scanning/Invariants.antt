use Rattle.std.proofs.Common.{◌≡◌, ◌+◌, ◌*◌, length, map}
use Rattle.si_defs.specs.Terms.{row, size, sizes}
use Rattle.si_defs.specs.Entries.{term_entry}
use Rattle.si_term.specs.Terms.{term_of}
use Rattle.si_term.specs.Walks.{subterms_of_all}
use Rattle.si_term.proofs.Rows.{from}
use Rattle.si_scan.specs.Scans.{Wants, posted}
use Rattle.si_scan.proofs.ScanLaws.{SoFar}
use Rattle.si_scan.proofs.scan.+scanning.Given as goal

-- the terms before this one were tried
abbrev pub invariant-scan_terms-loop-i : goal.invariant-scan_terms-loop-i
invariant-scan_terms-loop-i l = record {
  count : l.next + length (subterms_of_all (from l.terms l.i)) ≡ l.number + length (subterms_of_all (row (map term_of l.terms)));
  so_far : SoFar (Wants l.question) (posted l.key l.next (map term_entry (subterms_of_all (from l.terms l.i)))) (posted l.key l.number (map term_entry (subterms_of_all (row (map term_of l.terms)))))
      l.fn.gathered.found.items
      l.gathered.found.items;
}

abbrev pub decreases-scan_term : goal.decreases-scan_term
decreases-scan_term l = 2 * size (term_of l.term.now)

abbrev pub decreases-scan_terms : goal.decreases-scan_terms
decreases-scan_terms l = 2 * sizes (row (map term_of l.terms.now)) + 1
