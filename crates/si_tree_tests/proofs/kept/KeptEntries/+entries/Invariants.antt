use Rattle.std.proofs.Common.{◌+◌, ◌*◌, map}
use Rattle.si_defs.specs.Terms.{row, size, sizes}
use Rattle.si_term.specs.Terms.{term_of}
use Rattle.si_tree_tests.proofs.kept.KeptEntries.+entries.Given as goal

abbrev pub decreases-put_subterm : goal.decreases-put_subterm
decreases-put_subterm l = 2 * size (term_of l.term.now)

abbrev pub decreases-put_subterms : goal.decreases-put_subterms
decreases-put_subterms l = 2 * sizes (row (map term_of l.terms.now)) + 1
