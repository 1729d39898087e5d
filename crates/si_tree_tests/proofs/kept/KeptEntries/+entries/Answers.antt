use Rattle.std.proofs.Common.{ap, arith}
use Rattle.si_defs.specs.Terms.{size}
use Rattle.si_term.proofs.Rows.{size-read, app-term}
use Rattle.si_tree_tests.proofs.kept.KeptEntries.+entries.Goals as goal

pub put_subterm-put_subterms-requires : goal.put_subterm-put_subterms-requires
put_subterm-put_subterms-requires t c =
    omega (arith, ap size (app-term c.args.term.now c.in-App.field-0 c.in-App.arguments c.as_slice.result.now c.in-App.is c.as_slice.ensures))

pub put_subterms-put_subterm-requires : goal.put_subterms-put_subterm-requires
put_subterms-put_subterm-requires t c = omega (arith, size-read c.args.terms.now c.loop-i.i c.index-terms-i.result c.loop-i-test.true c.index-terms-i.is)
