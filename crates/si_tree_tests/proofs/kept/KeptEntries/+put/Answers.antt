use Rattle.std.proofs.Common.{ap, arith}
use Rattle.si_defs.specs.Terms.{size}
use Rattle.si_term.proofs.Rows.{size-read, app-term}
use Rattle.si_tree_tests.proofs.kept.KeptEntries.+put.Goals as goal

pub put_term-put_terms-requires : goal.put_term-put_terms-requires
put_term-put_terms-requires t c =
    omega (arith, ap size (app-term c.args.term.now c.in-App.symbol c.in-App.arguments c.as_slice.result.now c.in-App.is c.as_slice.ensures))

pub put_terms-put_term-requires : goal.put_terms-put_term-requires
put_terms-put_term-requires t c = omega (arith, size-read c.args.terms.now c.loop-i.i c.index-terms-i.result c.loop-i-test.true c.index-terms-i.is)
