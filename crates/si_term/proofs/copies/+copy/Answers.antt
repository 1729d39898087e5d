use Rattle.std.proofs.Common.{ap, arith}
use Rattle.si_defs.specs.Terms.{size}
use Rattle.si_term.proofs.Rows.{size-read, app-term}
use Rattle.si_term.proofs.copies.+copy.Goals as goal

pub copy_term-copy_terms-requires : goal.copy_term-copy_terms-requires
copy_term-copy_terms-requires t c = (omega (arith, ap size (app-term c.args.term.now c.in-App.symbol c.in-App.arguments c.as_slice.result.now c.in-App.is c.as_slice.ensures)), tt)

pub copy_many-copy_term-requires : goal.copy_many-copy_term-requires
copy_many-copy_term-requires t c = (omega (arith, size-read c.args.terms.now c.loop-i.i c.index-terms-i.result c.loop-i-test.true c.index-terms-i.is), tt)
