use Rattle.std.proofs.Common.{ap, length, arith}
use Rattle.si_parse.proofs.ReadingLaws.{text_few}
use Rattle.si_tests.proofs.flats.assert_read.Goals as goal

pub assert_read_from-requires : goal.assert_read_from-requires
assert_read_from-requires g c =
    omega (arith, ap length c.as_slice.ensures.value, text_few c.args.text.now c.in_ok-lexing.lexing c.in_ok-lexing.ensures.read, c.requires)
