use Rattle.std.proofs.Common.{refl, sym}
use Rattle.si_lex.proofs.TokenPlaces.{not_equal_to, exclamation_to}
use Rattle.si_lex.proofs.spellings.exclamation_end.Goals as goal

pub returns-then-stands_at : goal.returns-then-stands_at
returns-then-stands_at c =
    let sign = c.if-stands_at.ensures in
    not_equal_to c.args.bytes.now c.args.at c.requires.within c.requires.exclamation (sym sign.value) (sign.within refl)

pub returns-else-stands_at : goal.returns-else-stands_at
returns-else-stands_at c =
    let sign = c.if-stands_at.ensures in
    exclamation_to c.args.bytes.now c.args.at c.requires.within c.requires.exclamation (sym sign.value)
