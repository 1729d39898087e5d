use Rattle.std.proofs.Common.{refl, sym}
use Rattle.si_lex.proofs.TokenPlaces.{dollars_to, no_dollars, dollar_to}
use Rattle.si_lex.proofs.spellings.dollar_end.Goals as goal

pub returns-then-end-at : goal.returns-then-end-at
returns-then-end-at c =
    let sign = c.if-stands_at.ensures in
    dollars_to c.args.bytes.now c.args.at c.lower_end-end.result c.requires.within c.requires.dollar (sym sign.value) (sign.within refl)
    c.lower_end-end.ensures.run c.lower_end-end.ensures.within c.if-end-at.true

pub returns-then-end-at-2 : goal.returns-then-end-at-2
returns-then-end-at-2 c =
    let sign = c.if-stands_at.ensures in
    dollar_to c.args.bytes.now c.args.at c.lower_end-end-2.result c.requires.within c.requires.dollar (sym sign.value)
    c.lower_end-end-2.ensures.run c.lower_end-end-2.ensures.within c.if-end-at-2.true

pub returns-then-stands_at : goal.returns-then-stands_at
returns-then-stands_at c =
    let sign = c.if-stands_at.ensures in
    no_dollars c.args.bytes.now c.args.at c.lower_end-end.result c.requires.within c.requires.dollar (sym sign.value) (sign.within refl)
    c.lower_end-end.ensures.run c.if-end-at.false
