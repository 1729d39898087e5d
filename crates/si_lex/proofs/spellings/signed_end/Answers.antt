use Rattle.si_lex.proofs.TokenPlaces.{signed_to, sign_to}
use Rattle.si_lex.proofs.spellings.signed_end.Goals as goal

pub returns-then-end-at : goal.returns-then-end-at
returns-then-end-at c =
    signed_to c.args.bytes.now c.args.at c.decimal_end-end.result c.requires.within c.requires.sign c.decimal_end-end.ensures.run c.decimal_end-end.ensures.within c.if-end-at.true

pub returns-else-end-at : goal.returns-else-end-at
returns-else-end-at c =
    sign_to c.args.bytes.now c.args.at c.decimal_end-end.result c.requires.within c.requires.sign c.decimal_end-end.ensures.run c.decimal_end-end.ensures.within c.if-end-at.false
