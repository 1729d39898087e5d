use Rattle.std.proofs.Common.{refl, sym}
use Rattle.si_lex.proofs.BlankPlaces.{one_comment, no_comment_open, no_comment_slash}
use Rattle.si_lex.proofs.blanks.comment_end.Goals as goal

pub returns-then-close-bytes : goal.returns-then-close-bytes
returns-then-close-bytes c =
    let star = c.if-not-stands_at.ensures in
    one_comment c.args.bytes.now c.args.at c.find_close-close.result c.requires.within c.requires.slash (sym star.value) (star.within refl)
    c.find_close-close.ensures c.if-close-bytes.true

pub returns-else-close-bytes : goal.returns-else-close-bytes
returns-else-close-bytes c =
    let star = c.if-not-stands_at.ensures in
    no_comment_open c.args.bytes.now c.args.at c.find_close-close.result c.requires.within c.requires.slash (sym star.value) (star.within refl)
    c.find_close-close.ensures c.if-close-bytes.false

pub returns-then-not-stands_at : goal.returns-then-not-stands_at
returns-then-not-stands_at c = no_comment_slash c.args.bytes.now c.args.at c.requires.within c.requires.slash (sym c.if-not-stands_at.ensures.value)
