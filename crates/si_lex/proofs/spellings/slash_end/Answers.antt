use Rattle.std.proofs.Common.{sym}
use Rattle.si_lex.proofs.TokenPlaces.{slash_to, no_slash}
use Rattle.si_lex.proofs.spellings.slash_end.Goals as goal

pub returns-then-stands_at : goal.returns-then-stands_at
returns-then-stands_at c = no_slash c.args.bytes.now c.args.at c.requires.within c.requires.slash (sym c.if-stands_at.ensures.value)

pub returns-else-stands_at : goal.returns-else-stands_at
returns-else-stands_at c = slash_to c.args.bytes.now c.args.at c.requires.within c.requires.slash (sym c.if-stands_at.ensures.value)
