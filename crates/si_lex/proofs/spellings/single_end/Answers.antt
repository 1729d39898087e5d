use Rattle.si_lex.proofs.TokenPlaces.{single_to, no_single, no_empty}
use Rattle.si_lex.proofs.spellings.single_end.Goals as goal

pub returns-in-Some : goal.returns-in-Some
returns-in-Some c =
    single_to c.args.bytes.now c.args.at c.in-Some.end c.requires.within c.requires.quote c.if-end-at.true c.in-Some.ensures.1 c.in-Some.ensures.2

pub returns-in-Some-2 : goal.returns-in-Some-2
returns-in-Some-2 c =
    no_empty c.args.bytes.now c.args.at c.in-Some.end c.requires.within c.requires.quote c.in-Some.ensures.0 c.if-end-at.false c.in-Some.ensures.1 c.in-Some.ensures.2

pub returns-in-Some-2-2 : goal.returns-in-Some-2-2
returns-in-Some-2-2 c = no_single c.args.bytes.now c.args.at c.requires.within c.requires.quote c.in-Some-2.ensures
