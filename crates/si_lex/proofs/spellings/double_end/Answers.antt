use Rattle.si_lex.proofs.TokenPlaces.{double_to, no_double}
use Rattle.si_lex.proofs.spellings.double_end.Goals as goal

pub returns-in-Some : goal.returns-in-Some
returns-in-Some c =
    double_to c.args.bytes.now c.args.at c.in-Some.end c.requires.within c.requires.quote c.in-Some.ensures.0 c.in-Some.ensures.1 c.in-Some.ensures.2

pub returns-in-None : goal.returns-in-None
returns-in-None c = no_double c.args.bytes.now c.args.at c.requires.within c.requires.quote c.in-None.ensures
