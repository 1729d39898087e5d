use Rattle.std.proofs.Common.{sym, ◌∙◌, subst}
use Rattle.si_parse.proofs.ParseWhole.{whole_means, whole_only, whole_none, is_empty, never_empty, same_left}
use Rattle.si_parse.proofs.ParseReads.{reads_some}
use Rattle.si_defs.specs.Clauses.{AreSoundLiterals}
use Rattle.si_parse.specs.Meaning.{literals_of}
use Rattle.si_parse.specs.Parsing.{IfFound}
use Rattle.si_parse.proofs.text.whole_formula.Goals as goal

pub returns-in_default-clause-read : goal.returns-in_default-clause-read
returns-in_default-clause-read c = whole_none literals_of c.args.tokens.now tt c.in_ok-literals.field-0 c.in_ok-literals.ensures.read (λ x r e n. c.in_default.not-Some (x, r) e)

pub returns-then-not-is_empty-clause-read : goal.returns-then-not-is_empty-clause-read
returns-then-not-is_empty-clause-read c =
    whole_none literals_of c.args.tokens.now tt c.in_ok-literals.field-0 c.in_ok-literals.ensures.read
    (λ x r e n. never_empty c.in-Some.rest.now c.if-not-is_empty.ensures (same_left _ _ c.in-Some.rest r (sym c.in-Some.is ∙ e) n))

pub returns-clause-read : goal.returns-clause-read
returns-clause-read c =
    let p = reads_some literals_of c.args.tokens.now c.in_ok-literals.ensures.read c.in-Some.is in
    let none = is_empty c.in-Some.rest.now c.if-not-is_empty.ensures in
    (whole_means literals_of c.args.tokens.now tt c.in-Some.literals c.in-Some.rest none p, whole_only literals_of c.args.tokens.now tt c.in-Some.literals c.in-Some.rest p)

pub returns-clause-sound : goal.returns-clause-sound
returns-clause-sound c = subst (IfFound (λ ls. AreSoundLiterals (literals_of ls))) c.in-Some.is c.in_ok-literals.ensures.sound
