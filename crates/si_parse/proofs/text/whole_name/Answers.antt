use Rattle.std.proofs.Common.{sym, ◌∙◌}
use Rattle.si_parse.proofs.ParseWhole.{whole_means, whole_only, whole_none, is_empty, never_empty, same_left}
use Rattle.si_parse.proofs.ParseReads.{reads_some}
use Rattle.si_term.specs.Meaning.{name_of}
use Rattle.si_parse.proofs.text.whole_name.Goals as goal

pub returns-in_default : goal.returns-in_default
returns-in_default c = whole_none name_of c.args.tokens.now tt c.in_ok-name.field-0 c.in_ok-name.ensures (λ x r e n. c.in_default.not-Some (x, r) e)

pub returns-then-not-is_empty : goal.returns-then-not-is_empty
returns-then-not-is_empty c =
    whole_none name_of c.args.tokens.now tt c.in_ok-name.field-0 c.in_ok-name.ensures
    (λ x r e n. never_empty c.in-Some.rest.now c.if-not-is_empty.ensures (same_left _ _ c.in-Some.rest r (sym c.in-Some.is ∙ e) n))

pub returns : goal.returns
returns c =
    let p = reads_some name_of c.args.tokens.now c.in_ok-name.ensures c.in-Some.is in
    let none = is_empty c.in-Some.rest.now c.if-not-is_empty.ensures in
    (whole_means name_of c.args.tokens.now tt c.in-Some.name c.in-Some.rest none p, whole_only name_of c.args.tokens.now tt c.in-Some.name c.in-Some.rest p)
