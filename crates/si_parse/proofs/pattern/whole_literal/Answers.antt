use Rattle.std.proofs.Common.{sym, ◌∙◌}
use Rattle.si_parse.proofs.PatternLaws.{literal_left, literal_whole}
use Rattle.si_parse.proofs.ParseWhole.{never_empty, same_left, is_empty}
use Rattle.std.proofs.Common.{subst}
use Rattle.si_parse.specs.Parsing.{IfFound}
use Rattle.si_defs.specs.Clauses.{IsSoundPattern, literal_pattern}
use Rattle.si_parse.proofs.ParseReads.{reads_some}
use Rattle.si_term.specs.Meaning.{literal_of}
use Rattle.si_parse.proofs.pattern.whole_literal.Goals as goal

pub returns-in_default : goal.returns-in_default
returns-in_default c = literal_left c.args.tokens.now c.in_ok-literal.field-0 c.in_ok-literal.ensures.read (λ l r e n. c.in_default.not-Some (l, r) e)

pub returns-then-not-is_empty : goal.returns-then-not-is_empty
returns-then-not-is_empty c =
    literal_left c.args.tokens.now c.in_ok-literal.field-0 c.in_ok-literal.ensures.read
    (λ l r e n. never_empty c.in-Some.rest.now c.if-not-is_empty.ensures (same_left _ _ c.in-Some.rest r (sym c.in-Some.is ∙ e) n))

pub returns : goal.returns
returns c =
    literal_whole c.args.tokens.now (literal_of c.in-Some.literal) c.in-Some.rest (is_empty c.in-Some.rest.now c.if-not-is_empty.ensures)
    (reads_some literal_of c.args.tokens.now c.in_ok-literal.ensures.read c.in-Some.is)
    (subst (IfFound (λ x. IsSoundPattern (literal_pattern (literal_of x)))) c.in-Some.is c.in_ok-literal.ensures.sound)
