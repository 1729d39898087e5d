use Rattle.std.proofs.Common.{sym, ◌∙◌}
use Rattle.si_lex.specs.declared.bytes.First.TheVariants.{White, Percent, Slash}
use Rattle.si_lex.proofs.BlankPlaces.{one_white, one_line}
use Rattle.si_lex.proofs.FirstLaws.{means_at, no_blank_begins, no_blank_first}
use Rattle.si_lex.proofs.blanks.blank_end.Goals as goal

pub returns-in-White : goal.returns-in-White
returns-in-White c =
    one_white c.args.bytes.now c.args.at c.requires (means_at c.args.bytes.now c.args.at c.first_of.result White c.first_of.ensures c.in-White.is)

pub returns-in-Percent : goal.returns-in-Percent
returns-in-Percent c =
    let percent = means_at c.args.bytes.now c.args.at c.first_of.result Percent c.first_of.ensures c.in-Percent.is in
    one_line c.args.bytes.now c.args.at c.line_end.result c.requires percent c.line_end.ensures

pub comment_end-requires-clause-slash : goal.comment_end-requires-clause-slash
comment_end-requires-clause-slash c = means_at c.args.bytes.now c.args.at c.first_of.result Slash c.first_of.ensures c.in-Slash.is

pub returns-in_default : goal.returns-in_default
returns-in_default c =
    no_blank_first c.args.bytes.now c.args.at c.requires (λ e. c.in_default.not-White (c.first_of.ensures ∙ e)) (λ e. c.in_default.not-Percent (c.first_of.ensures ∙ e))
    (λ e. c.in_default.not-Slash (c.first_of.ensures ∙ e))

pub returns-then-not-begins_blank : goal.returns-then-not-begins_blank
returns-then-not-begins_blank c = no_blank_begins c.args.bytes.now c.args.at c.requires (sym c.begins_blank.ensures ∙ c.if-not-begins_blank.true)
