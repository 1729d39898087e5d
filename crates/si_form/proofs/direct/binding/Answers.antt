use Rattle.std.proofs.Common.{sym, ◌∙◌}
use Rattle.si_unify.specs.Solving.{variable_of}
use Rattle.si_form.proofs.DirectLaws.{of_query, of_entry, no_symbol, no_indicator}
use Rattle.si_form.proofs.direct.binding.Goals as goal

pub returns-in-Query-clause-left : goal.returns-in-Query-clause-left
returns-in-Query-clause-left c = of_query (variable_of c.args.slots c.args.slot) c.in-Query.number (sym c.cell_of.ensures ∙ c.in-Query.is)

pub returns-in-Entry-clause-left : goal.returns-in-Entry-clause-left
returns-in-Entry-clause-left c = of_entry (variable_of c.args.slots c.args.slot) c.in-Entry.number (sym c.cell_of.ensures ∙ c.in-Entry.is)

pub unreachable-requires : goal.unreachable-requires
unreachable-requires c = no_symbol (variable_of c.args.slots c.args.slot) _ _ _ (sym c.cell_of.ensures ∙ c.in-App.is)

pub unreachable-requires-in-Ind : goal.unreachable-requires-in-Ind
unreachable-requires-in-Ind c = no_indicator c.args.slots c.args.slot c.in-Ind.field-0 c.requires.none c.requires.inside (sym c.cell_of.ensures ∙ c.in-Ind.is)
