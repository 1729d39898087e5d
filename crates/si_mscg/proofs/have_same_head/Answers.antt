use Rattle.std.proofs.Common.{sym, ◌∙◌}
use Rattle.si_mscg.proofs.HeadLaws.{same_symbols, same_variables}
use Rattle.si_mscg.proofs.have_same_head.Goals as goal

pub returns-then-have_same_symbol : goal.returns-then-have_same_symbol
returns-then-have_same_symbol c = c.if-have_same_symbol.true ∙ same_symbols c.args.one c.args.other (sym c.have_same_symbol.ensures ∙ c.if-have_same_symbol.true)

pub returns-else-have_same_symbol : goal.returns-else-have_same_symbol
returns-else-have_same_symbol c =
    same_variables c.args.one c.args.other c.is_same_variable.result (sym c.have_same_symbol.ensures ∙ c.if-have_same_symbol.false) c.is_same_variable.ensures
