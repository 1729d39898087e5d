use Rattle.std.proofs.Common.{true, subst}
use Rattle.std.specs.Prelude.{IfSome}
use Rattle.si_parse.specs.GrammarRules.{function_symbol}
use Rattle.si_flat.specs.Writing.{PutsSymbol}
use Rattle.si_query.proofs.terms.close_function.Goals as goal

pub returns : goal.returns
returns g c =
    subst
    (λ x. IfSome c.close.result (λ _. PutsSymbol (g.T.SymTable.pairs c.args.table.now) (function_symbol c.args.kind x c.args.arity) true c.args.gap c.args.writer.now c.close.new.self))
    c.in_ok-text.ensures
    c.close.ensures.put
