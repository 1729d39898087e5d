use Rattle.std.proofs.Common.{cond, sym, ap, ◌∙◌, arith}
use Rattle.si_term.specs.Terms.{symbol_of}
use Rattle.si_flat.specs.Numbered.{number_in}
use Rattle.si_flat.specs.Flattened.{extra_numbers}
use Rattle.si_flat.proofs.Numbers.{has-none, number-append, number_known}
use Rattle.si_screen.proofs.rows.number_of.Goals as goal

pub returns-in-Some-clause-is : goal.returns-in-Some-clause-is
returns-in-Some-clause-is g c =
    sym (number_known (g.T.SymTable.pairs c.args.table.now) (extra_numbers c.args.extra.now) (symbol_of c.args.symbol.now) c.in-Some.number c.in-Some.ensures.numbering c.in-Some.ensures.found)

pub returns-in-Some-clause-small : goal.returns-in-Some-clause-small
returns-in-Some-clause-small g c = omega (arith, c.in-Some.ensures.numbering.small (symbol_of c.args.symbol.now) c.in-Some.number c.in-Some.ensures.found)

pub returns-in-None-clause-is : goal.returns-in-None-clause-is
returns-in-None-clause-is g c =
    let pairs = g.T.SymTable.pairs c.args.table.now in
    let others = extra_numbers c.args.extra.now in
    let s = symbol_of c.args.symbol.now in
    c.number_of.ensures.is
    ∙ sym (number-append pairs others s ∙ ap (λ b. cond b (number_in pairs s) (number_in others s)) (has-none pairs s c.in-None.ensures.none))
