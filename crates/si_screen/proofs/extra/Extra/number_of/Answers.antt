use Rattle.std.proofs.Common.{ap, sym, ◌∙◌}
use Rattle.si_term.specs.Terms.{symbol_of}
use Rattle.si_flat.specs.Numbered.{number_in}
use Rattle.si_flat.specs.Flattened.{extra_numbers}
use Rattle.si_screen.specs.declared.extra.Key.{Key}
use Rattle.si_screen.proofs.ExtraLaws.{number_there, number_nowhere}
use Rattle.si_screen.proofs.extra.Extra.number_of.Goals as goal

pub returns-in-Some-clause-is : goal.returns-in-Some-clause-is
returns-in-Some-clause-is c =
    let key : Key = record { symbol = c.args.symbol } in
    sym (number_there c.self.inside.keys.keys key c.in-Some.place c.in-Some.ensures.index c.in-Some.ensures.found)
    ∙ ap (λ l. number_in (extra_numbers l) (symbol_of c.args.symbol.now)) c.self.view_is

pub returns-in-None-clause-is : goal.returns-in-None-clause-is
returns-in-None-clause-is c =
    let key : Key = record { symbol = c.args.symbol } in
    sym (number_nowhere c.self.inside.keys.keys key c.in-None.ensures.found)
    ∙ ap (λ l. number_in (extra_numbers l) (symbol_of c.args.symbol.now)) c.self.view_is
