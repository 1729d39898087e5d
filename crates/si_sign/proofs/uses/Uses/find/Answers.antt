use Rattle.std.proofs.Common.{sym, ap, ◌∙◌}
use Rattle.std.specs.Prelude.{option_copied}
use Rattle.si_term.specs.Terms.{symbol_of}
use Rattle.si_defs.proofs.SymbolLaws.{symbol_is}
use Rattle.si_sign.specs.Uses.{key_in}
use Rattle.si_sign.proofs.uses.Uses.find.Goals as goal

pub returns-then-is : goal.returns-then-is
returns-then-is c =
    let t = c.args.self.now in
    let is = symbol_is (symbol_of c.in-Some.counted.now.sym) (symbol_of c.args.symbol.now) (sym c.is.ensures ∙ c.if-is.true) in
    sym (c.requires.held c.likely-likely.result c.in-Some.counted.now (sym c.get.ensures ∙ ap option_copied c.in-Some.is)) ∙ (λ i. key_in t (is i).kind (is i).text)
