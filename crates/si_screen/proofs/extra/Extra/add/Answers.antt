use Rattle.std.proofs.Common.{map, ap, refl, ◌∙◌}
use Rattle.indexmap.specs.IndexSet.{insert_key}
use Rattle.si_defs.specs.Symbols.{same_symbol}
use Rattle.si_term.specs.Terms.{symbol_of}
use Rattle.si_term.proofs.Inserted.{key-shown}
use Rattle.si_screen.specs.Walks.{symbol_of_key}
use Rattle.si_screen.proofs.ExtraLaws.{same_key}
use Rattle.si_screen.proofs.extra.Extra.add.Goals as goal

pub returns : goal.returns
returns c =
    ap (map symbol_of_key) c.in_ok-insert.ensures.keys
    ∙ key-shown symbol_of_key same_key same_symbol (λ x y. refl) c.self.inside.keys.keys (record { symbol = c.args.symbol })
    ∙ ap (λ l. insert_key same_symbol l (symbol_of c.args.symbol.now)) c.self.view_is
