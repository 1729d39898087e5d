use Rattle.std.proofs.Common.{◌∷◌, [], cond, not, ap, sym, ◌∙◌}
use Rattle.std.proofs.lemmas.Result.{on_ok_weaker}
use Rattle.indexmap.specs.IndexSet.{insert_all}
use Rattle.si_defs.specs.Symbols.{same_symbol}
use Rattle.si_term.specs.Terms.{symbol_of}
use Rattle.si_flat.proofs.Numbers.{has-among, has-none}
use Rattle.si_screen.proofs.extra.meet_symbol.Goals as goal

pub returns-in-Some : goal.returns-in-Some
returns-in-Some g c =
    let s = symbol_of c.args.symbol.now in
    ap (λ b. insert_all same_symbol c.args.extra.now (cond (not b) (s ∷ []) [])) (sym (has-among (g.T.SymTable.pairs c.args.table.now) s _ c.in-Some.ensures.found))

pub returns-in-None : goal.returns-in-None
returns-in-None g c =
    let s = symbol_of c.args.symbol.now in
    let lacks = has-none (g.T.SymTable.pairs c.args.table.now) s c.in-None.ensures.none in
    on_ok_weaker c.add.result (λ added. added ∙ ap (λ b. insert_all same_symbol c.args.extra.now (cond (not b) (s ∷ []) [])) (sym lacks)) c.add.ensures
