use Rattle.std.proofs.Common.{◌∷◌, ◌++◌, [], take, sym, ap, subst, ◌∙◌}
use Rattle.si_defs.specs.Substitutions.{IsAmong}
use Rattle.si_state.specs.Acceptance.{Agrees}
use Rattle.si_term.specs.Terms.{symbol_of}
use Rattle.si_sign.specs.Plain.{lent_symbols}
use Rattle.si_sign.proofs.PlainLaws.{clash_is, agrees_next, shown_next, shown_among}
use Rattle.si_sign.proofs.plain.find_clash.Goals as goal

pub returns-then-clashes-clause-clash : goal.returns-then-clashes-clause-clash
returns-then-clashes-clause-clash c =
    let s = symbol_of c.args.symbol.now in
    let one = c.index-others-i.result in (
      symbol_of one.now,
      subst (λ o. IsAmong (lent_symbols c.args.others.now) (symbol_of o.now)) (sym c.index-others-i.is) (shown_among c.args.others.now c.loop-i.i one c.loop-i-test.true),
      clash_is s (symbol_of one.now) (sym c.clashes.ensures ∙ c.if-clashes.true),
      c.shape.ensures,
    )

pub loop-i-preserved : goal.loop-i-preserved
loop-i-preserved c =
    let s = symbol_of c.args.symbol.now in
    let os = c.args.others.now in
    let one = c.index-others-i.result in
    let clear = agrees_next s (lent_symbols (take c.loop-i.i os)) (symbol_of one.now) c.loop-i.invariant (sym c.clashes.ensures ∙ c.if-clashes.false) in
    let next = shown_next os c.loop-i.i one c.loop-i-test.true ∙ ap (λ o. lent_symbols (take c.loop-i.i os) ++ symbol_of o.now ∷ []) (sym c.index-others-i.is) in
    subst (λ l. Agrees l s) (sym next) clear
