use Rattle.std.proofs.Common.{◌∷◌, ◌++◌, [], take, sym, ap, subst, ◌∙◌}
use Rattle.si_defs.proofs.ListLaws.{among_front, among_back}
use Rattle.si_state.specs.Acceptance.{AllAgree}
use Rattle.si_term.specs.Terms.{symbol_of}
use Rattle.si_sign.specs.Plain.{lent_symbols}
use Rattle.si_sign.proofs.TakeLaws.{agree_append}
use Rattle.si_sign.proofs.PlainLaws.{agrees_both, shown_next, first_at}
use Rattle.si_sign.proofs.plain.first_clash.Goals as goal

pub returns-in-Some-clause-clash : goal.returns-in-Some-clause-clash
returns-in-Some-clause-clash c =
    let ks = lent_symbols c.args.known.now in
    let os = c.args.own.now in
    let one = c.index-own-i.result in
    let f = c.in-Some.ensures.clash in (
      symbol_of one.now,
      f.0,
      first_at ks os c.loop-i.i one f.0 c.loop-i-test.true c.index-own-i.is c.loop-i.invariant (among_front ks (lent_symbols (take c.loop-i.i os)) f.0 f.1) f.2,
      (c.shape-found.ensures, f.3),
    )

pub returns-in-Some-find_clash-clause-clash : goal.returns-in-Some-find_clash-clause-clash
returns-in-Some-find_clash-clause-clash c =
    let ks = lent_symbols c.args.known.now in
    let os = c.args.own.now in
    let one = c.index-own-i.result in
    let f = c.in-Some-find_clash.ensures.clash in (
      symbol_of one.now,
      f.0,
      first_at ks os c.loop-i.i one f.0 c.loop-i-test.true c.index-own-i.is c.loop-i.invariant (among_back ks (lent_symbols (take c.loop-i.i os)) f.0 f.1) f.2,
      (c.shape-found.ensures, f.3),
    )

pub loop-i-preserved : goal.loop-i-preserved
loop-i-preserved c =
    let ks = lent_symbols c.args.known.now in
    let os = c.args.own.now in
    let i = c.loop-i.i in
    let one = c.index-own-i.result in
    let s = symbol_of one.now in
    let next = shown_next os i one c.loop-i-test.true ∙ ap (λ o. lent_symbols (take i os) ++ symbol_of o.now ∷ []) (sym c.index-own-i.is) in
    let more = agree_append ks (lent_symbols (take i os)) (s ∷ []) c.loop-i.invariant (agrees_both s ks (lent_symbols (take i os)) c.in_default.ensures.agrees c.in_default-find_clash.ensures.agrees, tt) in
    subst (AllAgree ks) (sym next) more
