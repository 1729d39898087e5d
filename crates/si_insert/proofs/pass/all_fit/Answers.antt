use Rattle.std.proofs.Common.{◌≡◌, ◌∷◌, ◌++◌, List, sym, ap, subst, ◌∙◌, append_assoc}
use Rattle.si_defs.specs.Substitutions.{IsAmong}
use Rattle.si_flat.specs.Rows.{CellPair}
use Rattle.si_flat.specs.declared.Cell.{Cell}
use Rattle.si_legal.specs.Bindings.{Binding}
use Rattle.si_insert.specs.declared.open.Opened.{Opened}
use Rattle.si_insert.specs.Opened.{numbers, BeginsAtPlace}
use Rattle.si_insert.specs.Fitting.{MayFit, FitsThere, FitsNowhere}
use Rattle.si_insert.specs.Passing.{MayPass}
use Rattle.si_insert.proofs.PassLaws.{LeftToPass, FirstOf, first_of, is_opened, place_within, may_fit, passed_one, never_one, end_pass}
use Rattle.si_insert.proofs.pass.all_fit.Goals as goal

first_here : (cells : List Cell) (old now : List Opened) (node pairs rest : List CellPair) (there bs : List Binding) (p : CellPair) → pairs ≡ p ∷ rest → MayPass cells old node there bs → LeftToPass cells old now there bs pairs → FirstOf cells old now there bs p rest
first_here cells old now node pairs rest there bs p e may l = first_of cells old now node there bs p rest may (subst (LeftToPass cells old now there bs) e l)

pub at-at-requires : goal.at-at-requires
at-at-requires c =
    let may = c.requires.can_pass.2 in
    let f = first_here c.args.cells.now c.args.openings.now c.loop-pair.openings c.args.node.now c.loop-pair.pair-iterator c.next.new.self c.requires.can_pass.0 c.requires.can_pass.1 c.in-Some.pair c.in-Some.ensures.steps may (c.loop-pair.invariant.3 c.requires.can_pass.0 c.requires.can_pass.1 may) in
    subst (IsAmong (numbers c.loop-pair.openings)) (sym c.left.ensures) (is_opened c.args.cells.now c.args.openings.now c.loop-pair.openings c.args.node.now c.requires.can_pass.0 c.requires.can_pass.1 c.in-Some.pair c.next.new.self may f)

pub fits-requires-clause-inside : goal.fits-requires-clause-inside
fits-requires-clause-inside c =
    let may = c.requires.can_pass.2 in
    let l = c.loop-pair.invariant.3 c.requires.can_pass.0 c.requires.can_pass.1 may in
    place_within c.args.cells.now c.args.openings.now c.loop-pair.openings c.args.node.now c.requires.can_pass.0 c.requires.can_pass.1 c.left.result c.at-at.result l.found may l.opens c.at-at.ensures

pub fits-requires-clause-may_fit : goal.fits-requires-clause-may_fit
fits-requires-clause-may_fit c =
    let may = c.requires.can_pass.2 in
    let f = first_here c.args.cells.now c.args.openings.now c.loop-pair.openings c.args.node.now c.loop-pair.pair-iterator c.next.new.self c.requires.can_pass.0 c.requires.can_pass.1 c.in-Some.pair c.in-Some.ensures.steps may (c.loop-pair.invariant.3 c.requires.can_pass.0 c.requires.can_pass.1 may) in
    subst (MayFit c.loop-pair.openings) (sym c.right.ensures.cells) (may_fit c.args.cells.now c.args.openings.now c.loop-pair.openings c.requires.can_pass.0 c.requires.can_pass.1 c.in-Some.pair c.next.new.self f)

pub returns-then-not-branch-clause-differs : goal.returns-then-not-branch-clause-differs
returns-then-not-branch-clause-differs c = λ told there bs fs may makes.
    let f = first_here c.args.cells.now c.args.openings.now c.loop-pair.openings c.args.node.now c.loop-pair.pair-iterator c.next.new.self there bs c.in-Some.pair c.in-Some.ensures.steps may (c.loop-pair.invariant.3 there bs may) in
    let place : BeginsAtPlace c.loop-pair.openings c.in-Some.pair.0 c.at-at.result = subst (λ n. BeginsAtPlace c.loop-pair.openings n c.at-at.result) c.left.ensures c.at-at.ensures in
    let nowhere : FitsNowhere c.in-Some.pair.1 c.args.cells.now c.at-at.result = subst (λ r. FitsNowhere r c.args.cells.now c.at-at.result) c.right.ensures.cells (c.in_ok-fits.ensures.differs c.if-not-branch.true) in
    never_one c.args.cells.now c.args.openings.now c.loop-pair.openings c.args.node.now there bs c.in-Some.pair c.next.new.self c.at-at.result may f place nowhere fs makes

pub loop-pair-preserved : goal.loop-pair-preserved
loop-pair-preserved c =
    let place : BeginsAtPlace c.loop-pair.openings c.in-Some.pair.0 c.at-at.result = subst (λ n. BeginsAtPlace c.loop-pair.openings n c.at-at.result) c.left.ensures c.at-at.ensures in
    let fits : FitsThere c.loop-pair.openings c.in-Some.pair.1 c.args.cells.now c.at-at.result c.fits.new.openings = subst (λ r. FitsThere c.loop-pair.openings r c.args.cells.now c.at-at.result c.fits.new.openings) c.right.ensures.cells (c.in_ok-fits.ensures.fits c.if-not-branch.false) in
    let before = c.loop-pair.invariant.2 in
    let after = c.in_ok-fits.ensures.grows in (
      tt,
      tt,
      (before.0 ++ after.0, after.1 ∙ ap (λ l. l ++ after.0) before.1 ∙ append_assoc c.args.openings.now before.0 after.0),
      λ there bs may. passed_one c.args.cells.now c.args.openings.now c.loop-pair.openings c.fits.new.openings c.args.node.now there bs c.in-Some.pair c.next.new.self c.at-at.result may (first_here c.args.cells.now c.args.openings.now c.loop-pair.openings c.args.node.now c.loop-pair.pair-iterator c.next.new.self there bs c.in-Some.pair c.in-Some.ensures.steps may (c.loop-pair.invariant.3 there bs may)) place fits,
    )

pub returns-clause-fits : goal.returns-clause-fits
returns-clause-fits c = λ told there bs may. end_pass c.args.cells.now c.args.openings.now c.loop-pair.openings there bs (subst (LeftToPass c.args.cells.now c.args.openings.now c.loop-pair.openings there bs) c.in-None.ensures.steps.0 (c.loop-pair.invariant.3 there bs may))
