use Rattle.std.proofs.Common.{◌≡◌, ◌≤◌, ◌+◌, ◌++◌, ◌∷◌, [], ℕ, List, length, true, false, sym, ap, subst, ◌∙◌, arith, append-nil, append_assoc}
use Rattle.std.proofs.lemmas.List.{nil_from_length}
use Rattle.si_flat.specs.declared.Cell.{Cell}
use Rattle.si_flat.specs.declared.Cell.TheVariants as cell
use Rattle.si_flat.specs.Cells.{Term}
use Rattle.si_insert.specs.declared.open.Opened.{Opened}
use Rattle.si_insert.proofs.FitLaws.{LeftToFit, opened_at}
use Rattle.si_insert.proofs.FitTurns.{Turn, turn, is_at, start_there, there_now, within_after, indicator_turn, indicator_new, same_turn, differ_turn, all_fits}
use Rattle.si_insert.proofs.fit.fits.Goals as goal

-- the first terms of what is left
first_of : (node rest cells : List Cell) (c : Cell) (place : ℕ) (t u : Term) (old now : List Opened) → node ≡ c ∷ rest → LeftToFit node cells place t u old now → Turn c rest cells place t u old now
first_of node rest cells c place t u old now e l = turn c rest cells place t u old now (subst (λ n. LeftToFit n cells place t u old now) e l)

pub loop-cell-init : goal.loop-cell-init
loop-cell-init c = (
  ([], sym (append-nil c.args.openings.now)),
  omega (arith, c.requires.inside),
  λ t u h k. start_there c.args.right.now c.args.cells.now c.args.at c.requires.may_fit.term t u c.args.openings.now c.requires.whole c.requires.inside c.requires.may_fit.stands c.requires.may_fit.distinct h k,
)

pub bounds-cells-place : goal.bounds-cells-place
bounds-cells-place c =
    let a = is_at c.args.cells.now c.args.at c.requires.whole c.requires.inside in
    let l = c.loop-cell.invariant.2 c.requires.may_fit.term a.term c.requires.may_fit.stands a.stands in
    let r = first_of c.loop-cell.node.now c.in-Some.arguments.now c.args.cells.now c.in-Some.cell.now c.loop-cell.place c.requires.may_fit.term a.term c.args.openings.now c.loop-cell.openings c.in-Some.ensures.cases.0 l in
    (there_now c.in-Some.cell.now c.in-Some.arguments.now c.args.cells.now c.loop-cell.place c.requires.may_fit.term a.term c.args.openings.now c.loop-cell.openings (cell.Query 0) r).within

pub open-requires : goal.open-requires
open-requires c =
    let a = is_at c.args.cells.now c.args.at c.requires.whole c.requires.inside in
    let l = c.loop-cell.invariant.2 c.requires.may_fit.term a.term c.requires.may_fit.stands a.stands in
    let r = first_of c.loop-cell.node.now c.in-Some.arguments.now c.args.cells.now (cell.Ind c.in-Ind.indicator) c.loop-cell.place c.requires.may_fit.term a.term c.args.openings.now c.loop-cell.openings (c.in-Some.ensures.cases.0 ∙ ap (λ x. x ∷ c.in-Some.arguments.now) c.in-Ind.is) l in
    indicator_new c.in-Ind.indicator c.in-Some.arguments.now c.args.cells.now c.loop-cell.place c.requires.may_fit.term a.term c.args.openings.now c.loop-cell.openings r

pub overflow_add-place : goal.overflow_add-place
overflow_add-place c =
    let a = is_at c.args.cells.now c.args.at c.requires.whole c.requires.inside in
    let l = c.loop-cell.invariant.2 c.requires.may_fit.term a.term c.requires.may_fit.stands a.stands in
    let r = first_of c.loop-cell.node.now c.in-Some.arguments.now c.args.cells.now c.in-Some.cell.now c.loop-cell.place c.requires.may_fit.term a.term c.args.openings.now c.loop-cell.openings c.in-Some.ensures.cases.0 l in
    omega (arith, c.well_formed.1.1.0.0, c.span-place.ensures, within_after c.in-Some.cell.now c.in-Some.arguments.now c.args.cells.now c.loop-cell.place c.requires.may_fit.term a.term c.args.openings.now c.loop-cell.openings (cell.App 0 0 0) r)

pub loop-cell-preserved-in-Ind : goal.loop-cell-preserved-in-Ind
loop-cell-preserved-in-Ind c =
    let a = is_at c.args.cells.now c.args.at c.requires.whole c.requires.inside in
    let turn_of : (t u : Term) → LeftToFit c.loop-cell.node.now c.args.cells.now c.loop-cell.place t u c.args.openings.now c.loop-cell.openings → Turn (cell.Ind c.in-Ind.indicator) c.in-Some.arguments.now c.args.cells.now c.loop-cell.place t u c.args.openings.now c.loop-cell.openings =
    λ t u l. first_of c.loop-cell.node.now c.in-Some.arguments.now c.args.cells.now (cell.Ind c.in-Ind.indicator) c.loop-cell.place t u c.args.openings.now c.loop-cell.openings (c.in-Some.ensures.cases.0 ∙ ap (λ x. x ∷ c.in-Some.arguments.now) c.in-Ind.is) l in
    let grown = c.loop-cell.invariant.0 in
    let one = opened_at c.in-Ind.indicator c.loop-cell.place in
    let within = within_after (cell.Ind c.in-Ind.indicator) c.in-Some.arguments.now c.args.cells.now c.loop-cell.place c.requires.may_fit.term a.term c.args.openings.now c.loop-cell.openings (cell.App 0 0 0) (turn_of c.requires.may_fit.term a.term (c.loop-cell.invariant.2 c.requires.may_fit.term a.term c.requires.may_fit.stands a.stands)) in (
      (grown.0 ++ one ∷ [], c.in_ok-open.ensures.ok ∙ ap (λ l. l ++ one ∷ []) grown.1 ∙ append_assoc c.args.openings.now grown.0 (one ∷ [])),
      subst (λ n. c.loop-cell.place + n ≤ length c.args.cells.now) (sym c.span-place.ensures) within,
      λ t u h k.
          let next = indicator_turn c.in-Ind.indicator c.in-Some.arguments.now c.args.cells.now c.loop-cell.place t u c.args.openings.now c.loop-cell.openings (cell.App 0 0 0) (turn_of t u (c.loop-cell.invariant.2 t u h k)) in
          subst
          (λ o. LeftToFit c.in-Some.arguments.now c.args.cells.now (c.loop-cell.place + c.span-place.result) t u c.args.openings.now o)
          (sym c.in_ok-open.ensures.ok)
          (subst (λ n. LeftToFit c.in-Some.arguments.now c.args.cells.now (c.loop-cell.place + n) t u c.args.openings.now (c.loop-cell.openings ++ one ∷ [])) (sym c.span-place.ensures) next),
    )

pub loop-cell-preserved : goal.loop-cell-preserved
loop-cell-preserved c = (
  c.loop-cell.invariant.0,
  let a = is_at c.args.cells.now c.args.at c.requires.whole c.requires.inside in
      let r = first_of c.loop-cell.node.now c.in-Some.arguments.now c.args.cells.now c.in-Some.cell.now c.loop-cell.place c.requires.may_fit.term a.term c.args.openings.now c.loop-cell.openings c.in-Some.ensures.cases.0 (c.loop-cell.invariant.2 c.requires.may_fit.term a.term c.requires.may_fit.stands a.stands) in
      omega (arith, (there_now c.in-Some.cell.now c.in-Some.arguments.now c.args.cells.now c.loop-cell.place c.requires.may_fit.term a.term c.args.openings.now c.loop-cell.openings (cell.Query 0) r).within),
  λ t u h k. same_turn c.in-Some.cell.now c.in-Some.arguments.now c.args.cells.now c.loop-cell.place t u c.args.openings.now c.loop-cell.openings (cell.App 0 0 0) c.in_default-cell.not-Ind (sym c.have_same_head.ensures ∙ c.if-have_same_head.true) (first_of c.loop-cell.node.now c.in-Some.arguments.now c.args.cells.now c.in-Some.cell.now c.loop-cell.place t u c.args.openings.now c.loop-cell.openings c.in-Some.ensures.cases.0 (c.loop-cell.invariant.2 t u h k)),
)

pub returns-else-have_same_head : goal.returns-else-have_same_head
returns-else-have_same_head c = record {
  grows = c.loop-cell.invariant.0;
  fits = λ told t u h k. absurd (let not_told : false ≡ true = told in cc);
  differs = λ told t u bs h k e. differ_turn c.in-Some.cell.now c.in-Some.arguments.now c.args.cells.now c.loop-cell.place t u c.args.openings.now c.loop-cell.openings (cell.App 0 0 0) c.in_default-cell.not-Ind (sym c.have_same_head.ensures ∙ c.if-have_same_head.false) (first_of c.loop-cell.node.now c.in-Some.arguments.now c.args.cells.now c.in-Some.cell.now c.loop-cell.place t u c.args.openings.now c.loop-cell.openings c.in-Some.ensures.cases.0 (c.loop-cell.invariant.2 t u h k)) bs e;
}

pub returns-clause-fits : goal.returns-clause-fits
returns-clause-fits c = λ told t u h k. all_fits c.args.cells.now c.loop-cell.place t u c.args.openings.now c.loop-cell.openings (subst (λ n. LeftToFit n c.args.cells.now c.loop-cell.place t u c.args.openings.now c.loop-cell.openings) (nil_from_length c.loop-cell.node.now c.in_default.ensures.cases) (c.loop-cell.invariant.2 t u h k))
