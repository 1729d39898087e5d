use Rattle.std.proofs.Common.{◌≡◌, ◌+◌, subst, sym, ◌∙◌, arith}
use Rattle.si_defs.specs.Terms as terms
use Rattle.si_defs.proofs.TermLaws.{size_some}
use Rattle.si_flat.specs.declared.Cell.TheVariants as cell
use Rattle.si_mscg.proofs.SpanLaws.{IsPast, past_none, one_more, past_inside, past_span, past_one, past_end}
use Rattle.si_mscg.proofs.spans.arguments_span.Goals as goal

pub loop-init : goal.loop-init
loop-init c = past_none c.args.count c.args.cells.now c.requires

pub bounds-cells-end : goal.bounds-cells-end
bounds-cells-end c =
    let o = one_more c.args.count c.args.cells.now c.loop.counter c.loop.end c.loop-test.true c.loop.invariant in
    omega (arith, past_inside c.args.count c.args.cells.now c.loop.counter c.loop.end o, size_some o.first)

pub overflow_add-end : goal.overflow_add-end
overflow_add-end c =
    let o = one_more c.args.count c.args.cells.now c.loop.counter c.loop.end c.loop-test.true c.loop.invariant in
    let told : c.span-end.result ≡ terms.size o.first = c.span-end.ensures ∙ past_span c.args.count c.args.cells.now c.loop.counter c.loop.end (cell.App 0 0 0) o in
    omega (arith, past_inside c.args.count c.args.cells.now c.loop.counter c.loop.end o, told, c.well_formed)

pub loop-preserved : goal.loop-preserved
loop-preserved c =
    let o = one_more c.args.count c.args.cells.now c.loop.counter c.loop.end c.loop-test.true c.loop.invariant in
    let told : c.span-end.result ≡ terms.size o.first = c.span-end.ensures ∙ past_span c.args.count c.args.cells.now c.loop.counter c.loop.end (cell.App 0 0 0) o in
    subst (λ n. IsPast c.args.count c.args.cells.now (c.loop.counter + 1) (c.loop.end + n)) (sym told) (past_one c.args.count c.args.cells.now c.loop.counter c.loop.end o)

pub returns-clause-span : goal.returns-clause-span
returns-clause-span c = past_end c.args.count c.args.cells.now c.loop.counter c.loop.end c.loop-test.false c.loop.invariant
