use Rattle.std.proofs.Common.{◌∙◌}
use Rattle.si_flat.specs.declared.Cell.TheVariants as cell
use Rattle.si_mscg.proofs.SpanLaws.{is_ready, may_step, stepped}
use Rattle.si_mscg.proofs.spans.set_spans.Goals as goal

pub set_span-requires-clause-arguments : goal.set_span-requires-clause-arguments
set_span-requires-clause-arguments c =
    may_step c.args.cells.now.items c.loop-done.cells.items c.len-count.result c.loop-done.done (cell.App 0 0 0) (c.len-count.ensures ∙ c.args.cells.now.ok.0) c.loop-done-test.true c.loop-done.invariant (is_ready c.args.cells.now.items c.requires.draft)

pub loop-done-preserved : goal.loop-done-preserved
loop-done-preserved c =
    stepped c.args.cells.now.items c.loop-done.cells.items c.set_span.new.cells.items c.len-count.result c.loop-done.done (cell.App 0 0 0) (c.len-count.ensures ∙ c.args.cells.now.ok.0) c.loop-done-test.true c.loop-done.invariant c.set_span.ensures
