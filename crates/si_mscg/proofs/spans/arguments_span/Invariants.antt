use Rattle.si_mscg.proofs.SpanLaws.{IsPast}
use Rattle.si_mscg.proofs.spans.arguments_span.Given as goal

abbrev pub invariant-loop : goal.invariant-loop
invariant-loop l = IsPast l.count l.cells l.counter l.end
