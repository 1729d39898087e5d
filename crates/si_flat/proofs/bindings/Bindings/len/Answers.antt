use Rattle.std.proofs.Common.{inl, ap, length, arith}
use Rattle.si_flat.specs.Rows.{pairs_of}
use Rattle.si_flat.proofs.RowLaws.{few_pairs}
use Rattle.si_flat.proofs.bindings.Bindings.len.Goals as goal

pub count-requires-clause-fits : goal.count-requires-clause-fits
count-requires-clause-fits c =
    let cells = c.self.inside.cells in
    let few = few_pairs cells.items c.self.invariant.0 in
    let same = ap (λ l. length (pairs_of l)) c.as_slice.ensures.value in
    inl (omega (arith, few, same, cells.ok.0, cells.small))
