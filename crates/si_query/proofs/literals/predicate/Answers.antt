use Rattle.std.proofs.Common.{ap, sym, ◌∙◌}
use Rattle.si_defs.specs.declared.Side.TheVariants.{Predicate}
use Rattle.si_flat.proofs.WriterLaws.{inside_written}
use Rattle.si_query.proofs.ReaderLaws.{closed_predicate}
use Rattle.si_query.proofs.TermLaws.{found}
use Rattle.si_query.proofs.LiteralLaws.{no_equation, predicate_read}
use Rattle.si_query.proofs.literals.predicate.Goals as goal

pub close-requires-clause-inside : goal.close-requires-clause-inside
close-requires-clause-inside g c =
    let h = found _ c.in_ok-arity.ensures c.in-Some-2.is in
    inside_written (g.T.SymTable.pairs c.args.table.now) _ c.args.writer.now c.open.new.self c.applied.new.writer c.in_ok-gap.ensures h.arguments h.flat

pub returns : goal.returns
returns g c =
    let pairs = g.T.SymTable.pairs c.args.table.now in
    let h = found _ c.in_ok-arity.ensures c.in-Some-2.is in
    let put = found _ c.close.ensures.put c.in-Some-close.is in
    predicate_read pairs c.args.tokens.now c.args.writer.now c.close.new.self c.in-Some.kind c.in-Some-2.arity c.args.positive c.in-Some-2.rest.now c.equation_sign.result c.in-len1-up.len_at_least c.in-Some.ensures h c.equation_sign.ensures
    (no_equation c.equation_sign.result (sym c.is_some.ensures ∙ c.if-is_some.false))
    (closed_predicate pairs _ c.args.writer.now c.open.new.self c.applied.new.writer c.close.new.self c.in_ok-gap.ensures h.arguments _ _ c.args.positive
    (ap (λ x. record { kind = c.in-Some.kind; text = x; side = Predicate; arity = c.in-Some-2.arity }) c.in_ok-text.ensures) put h.flat)
