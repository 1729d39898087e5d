use Rattle.std.proofs.Common.{[], ◌∷◌, ap, subst, ◌∙◌, arith, length, length-append}
use Rattle.si_defs.specs.Terms as terms
use Rattle.si_defs.specs.Grammar.{equality}
use Rattle.si_defs.specs.declared.SymKind.TheVariants.{Equal}
use Rattle.si_defs.specs.declared.Side.TheVariants.{Predicate}
use Rattle.si_parse.specs.GrammarRules.{equation}
use Rattle.si_parse.proofs.ParseReads.{left_shorter}
use Rattle.si_parse.proofs.GrammarLiterals.{statement_sides}
use Rattle.si_flat.specs.declared.Cell.TheVariants.{Query}
use Rattle.si_flat.specs.declared.Owner.TheVariants as owner
use Rattle.si_flat.specs.Flattening.{Flattens, entry_scheme, term_piece}
use Rattle.si_flat.proofs.WriterLaws.{inside_written, writes_two}
use Rattle.si_query.proofs.ReaderLaws.{closed_predicate}
use Rattle.si_query.proofs.TermLaws.{found}
use Rattle.si_query.proofs.literals.equation.Goals as goal

pub close-requires-clause-inside : goal.close-requires-clause-inside
close-requires-clause-inside g c =
    let pairs = g.T.SymTable.pairs c.args.table.now in
    let h = found _ c.in_ok-after.ensures c.in-Some.is in
    let k = found _ c.in_ok-rest.ensures c.in-Some-2.is in
    inside_written pairs _ c.args.writer.now c.open.new.self c.term-2.new.writer c.in_ok-gap.ensures (terms.row (h.term ∷ k.term ∷ []))
    (writes_two pairs h.term k.term c.open.new.self c.term.new.writer c.term-2.new.writer h.flat k.flat)

pub close-requires-clause-short : goal.close-requires-clause-short
close-requires-clause-short g c =
    let h = found _ c.in_ok-after.ensures c.in-Some.is in
    let k = found _ c.in_ok-rest.ensures c.in-Some-2.is in
    omega (
      arith,
      h.spends.cells,
      k.spends.cells,
      left_shorter c.in-Some.after.now c.in-Some-equation_sign.next.now c.in-Some-equation_sign.ensures,
      ap length c.in_ok-gap.ensures.cells,
      length-append c.args.writer.now.cells (Query 0 ∷ []),
      c.requires.cells,
    )

pub returns : goal.returns
returns g c =
    let pairs = g.T.SymTable.pairs c.args.table.now in
    let h = found _ c.in_ok-after.ensures c.in-Some.is in
    let k = found _ c.in_ok-rest.ensures c.in-Some-2.is in
    let put = found _ c.close.ensures.put c.in-Some-close.is in
    let p = c.is_positive.result in
    record {
      atom = equation h.term k.term;
      read = statement_sides h.read c.in-Some-equation_sign.ensures k.read;
      flat =
          subst (λ positive. Flattens pairs (entry_scheme owner.Query positive) c.args.writer.now c.close.new.self (term_piece (equation h.term k.term))) c.is_positive.ensures
          (closed_predicate pairs _ c.args.writer.now c.open.new.self c.term-2.new.writer c.close.new.self c.in_ok-gap.ensures (terms.row (h.term ∷ k.term ∷ [])) _ equality p
          (ap (λ x. record { kind = Equal; text = x; side = Predicate; arity = 2 }) (c.in_ok-from_bytes.ensures ∙ c.as_slice.ensures)) put
          (writes_two pairs h.term k.term c.open.new.self c.term.new.writer c.term-2.new.writer h.flat k.flat));
    }
