use Rattle.std.proofs.Common.{refl, true}
use Rattle.si_defs.specs.Terms as terms
use Rattle.si_lex.specs.Lexemes.{token_of}
use Rattle.si_flat.specs.declared.Owner.TheVariants.{Query}
use Rattle.si_flat.specs.Flattening.{entry_scheme}
use Rattle.si_flat.proofs.Walking.{flattens_none}
use Rattle.si_query.proofs.ReaderLaws.{closed_function, spends_closed, spends_none}
use Rattle.si_query.proofs.TermLaws.{found}
use Rattle.si_query.proofs.terms.constant.Goals as goal

pub returns : goal.returns
returns g c =
    let pairs = g.T.SymTable.pairs c.args.table.now in
    let a = c.args.writer.now in
    let b = c.open.new.self in
    let d = c.close_function.new.writer in
    let opened = c.in_ok-gap.ensures in
    let put = found _ c.in_ok-close_function.ensures c.in-Some.is in
    let text = (token_of c.args.token.now).text in
    record {
      left = refl;
      flat = closed_function pairs _ a b b d opened terms.none c.args.kind text 0 put (λ p. flattens_none pairs (entry_scheme Query p) b);
      spends = spends_closed pairs _ true _ a b b d opened (spends_none c.args.rest.now b) put;
    }
