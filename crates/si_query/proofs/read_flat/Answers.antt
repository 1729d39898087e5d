use Rattle.std.proofs.Common.{subst}
use Rattle.si_parse.proofs.ParseWhole.{is_empty}
use Rattle.si_query.specs.Reading.{ReadsByKind}
use Rattle.si_query.proofs.TermLaws.{found}
use Rattle.si_query.proofs.WholeLaws.{pattern_read}
use Rattle.si_query.proofs.read_flat.Goals as goal

pub into_query-requires : goal.into_query-requires
into_query-requires g c =
    let pairs = g.T.SymTable.pairs c.args.table.now in
    let h = subst (λ w. ReadsByKind c.args.kind pairs c.args.tokens.now w c.pattern.new.writer c.in-Some.rest.now) c.in_ok-writer.ensures (found _ c.in_ok-rest.ensures c.in-Some.is) in
    let (p, whole, written) = pattern_read c.args.tokens.now c.requires c.in-Some.rest (is_empty c.in-Some.rest.now c.if-not-is_empty.ensures) pairs c.pattern.new.writer c.args.kind h in
    (pairs, p, whole.sound, written)

pub returns : goal.returns
returns g c =
    let pairs = g.T.SymTable.pairs c.args.table.now in
    let h = subst (λ w. ReadsByKind c.args.kind pairs c.args.tokens.now w c.pattern.new.writer c.in-Some.rest.now) c.in_ok-writer.ensures (found _ c.in_ok-rest.ensures c.in-Some.is) in
    let (p, whole, written) = pattern_read c.args.tokens.now c.requires c.in-Some.rest (is_empty c.in-Some.rest.now c.if-not-is_empty.ensures) pairs c.pattern.new.writer c.args.kind h in
    (p, whole, c.in_ok-into_query.ensures pairs p whole.sound written)
