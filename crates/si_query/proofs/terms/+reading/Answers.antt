use Rattle.std.proofs.Common.{ap, true, arith}
use Rattle.si_defs.specs.Terms as terms
use Rattle.si_defs.specs.declared.SymKind.TheVariants.{Number, Distinct}
use Rattle.si_lex.specs.Lexemes.{token_of}
use Rattle.si_parse.specs.GrammarRules.{function_symbol}
use Rattle.si_parse.proofs.ParseReads.{mark_front, mark_none, token_at}
use Rattle.si_parse.proofs.GrammarTerms.{symbol_kind, constant_is, head_constant}
use Rattle.si_flat.proofs.WriterLaws.{inside_written}
use Rattle.si_query.proofs.ReaderLaws.{closed_function, spends_closed}
use Rattle.si_query.proofs.TermLaws.{found, variable_read, constant_read, headed_read}
use Rattle.si_query.proofs.ArgumentLaws.{along_start, along_next, along_end, applied_none, applied_all}
use Rattle.si_query.proofs.terms.+reading.Goals as goal

-- ---- heads
pub application-close_function-requires-clause-inside : goal.application-close_function-requires-clause-inside
application-close_function-requires-clause-inside g t c =
    let h = found _ c.in_ok-arity.ensures c.in-Some.is in
    inside_written (g.T.SymTable.pairs c.args.table.now) _ c.args.writer.now c.open.new.self c.applied.new.writer c.in_ok-gap.ensures h.arguments h.flat

pub application-returns : goal.application-returns
application-returns g t c =
    let pairs = g.T.SymTable.pairs c.args.table.now in
    let a = c.args.writer.now in
    let b = c.open.new.self in
    let inside = c.applied.new.writer in
    let d = c.close_function.new.writer in
    let h = found _ c.in_ok-arity.ensures c.in-Some.is in
    let opened = c.in_ok-gap.ensures in
    let put = found _ c.in_ok-close_function.ensures c.in-Some-2.is in
    let text = (token_of c.args.head.now).text in
    record {
      term = terms.app (function_symbol c.args.kind text c.in-Some.arity) h.arguments;
      read = h.read c.args.kind text;
      flat = closed_function pairs _ a b inside d opened h.arguments c.args.kind text c.in-Some.arity put h.flat;
      fewer = h.fewer;
      spends = spends_closed pairs _ true _ a b inside d opened h.spends put;
    }

-- ---- arguments
pub applied-returns-in_default : goal.applied-returns-in_default
applied-returns-in_default g t c =
    applied_none (g.T.SymTable.pairs c.args.table.now) c.args.tokens.now c.args.writer.now (mark_none c.in_default.ensures)

pub applied-returns-in-Some-mark_at : goal.applied-returns-in-Some-mark_at
applied-returns-in-Some-mark_at g t c =
    applied_all (g.T.SymTable.pairs c.args.table.now) c.args.tokens.now c.args.writer.now c.arguments.new.writer c.in-Some-2.count c.in-Some.inside.now c.in-Some-2.after.now c.in-Some-mark_at.rest.now
    (mark_front c.in-Some.ensures) (mark_front c.in-Some-mark_at.ensures) (found _ c.in_ok-count.ensures c.in-Some-2.is)

pub arguments-loop-rest-init : goal.arguments-loop-rest-init
arguments-loop-rest-init g t c =
    (along_start (g.T.SymTable.pairs c.args.table.now) c.args.tokens.now c.args.writer.now c.term.new.writer c.in-Some.first.now (found _ c.in_ok-first.ensures c.in-Some.is), omega arith)

pub arguments-loop-rest-preserved : goal.arguments-loop-rest-preserved
arguments-loop-rest-preserved g t c = (
  along_next (g.T.SymTable.pairs c.args.table.now) c.args.tokens.now c.args.writer.now c.loop-rest.writer c.term-in-Some-mark_at.new.writer c.loop-rest.count c.loop-rest.left.now c.in-Some-mark_at.rest.now c.in-Some-2.after.now
      c.loop-rest.invariant.0 (mark_front c.in-Some-mark_at.ensures) (found _ c.in_ok-after.ensures c.in-Some-2.is),
  omega arith,
)

pub arguments-returns : goal.arguments-returns
arguments-returns g t c =
    along_end (g.T.SymTable.pairs c.args.table.now) c.args.tokens.now c.args.writer.now c.loop-rest.writer c.loop-rest.count c.loop-rest.left.now c.loop-rest.invariant.0 (mark_none c.in_default-mark_at.ensures) c.loop-rest.invariant.1

-- ---- terms
pub term-returns-in_ok-variable-in-Upper : goal.term-returns-in_ok-variable-in-Upper
term-returns-in_ok-variable-in-Upper g t c =
    variable_read (g.T.SymTable.pairs c.args.table.now) c.args.tokens.now c.in-len1-up.len_at_least c.args.writer.now c.variable.new.self c.in-Upper.is c.in_ok-variable-in-Upper.ensures

pub term-returns-in-Int : goal.term-returns-in-Int
term-returns-in-Int g t c =
    constant_read (g.T.SymTable.pairs c.args.table.now) c.args.tokens.now c.in-len1-up.len_at_least c.args.writer.now c.constant.new.writer c.constant.result Number (ap symbol_kind c.in-Int.is) (λ text u h. h)
    (λ i. record { kind = c.in-Int.is i; text = (token_of (token_at c.args.tokens.now 0)).text }) c.constant.ensures

pub term-returns-in-Double : goal.term-returns-in-Double
term-returns-in-Double g t c =
    constant_read (g.T.SymTable.pairs c.args.table.now) c.args.tokens.now c.in-len1-up.len_at_least c.args.writer.now c.constant-in-Double.new.writer c.constant-in-Double.result Distinct (ap symbol_kind c.in-Double.is) (λ text u h. h)
    (λ i. record { kind = c.in-Double.is i; text = (token_of (token_at c.args.tokens.now 0)).text }) c.constant-in-Double.ensures

pub term-returns-in-Some : goal.term-returns-in-Some
term-returns-in-Some g t c =
    let head = c.in-Some.ensures.head (token_of (token_at c.args.tokens.now 0)).text in
    headed_read (g.T.SymTable.pairs c.args.table.now) c.args.tokens.now c.in-len1-up.len_at_least c.args.writer.now c.application.new.writer c.application.result c.in-Some.symbol
    (constant_is c.in-Some.symbol _ _ (head_constant c.in-Some.symbol _ _ head)).0 head c.application.ensures
