use Rattle.std.proofs.Common.{◌≡◌, ◌+◌, ◌-◌, ◌<◌, ◌++◌, length, take, drop, map, ap, subst, refl, ◌∙◌, arith, rules}
use Rattle.std.specs.Prelude.{codes}
use Rattle.si_defs.specs.Bytes.{Bytes}
use Rattle.si_defs.specs.Terms.{row, size}
use Rattle.si_defs.specs.Printing.{symbol_text, term_text, more_texts}
use Rattle.si_term.specs.Terms.{symbol_of, term_of}
use Rattle.si_term.proofs.Rows.{from, size-read, app-term}
use Rattle.si_reply.specs.PrintedParts.{arguments_text}
use Rattle.si_term.proofs.Results.{on_err}
use Rattle.si_io.specs.Sends.{Sends}
use Rattle.si_io.proofs.Sends.{Sends_then}
use Rattle.si_reply.proofs.Writing.{wrote_none, wrote_piece, wrote_part, puts_rest}
use Rattle.si_reply.proofs.Pieces.{app_text, some_arguments, some_more, arguments_split, more_split, sizes_tail}
use Rattle.si_reply.proofs.printing.+put.Goals as goal

pub put_term-put_arguments-requires : goal.put_term-put_arguments-requires
put_term-put_arguments-requires g t c =
    let e = ap size (app-term c.args.term.now c.in-App.symbol c.in-App.arguments c.as_slice.result.now c.in-App.is c.as_slice.ensures) in
    λ κs h. (omega arith, h)

pub put_arguments-put_term-requires : goal.put_arguments-put_term-requires
put_arguments-put_term-requires g t c =
    let some : 0 < length c.args.terms.now = search rules in
    let e = size-read c.args.terms.now 0 c.index-terms-0.result some c.index-terms-0.is in
    λ κs h. (omega arith, h)

pub put_arguments-put_others-requires : goal.put_arguments-put_others-requires
put_arguments-put_others-requires g t c =
    let some : 0 < length c.args.terms.now = search rules in
    let e = sizes_tail c.args.terms.now some in
    λ κs h. (omega arith, h)

pub put_others-put_term-requires : goal.put_others-put_term-requires
put_others-put_term-requires g t c =
    let e = size-read c.args.terms.now c.loop-i.i c.index-terms-i.result c.loop-i-test.true c.index-terms-i.is in
    λ κs h. (omega arith, h)

pub put_term-returns-in_ok-put_symbol-in-App : goal.put_term-returns-in_ok-put_symbol-in-App
put_term-returns-in_ok-put_symbol-in-App g t c =
    let old = (g.K.Sink.shown c.args.sink.now) in
    let mid = (g.K.Sink.shown c.put_symbol.new.sink) in
    let last = (g.K.Sink.shown c.put_arguments.new.sink) in
    let f : Bytes → Bytes = λ x. c.args.mark.now ++ x in
    let args = row (map term_of c.as_slice.result.now) in
    let whole = term_text f (term_of c.args.term.now) in
    let head = symbol_text (symbol_of c.in-App.symbol) in
    let rest = arguments_text f args in
    let split : whole ≡ head ++ rest = ap (term_text f) (app-term c.args.term.now c.in-App.symbol c.in-App.arguments c.as_slice.result.now c.in-App.is c.as_slice.ensures) ∙ app_text f (symbol_of c.in-App.symbol) args in
    let first = wrote_piece old old mid whole whole head rest split (wrote_none old whole) c.in_ok-put_symbol-in-App.ensures.all in
    puts_rest c.put_arguments.result old mid last whole rest first c.put_arguments.ensures

pub put_arguments-returns-in_err-put_bytes : goal.put_arguments-returns-in_err-put_bytes
put_arguments-returns-in_err-put_bytes g t c =
    let old = (g.K.Sink.shown c.args.sink.now) in
    let opened = (g.K.Sink.shown c.put_bytes.new.sink) in
    let f : Bytes → Bytes = λ x. c.args.mark.now ++ x in
    let ts = c.args.terms.now in
    let some : 0 < length ts = search rules in
    let whole = arguments_text f (row (map term_of ts)) in
    let rest = some_arguments f ts some in
    record { all = search rules; part = on_err c.from_residual.result (wrote_part old old opened whole whole (codes "(") rest.0 rest.1 (wrote_none old whole) c.in_err-put_bytes.ensures.part) }

pub put_arguments-returns-in_err-put_term : goal.put_arguments-returns-in_err-put_term
put_arguments-returns-in_err-put_term g t c =
    let old = (g.K.Sink.shown c.args.sink.now) in
    let opened = (g.K.Sink.shown c.put_bytes.new.sink) in
    let f : Bytes → Bytes = λ x. c.args.mark.now ++ x in
    let ts = c.args.terms.now in
    let some : 0 < length ts = search rules in
    let whole = arguments_text f (row (map term_of ts)) in
    let one = c.index-terms-0.result in
    let text = term_text f (term_of one) in
    let more = more_texts f (row (map term_of (take (length ts - 1) (drop 1 ts)))) in
    let split = arguments_split f ts one some c.index-terms-0.is in
    let first = wrote_piece old old opened whole whole (codes "(") (text ++ (more ++ codes ")")) split (wrote_none old whole) c.in_ok-put_bytes.ensures.all in
    let second_sink = (g.K.Sink.shown c.put_term.new.sink) in
    record { all = search rules; part = on_err c.from_residual-in_err-put_term.result (wrote_part old opened second_sink whole (text ++ (more ++ codes ")")) text (more ++ codes ")") refl first c.in_err-put_term.ensures.part) }

pub put_arguments-returns-in_err-put_others : goal.put_arguments-returns-in_err-put_others
put_arguments-returns-in_err-put_others g t c =
    let old = (g.K.Sink.shown c.args.sink.now) in
    let opened = (g.K.Sink.shown c.put_bytes.new.sink) in
    let f : Bytes → Bytes = λ x. c.args.mark.now ++ x in
    let ts = c.args.terms.now in
    let some : 0 < length ts = search rules in
    let whole = arguments_text f (row (map term_of ts)) in
    let one = c.index-terms-0.result in
    let text = term_text f (term_of one) in
    let more = more_texts f (row (map term_of (take (length ts - 1) (drop 1 ts)))) in
    let split = arguments_split f ts one some c.index-terms-0.is in
    let first = wrote_piece old old opened whole whole (codes "(") (text ++ (more ++ codes ")")) split (wrote_none old whole) c.in_ok-put_bytes.ensures.all in
    let second_sink = (g.K.Sink.shown c.put_term.new.sink) in
    let second = wrote_piece old opened second_sink whole (text ++ (more ++ codes ")")) text (more ++ codes ")") refl first c.in_ok-put_term.ensures.all in
    let third_sink = (g.K.Sink.shown c.put_others.new.sink) in
    record { all = search rules; part = on_err c.from_residual-in_err-put_others.result (wrote_part old second_sink third_sink whole (more ++ codes ")") more (codes ")") refl second c.in_err-put_others.ensures.part) }

pub put_arguments-returns : goal.put_arguments-returns
put_arguments-returns g t c =
    let old = (g.K.Sink.shown c.args.sink.now) in
    let opened = (g.K.Sink.shown c.put_bytes.new.sink) in
    let f : Bytes → Bytes = λ x. c.args.mark.now ++ x in
    let ts = c.args.terms.now in
    let some : 0 < length ts = search rules in
    let whole = arguments_text f (row (map term_of ts)) in
    let one = c.index-terms-0.result in
    let text = term_text f (term_of one) in
    let more = more_texts f (row (map term_of (take (length ts - 1) (drop 1 ts)))) in
    let split = arguments_split f ts one some c.index-terms-0.is in
    let first = wrote_piece old old opened whole whole (codes "(") (text ++ (more ++ codes ")")) split (wrote_none old whole) c.in_ok-put_bytes.ensures.all in
    let second_sink = (g.K.Sink.shown c.put_term.new.sink) in
    let second = wrote_piece old opened second_sink whole (text ++ (more ++ codes ")")) text (more ++ codes ")") refl first c.in_ok-put_term.ensures.all in
    let third_sink = (g.K.Sink.shown c.put_others.new.sink) in
    let third = wrote_piece old second_sink third_sink whole (more ++ codes ")") more (codes ")") refl second c.in_ok-put_others.ensures.all in
    let last = (g.K.Sink.shown c.put_bytes-2.new.sink) in
    puts_rest c.put_bytes-2.result old third_sink last whole (codes ")") third c.put_bytes-2.ensures

pub put_others-returns-in_err-put_bytes : goal.put_others-returns-in_err-put_bytes
put_others-returns-in_err-put_bytes g t c =
    let f : Bytes → Bytes = λ x. c.args.mark.now ++ x in
    let ts = c.args.terms.now in
    let rest = some_more f ts c.loop-i.i c.loop-i-test.true in
    record { all = search rules; part = on_err c.from_residual.result (wrote_part _ _ (g.K.Sink.shown c.put_bytes.new.sink) (more_texts f (row (map term_of ts))) (more_texts f (from ts c.loop-i.i)) (codes ",") rest.0 rest.1 c.loop-i.invariant.wrote c.in_err-put_bytes.ensures.part) }

pub put_others-returns-in_err-put_term : goal.put_others-returns-in_err-put_term
put_others-returns-in_err-put_term g t c =
    let ts = c.args.terms.now in
    let i = c.loop-i.i in
    let f : Bytes → Bytes = λ x. c.args.mark.now ++ x in
    let one = c.index-terms-i.result in
    let whole = more_texts f (row (map term_of ts)) in
    let rest = more_texts f (from ts i) in
    let text = term_text f (term_of one) in
    let left = more_texts f (from ts (i + 1)) in
    let split : rest ≡ codes "," ++ (text ++ left) = more_split f ts i one c.loop-i-test.true c.index-terms-i.is in
    let comma = (g.K.Sink.shown c.put_bytes.new.sink) in
    let first = wrote_piece _ _ comma whole rest (codes ",") (text ++ left) split c.loop-i.invariant.wrote c.in_ok-put_bytes.ensures.all in
    let after = (g.K.Sink.shown c.put_term.new.sink) in
    record { all = search rules; part = on_err c.from_residual-in_err-put_term.result (wrote_part _ comma after whole (text ++ left) text left refl first c.in_err-put_term.ensures.part) }

pub put_others-loop-i-preserved : goal.put_others-loop-i-preserved
put_others-loop-i-preserved g t c =
    let ts = c.args.terms.now in
    let i = c.loop-i.i in
    let f : Bytes → Bytes = λ x. c.args.mark.now ++ x in
    let one = c.index-terms-i.result in
    let whole = more_texts f (row (map term_of ts)) in
    let rest = more_texts f (from ts i) in
    let text = term_text f (term_of one) in
    let left = more_texts f (from ts (i + 1)) in
    let split : rest ≡ codes "," ++ (text ++ left) = more_split f ts i one c.loop-i-test.true c.index-terms-i.is in
    let comma = (g.K.Sink.shown c.put_bytes.new.sink) in
    let first = wrote_piece _ _ comma whole rest (codes ",") (text ++ left) split c.loop-i.invariant.wrote c.in_ok-put_bytes.ensures.all in
    let after = (g.K.Sink.shown c.put_term.new.sink) in
    record {
      wrote = wrote_piece _ comma after whole (text ++ left) text left refl first c.in_ok-put_term.ensures.all;
    }

pub put_term-returns-in_ok-put_bytes-in-Var : goal.put_term-returns-in_ok-put_bytes-in-Var
put_term-returns-in_ok-put_bytes-in-Var g t c =
    let old = g.K.Sink.shown c.args.sink.now in
    let new = g.K.Sink.shown c.put_bytes-in-Var.new.sink in
    let text : c.args.mark.now ++ c.as_bytes.result.now ≡ term_text (λ x. c.args.mark.now ++ x) (term_of c.args.term.now) = search rules in
    subst (λ l. Sends c.put_bytes-in-Var.result l old new) text
    (Sends_then _ _ _ _ _ _ c.in_ok-put_bytes-in-Var.ensures.all c.put_bytes-in-Var.ensures)
