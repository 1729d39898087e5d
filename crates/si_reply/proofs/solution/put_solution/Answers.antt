use Rattle.std.proofs.Common.{rules, ◌++◌, refl}
use Rattle.std.specs.Prelude.{codes}
use Rattle.si_defs.specs.Printing.{solution_text}
use Rattle.si_defs.specs.Variables.{variable_text}
use Rattle.si_term.proofs.Results.{on_err}
use Rattle.si_reply.specs.PrintedParts.{bindings_text}
use Rattle.si_reply.proofs.Writing.{wrote_none, wrote_piece, wrote_part, puts_rest}
use Rattle.si_reply.proofs.NamingLaws.{solution_parts}
use Rattle.si_reply.proofs.solution.put_solution.Goals as goal

pub returns-in_err-put_bindings : goal.returns-in_err-put_bindings
returns-in_err-put_bindings g c = λ list h.
    let old = (g.K.Sink.shown c.args.sink.now) in
    let opened = (g.K.Sink.shown c.put_bytes.new.sink) in
    let last = (g.K.Sink.shown c.put_bindings.new.sink) in
    let whole = solution_text variable_text list in
    let text = bindings_text list in
    let first = wrote_piece old old opened whole whole (codes "{") (text ++ codes "}") (solution_parts list) (wrote_none old whole) c.in_ok-put_bytes.ensures.all in
    record { all = search rules; part = on_err c.from_residual-in_err-put_bindings.result (wrote_part old opened last whole (text ++ codes "}") text (codes "}") refl first (c.in_err-put_bindings.ensures list h).part) }

pub returns : goal.returns
returns g c = λ list h.
    let old = (g.K.Sink.shown c.args.sink.now) in
    let opened = (g.K.Sink.shown c.put_bytes.new.sink) in
    let mid = (g.K.Sink.shown c.put_bindings.new.sink) in
    let last = (g.K.Sink.shown c.put_bytes-2.new.sink) in
    let whole = solution_text variable_text list in
    let text = bindings_text list in
    let first = wrote_piece old old opened whole whole (codes "{") (text ++ codes "}") (solution_parts list) (wrote_none old whole) c.in_ok-put_bytes.ensures.all in
    let second = wrote_piece old opened mid whole (text ++ codes "}") text (codes "}") refl first (c.in_ok-put_bindings.ensures list h).all in
    puts_rest c.put_bytes-2.result old mid last whole (codes "}") second c.put_bytes-2.ensures
