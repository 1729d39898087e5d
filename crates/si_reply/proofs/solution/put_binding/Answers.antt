use Rattle.std.proofs.Common.{rules, ◌++◌, refl}
use Rattle.std.specs.Prelude.{codes}
use Rattle.si_defs.specs.Printing.{term_text}
use Rattle.si_defs.specs.Variables.{variable_text}
use Rattle.si_term.proofs.Results.{on_err}
use Rattle.si_reply.specs.PrintedParts.{binding_text}
use Rattle.si_reply.proofs.Writing.{wrote_none, wrote_piece, wrote_part, puts_rest}
use Rattle.si_reply.proofs.NamingLaws.{binding_parts, shows_value}
use Rattle.si_reply.proofs.solution.put_binding.Goals as goal

pub returns-in_err-put_variable : goal.returns-in_err-put_variable
returns-in_err-put_variable g c = λ b h.
    let old = (g.K.Sink.shown c.args.sink.now) in
    let named = (g.K.Sink.shown c.put_variable.new.sink) in
    let whole = binding_text b in
    record { all = search rules; part = on_err c.from_residual.result (wrote_part old old named whole whole (variable_text b.0) (codes " -> " ++ term_text variable_text b.1) (binding_parts b) (wrote_none old whole) (c.in_err-put_variable.ensures b.0 h.left).part) }

pub returns-in_err-put_bytes : goal.returns-in_err-put_bytes
returns-in_err-put_bytes g c = λ b h.
    let old = (g.K.Sink.shown c.args.sink.now) in
    let named = (g.K.Sink.shown c.put_variable.new.sink) in
    let arrow = (g.K.Sink.shown c.put_bytes.new.sink) in
    let whole = binding_text b in
    let text = term_text variable_text b.1 in
    let first = wrote_piece old old named whole whole (variable_text b.0) (codes " -> " ++ text) (binding_parts b) (wrote_none old whole) (c.in_ok-put_variable.ensures b.0 h.left).all in
    record { all = search rules; part = on_err c.from_residual-in_err-put_bytes.result (wrote_part old named arrow whole (codes " -> " ++ text) (codes " -> ") text refl first c.in_err-put_bytes.ensures.part) }

pub returns : goal.returns
returns g c = λ b h.
    let old = (g.K.Sink.shown c.args.sink.now) in
    let named = (g.K.Sink.shown c.put_variable.new.sink) in
    let arrow = (g.K.Sink.shown c.put_bytes.new.sink) in
    let last = (g.K.Sink.shown c.put_flat.new.sink) in
    let whole = binding_text b in
    let text = term_text variable_text b.1 in
    let first = wrote_piece old old named whole whole (variable_text b.0) (codes " -> " ++ text) (binding_parts b) (wrote_none old whole) (c.in_ok-put_variable.ensures b.0 h.left).all in
    let second = wrote_piece old named arrow whole (codes " -> " ++ text) (codes " -> ") text refl first c.in_ok-put_bytes.ensures.all in
    puts_rest c.put_flat.result old arrow last whole text second (c.put_flat.ensures b.1 (shows_value _ _ _ b.1 c.cells.ensures.cells h.right))
