use Rattle.std.proofs.Common.{rules, ◌++◌, refl}
use Rattle.si_defs.specs.Printing.{place_text, solution_text}
use Rattle.si_defs.specs.Variables.{variable_text}
use Rattle.si_term.specs.Meaning.{name_of, place_of}
use Rattle.si_term.proofs.Results.{on_err}
use Rattle.si_reply.proofs.Writing.{wrote_none, wrote_piece, wrote_part, puts_rest}
use Rattle.si_session.specs.Separators.{separator_text}
use Rattle.si_session.specs.Answering.{hit_line}
use Rattle.si_session.specs.declared.separator.Separator.TheVariants.{Space, LineFeed}
use Rattle.si_session.proofs.Answering.{line_parts}
use Rattle.si_session.proofs.answer.put_hit.Goals as goal

pub returns-in_err-put_place : goal.returns-in_err-put_place
returns-in_err-put_place g c = λ list h.
    let old = (g.K.Sink.shown c.args.sink.now) in
    let placed = (g.K.Sink.shown c.put_place.new.sink) in
    let name = name_of c.args.name.now in
    let place = place_of c.args.place.now in
    let whole = hit_line name place list in
    let parts = line_parts name place list in
    let text = solution_text variable_text list in
    record { all = search rules; part = on_err c.from_residual.result (wrote_part old old placed whole whole (place_text name place) (separator_text Space ++ (text ++ separator_text LineFeed)) parts (wrote_none old whole) c.in_err-put_place.ensures.part) }

pub returns-in_err-put_separator : goal.returns-in_err-put_separator
returns-in_err-put_separator g c = λ list h.
    let old = (g.K.Sink.shown c.args.sink.now) in
    let placed = (g.K.Sink.shown c.put_place.new.sink) in
    let spaced = (g.K.Sink.shown c.put_separator.new.sink) in
    let name = name_of c.args.name.now in
    let place = place_of c.args.place.now in
    let whole = hit_line name place list in
    let parts = line_parts name place list in
    let text = solution_text variable_text list in
    let first = wrote_piece old old placed whole whole (place_text name place) (separator_text Space ++ (text ++ separator_text LineFeed)) parts (wrote_none old whole) c.in_ok-put_place.ensures.all in
    record { all = search rules; part = on_err c.from_residual-in_err-put_separator.result (wrote_part old placed spaced whole (separator_text Space ++ (text ++ separator_text LineFeed)) (separator_text Space) (text ++ separator_text LineFeed) refl first c.in_err-put_separator.ensures.part) }

pub returns-in_err-put_solution : goal.returns-in_err-put_solution
returns-in_err-put_solution g c = λ list h.
    let old = (g.K.Sink.shown c.args.sink.now) in
    let placed = (g.K.Sink.shown c.put_place.new.sink) in
    let spaced = (g.K.Sink.shown c.put_separator.new.sink) in
    let listed = (g.K.Sink.shown c.put_solution.new.sink) in
    let name = name_of c.args.name.now in
    let place = place_of c.args.place.now in
    let whole = hit_line name place list in
    let parts = line_parts name place list in
    let text = solution_text variable_text list in
    let first = wrote_piece old old placed whole whole (place_text name place) (separator_text Space ++ (text ++ separator_text LineFeed)) parts (wrote_none old whole) c.in_ok-put_place.ensures.all in
    let second = wrote_piece old placed spaced whole (separator_text Space ++ (text ++ separator_text LineFeed)) (separator_text Space) (text ++ separator_text LineFeed) refl first c.in_ok-put_separator.ensures.all in
    record { all = search rules; part = on_err c.from_residual-in_err-put_solution.result (wrote_part old spaced listed whole (text ++ separator_text LineFeed) text (separator_text LineFeed) refl second (c.in_err-put_solution.ensures list h).part) }

pub returns : goal.returns
returns g c = λ list h.
    let old = (g.K.Sink.shown c.args.sink.now) in
    let placed = (g.K.Sink.shown c.put_place.new.sink) in
    let spaced = (g.K.Sink.shown c.put_separator.new.sink) in
    let listed = (g.K.Sink.shown c.put_solution.new.sink) in
    let last = (g.K.Sink.shown c.put_separator-2.new.sink) in
    let name = name_of c.args.name.now in
    let place = place_of c.args.place.now in
    let whole = hit_line name place list in
    let parts = line_parts name place list in
    let text = solution_text variable_text list in
    let first = wrote_piece old old placed whole whole (place_text name place) (separator_text Space ++ (text ++ separator_text LineFeed)) parts (wrote_none old whole) c.in_ok-put_place.ensures.all in
    let second = wrote_piece old placed spaced whole (separator_text Space ++ (text ++ separator_text LineFeed)) (separator_text Space) (text ++ separator_text LineFeed) refl first c.in_ok-put_separator.ensures.all in
    let third = wrote_piece old spaced listed whole (text ++ separator_text LineFeed) text (separator_text LineFeed) refl second (c.in_ok-put_solution.ensures list h).all in
    puts_rest c.put_separator-2.result old listed last whole (separator_text LineFeed) third c.put_separator-2.ensures
