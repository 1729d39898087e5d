use Rattle.std.proofs.Common.{rules, ◌++◌, refl}
use Rattle.si_defs.specs.Printing.{name_text, map_text}
use Rattle.si_term.specs.Meaning.{name_of}
use Rattle.si_term.proofs.Results.{on_err}
use Rattle.si_reply.proofs.Writing.{wrote_none, wrote_piece, wrote_part, puts_rest}
use Rattle.si_session.specs.Separators.{separator_text}
use Rattle.si_session.specs.MappedClauses.{mapped_line}
use Rattle.si_session.specs.declared.separator.Separator.TheVariants.{Space, LineFeed}
use Rattle.si_session.proofs.MappedLaws.{line_parts}
use Rattle.si_session.proofs.subsumption.put_mapped.Goals as goal

pub returns-in_err-put_name : goal.returns-in_err-put_name
returns-in_err-put_name g c =
    let old = (g.K.Sink.shown c.args.sink.now) in
    let named = (g.K.Sink.shown c.put_name.new.sink) in
    let name = name_of c.args.name.now in
    let whole = mapped_line name c.args.map.now in
    let left = separator_text Space ++ (map_text c.args.map.now ++ separator_text LineFeed) in
    record { all = search rules; part = on_err c.from_residual.result (wrote_part old old named whole whole (name_text name) left (line_parts name c.args.map.now) (wrote_none old whole) c.in_err-put_name.ensures.part) }

pub returns-in_err-put_separator : goal.returns-in_err-put_separator
returns-in_err-put_separator g c =
    let old = (g.K.Sink.shown c.args.sink.now) in
    let named = (g.K.Sink.shown c.put_name.new.sink) in
    let spaced = (g.K.Sink.shown c.put_separator.new.sink) in
    let name = name_of c.args.name.now in
    let whole = mapped_line name c.args.map.now in
    let text = map_text c.args.map.now ++ separator_text LineFeed in
    let first = wrote_piece old old named whole whole (name_text name) (separator_text Space ++ text) (line_parts name c.args.map.now) (wrote_none old whole) c.in_ok-put_name.ensures.all in
    record { all = search rules; part = on_err c.from_residual-in_err-put_separator.result (wrote_part old named spaced whole (separator_text Space ++ text) (separator_text Space) text refl first c.in_err-put_separator.ensures.part) }

pub returns-in_err-put_map : goal.returns-in_err-put_map
returns-in_err-put_map g c =
    let old = (g.K.Sink.shown c.args.sink.now) in
    let named = (g.K.Sink.shown c.put_name.new.sink) in
    let spaced = (g.K.Sink.shown c.put_separator.new.sink) in
    let mapped = (g.K.Sink.shown c.put_map.new.sink) in
    let name = name_of c.args.name.now in
    let whole = mapped_line name c.args.map.now in
    let text = map_text c.args.map.now ++ separator_text LineFeed in
    let first = wrote_piece old old named whole whole (name_text name) (separator_text Space ++ text) (line_parts name c.args.map.now) (wrote_none old whole) c.in_ok-put_name.ensures.all in
    let second = wrote_piece old named spaced whole (separator_text Space ++ text) (separator_text Space) text refl first c.in_ok-put_separator.ensures.all in
    record { all = search rules; part = on_err c.from_residual-in_err-put_map.result (wrote_part old spaced mapped whole text (map_text c.args.map.now) (separator_text LineFeed) refl second c.in_err-put_map.ensures.part) }

pub returns : goal.returns
returns g c =
    let old = (g.K.Sink.shown c.args.sink.now) in
    let named = (g.K.Sink.shown c.put_name.new.sink) in
    let spaced = (g.K.Sink.shown c.put_separator.new.sink) in
    let mapped = (g.K.Sink.shown c.put_map.new.sink) in
    let last = (g.K.Sink.shown c.put_separator-2.new.sink) in
    let name = name_of c.args.name.now in
    let whole = mapped_line name c.args.map.now in
    let text = map_text c.args.map.now ++ separator_text LineFeed in
    let first = wrote_piece old old named whole whole (name_text name) (separator_text Space ++ text) (line_parts name c.args.map.now) (wrote_none old whole) c.in_ok-put_name.ensures.all in
    let second = wrote_piece old named spaced whole (separator_text Space ++ text) (separator_text Space) text refl first c.in_ok-put_separator.ensures.all in
    let third = wrote_piece old spaced mapped whole text (map_text c.args.map.now) (separator_text LineFeed) refl second c.in_ok-put_map.ensures.all in
    puts_rest c.put_separator-2.result old mapped last whole (separator_text LineFeed) third c.put_separator-2.ensures
