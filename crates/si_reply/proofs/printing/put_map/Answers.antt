use Rattle.std.proofs.Common.{rules, ◌≡◌, ◌++◌, refl, ap, sym, ◌∙◌}
use Rattle.std.specs.Prelude.{codes}
use Rattle.si_defs.specs.Printing.{map_text}
use Rattle.si_term.proofs.Results.{on_err}
use Rattle.si_reply.specs.PrintedParts.{number_list}
use Rattle.si_reply.proofs.Writing.{wrote_none, wrote_piece, wrote_part, puts_rest}
use Rattle.si_reply.proofs.Pieces.{map_parts}
use Rattle.si_reply.proofs.printing.put_map.Goals as goal

pub returns-in_err-put_list : goal.returns-in_err-put_list
returns-in_err-put_list g c =
    let old = (g.K.Sink.shown c.args.sink.now) in
    let opened = (g.K.Sink.shown c.put_bytes.new.sink) in
    let last = (g.K.Sink.shown c.put_list.new.sink) in
    let whole = map_text c.args.map.now in
    let text = number_list c.as_slice.result.now in
    let parts : whole ≡ codes "[" ++ (text ++ codes "]") = ap map_text (sym c.as_slice.ensures) ∙ map_parts c.as_slice.result.now in
    let first = wrote_piece old old opened whole whole (codes "[") (text ++ codes "]") parts (wrote_none old whole) c.in_ok-put_bytes.ensures.all in
    record { all = search rules; part = on_err c.from_residual-in_err-put_list.result (wrote_part old opened last whole (text ++ codes "]") text (codes "]") refl first c.in_err-put_list.ensures.part) }

pub returns : goal.returns
returns g c =
    let old = (g.K.Sink.shown c.args.sink.now) in
    let opened = (g.K.Sink.shown c.put_bytes.new.sink) in
    let mid = (g.K.Sink.shown c.put_list.new.sink) in
    let last = (g.K.Sink.shown c.put_bytes-2.new.sink) in
    let whole = map_text c.args.map.now in
    let text = number_list c.as_slice.result.now in
    let parts : whole ≡ codes "[" ++ (text ++ codes "]") = ap map_text (sym c.as_slice.ensures) ∙ map_parts c.as_slice.result.now in
    let first = wrote_piece old old opened whole whole (codes "[") (text ++ codes "]") parts (wrote_none old whole) c.in_ok-put_bytes.ensures.all in
    let second = wrote_piece old opened mid whole (text ++ codes "]") text (codes "]") refl first c.in_ok-put_list.ensures.all in
    puts_rest c.put_bytes-2.result old mid last whole (codes "]") second c.put_bytes-2.ensures
