use Rattle.std.proofs.Common.{rules, ◌≡◌, ◌++◌, ap, subst, refl, ◌∙◌}
use Rattle.std.specs.Prelude.{codes, decimal}
use Rattle.si_io.specs.Sends.{Sends}
use Rattle.si_defs.specs.Printing.{name_text, path_text}
use Rattle.si_term.specs.Meaning.{name_of}
use Rattle.si_term.proofs.Results.{on_err}
use Rattle.si_reply.proofs.Writing.{wrote_none, wrote_piece, wrote_part, puts_rest}
use Rattle.si_reply.proofs.Pieces.{place_split}
use Rattle.si_reply.proofs.printing.put_place.Goals as goal

pub returns-in_err-put_number : goal.returns-in_err-put_number
returns-in_err-put_number g c =
    let old = (g.K.Sink.shown c.args.sink.now) in
    let named = (g.K.Sink.shown c.put_name.new.sink) in
    let numbered = (g.K.Sink.shown c.put_number.new.sink) in
    let name = name_text (name_of c.args.name.now) in
    let number = codes ":" ++ decimal c.from.result in
    let path = path_text c.args.place.now.path in
    let whole = name ++ codes ":" ++ decimal c.args.place.now.literal ++ path in
    let read : c.args.place.now.literal ≡ c.from.result = cc in
    let split : whole ≡ name ++ (number ++ path) = place_split name (codes ":") (decimal c.args.place.now.literal) path ∙ ap (λ n. name ++ ((codes ":" ++ decimal n) ++ path)) read in
    let first = wrote_piece old old named whole whole name (number ++ path) split (wrote_none old whole) c.in_ok-put_name.ensures.all in
    record { all = search rules; part = on_err c.from_residual-in_err-put_number.result (wrote_part old named numbered whole (number ++ path) number path refl first c.in_err-put_number.ensures.part) }

pub returns : goal.returns
returns g c =
    let old = (g.K.Sink.shown c.args.sink.now) in
    let named = (g.K.Sink.shown c.put_name.new.sink) in
    let numbered = (g.K.Sink.shown c.put_number.new.sink) in
    let name = name_text (name_of c.args.name.now) in
    let number = codes ":" ++ decimal c.from.result in
    let path = path_text c.args.place.now.path in
    let whole = name ++ codes ":" ++ decimal c.args.place.now.literal ++ path in
    let read : c.args.place.now.literal ≡ c.from.result = cc in
    let split : whole ≡ name ++ (number ++ path) = place_split name (codes ":") (decimal c.args.place.now.literal) path ∙ ap (λ n. name ++ ((codes ":" ++ decimal n) ++ path)) read in
    let first = wrote_piece old old named whole whole name (number ++ path) split (wrote_none old whole) c.in_ok-put_name.ensures.all in
    let last = (g.K.Sink.shown c.put_path.new.sink) in
    let second = wrote_piece old named numbered whole (number ++ path) number path refl first c.in_ok-put_number.ensures.all in
    let rest = subst (λ p. Sends c.put_path.result (path_text p) numbered last) c.as_slice.ensures c.put_path.ensures in
    puts_rest c.put_path.result old numbered last whole path second rest
