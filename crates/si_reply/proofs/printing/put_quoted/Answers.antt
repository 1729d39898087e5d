use Rattle.std.proofs.Common.{rules, ℕ, List, [], ◌∷◌, ◌++◌, refl}
use Rattle.std.specs.Prelude.{flat_map}
use Rattle.si_defs.specs.Tokens.{escaped, quoted}
use Rattle.si_term.proofs.Results.{on_err}
use Rattle.si_reply.proofs.Writing.{wrote_none, wrote_piece, wrote_part, puts_rest}
use Rattle.si_reply.proofs.printing.put_quoted.Goals as goal

pub returns-in_err-put_escaped : goal.returns-in_err-put_escaped
returns-in_err-put_escaped g c =
    let old = (g.K.Sink.shown c.args.sink.now) in
    let mark : List ℕ = c.args.quote ∷ [] in
    let body = flat_map (escaped c.args.quote) c.args.text.now in
    let whole = quoted c.args.quote c.args.text.now in
    let first = wrote_piece old old (g.K.Sink.shown c.put_bytes.new.sink) whole whole mark (body ++ mark) refl (wrote_none old whole) c.in_ok-put_bytes.ensures.all in
    record { all = search rules; part = on_err c.from_residual-in_err-put_escaped.result (wrote_part old _ (g.K.Sink.shown c.put_escaped.new.sink) whole (body ++ mark) body mark refl first c.in_err-put_escaped.ensures.part) }

pub returns : goal.returns
returns g c =
    let old = (g.K.Sink.shown c.args.sink.now) in
    let mark : List ℕ = c.args.quote ∷ [] in
    let body = flat_map (escaped c.args.quote) c.args.text.now in
    let whole = quoted c.args.quote c.args.text.now in
    let first = wrote_piece old old (g.K.Sink.shown c.put_bytes.new.sink) whole whole mark (body ++ mark) refl (wrote_none old whole) c.in_ok-put_bytes.ensures.all in
    let second = wrote_piece old _ (g.K.Sink.shown c.put_escaped.new.sink) whole (body ++ mark) body mark refl first c.in_ok-put_escaped.ensures.all in
    puts_rest c.put_bytes-2.result old _ ((g.K.Sink.shown c.put_bytes-2.new.sink)) whole mark second c.put_bytes-2.ensures
