use Rattle.std.proofs.Common.{◌≡◌, ◌-◌, ◌<◌, ◌++◌, length, get_or, take, drop, ap, sym, ◌∙◌, rules}
use Rattle.std.specs.Prelude.{codes, decimal}
use Rattle.si_defs.specs.Printing.{path_text}
use Rattle.si_reply.specs.PrintedParts.{numbers_behind}
use Rattle.si_term.proofs.Results.{on_err}
use Rattle.si_reply.proofs.Writing.{wrote_none, wrote_piece, wrote_part, puts_rest}
use Rattle.si_reply.proofs.Pieces.{tail_is, path_split}
use Rattle.si_reply.proofs.printing.put_path.Goals as goal

pub returns-in_err-put_number : goal.returns-in_err-put_number
returns-in_err-put_number g c =
    let old = (g.K.Sink.shown c.args.sink.now) in
    let mid = (g.K.Sink.shown c.put_number.new.sink) in
    let ns = c.args.path.now in
    let some : 0 < length ns = search rules in
    let read : get_or ns 0 0 ≡ c.from.result = cc in
    let piece = codes ":" ++ decimal c.from.result in
    let rest = take (length ns - 1) (drop 1 ns) in
    let split : path_text ns ≡ piece ++ numbers_behind (codes ".") rest =
    path_split ns some ∙ ap (λ n. (codes ":" ++ decimal n) ++ numbers_behind (codes ".") (drop 1 ns)) read ∙ ap (λ l. piece ++ numbers_behind (codes ".") l) (sym (tail_is ns)) in
    record { all = search rules; part = on_err c.from_residual.result (wrote_part old old mid (path_text ns) (path_text ns) piece (numbers_behind (codes ".") rest) split (wrote_none old (path_text ns)) c.in_err-put_number.ensures.part) }

pub returns : goal.returns
returns g c =
    let old = (g.K.Sink.shown c.args.sink.now) in
    let mid = (g.K.Sink.shown c.put_number.new.sink) in
    let ns = c.args.path.now in
    let some : 0 < length ns = search rules in
    let read : get_or ns 0 0 ≡ c.from.result = cc in
    let piece = codes ":" ++ decimal c.from.result in
    let rest = take (length ns - 1) (drop 1 ns) in
    let split : path_text ns ≡ piece ++ numbers_behind (codes ".") rest =
    path_split ns some ∙ ap (λ n. (codes ":" ++ decimal n) ++ numbers_behind (codes ".") (drop 1 ns)) read ∙ ap (λ l. piece ++ numbers_behind (codes ".") l) (sym (tail_is ns)) in
    let last = (g.K.Sink.shown c.put_numbers.new.sink) in
    let first = wrote_piece old old mid (path_text ns) (path_text ns) piece (numbers_behind (codes ".") rest) split (wrote_none old (path_text ns)) c.in_ok-put_number.ensures.all in
    puts_rest c.put_numbers.result old mid last (path_text ns) (numbers_behind (codes ".") rest) first c.put_numbers.ensures
