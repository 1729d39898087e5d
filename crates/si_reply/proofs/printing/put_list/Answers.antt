use Rattle.std.proofs.Common.{◌≡◌, ◌-◌, ◌<◌, ◌++◌, length, get_or, take, drop, ap, sym, ◌∙◌, rules}
use Rattle.std.specs.Prelude.{codes, decimal}
use Rattle.si_term.proofs.Results.{on_err}
use Rattle.si_reply.specs.PrintedParts.{numbers_behind, number_list}
use Rattle.si_reply.proofs.Writing.{wrote_none, wrote_piece, wrote_part, wrote_all, puts_rest}
use Rattle.si_reply.proofs.Pieces.{tail_is, list_split, empty_list}
use Rattle.si_reply.proofs.printing.put_list.Goals as goal

pub returns-then-is_empty : goal.returns-then-is_empty
returns-then-is_empty g c =
    let old = (g.K.Sink.shown c.args.sink.now) in
    let ns = c.args.numbers.now in
    let none : length ns ≡ 0 = search rules in
    record { all = wrote_all old old (number_list ns) (number_list ns) (empty_list ns none) (wrote_none old (number_list ns)); part = search rules }

pub returns-in_err-put_number : goal.returns-in_err-put_number
returns-in_err-put_number g c =
    let old = (g.K.Sink.shown c.args.sink.now) in
    let mid = (g.K.Sink.shown c.put_number.new.sink) in
    let ns = c.args.numbers.now in
    let some : 0 < length ns = search rules in
    let read : get_or ns 0 0 ≡ c.from.result = cc in
    let piece = decimal c.from.result in
    let rest = take (length ns - 1) (drop 1 ns) in
    let split : number_list ns ≡ piece ++ numbers_behind (codes ",") rest =
    list_split ns some ∙ ap (λ n. decimal n ++ numbers_behind (codes ",") (drop 1 ns)) read ∙ ap (λ l. piece ++ numbers_behind (codes ",") l) (sym (tail_is ns)) in
    record { all = search rules; part = on_err c.from_residual.result (wrote_part old old mid (number_list ns) (number_list ns) piece (numbers_behind (codes ",") rest) split (wrote_none old (number_list ns)) c.in_err-put_number.ensures.part) }

pub returns : goal.returns
returns g c =
    let old = (g.K.Sink.shown c.args.sink.now) in
    let mid = (g.K.Sink.shown c.put_number.new.sink) in
    let ns = c.args.numbers.now in
    let some : 0 < length ns = search rules in
    let read : get_or ns 0 0 ≡ c.from.result = cc in
    let piece = decimal c.from.result in
    let rest = take (length ns - 1) (drop 1 ns) in
    let split : number_list ns ≡ piece ++ numbers_behind (codes ",") rest =
    list_split ns some ∙ ap (λ n. decimal n ++ numbers_behind (codes ",") (drop 1 ns)) read ∙ ap (λ l. piece ++ numbers_behind (codes ",") l) (sym (tail_is ns)) in
    let last = (g.K.Sink.shown c.put_numbers.new.sink) in
    let first = wrote_piece old old mid (number_list ns) (number_list ns) piece (numbers_behind (codes ",") rest) split (wrote_none old (number_list ns)) c.in_ok-put_number.ensures.all in
    puts_rest c.put_numbers.result old mid last (number_list ns) (numbers_behind (codes ",") rest) first c.put_numbers.ensures
