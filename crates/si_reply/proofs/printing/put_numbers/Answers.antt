use Rattle.std.proofs.Common.{rules, ◌≡◌, ◌+◌, ◌++◌, get_or, drop, ap, sym, ◌∙◌, add-one, drop-cons}
use Rattle.std.specs.Prelude.{decimal}
use Rattle.si_reply.specs.PrintedParts.{numbers_behind}
use Rattle.si_term.proofs.Results.{on_err}
use Rattle.si_reply.proofs.Writing.{wrote_piece, wrote_part}
use Rattle.si_reply.proofs.printing.put_numbers.Goals as goal

pub returns-in_err-put_number : goal.returns-in_err-put_number
returns-in_err-put_number g c =
    let ns = c.args.numbers.now in
    let i = c.loop-i.i in
    let read : get_or ns i 0 ≡ c.from.result = cc in
    let piece = c.args.mark.now ++ decimal c.from.result in
    let left = numbers_behind c.args.mark.now (drop (i + 1) ns) in
    let split : numbers_behind c.args.mark.now (drop i ns) ≡ piece ++ left =
    ap (numbers_behind c.args.mark.now) (drop-cons ns i 0 c.loop-i-test.true)
    ∙ ap (λ k. (c.args.mark.now ++ decimal (get_or ns i 0)) ++ numbers_behind c.args.mark.now (drop k ns)) (sym (add-one i))
    ∙ ap (λ n. (c.args.mark.now ++ decimal n) ++ left) read in
    record { all = search rules; part = on_err c.from_residual.result (wrote_part _ _ (g.K.Sink.shown c.put_number.new.sink) (numbers_behind c.args.mark.now ns) (numbers_behind c.args.mark.now (drop i ns)) piece left split c.loop-i.invariant.wrote c.in_err-put_number.ensures.part) }

pub loop-i-preserved : goal.loop-i-preserved
loop-i-preserved g c =
    let ns = c.args.numbers.now in
    let i = c.loop-i.i in
    let read : get_or ns i 0 ≡ c.from.result = cc in
    let piece = c.args.mark.now ++ decimal c.from.result in
    let left = numbers_behind c.args.mark.now (drop (i + 1) ns) in
    let split : numbers_behind c.args.mark.now (drop i ns) ≡ piece ++ left =
    ap (numbers_behind c.args.mark.now) (drop-cons ns i 0 c.loop-i-test.true)
    ∙ ap (λ k. (c.args.mark.now ++ decimal (get_or ns i 0)) ++ numbers_behind c.args.mark.now (drop k ns)) (sym (add-one i))
    ∙ ap (λ n. (c.args.mark.now ++ decimal n) ++ left) read in
    record {
      wrote = wrote_piece _ _ (g.K.Sink.shown c.put_number.new.sink) (numbers_behind c.args.mark.now ns) (numbers_behind c.args.mark.now (drop i ns)) piece left split c.loop-i.invariant.wrote c.in_ok-put_number.ensures.all;
    }
