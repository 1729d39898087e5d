-- The word, and then the number: one digit, or more.
use Rattle.std.proofs.Common.{rules, ◌≡◌, ◌++◌, decimal, sym, subst}
use Rattle.std.proofs.lemmas.Fmt.{decimal_digit}
use Rattle.si_io.specs.Sends.{Sends}
use Rattle.si_io.proofs.Sends.{Sends_then}
use Rattle.si_reply.proofs.printing.put_number.Goals as goal

pub returns-then-number-lt10 : goal.returns-then-number-lt10
returns-then-number-lt10 g c =
    let last = c.put_digit in
    let old = g.K.Sink.shown c.args.sink.now in
    subst (λ l. Sends last.result (c.args.word.now ++ l) old (g.K.Sink.shown last.new.sink)) (sym (decimal_digit c.args.number c.if-number-lt10.true)) last.ensures

pub returns : goal.returns
returns g c =
    let old = g.K.Sink.shown c.args.sink.now in
    let new = g.K.Sink.shown c.put_bytes-2.new.sink in
    let text : c.as_bytes.result.now ≡ decimal c.args.number = search rules in
    subst (λ l. Sends c.put_bytes-2.result (c.args.word.now ++ l) old new) text
    (Sends_then _ _ _ _ _ _ c.in_ok-put_bytes.ensures.all c.put_bytes-2.ensures)
