-- The word and the byte, in one piece or two.
use Rattle.std.proofs.Common.{rules, ◌≡◌, [], ◌∷◌, ◌++◌, length, sym, subst}
use Rattle.si_io.specs.Sends.{Sends}
use Rattle.si_io.proofs.Sends.{Sends_then}
use Rattle.si_reply.proofs.Pieces.{single}
use Rattle.si_reply.proofs.printing.put_digit.Goals as goal

pub returns-then-word-eq1 : goal.returns-then-word-eq1
returns-then-word-eq1 g c =
    let last = c.put_bytes in
    let old = g.K.Sink.shown c.args.sink.now in
    let one : length c.args.word.now ≡ 1 = search rules in
    subst (λ l. Sends last.result (l ++ c.args.digit ∷ []) old (g.K.Sink.shown last.new.sink)) (sym (single c.args.word.now one)) last.ensures

pub returns : goal.returns
returns g c = Sends_then _ _ _ _ _ _ c.in_ok-put_bytes.ensures.all c.put_bytes-3.ensures
