-- All of a reply was handed on, or the front of it.
use Rattle.std.proofs.Common.{◌≡◌, length, rules, arith, subst, sym, ◌∙◌}
use Rattle.si_io.specs.Sends.{Sends}
use Rattle.si_io.specs.Buffering.{held}
use Rattle.si_io.proofs.Buffers.{held_ended, written_part, written_all}
use Rattle.si_io.proofs.buffered.Buffered.finish.Goals as goal

pub returns-then-is_err-clause-written : goal.returns-then-is_err-clause-written
returns-then-is_err-clause-written g c text sent =
    let b = c.args.self in
    written_part c.args.written g.B.Origin.shown (g.S.Borrowed.shown b.sink) (held b.bytes b.start b.end) text (sym c.is_err.ensures.value ∙ c.if-is_err.true) b.given b.fallen b.few sent

pub returns-clause-written : goal.returns-clause-written
returns-clause-written g c text sent =
    let b = c.args.self in
    let h = c.hand_on-handed_on in
    let now = g.S.Borrowed.shown b.sink in
    let after = g.S.Borrowed.shown h.new.sink in
    let all : length b.bytes ≡ 1024 = search rules in
    let ended = held_ended b.bytes b.start b.end 10 b.order (omega (arith, all, b.within)) in
    written_all c.args.written h.result g.B.Origin.shown now after (held b.bytes b.start b.end) text (sym c.is_err.ensures.value ∙ c.if-is_err.false) b.given b.fallen b.few sent
    (subst (λ l. Sends h.result l now after) ended h.ensures.sends)
