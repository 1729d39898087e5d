-- What a write took, and then the rest.
use Rattle.std.proofs.Common.{◌≡◌, ◌-◌, length, take, drop, arith, take_all, length-drop, take-append-drop, subst}
use Rattle.si_io.specs.Sends.{Sends}
use Rattle.si_io.proofs.Sends.{Sends_then, SendsAll_once}
use Rattle.si_reply.proofs.printing.put_bytes.Goals as goal

pub returns : goal.returns
returns g c =
    let bytes = c.args.bytes.now in
    let n = c.in_ok-count.count in
    let old = g.K.Sink.shown c.args.sink.now in
    let some = g.K.Sink.shown c.write.new.self in
    let all = g.K.Sink.shown c.write_all.new.sink in
    let rest : take (length bytes - n) (drop n bytes) ≡ drop n bytes = take_all _ _ (omega (arith, length-drop n bytes)) in
    let behind : Sends c.write_all.result (drop n bytes) some all =
    subst (λ l. Sends c.write_all.result l some all) rest c.write_all.ensures in
    subst (λ l. Sends c.write_all.result l old all) (take-append-drop n bytes)
    (Sends_then c.write_all.result old some all (take n bytes) (drop n bytes) (SendsAll_once _ _ bytes n c.in_ok-count.ensures.bound c.if-count-eq0.false c.in_ok-count.ensures.taken c.in_ok-count.ensures.counts) behind)
