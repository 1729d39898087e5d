-- The piece that was taken stands right after what the sink was given before.
use Rattle.std.proofs.Common.{◌≡◌, ◌-◌, length, take, drop, ap, arith, take_all, length-drop}
use Rattle.si_io.proofs.Sends.{SendsAll-nil, SendsAll_more}
use Rattle.si_io.proofs.sink.write_all.Goals as goal

pub loop-taken-init : goal.loop-taken-init
loop-taken-init g c = record { within = omega arith; sent = SendsAll-nil _ }

pub loop-taken-preserved : goal.loop-taken-preserved
loop-taken-preserved g c =
    let bytes = c.args.bytes.now in
    let taken = c.loop-taken.taken in
    let within = c.loop-taken.invariant.within in
    let rest : take (length bytes - taken) (drop taken bytes) ≡ drop taken bytes = take_all _ _ (omega (arith, length-drop taken bytes)) in
    let fits = c.in_ok-count.ensures.bound in
    record {
      within = omega (arith, within, length-drop taken bytes, fits, ap length rest);
      sent = SendsAll_more _ _ _ bytes _ taken c.in_ok-count.count _ rest within fits c.if-count-eq0.false c.loop-taken.invariant.sent c.in_ok-count.ensures.taken c.in_ok-count.ensures.counts;
    }
