-- Each piece was taken after the one before it.
use Rattle.std.proofs.Common.{◌≡◌, ◌-◌, [], length, take, drop, arith, take_all, length-drop, ap, subst, ◌∙◌}
use Rattle.si_io.specs.Content.{Told, Receives, append_told}
use Rattle.si_io.proofs.Content.{append_told-nil}
use Rattle.si_io.proofs.Buffers.{left_behind, sends_more}
use Rattle.si_io.proofs.buffered.hand_on.Goals as goal

pub loop-from-preserved : goal.loop-from-preserved
loop-from-preserved g c =
    let bytes = c.args.bytes.now in
    let from = c.args.from.now in
    let at = c.loop-from.from in
    let count = c.in_ok-count.count in
    let rest : take (length bytes - at) (drop at bytes) ≡ drop at bytes = take_all _ _ (omega (arith, length-drop at bytes)) in
    let bound = c.in_ok-count.ensures.bound in
    record {
      on = omega (arith, c.loop-from.invariant.on);
      within = omega (arith, bound, ap length rest, length-drop at bytes, c.loop-from.invariant.within);
      sent = sends_more _ _ _ bytes _ from at count rest c.loop-from.invariant.on c.loop-from.invariant.within bound c.if-count-eq0.false c.loop-from.invariant.sent c.in_ok-count.ensures.taken
          c.in_ok-count.ensures.counts;
      same = c.pass.ensures.same ∙ c.loop-from.invariant.same;
    }

pub returns-in_err-count-clause-left : goal.returns-in_err-count-clause-left
returns-in_err-count-clause-left g c =
    let at = c.loop-from.from in
    ap (λ (t : Told). append_told t (drop at c.args.bytes.now)) c.in_err-count.ensures.kept
    ∙ left_behind _ _ c.args.bytes.now c.args.from.now at c.loop-from.invariant.on c.loop-from.invariant.sent.told

pub returns-then-count-eq0-clause-left : goal.returns-then-count-eq0-clause-left
returns-then-count-eq0-clause-left g c =
    let at = c.loop-from.from in
    let before = (g.S.Borrowed.shown c.loop-from.sink).told in
    let after = (g.S.Borrowed.shown c.pass.new.self).told in
    let bytes = c.args.bytes.now in
    let rest : take (length bytes - at) (drop at bytes) ≡ drop at bytes = take_all _ _ (omega (arith, length-drop at bytes)) in
    let taken = rw rest at c.in_ok-count.ensures.taken in
    let none : Receives before [] after = subst (λ n. Receives before (take n (drop at bytes)) after) c.if-count-eq0.true taken in
    ap (λ (t : Told). append_told t (drop at c.args.bytes.now)) (none ∙ append_told-nil before)
    ∙ left_behind _ _ c.args.bytes.now c.args.from.now at c.loop-from.invariant.on c.loop-from.invariant.sent.told
