-- What was handed on and what is still held is told as before.
use Rattle.std.proofs.Common.{rules, ◌≡◌, ◌<◌, ◌≤◌, length, take, drop, arith}
use Rattle.std.proofs.lemmas.List.{length-take-le}
use Rattle.std.proofs.lemmas.Result.{on_err_weaker}
use Rattle.si_io.specs.Sends.{SendsPart}
use Rattle.si_io.specs.Buffering.{held}
use Rattle.si_io.proofs.Buffers.{front_handed_on, count_handed_on, past_held}
use Rattle.si_io.proofs.buffered.Buffered.hand_on_to.Goals as goal

pub returns-clause-handed_on : goal.returns-clause-handed_on
returns-clause-handed_on g c =
    let b = c.args.self.now in
    let all : length b.bytes ≡ 1024 = search rules in
    let inside : c.args.place ≤ length b.bytes = omega (arith, all, b.within, c.requires.within) in
    let front = length-take-le c.args.place b.bytes inside in
    let at : c.hand_on.new.from ≤ c.args.place = omega (arith, c.hand_on.ensures.within, front) in
    let within : b.end ≤ length b.bytes = omega (arith, all, b.within) in
    let now = g.S.Borrowed.shown b.sink in
    let after = g.S.Borrowed.shown c.hand_on.new.sink in
    let past : SendsPart now (drop b.start (take c.args.place b.bytes)) after → now.told.room < length (held b.bytes b.start b.end) = λ part.
    past_held b.bytes b.start c.args.place b.end now.told.room c.requires.within within part.told.past_room in
    record {
      same =
          front_handed_on now.told after.told b.bytes b.start c.hand_on.new.from c.args.place b.end
          c.requires.from at c.requires.within within c.hand_on.ensures.left;
      count = count_handed_on b.bytes b.start c.hand_on.new.from c.args.place b.end _ _ c.requires.from at c.requires.within within c.hand_on.ensures.count;
      full = on_err_weaker _ past c.hand_on.ensures.sends.part;
      cause = search rules;
    }
