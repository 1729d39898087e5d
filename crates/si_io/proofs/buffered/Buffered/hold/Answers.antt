-- What was copied stands after what was held.
use Rattle.std.proofs.Common.{rules, ◌≡◌, length, arith, refl}
use Rattle.si_io.proofs.Buffers.{held_more}
use Rattle.si_io.proofs.buffered.Buffered.hold.Goals as goal

pub returns-clause-held : goal.returns-clause-held
returns-clause-held g c =
    let b = c.args.self.now in
    let all : length b.bytes ≡ 1024 = search rules in
    held_more b.bytes c.copy.new.into c.args.bytes.now b.start b.end (length c.args.bytes.now)
    c.copy.ensures refl b.order (omega (arith, all, b.within))
