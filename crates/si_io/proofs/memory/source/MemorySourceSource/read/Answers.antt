-- What was copied is what was left, up to the count, and the place moved past it.
use Rattle.std.proofs.Common.{◌≡◌, ◌≤◌, ◌-◌, ◌∙◌, length, take, drop, arith, take_all, length-drop, length-take-le}
use Rattle.si_io.proofs.Content.{Takes_copy}
use Rattle.si_io.proofs.memory.source.MemorySourceSource.read.Goals as goal

pub returns-clause-taken : goal.returns-clause-taken
returns-clause-taken c =
    let bytes = c.args.self.now.bytes.items in
    let at = c.args.self.now.at in
    let rest : take (length bytes - at) (drop at bytes) ≡ drop at bytes = take_all _ _ (omega (arith, length-drop at bytes)) in
    let copied = rw (c.deref-2.ensures.value, rest) at c.copy_from_slice.ensures.after in
    let fits : c.min-count.result ≤ length c.args.into.now = omega (arith, c.min-count.ensures, c.min.ensures) in
    rw c.count-2.ensures.same (Takes_copy bytes _ _ at c.min-count.result copied (c.copy_from_slice.ensures.len ∙ length-take-le c.min-count.result c.args.into.now fits))
