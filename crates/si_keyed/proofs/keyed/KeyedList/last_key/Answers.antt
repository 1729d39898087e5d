use Rattle.std.proofs.Common.{◌≡◌, ◌-◌, Some, length, slice_get, ap, subst, arith}
use Rattle.si_keyed.specs.Keyed.{HasKeyAt}
use Rattle.si_keyed.specs.KeyedSlots.{kept}
use Rattle.si_keyed.proofs.SlotLaws.{entry}
use Rattle.si_keyed.proofs.KeyLaws.{key_at}
use Rattle.si_keyed.proofs.IndexedLaws.{total_bound}
use Rattle.si_keyed.proofs.keyed.KeyedList.last_key.Goals as goal

pub kept_at-kept-requires-clause-small : goal.kept_at-kept-requires-clause-small
kept_at-kept-requires-clause-small g c =
    omega (arith, total_bound c.self.inside.slots.items c.self.inside.ranks c.self.invariant.0.counted, c.self.inside.slots.ok, c.self.inside.slots.small)

pub returns-clause-some : goal.returns-clause-some
returns-clause-some g c =
    let item = c.kept_at-kept.result.now in
    let last : c.in_ok-last.last ≡ length (kept c.self.inside.slots.items) - 1 = omega (arith, c.in_ok-last.ensures.1, c.len.ensures, c.self.invariant.0.number) in
    let there = subst (λ s. slice_get (kept s) c.in_ok-last.last ≡ Some (entry item)) c.as_slice.ensures.value c.kept_at-kept.ensures in
    subst
    (λ l. HasKeyAt l (length l - 1) item.key)
    (ap (λ l. l.items) c.self.view_is)
    (subst (λ n. HasKeyAt (kept c.self.inside.slots.items) n item.key) last (key_at (kept c.self.inside.slots.items) c.in_ok-last.last (entry item) there))
