use Rattle.std.proofs.Common.{◌↔◌, [], length, sym, subst, arith}
use Rattle.si_defs.specs.Substitutions.{IsAmong}
use Rattle.si_form.specs.Ordering.{uses_at, IsPartlyOrdered, IsListedFree}
use Rattle.si_form.proofs.OrderingLaws.{not_listed, unlisted_at, used_next, first_listed, begins, takes, ends, all_above, first_inside, fewer_left, no_keys}
use Rattle.si_form.proofs.order.order.Goals as goal

pub loop-next-init : goal.loop-next-init
loop-next-init c =
    subst (λ l. IsPartlyOrdered (uses_at c.args.lists.now) (length c.args.lists.now) c.in_ok-counts.counts.items c.in_ok-free.free.keys l []) (sym c.new-order.ensures.items)
    (begins (uses_at c.args.lists.now) _ _ _ c.requires c.in_ok-counts.ensures.long c.in_ok-counts.ensures.counted (λ j. subst (λ l. IsAmong c.in_ok-free.free.keys j ↔ IsListedFree (uses_at c.args.lists.now) (length c.args.lists.now) l j) c.deref.ensures.value (c.in_ok-free.ensures j)))

pub bounds-lists-next : goal.bounds-lists-next
bounds-lists-next c = first_inside (uses_at c.args.lists.now) _ _ _ _ _ _ c.loop-next.invariant c.in-Some.ensures.removal c.requires

pub offset_bounds-lists-next : goal.offset_bounds-lists-next
offset_bounds-lists-next c = omega (arith, bounds-lists-next c)

pub unreachable-requires : goal.unreachable-requires
unreachable-requires c =
    not_listed (uses_at c.args.lists.now) _
    (unlisted_at c.args.lists.now _ c.index-lists-next.result (first_inside (uses_at c.args.lists.now) _ _ _ _ _ _ c.loop-next.invariant c.in-Some.ensures.removal c.requires) c.index-lists-next.is c.in_default-lists.is)
    (first_listed (uses_at c.args.lists.now) _ _ _ _ _ _ c.loop-next.invariant c.in-Some.ensures.removal)

pub release-requires : goal.release-requires
release-requires c =
    (c.push.new.self.items, takes (uses_at c.args.lists.now) _ _ _ _ _ _ _ _ c.requires c.loop-next.invariant c.in-Some.ensures.removal (all_above _ _ c.in-Some.ensures.all_above) c.in_ok-push.ensures.items (used_next c.args.lists.now _ _ _ (first_inside (uses_at c.args.lists.now) _ _ _ _ _ _ c.loop-next.invariant c.in-Some.ensures.removal c.requires) c.index-lists-next.is c.in-Some-lists.is c.deref-in-Some.ensures.value))

pub loop-next-smaller : goal.loop-next-smaller
loop-next-smaller c = fewer_left (uses_at c.args.lists.now) _ _ _ _ _ _ c.loop-next.invariant c.in-Some.ensures.removal _ c.in_ok-push.ensures.items

pub loop-next-preserved : goal.loop-next-preserved
loop-next-preserved c =
    c.in_ok-release.ensures c.push.new.self.items
    (takes (uses_at c.args.lists.now) _ _ _ _ _ _ _ _ c.requires c.loop-next.invariant c.in-Some.ensures.removal (all_above _ _ c.in-Some.ensures.all_above) c.in_ok-push.ensures.items (used_next c.args.lists.now _ _ _ (first_inside (uses_at c.args.lists.now) _ _ _ _ _ _ c.loop-next.invariant c.in-Some.ensures.removal c.requires) c.index-lists-next.is c.in-Some-lists.is c.deref-in-Some.ensures.value))

pub returns : goal.returns
returns c =
    ends (uses_at c.args.lists.now) _ _ _ _ c.requires c.loop-next.invariant (no_keys c.loop-next.free.keys c.in_default.ensures.variant.1)
