use Rattle.std.proofs.Common.{sym, ap, subst}
use Rattle.si_defs.specs.Substitutions.{IsAmong}
use Rattle.si_keyed.specs.Keyed.{HasKey}
use Rattle.si_keyed.proofs.LinkLaws.{fresh_key}
use Rattle.si_keyed.proofs.IndexedLaws.{got}
use Rattle.si_keyed.proofs.Results.{if_none}
use Rattle.si_keyed.proofs.keyed.KeyedList.get.Goals as goal

pub returns-in_err-place-clause-none : goal.returns-in_err-place-clause-none
returns-in_err-place-clause-none g c =
    if_none c.from_residual.result (λ has. fresh_key c.self.inside.slots.items _ c.args.key c.self.invariant.0.linked (sym c.in_err-place.ensures) (subst (λ l. HasKey l c.args.key) (sym (ap (λ l. l.items) c.self.view_is)) has))

pub returns-clause-some : goal.returns-clause-some
returns-clause-some g c =
    subst
    (λ l. IsAmong l (c.args.key, c.in-Some.kept.item))
    (ap (λ l. l.items) c.self.view_is)
    (got c.self.inside.slots.items _ c.args.key _ _ c.in-Some.kept c.self.invariant.0.linked c.in_ok-place.ensures c.index.ensures (sym c.in-Some.is))
