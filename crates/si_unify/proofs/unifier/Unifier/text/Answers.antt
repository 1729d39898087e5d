use Rattle.std.proofs.Common.{◌+◌, sym, ap, ◌∙◌}
use Rattle.std.specs.Option.{option_copied}
use Rattle.si_unify.proofs.Places.{base_bound}
use Rattle.si_unify.proofs.unifier.Unifier.text.Goals as goal

pub unreachable-requires : goal.unreachable-requires
unreachable-requires c =
    base_bound c.args.self.now.question c.args.self.now.trail.now.pairs c.args.spot c.requires
    (λ e. c.if-spot-count.false (e ∙ sym c.count-count.ensures.count))
    (λ e. c.if-spot-count-2.false (e ∙ ap (λ n. n + 1) (sym c.count-count.ensures.count)))
    (sym c.get.ensures ∙ ap option_copied c.in-None.is)
