use Rattle.std.proofs.Common.{ap, subst}
use Rattle.si_defs.specs.Substitutions.{IsAmong}
use Rattle.si_state.specs.States.{limited_to}
use Rattle.si_index.proofs.HeldClauses.{none_held, none_kept}
use Rattle.si_index.proofs.index.Index.new.Goals as goal

pub invariant_of-result : goal.invariant_of-result
invariant_of-result c =
    let none = ap (λ l. l.items) c.new-2.ensures in (
      none_kept (limited_to c.args.limit) c.new-2.result.items c.new-3.result c.requires none c.new-3.ensures.names c.new-3.ensures.signature c.new-3.ensures.entries,
      none_held c.new-2.result.items c.new-3.result c.in_ok-trees.trees none c.new-3.ensures.signature c.in_ok-trees.ensures,
      λ key d row a b. absurd (subst (λ l. IsAmong l (key, d)) none a),
    )
