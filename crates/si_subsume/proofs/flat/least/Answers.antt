use Rattle.std.proofs.Common.{◌≡◌, true, false, sym, ◌∙◌}
use Rattle.si_subsume.proofs.Seeking.{map_has_targets}
use Rattle.si_subsume.proofs.flat.least.Goals as goal

pub returns-then-not-each_has_target : goal.returns-then-not-each_has_target
returns-then-not-each_has_target c ns can =
    let has = map_has_targets c.args.task.now.slots c.args.task.now.targets.now c.requires.searchable.targets c.args.task.now.literals.now ns c.requires.searchable.literals can in
    let bad : false ≡ true = sym c.if-not-each_has_target.true ∙ c.each_has_target.ensures.1 has in
    cc
