use Rattle.std.proofs.Common.{◌-◌, ◌∷◌, ◌++◌, cond, Some, [], length, refl, ap, ◌∙◌}
use Rattle.std.specs.Map.{lookup}
use Rattle.si_subsume.specs.Heads.{equal_heads}
use Rattle.si_subsume.proofs.HeadLaws.{indexing_more}
use Rattle.si_subsume.proofs.heads.Heads.of.Goals as goal

pub loop-behind-preserved : goal.loop-behind-preserved
loop-behind-preserved c =
    indexing_more c.loop-behind.first.entries c.insert.new.self.entries c.loop-behind.next.items c.push.new.self.items c.args.targets.now c.loop-behind.behind (length c.args.targets.now - 1 - c.loop-behind.behind) c.in_ok-later.later (record { ref_ptr = (0, 0); now = [] }) c.loop-behind.invariant c.loop-behind-test.true refl
    (c.in_ok-later.ensures.old ∙ ap (λ h. lookup (equal_heads h) c.loop-behind.first.entries) c.head_of.ensures)
    (λ g. c.in_ok-later.ensures.updates.0 g ∙ ap (λ h. cond (equal_heads h g) (Some (length c.args.targets.now - 1 - c.loop-behind.behind)) (lookup (equal_heads g) c.loop-behind.first.entries)) c.head_of.ensures)
    (c.in_ok-push.ensures.items ∙ ap (λ n. c.loop-behind.next.items ++ n ∷ []) c.unwrap_or.ensures)
