use Rattle.si_sign.proofs.KeyLaws.{has_at}
use Rattle.si_sign.proofs.texts.TextKeys.remove.Goals as goal

pub returns-clause-gone : goal.returns-clause-gone
returns-clause-gone c =
    has_at (λ k. k) c.args.text.now _ c.args.self.now.keys.entries c.swap_remove.new.self.entries c.swap_remove.ensures.updates.1 c.swap_remove.ensures.updates.3
