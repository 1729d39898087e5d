use Rattle.si_sign.proofs.KeyLaws.{has_at}
use Rattle.si_sign.proofs.texts.TextKeys.insert.Goals as goal

pub returns-clause-ok : goal.returns-clause-ok
returns-clause-ok c =
    has_at (λ k. k) c.args.text _ c.args.self.now.keys.entries c.insert.new.self.entries c.in_ok-insert.ensures.updates.1 c.in_ok-insert.ensures.updates.3
