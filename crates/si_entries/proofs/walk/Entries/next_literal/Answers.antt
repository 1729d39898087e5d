use Rattle.std.proofs.Common.{refl}
use Rattle.si_entries.proofs.WalkLaws.{literal_begun}
use Rattle.si_entries.proofs.walk.Entries.next_literal.Goals as goal

pub returns-clause-next : goal.returns-clause-next
returns-clause-next c =
    literal_begun c.args.self.now.literal c.args.self.now.literals.now c.in_ok-literal.literal.now c.in_ok-literal.others.now _
    (record { left = c.arguments_of.result; passed = 0 }) c.clear.new.self.items c.in_ok-literal.ensures.cases.0 c.requires.done c.clear.ensures.items refl c.arguments_of.ensures
