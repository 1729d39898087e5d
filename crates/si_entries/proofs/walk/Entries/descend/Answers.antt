use Rattle.std.proofs.Common.{◌≡◌, [], ◌∷◌, ◌++◌, refl, ◌∙◌, ap}
use Rattle.si_entries.specs.declared.walk.Row.{Row}
use Rattle.si_entries.specs.Walks.{numbers}
use Rattle.si_entries.proofs.WalkLaws.{descended}
use Rattle.si_entries.proofs.walk.Entries.descend.Goals as goal

pub returns-clause-descends : goal.returns-clause-descends
returns-clause-descends c =
    let s = c.args.self.now in
    let r : Row = record { left = c.args.arguments; passed = 0 } in
    let items : c.push.new.self.items ≡ s.around.items ++ s.row ∷ [] = c.in_ok-push.ensures.items ∙ ap (λ q. s.around.items ++ q ∷ []) c.replace-outer.ensures.value in
    record {
      same = record { literals = refl; literal = refl };
      path = ap numbers items;
      left = descended s.literal s.around.items c.push.new.self.items s.row r c.replace-outer.new.dest c.args.arguments.now items c.replace-outer.ensures.after refl refl;
    }
