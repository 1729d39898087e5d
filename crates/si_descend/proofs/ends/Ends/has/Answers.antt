use Rattle.std.proofs.Common.{◌↔◌, nat_eq, IsTrue, ap, sym, ◌∙◌, subst}
use Rattle.std.specs.List.{list_any}
use Rattle.si_defs.specs.Substitutions.{IsAmong}
use Rattle.si_descend.proofs.EndTurns.{tells_among}
use Rattle.si_descend.proofs.ends.Ends.has.Goals as goal

pub returns : goal.returns
returns c =
    subst (λ b. IsTrue b ↔ IsAmong c.args.self.now c.args.slot)
    (sym (c.contains.ensures.value ∙ ap (λ l. list_any (λ y. nat_eq y c.args.slot) l) c.self.view_is)) (tells_among c.args.self.now c.args.slot)
