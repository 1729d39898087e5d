use Rattle.std.proofs.Common.{sym, ◌∙◌, ap}
use Rattle.std.specs.List.{list_any}
use Rattle.si_term.proofs.Inserted.{lent_eq, shown}
use Rattle.si_flat.proofs.NameLaws.{known_name, new_name}
use Rattle.si_index.proofs.variables.meet.Goals as goal

pub returns-then-is_met : goal.returns-then-is_met
returns-then-is_met c = λ all.
    (known_name c.args.met.now.items c.args.name
    (ap (list_any (lent_eq c.args.name)) (sym c.as_slice.ensures.value) ∙ sym c.is_met.ensures ∙ c.if-is_met.true)).0

pub returns : goal.returns
returns c = λ all.
    ap shown c.in_ok-push.ensures.items
    ∙ (new_name c.args.met.now.items c.args.name
    (ap (list_any (lent_eq c.args.name)) (sym c.as_slice.ensures.value) ∙ sym c.is_met.ensures ∙ c.if-is_met.false)).0
