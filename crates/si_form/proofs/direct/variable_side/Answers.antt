use Rattle.std.proofs.Common.{[], ◌∷◌, ◌∙◌, ap}
use Rattle.si_defs.specs.Terms as terms
use Rattle.si_unify.specs.Solving.{variable_of}
use Rattle.si_form.proofs.DirectLaws.{leader_right, follower_right}
use Rattle.si_form.proofs.direct.variable_side.Goals as goal

pub returns-then-first-slot : goal.returns-then-first-slot
returns-then-first-slot c =
    leader_right c.args.slots.now c.args.trail.now.pairs c.requires.can.bindings c.requires.can.direct c.args.unbound c.args.slot c.first_of-first.result c.requires.inside c.requires.unbound c.requires.becomes c.first_of-first.ensures c.if-first-slot.true

pub from_cells-requires : goal.from_cells-requires
from_cells-requires c = (
  terms.var (variable_of c.args.slots.now c.first_of-first.result),
  record { cells_are = ap (λ x. x ∷ []) c.cell_of.ensures; sound = tt },
)

pub returns : goal.returns
returns c =
    follower_right c.args.slots.now c.args.trail.now.pairs c.requires.can.bindings c.requires.can.direct c.args.unbound c.args.slot c.first_of-first.result c.in_ok-side.side c.requires.inside c.requires.unbound c.requires.becomes c.first_of-first.ensures c.if-first-slot.false
    (c.in_ok-side.ensures ∙ ap (λ x. x ∷ []) c.cell_of.ensures)
