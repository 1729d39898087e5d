use Rattle.std.proofs.Common.{◌∷◌, [], Some, sym, ◌∙◌, ap, subst}
use Rattle.si_form.specs.Unifying.{IsBoundTo}
use Rattle.si_form.proofs.FoundLaws.{class_inside, leader_inside, has_leader, follower_side, unbound_side, some_fold, leader_side}
use Rattle.si_form.proofs.unifying.right_side.Goals as goal

pub leader_of-requires : goal.leader_of-requires
leader_of-requires c =
    class_inside c.args.slots.now c.args.trail.now.pairs c.args.folding.now c.class_at-class.ensures.folded c.requires.found c.args.slot c.class_at-class.result c.requires.inside c.class_at-class.ensures.class

pub unreachable-requires : goal.unreachable-requires
unreachable-requires c =
    has_leader c.args.slots.now c.args.trail.now.pairs c.args.folding.now c.class_at-class.ensures.folded c.requires.found c.args.slot c.class_at-class.result c.requires.inside c.class_at-class.ensures.class
    (sym c.in_default.is ∙ c.leader_of.ensures)

pub cell_of-requires : goal.cell_of-requires
cell_of-requires c =
    leader_inside c.args.slots.now c.args.trail.now.pairs c.args.folding.now c.class_at-class.ensures.folded c.requires.found c.args.slot c.class_at-class.result c.requires.inside c.class_at-class.ensures.class
    c.in-Some.leader (sym c.in-Some.is ∙ c.leader_of.ensures)

pub returns-then-leader-slot : goal.returns-then-leader-slot
returns-then-leader-slot c =
    follower_side c.args.slots.now c.args.trail.now.pairs c.args.folding.now c.class_at-class.ensures.folded c.requires.found c.args.slot c.class_at-class.result c.requires.inside c.class_at-class.ensures.class
    c.in-Some.leader c.in_ok-cells.cells.items (sym c.in-Some.is ∙ c.leader_of.ensures) c.if-leader-slot.true (c.in_ok-cells.ensures.items ∙ ap (λ x. x ∷ []) c.cell_of.ensures)

pub returns-in_default-application_size : goal.returns-in_default-application_size
returns-in_default-application_size c =
    unbound_side c.args.slots.now c.args.trail.now.pairs c.args.folding.now c.class_at-class.ensures.folded c.requires.found c.args.slot c.class_at-class.result c.requires.inside c.class_at-class.ensures.class
    (ap Some (sym c.if-leader-slot.false) ∙ sym c.in-Some.is ∙ c.leader_of.ensures)
    (subst (IsBoundTo c.args.slots.now c.args.trail.now.pairs c.args.slot) c.in_default-application_size.is c.application_size.ensures)

pub fold-requires-clause-folds : goal.fold-requires-clause-folds
fold-requires-clause-folds c =
    some_fold c.args.slots.now c.args.trail.now.pairs c.args.folding.now c.class_at-class.ensures.folded c.requires.found c.args.slot c.class_at-class.result c.requires.inside c.class_at-class.ensures.class
    c.in-Some-application_size.field-0
    (subst (IsBoundTo c.args.slots.now c.args.trail.now.pairs c.args.slot) c.in-Some-application_size.is c.application_size.ensures)

pub returns : goal.returns
returns c =
    leader_side c.args.slots.now c.args.trail.now.pairs c.args.folding.now c.class_at-class.ensures.folded c.requires.found c.args.slot c.class_at-class.result c.requires.inside c.class_at-class.ensures.class
    c.in-Some-application_size.field-0
    (subst (IsBoundTo c.args.slots.now c.args.trail.now.pairs c.args.slot) c.in-Some-application_size.is c.application_size.ensures)
    c.in_ok-cells-2.cells.items (ap Some (sym c.if-leader-slot.false) ∙ sym c.in-Some.is ∙ c.leader_of.ensures) c.in_ok-cells-2.ensures
