use Rattle.std.proofs.Common.{None, sym, subst, ◌∙◌}
use Rattle.si_term.proofs.Results.{on_err}
use Rattle.si_insert.specs.Inserting.{Inserts, Places, KeepsAll}
use Rattle.si_insert.proofs.AnewLaws.{renumbered_after, may_still, inserted_after}
use Rattle.si_insert.proofs.inserting.insert_cells.Goals as goal

pub place-requires : goal.place-requires
place-requires c = may_still c.args.tree.now c.renumber_if_due.new.tree c.args.cells.now c.args.posting c.renumber_if_due.ensures c.requires

pub returns-in_err-placed-clause-err : goal.returns-in_err-placed-clause-err
returns-in_err-placed-clause-err c =
    let stays : KeepsAll c.args.tree.now c.place.new.tree = subst (KeepsAll c.args.tree.now) (sym c.in_err-placed.ensures.err) c.renumber_if_due.ensures in
    on_err _ stays

pub returns-in-Some-clause-ok : goal.returns-in-Some-clause-ok
returns-in-Some-clause-ok c =
    let placed : Inserts c.renumber_if_due.new.tree c.place.new.tree c.args.cells.now c.args.posting c.in-Some.leaf = subst (Places c.renumber_if_due.new.tree c.place.new.tree c.args.cells.now c.args.posting) c.in-Some.is c.in_ok-placed.ensures.ok in
    inserted_after c.args.tree.now c.renumber_if_due.new.tree c.place.new.tree c.args.cells.now c.args.posting c.in-Some.leaf c.renumber_if_due.ensures placed

pub returns-in_err-renumber-clause-err : goal.returns-in_err-renumber-clause-err
returns-in_err-renumber-clause-err c =
    let placed : Places c.renumber_if_due.new.tree c.place.new.tree c.args.cells.now c.args.posting None = subst (Places c.renumber_if_due.new.tree c.place.new.tree c.args.cells.now c.args.posting) c.in_default.is c.in_ok-placed.ensures.ok in
    let stays : KeepsAll c.args.tree.now c.renumber.new.self = subst (KeepsAll c.args.tree.now) (sym (c.in_err-renumber.ensures.err ∙ placed)) c.renumber_if_due.ensures in
    on_err _ stays

pub place-requires-2 : goal.place-requires-2
place-requires-2 c = may_still c.args.tree.now c.renumber.new.self c.args.cells.now c.args.posting (renumbered_after c.args.tree.now c.renumber_if_due.new.tree c.place.new.tree c.renumber.new.self c.args.cells.now c.args.posting _ c.renumber_if_due.ensures c.in_ok-placed.ensures.ok c.in_default.is c.in_ok-renumber.ensures.ok) c.requires

pub returns-in_err-placed-2-clause-err : goal.returns-in_err-placed-2-clause-err
returns-in_err-placed-2-clause-err c =
    let stays : KeepsAll c.args.tree.now c.place-2.new.tree = subst (KeepsAll c.args.tree.now) (sym c.in_err-placed-2.ensures.err) (renumbered_after c.args.tree.now c.renumber_if_due.new.tree c.place.new.tree c.renumber.new.self c.args.cells.now c.args.posting _ c.renumber_if_due.ensures c.in_ok-placed.ensures.ok c.in_default.is c.in_ok-renumber.ensures.ok) in
    on_err _ stays

pub returns-in_default-placed-clause-err : goal.returns-in_default-placed-clause-err
returns-in_default-placed-clause-err c =
    let again : Places c.renumber.new.self c.place-2.new.tree c.args.cells.now c.args.posting None = subst (Places c.renumber.new.self c.place-2.new.tree c.args.cells.now c.args.posting) c.in_default-placed.is c.in_ok-placed-2.ensures.ok in
    subst (KeepsAll c.args.tree.now) (sym again) (renumbered_after c.args.tree.now c.renumber_if_due.new.tree c.place.new.tree c.renumber.new.self c.args.cells.now c.args.posting _ c.renumber_if_due.ensures c.in_ok-placed.ensures.ok c.in_default.is c.in_ok-renumber.ensures.ok)

pub returns-clause-ok : goal.returns-clause-ok
returns-clause-ok c =
    let again : Inserts c.renumber.new.self c.place-2.new.tree c.args.cells.now c.args.posting c.in-Some-placed.leaf = subst (Places c.renumber.new.self c.place-2.new.tree c.args.cells.now c.args.posting) c.in-Some-placed.is c.in_ok-placed-2.ensures.ok in
    inserted_after c.args.tree.now c.renumber.new.self c.place-2.new.tree c.args.cells.now c.args.posting c.in-Some-placed.leaf (renumbered_after c.args.tree.now c.renumber_if_due.new.tree c.place.new.tree c.renumber.new.self c.args.cells.now c.args.posting _ c.renumber_if_due.ensures c.in_ok-placed.ensures.ok c.in_default.is c.in_ok-renumber.ensures.ok) again
