use Rattle.std.proofs.Common.{◌<◌, ◌∷◌, ◌++◌, ◌≤◌, [], get_or, length, reverse, sym, ◌∙◌, ap, subst, arith}
use Rattle.std.proofs.lemmas.Option.{slice_get_within}
use Rattle.std.proofs.lemmas.List.{reverse-append}
use Rattle.si_form.specs.Folding.{Folded, IsFolding, WritesCells}
use Rattle.si_form.proofs.NodeLaws.{none_piled}
use Rattle.si_form.proofs.WritingLaws.{writing_begins, all_written, some_left, can_symbol, asked_of, writes_variable, writes_symbol}
use Rattle.si_form.proofs.WrittenLaws.{length-sizes_of, size_there}
use Rattle.si_form.proofs.folding.Folding.fold.Goals as goal

pub unreachable-requires : goal.unreachable-requires
unreachable-requires c =
    let can = c.requires.folds.3 in
    let less : c.args.class < length c.args.self.now.nodes = omega (arith, slice_get_within c.requires.folds.1 c.args.class c.requires.folds.2 can.class_is, can.are.long) in
    let inside : c.args.class < length c.self.inside.written.items =
    subst (λ n. c.args.class < n) (sym c.self.invariant.sized.long ∙ length-sizes_of c.self.inside.written.items) (subst (λ (f : Folded). c.args.class < length f.nodes) (sym c.self.view_is) less) in
    let len = sym (size_there c.self.inside.written.items c.args.class c.index.result.now inside c.index.ensures) in
    some_left c.args.slots.now _ (subst IsFolding c.self.view_is c.self.invariant) _ _ c.loop.cells.items c.loop.counter
    (none_piled c.loop.left.items (omega (arith, c.in_default.ensures.cases.0, c.loop.left.ok)))
    (subst (λ (f : Folded). c.loop.counter < get_or f.sizes c.args.class 0) c.self.view_is (subst (λ n. c.loop.counter < n) len c.loop-test.true)) c.loop.invariant c.requires.folds

pub write_symbol-requires : goal.write_symbol-requires
write_symbol-requires c = can_symbol _ _ _ _ _ _ c.requires.folds.3

pub loop-init : goal.loop-init
loop-init c =
    writing_begins c.args.slots.now c.args.self.now (subst IsFolding c.self.view_is c.self.invariant) c.args.class (reverse c.write_symbol.new.left.items) c.write_symbol.new.cells.items
    (
    subst (λ l. WritesCells c.args.self.now l (reverse c.write_symbol.new.left.items) [] c.write_symbol.new.cells.items c.args.class) (ap reverse c.new-left.ensures.items)
    (subst (λ l. WritesCells c.args.self.now (reverse c.new-left.result.items) (reverse c.write_symbol.new.left.items) l c.write_symbol.new.cells.items c.args.class) c.new-cells.ensures.items c.in_ok-write_symbol.ensures)
    )

pub leader_of-requires : goal.leader_of-requires
leader_of-requires c =
    (asked_of c.args.slots.now _ (subst IsFolding c.self.view_is c.self.invariant) _ c.in-Some.next _ (reverse c.pop.new.self.items) _ _ (ap reverse c.in-Some.ensures.items ∙ reverse-append c.pop.new.self.items (c.in-Some.next ∷ [])) c.loop.invariant c.requires.folds).class_inside

pub write_symbol-requires-in_default-leader_of : goal.write_symbol-requires-in_default-leader_of
write_symbol-requires-in_default-leader_of c =
    (asked_of c.args.slots.now _ (subst IsFolding c.self.view_is c.self.invariant) _ c.in-Some.next _ (reverse c.pop.new.self.items) _ _ (ap reverse c.in-Some.ensures.items ∙ reverse-append c.pop.new.self.items (c.in-Some.next ∷ [])) c.loop.invariant c.requires.folds).symbol
    (sym c.leader_of.ensures ∙ c.in_default-leader_of.is)

pub cell_of-requires : goal.cell_of-requires
cell_of-requires c =
    (asked_of c.args.slots.now _ (subst IsFolding c.self.view_is c.self.invariant) _ c.in-Some.next _ (reverse c.pop.new.self.items) _ _ (ap reverse c.in-Some.ensures.items ∙ reverse-append c.pop.new.self.items (c.in-Some.next ∷ [])) c.loop.invariant c.requires.folds).slot_inside c.in-Some-leader_of.slot (sym c.leader_of.ensures ∙ c.in-Some-leader_of.is)

pub loop-preserved-in_default-leader_of : goal.loop-preserved-in_default-leader_of
loop-preserved-in_default-leader_of c =
    writes_symbol c.args.slots.now _ (subst IsFolding c.self.view_is c.self.invariant) _ c.in-Some.next _ (reverse c.pop.new.self.items) c.loop.cells.items c.loop.counter (ap reverse c.in-Some.ensures.items ∙ reverse-append c.pop.new.self.items (c.in-Some.next ∷ [])) c.loop.invariant
    _ _ (sym c.leader_of.ensures ∙ c.in_default-leader_of.is) c.in_ok-write_symbol-2.ensures

pub loop-preserved : goal.loop-preserved
loop-preserved c =
    writes_variable c.args.slots.now _ (subst IsFolding c.self.view_is c.self.invariant) _ c.in-Some.next _ (reverse c.pop.new.self.items) c.loop.cells.items c.loop.counter (ap reverse c.in-Some.ensures.items ∙ reverse-append c.pop.new.self.items (c.in-Some.next ∷ [])) c.loop.invariant
    c.in-Some-leader_of.slot _ (sym c.leader_of.ensures ∙ c.in-Some-leader_of.is) (c.in_ok-push.ensures.items ∙ ap (λ x. c.loop.cells.items ++ x ∷ []) c.cell_of.ensures)

pub returns : goal.returns
returns c =
    let can = c.requires.folds.3 in
    let less : c.args.class < length c.args.self.now.nodes = omega (arith, slice_get_within c.requires.folds.1 c.args.class c.requires.folds.2 can.class_is, can.are.long) in
    let inside : c.args.class < length c.self.inside.written.items =
    subst (λ n. c.args.class < n) (sym c.self.invariant.sized.long ∙ length-sizes_of c.self.inside.written.items) (subst (λ (f : Folded). c.args.class < length f.nodes) (sym c.self.view_is) less) in
    let len = sym (size_there c.self.inside.written.items c.args.class c.index.result.now inside c.index.ensures) in
    all_written c.args.slots.now _ (subst IsFolding c.self.view_is c.self.invariant) _ (reverse c.loop.left.items) c.loop.cells.items c.loop.counter (subst (λ (f : Folded). get_or f.sizes c.args.class 0 ≤ c.loop.counter) c.self.view_is (subst (λ n. n ≤ c.loop.counter) len c.loop-test.false)) c.loop.invariant
