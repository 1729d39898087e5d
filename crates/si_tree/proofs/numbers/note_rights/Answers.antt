use Rattle.std.proofs.Common.{sym, ◌∙◌, ap, subst, arith, ◌++◌, length, length-append}
use Rattle.si_defs.proofs.ListLaws.{all_front}
use Rattle.si_tree.specs.Numbers.{AreBelow, indicators_in, rights_in}
use Rattle.si_tree.proofs.NumberLaws.{IsNoting, noting_begins, noting_more, noting_ends}
use Rattle.si_tree.proofs.numbers.note_rights.Goals as goal

pub loop-pair-init : goal.loop-pair-init
loop-pair-init c =
    subst (IsNoting c.args.numbers.now.items c.args.first (rights_in c.args.bindings.now) c.args.numbers.now.items c.args.first)
    (ap rights_in (sym (c.into_iter-pair-iterator.ensures.into_iter_gives ∙ c.pairs-pair-items.ensures)))
    (noting_begins _ _ _ c.requires.known)

pub note_cells-next-requires-clause-known : goal.note_cells-next-requires-clause-known
note_cells-next-requires-clause-known c =
    all_front _ (indicators_in c.right.result.now) (rights_in c.next.new.self)
    (subst (AreBelow (length c.loop-pair.numbers.items))
    (ap rights_in c.in-Some.ensures.steps ∙ ap (λ cells. indicators_in cells ++ rights_in c.next.new.self) (sym c.right.ensures.cells))
    c.loop-pair.invariant.known)

pub note_cells-next-requires-clause-room : goal.note_cells-next-requires-clause-room
note_cells-next-requires-clause-room c =
    let here = ap length (ap rights_in c.in-Some.ensures.steps ∙ ap (λ cells. indicators_in cells ++ rights_in c.next.new.self) (sym c.right.ensures.cells)) in
    omega (arith, here, length-append (indicators_in c.right.result.now) (rights_in c.next.new.self), c.loop-pair.invariant.count, c.requires.room)

pub loop-pair-preserved : goal.loop-pair-preserved
loop-pair-preserved c =
    noting_more c.args.numbers.now.items c.args.first (rights_in c.args.bindings.now) c.loop-pair.numbers.items c.loop-pair.next (indicators_in c.right.result.now) (rights_in c.next.new.self) _ _
    (subst (IsNoting c.args.numbers.now.items c.args.first (rights_in c.args.bindings.now) c.loop-pair.numbers.items c.loop-pair.next)
    (ap rights_in c.in-Some.ensures.steps ∙ ap (λ cells. indicators_in cells ++ rights_in c.next.new.self) (sym c.right.ensures.cells))
    c.loop-pair.invariant)
    c.note_cells-next.ensures.noted c.note_cells-next.ensures.next

pub returns-clause-noted : goal.returns-clause-noted
returns-clause-noted c = (noting_ends _ _ _ _ _ _ c.loop-pair.invariant (ap rights_in c.in-None.ensures.steps.0)).0

pub returns-clause-next : goal.returns-clause-next
returns-clause-next c = (noting_ends _ _ _ _ _ _ c.loop-pair.invariant (ap rights_in c.in-None.ensures.steps.0)).1
