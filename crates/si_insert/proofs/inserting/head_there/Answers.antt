use Rattle.std.proofs.Common.{sym, ap, ◌∙◌}
use Rattle.si_flat.specs.declared.Cell.TheVariants as cell
use Rattle.si_tree.specs.Rights.{cell_head}
use Rattle.si_insert.proofs.HeadThere.{head_told, told_head, stands_there, part_there, was_opened, first_of_part}
use Rattle.si_flat.proofs.Subterms.{some_cell}
use Rattle.si_insert.proofs.inserting.head_there.Goals as goal

pub at-at-requires : goal.at-at-requires
at-at-requires c = was_opened c.args.cells.now c.args.openings.now c.requires.there c.args.split c.requires.part c.requires.stand c.requires.among

pub sub-part-requires-clause-inside : goal.sub-part-requires-clause-inside
sub-part-requires-clause-inside c =
    let stands = part_there c.args.cells.now c.args.openings.now c.requires.there c.args.split c.at-at.result c.requires.part c.requires.distinct c.requires.stand c.requires.among c.at-at.ensures in
    (stands_there c.args.cells.now c.at-at.result c.requires.part (cell.App 0 0 0) stands).within

pub bounds-part-0 : goal.bounds-part-0
bounds-part-0 c = some_cell c.sub-part.result.now c.sub-part.ensures.whole

pub unreachable-requires : goal.unreachable-requires
unreachable-requires c =
    let stands = part_there c.args.cells.now c.args.openings.now c.requires.there c.args.split c.at-at.result c.requires.part c.requires.distinct c.requires.stand c.requires.among c.at-at.ensures in
    let first = first_of_part c.args.cells.now c.sub-part.result.now c.at-at.result c.requires.part c.sub-part.ensures.place c.sub-part.ensures.whole stands in
    c.in_default.not-Some c.requires.has_head.0 (c.head_of.ensures ∙ ap cell_head first ∙ head_told c.requires.part c.requires.has_head.0 c.requires.has_head.1)

pub returns : goal.returns
returns c = λ there t stand among.
    let stands = part_there c.args.cells.now c.args.openings.now there c.args.split c.at-at.result t c.requires.distinct stand among c.at-at.ensures in
    let first = first_of_part c.args.cells.now c.sub-part.result.now c.at-at.result t c.sub-part.ensures.place c.sub-part.ensures.whole stands in
    told_head t c.in-Some.head (sym (ap cell_head first) ∙ sym c.head_of.ensures ∙ c.in-Some.is)
