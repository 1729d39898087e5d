use Rattle.std.proofs.Common.{length, drop, ap, ◌∙◌, arith, length-append}
use Rattle.si_flat.specs.Rows.{row_of}
use Rattle.si_flat.proofs.RowLaws.{opened, first_told, cut_off}
use Rattle.si_flat.proofs.Subterms.{some_cell}
use Rattle.si_flat.proofs.bindings.split_pair.Goals as goal

pub bounds-after-0 : goal.bounds-after-0
bounds-after-0 c =
    let o = opened c.args.cells.now c.requires.row c.requires.some in
    omega (arith, ap length o.after, length-append o.right (row_of o.rest), some_cell o.right o.whole)

pub split_at-requires : goal.split_at-requires
split_at-requires c =
    let o = opened c.args.cells.now c.requires.row c.requires.some in
    let told = first_told c.args.cells.now c.span.result o c.span.ensures in
    omega (arith, ap length o.after, length-append o.right (row_of o.rest), told)

pub returns-clause-pair : goal.returns-clause-pair
returns-clause-pair c =
    let o = opened c.args.cells.now c.requires.row c.requires.some in
    let told = first_told c.args.cells.now c.span.result o c.span.ensures in
    (cut_off c.args.cells.now c.split_at-2.result.0.now c.split_at-2.result.1.now c.split_at.result.1.now o (c.split_at.ensures.back ∙ (λ i. drop (told i) (o.after i))) c.split_at-2.ensures.front c.split_at-2.ensures.back).pair_is

pub returns-clause-rest : goal.returns-clause-rest
returns-clause-rest c =
    let o = opened c.args.cells.now c.requires.row c.requires.some in
    let told = first_told c.args.cells.now c.span.result o c.span.ensures in
    (cut_off c.args.cells.now c.split_at-2.result.0.now c.split_at-2.result.1.now c.split_at.result.1.now o (c.split_at.ensures.back ∙ (λ i. drop (told i) (o.after i))) c.split_at-2.ensures.front c.split_at-2.ensures.back).rest_is

pub returns-clause-pairs : goal.returns-clause-pairs
returns-clause-pairs c =
    let o = opened c.args.cells.now c.requires.row c.requires.some in
    let told = first_told c.args.cells.now c.span.result o c.span.ensures in
    (cut_off c.args.cells.now c.split_at-2.result.0.now c.split_at-2.result.1.now c.split_at.result.1.now o (c.split_at.ensures.back ∙ (λ i. drop (told i) (o.after i))) c.split_at-2.ensures.front c.split_at-2.ensures.back).pairs
