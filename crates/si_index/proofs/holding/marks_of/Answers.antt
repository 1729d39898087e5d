use Rattle.std.proofs.Common.{◌<◌, length, ap, subst, length-set, true, arith}
use Rattle.std.proofs.lemmas.List.{take_all}
use Rattle.si_defs.proofs.ListLaws.{all_get}
use Rattle.si_legal.specs.declared.Posting.{Posting}
use Rattle.si_keyed.specs.Keyed.{HasKey}
use Rattle.si_keyed.specs.Placed.{placed_items}
use Rattle.si_index.specs.Holding.{MarksAll}
use Rattle.si_index.proofs.HoldingLaws.{marks_none, marks_more}
use Rattle.si_index.proofs.holding.marks_of.Goals as goal

pub loop-i-init : goal.loop-i-init
loop-i-init c = (omega (arith, c.in_ok-marks.ensures.len, c.in_ok-marks.marks.ok.0), marks_none c.args.places.now c.in_ok-marks.marks.items)

pub place-requires : goal.place-requires
place-requires c =
    all_get (λ (p : Posting). HasKey (placed_items c.args.places.now) p.clause) c.args.postings.now c.loop-i.i (record { clause = 0; entry = 0 }) c.requires.keyed c.loop-i-test.true

pub mark-requires : goal.mark-requires
mark-requires c =
    let there = c.place.ensures.there in
    omega (arith, c.loop-i.invariant.0, c.requires.all c.place.result ((_, there.0), there.1))

pub loop-i-preserved : goal.loop-i-preserved
loop-i-preserved c =
    let there = c.place.ensures.there in
    let marks = c.loop-i.marks.items in
    let room : c.place.result < length marks = omega (arith, c.loop-i.invariant.0, c.requires.all c.place.result ((_, there.0), there.1)) in (
      omega (arith, c.loop-i.invariant.0, ap length c.mark.ensures, length-set marks c.place.result true),
      marks_more c.args.places.now c.args.postings.now c.loop-i.i c.place.result (record { clause = 0; entry = 0 }) there.0 marks c.mark.new.marks.items c.requires.distinct c.loop-i-test.true there.1 room c.mark.ensures
          c.loop-i.invariant.1,
    )

pub returns : goal.returns
returns c = subst (λ ps. MarksAll c.args.places.now ps c.loop-i.marks.items) (take_all c.loop-i.i c.args.postings.now c.loop-i-test.false) c.loop-i.invariant.1
