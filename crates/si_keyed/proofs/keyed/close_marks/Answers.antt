use Rattle.std.proofs.Common.{sym, ◌∙◌, ◌+◌, ap, subst₂}
use Rattle.si_keyed.proofs.MarkLaws.{IsClosing, closing_hole, closing_item}
use Rattle.si_keyed.proofs.keyed.close_marks.Goals as goal
use Rattle.si_keyed.proofs.keyed.close_marks.Goals.{then-is_some, else-is_some}

pub loop-place-preserved : goal.loop-place-preserved
loop-place-preserved g c =
    let slots = c.args.slots.now in
    let old = c.args.marks.now.items in
    let now = c.loop-place.marks.items in
    elim c.if-is_some.branch [
      | then-is_some w ↦
          let done = closing_item slots old now w.put_mark.new.marks.items c.loop-place.count c.loop-place.place c.index-slots-place.result c.loop-place-test.true c.index-slots-place.is (sym w.if-is_some.ensures) w.put_mark.ensures c.loop-place.invariant in
          subst₂ (λ l n. IsClosing slots old l n (c.loop-place.place + 1)) (ap (λ m. m.items) (sym w.marks-is)) (sym w.count-is) done
      | else-is_some w ↦
          let done = closing_hole slots old now c.loop-place.count c.loop-place.place c.index-slots-place.result c.loop-place-test.true c.index-slots-place.is (sym w.if-is_some.ensures) c.loop-place.invariant in
          subst₂ (λ l n. IsClosing slots old l n (c.loop-place.place + 1)) (ap (λ m. m.items) (sym w.marks-is)) (sym w.count-is) done
    ]
