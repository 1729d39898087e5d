use Rattle.std.proofs.Common.{◌≡◌, [], ◌∷◌, ◌++◌, Some, length, if◌then◌else◌, refl, sym, ◌∙◌, ap, subst, arith}
use Rattle.std.proofs.lemmas.List.{length-append}
use Rattle.std.specs.Prelude.{is_ok}
use Rattle.si_keyed.specs.Keyed.{HasKey}
use Rattle.si_keyed.specs.KeyedSlots.{kept, marked, HaveFewHoles, IsIndexed}
use Rattle.si_keyed.specs.declared.keyed.Kept.{Kept}
use Rattle.si_keyed.proofs.SlotLaws.{entry, kept_pushed}
use Rattle.si_keyed.proofs.LinkLaws.{fresh_key}
use Rattle.si_keyed.proofs.IndexedLaws.{indexed_same, indexed_pushed, few_pushed}
use Rattle.si_keyed.proofs.MarkLaws.{marked_pushed, key_marked}
use Rattle.si_keyed.proofs.Results.{at_err, at_ok}
use Rattle.si_keyed.proofs.keyed.KeyedList.push.Goals as goal

pub invariant_of-self : goal.invariant_of-self
invariant_of-self g c =
    let room = c.make_room-room.ensures in (
      indexed_same c.self.inside.slots.items _ c.self.inside.places _ c.self.inside.ranks _ c.self.invariant.0 room.same_slots room.same_places (at_err c.make_room-room.result c.if-is_err.ensures.value room.err),
      subst HaveFewHoles (sym room.same_slots) c.self.invariant.1,
      ap length room.same_marks ∙ c.self.invariant.2 ∙ sym (ap length room.same_slots),
    )

pub invariant_of-self-2 : goal.invariant_of-self-2
invariant_of-self-2 g c =
    let room = c.make_room-room.ensures in
    let slots = c.make_room-room.new.slots in
    let item : Kept g.row.T.Denot = record { key = c.insert_reserved-key.result; item = c.args.item } in
    let before : IsIndexed slots.items c.make_room-room.new.places c.self.inside.ranks =
    indexed_same c.self.inside.slots.items _ c.self.inside.places _ c.self.inside.ranks _ c.self.invariant.0 room.same_slots room.same_places refl in
    let pushed : c.push.new.self.items ≡ slots.items ++ Some item ∷ [] =
    c.push.ensures.items ∙ ap (λ r. if is_ok r then slots.items ++ Some item ∷ [] else slots.items) c.unwrap.ensures in
    let marks = c.make_room-room.new.marks in
    let marked_last : c.push-2.new.self.items ≡ marks.items ++ c.args.mark ∷ [] =
    c.push-2.ensures.items ∙ ap (λ r. if is_ok r then marks.items ++ c.args.mark ∷ [] else marks.items) c.unwrap-2.ensures in
    let key = c.insert_reserved-key.ensures in (
      indexed_pushed slots.items _ c.make_room-room.new.places _ _ _ item _ before key.was_vacant key.updates (c.len.ensures ∙ slots.ok.0) key.len (at_ok c.make_room-room.result c.if-is_err.ensures.value room.counted) pushed,
      few_pushed slots.items _ item (subst HaveFewHoles (sym room.same_slots) c.self.invariant.1) pushed,
      omega (arith, ap length pushed, ap length marked_last, length-append slots.items (Some item ∷ []), length-append marks.items (c.args.mark ∷ []), ap length room.same_slots, ap length room.same_marks, c.self.invariant.2),
    )

pub returns-clause-pushed : goal.returns-clause-pushed
returns-clause-pushed g c =
    let slots = c.make_room-room.new.slots in
    let item : Kept g.row.T.Denot = record { key = c.insert_reserved-key.result; item = c.args.item } in
    let pushed : c.push.new.self.items ≡ slots.items ++ Some item ∷ [] =
    c.push.ensures.items ∙ ap (λ r. if is_ok r then slots.items ++ Some item ∷ [] else slots.items) c.unwrap.ensures in
    ap kept pushed ∙ kept_pushed slots.items item ∙ ap (λ l. l ++ entry item ∷ []) (ap kept c.make_room-room.ensures.same_slots ∙ (ap (λ l. l.items) c.self.view_is))

pub returns-clause-fresh : goal.returns-clause-fresh
returns-clause-fresh g c =
    let room = c.make_room-room.ensures in
    let slots = c.make_room-room.new.slots in
    let before : IsIndexed slots.items c.make_room-room.new.places c.self.inside.ranks =
    indexed_same c.self.inside.slots.items _ c.self.inside.places _ c.self.inside.ranks _ c.self.invariant.0 room.same_slots room.same_places refl in
    λ has.
    fresh_key slots.items _ c.insert_reserved-key.result before.linked c.insert_reserved-key.ensures.was_vacant
    (subst (λ l. HasKey l c.insert_reserved-key.result) (sym (ap kept room.same_slots ∙ (ap (λ l. l.items) c.self.view_is))) has)

pub returns-clause-few_holes : goal.returns-clause-few_holes
returns-clause-few_holes g c =
    let room = c.make_room-room.ensures in
    let slots = c.make_room-room.new.slots in
    let item : Kept g.row.T.Denot = record { key = c.insert_reserved-key.result; item = c.args.item } in
    let pushed : c.push.new.self.items ≡ slots.items ++ Some item ∷ [] =
    c.push.ensures.items ∙ ap (λ r. if is_ok r then slots.items ++ Some item ∷ [] else slots.items) c.unwrap.ensures in
    few_pushed slots.items _ item (subst HaveFewHoles (sym room.same_slots) c.self.invariant.1) pushed

pub returns-clause-marked : goal.returns-clause-marked
returns-clause-marked g c =
    let room = c.make_room-room.ensures in
    let slots = c.make_room-room.new.slots in
    let item : Kept g.row.T.Denot = record { key = c.insert_reserved-key.result; item = c.args.item } in
    let pushed : c.push.new.self.items ≡ slots.items ++ Some item ∷ [] =
    c.push.ensures.items ∙ ap (λ r. if is_ok r then slots.items ++ Some item ∷ [] else slots.items) c.unwrap.ensures in
    let marks = c.make_room-room.new.marks in
    let marked_last : c.push-2.new.self.items ≡ marks.items ++ c.args.mark ∷ [] =
    c.push-2.ensures.items ∙ ap (λ r. if is_ok r then marks.items ++ c.args.mark ∷ [] else marks.items) c.unwrap-2.ensures in
    let same : marked slots.items marks.items ≡ c.args.self.now.marks =
    (λ i. marked (room.same_slots i) (room.same_marks i)) ∙ ap (λ l. l.marks) c.self.view_is in
    (λ i. marked (pushed i) (marked_last i))
    ∙ marked_pushed slots.items marks.items item c.args.mark (ap length room.same_marks ∙ c.self.invariant.2 ∙ sym (ap length room.same_slots))
    ∙ ap (λ l. l ++ (item.key, c.args.mark) ∷ []) same

pub returns-clause-unmarked : goal.returns-clause-unmarked
returns-clause-unmarked g c = λ has.
    returns-clause-fresh g c
    (subst (λ l. HasKey l c.insert_reserved-key.result) (ap (λ l. l.items) c.self.view_is)
    (key_marked c.self.inside.slots.items c.self.inside.marks.items c.insert_reserved-key.result
    (subst (λ l. HasKey l c.insert_reserved-key.result) (sym (ap (λ l. l.marks) c.self.view_is)) has)))
