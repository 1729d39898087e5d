use Rattle.std.proofs.Common.{◌≡◌, ◌+◌, ◌∷◌, ◌++◌, [], drop, length, append_assoc, append-nil, drop_of_length-le, sym, ◌∙◌, ap, arith}
use Rattle.std.proofs.lemmas.Bool.{lt-ltb}
use Rattle.si_tree.specs.Slots.{standing}
use Rattle.si_tree.proofs.StandingLaws.{met}
use Rattle.si_tree.proofs.postings.Postings.append_to.Goals as goal

pub loop-slot-init : goal.loop-slot-init
loop-slot-init c = (
  ap (λ items. items ++ standing c.self.inside.slots.now) c.in_ok-reserve.ensures.items,
  omega (arith, c.self.invariant, c.in_ok-reserve.ensures.ok, c.in_ok-reserve.ensures.len),
  c.in_ok-reserve.ensures.capacity,
)

pub push_reserved-requires : goal.push_reserved-requires
push_reserved-requires c =
    omega (arith, c.loop-slot.invariant.1, ap length (met c.self.inside.slots.now c.loop-slot.slot-index _ c.loop-slot-test.true (lt-ltb _ _ c.if-slot-ge-GONE.false)))

pub loop-slot-preserved : goal.loop-slot-preserved
loop-slot-preserved c =
    let rest = standing (drop (c.loop-slot.slot-index + 1) c.self.inside.slots.now) in
    let one = met c.self.inside.slots.now c.loop-slot.slot-index _ c.loop-slot-test.true (lt-ltb _ _ c.if-slot-ge-GONE.false) in (
      ap (λ items. items ++ rest) c.push_reserved.ensures.items
          ∙ append_assoc c.loop-slot.others.items (c.posting.result ∷ []) rest
          ∙ (λ i. c.loop-slot.others.items ++ record { clause = c.posting.ensures.clause i; entry = c.posting.ensures.entry i } ∷ rest)
          ∙ ap (λ ps. c.loop-slot.others.items ++ ps) (sym one)
          ∙ c.loop-slot.invariant.0,
      omega (arith, c.loop-slot.invariant.1, ap length one, c.push_reserved.ensures.len, c.push_reserved.ensures.capacity),
      omega (arith, c.loop-slot.invariant.2, c.push_reserved.ensures.capacity),
    )

pub returns-clause-ok : goal.returns-clause-ok
returns-clause-ok c =
    let none : drop c.loop-slot.slot-index c.self.inside.slots.now ≡ [] = drop_of_length-le c.self.inside.slots.now {i = c.loop-slot.slot-index} c.loop-slot-test.false in
    sym (ap (λ ss. c.loop-slot.others.items ++ standing ss) none ∙ append-nil c.loop-slot.others.items)
    ∙ c.loop-slot.invariant.0
    ∙ ap (λ ps. c.args.others.now.items ++ ps) c.self.view_is
