use Rattle.std.proofs.Common.{◌≡◌, ℕ, zero, suc, ◌<◌, ◌-◌, List, ◌∷◌, [], Some, length, slice_get, drop, drop_of_length-le, refl, sym, ◌∙◌, ap, subst, arith}
use Rattle.si_legal.specs.declared.Posting.{Posting}
use Rattle.si_tree.specs.Slots.{standing}
use Rattle.si_tree.proofs.StandingLaws.{met, passed}
use Rattle.si_tree.proofs.postings.Postings.at.Goals as goal

-- one place further on
further : (p : Posting) (ps : List Posting) (n : ℕ) → (n ≡ 0 → ⊥) → slice_get (p ∷ ps) n ≡ slice_get ps (n - 1)
further p ps zero h = absurd (h refl)
further p ps (suc n) h = ap (slice_get ps) (omega arith)

pub loop-slot-init : goal.loop-slot-init
loop-slot-init c = (subst (λ ps. c.args.n < length ps) (sym c.self.view_is) c.requires, refl)

pub loop-slot-preserved-then-not-stands : goal.loop-slot-preserved-then-not-stands
loop-slot-preserved-then-not-stands c =
    let same = passed c.self.inside.slots.now c.loop-slot.slot-index _ c.loop-slot-test.true (sym c.stands.ensures ∙ c.if-not-stands.true) in (
      subst (λ ps. c.loop-slot.left < length ps) (sym same) c.loop-slot.invariant.0,
      ap (λ ps. slice_get ps c.loop-slot.left) same ∙ c.loop-slot.invariant.1,
    )

pub returns-then-left-eq0 : goal.returns-then-left-eq0
returns-then-left-eq0 c =
    let one = met c.self.inside.slots.now c.loop-slot.slot-index _ c.loop-slot-test.true (sym c.stands.ensures ∙ c.if-not-stands.false) in
    ap (λ ps. slice_get ps c.args.n) (sym c.self.view_is)
    ∙ sym c.loop-slot.invariant.1
    ∙ (λ i. slice_get (one i) (c.if-left-eq0.true i))
    ∙ sym (λ i. Some (record { clause = c.posting.ensures.clause i; entry = c.posting.ensures.entry i }))

pub loop-slot-preserved : goal.loop-slot-preserved
loop-slot-preserved c =
    let one = met c.self.inside.slots.now c.loop-slot.slot-index _ c.loop-slot-test.true (sym c.stands.ensures ∙ c.if-not-stands.false) in (
      omega (arith, c.loop-slot.invariant.0, ap length one, c.if-left-eq0.false),
      sym (further _ _ c.loop-slot.left c.if-left-eq0.false) ∙ ap (λ ps. slice_get ps c.loop-slot.left) (sym one) ∙ c.loop-slot.invariant.1,
    )

pub unreachable-requires : goal.unreachable-requires
unreachable-requires c =
    let none : drop c.loop-slot.slot-index c.self.inside.slots.now ≡ [] = drop_of_length-le c.self.inside.slots.now {i = c.loop-slot.slot-index} c.loop-slot-test.false in
    omega (arith, c.loop-slot.invariant.0, ap (λ ss. length (standing ss)) none)
