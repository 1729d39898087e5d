use Rattle.std.proofs.Common.{List, sym, subst}
use Rattle.std.specs.List.{AllByRecursion}
use Rattle.std.specs.Borrow.{Bor}
use Rattle.si_flat.specs.declared.Cell.{Cell}
use Rattle.si_flat.specs.declared.Owner.TheVariants.{Entry}
use Rattle.std.proofs.lemmas.Result.{IfOk-weaker}
use Rattle.si_defs.specs.Terms.{arguments}
use Rattle.si_subsume.specs.Maps.{AreOf, StandForAll, AnswersFlat}
use Rattle.si_subsume.specs.Parts.{AreFixed}
use Rattle.si_subsume.specs.Search.{AreFlatLiterals, AnswersSlices}
use Rattle.si_subsume.proofs.Arguments.{arguments_are_terms}
use Rattle.si_subsume.proofs.FlatMaps.{fixed_targets, flat_answer}
use Rattle.si_subsume.proofs.flat.least_map_of.Goals as goal

pub least_by_heads-requires-clause-literals : goal.least_by_heads-requires-clause-literals
least_by_heads-requires-clause-literals c =
    subst (AreFlatLiterals c.slots_of-slots.result) (sym c.deref.ensures.value)
    (arguments_are_terms c.slots_of-slots.result c.args.c.now c.in_ok-literals.literals.items c.requires.c.whole.0 c.requires.c.whole.1 (c.in_ok-literals.ensures.arguments c.requires.c.whole.0 c.requires.c.whole.1) c.requires.c.heads c.slots_of-slots.ensures.c)

pub least_by_heads-requires-clause-targets : goal.least_by_heads-requires-clause-targets
least_by_heads-requires-clause-targets c =
    subst (AreFlatLiterals c.slots_of-slots.result) (sym c.deref-2.ensures.value)
    (arguments_are_terms c.slots_of-slots.result c.args.d.now c.in_ok-targets.targets.items c.requires.d.whole.0 c.requires.d.whole.1 (c.in_ok-targets.ensures.arguments c.requires.d.whole.0 c.requires.d.whole.1) c.requires.d.heads c.slots_of-slots.ensures.d)

pub least_by_heads-requires-clause-fixed : goal.least_by_heads-requires-clause-fixed
least_by_heads-requires-clause-fixed c =
    subst (AllByRecursion (λ (b : Bor (List Cell)). AreFixed c.slots_of-slots.result b.now)) (sym c.deref-2.ensures.value)
    (fixed_targets c.slots_of-slots.result c.slots_of-slots.ensures.frozen c.in_ok-targets.targets.items c.requires.d.whole.0 (c.in_ok-targets.ensures.arguments c.requires.d.whole.0 c.requires.d.whole.1)
    (subst (AreOf Entry) c.requires.d.whole.1.cells_are c.requires.d.owned))

pub returns : goal.returns
returns c =
    IfOk-weaker c.least_by_heads.result (AnswersSlices c.slots_of-slots.result c.deref.result.now c.deref-2.result.now) (AnswersFlat c.args.c.now c.args.d.now)
    (λ answer. flat_answer c.slots_of-slots.result c.deref.result.now c.deref-2.result.now c.args.c.now c.args.d.now answer c.slots_of-slots.ensures.free c.slots_of-slots.ensures.frozen
    (λ t stands. subst (λ bs. StandForAll bs (arguments t)) (sym c.deref.ensures.value) (c.in_ok-literals.ensures.arguments t stands))
    (λ u stands. subst (λ bs. StandForAll bs (arguments u)) (sym c.deref-2.ensures.value) (c.in_ok-targets.ensures.arguments u stands))
    c.requires.d.owned)
    c.least_by_heads.ensures
