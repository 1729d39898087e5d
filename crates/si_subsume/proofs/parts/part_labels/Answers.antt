use Rattle.std.proofs.Common.{◌≡◌, ◌<◌, length, replicate, refl, sym, subst, arith}
use Rattle.std.proofs.lemmas.Result.{IfOk-weaker}
use Rattle.std.specs.List.{AllByRecursion}
use Rattle.si_subsume.specs.Parts.{BelongToParts, AreParts}
use Rattle.si_subsume.proofs.PartLaws.{one_part, all_below_one}
use Rattle.si_subsume.proofs.parts.part_labels.Goals as goal

pub returns : goal.returns
returns c =
    let literals = c.args.literals.now in
    IfOk-weaker c.one_part.result (λ labels. labels.items ≡ replicate (length literals) 0) (λ labels. AreParts c.args.slots.now literals labels.items)
    (λ labels same. record {
      owner = λ slot. 0;
      apart = subst (λ l. BelongToParts c.args.slots.now (λ slot. 0) l literals) (sym same) (one_part c.args.slots.now (λ slot. 0) literals refl);
      below = subst (AllByRecursion (λ l. l < length literals)) (sym same) (all_below_one _ literals (length literals) (omega arith));
    })
    c.one_part.ensures
