use Rattle.std.proofs.Common.{rules}
use Rattle.std.proofs.lemmas.List.Sorted.{answers_always}
use Rattle.si_prune.proofs.FindLaws.{is_found, is_nowhere}
use Rattle.si_prune.proofs.finding.found_in.Goals as goal

pub returns-in-Ok-clause-some : goal.returns-in-Ok-clause-some
returns-in-Ok-clause-some c =
    let by_left = c.in-Ok.ensures.position (λ pair. pair.0) (answers_always _ _ _ (λ f a r g called. search rules)) in
    is_found c.args.pairs.now c.args.number c.in-Ok.place c.index-pairs-place.result c.right.result.now by_left c.in-Ok.ensures.bound c.index-pairs-place.is c.right.ensures.cells

pub returns-in-Err-clause-none : goal.returns-in-Err-clause-none
returns-in-Err-clause-none c =
    let by_left = c.in-Err.ensures.position (λ pair. pair.0) (answers_always _ _ _ (λ f a r g called. search rules)) in
    is_nowhere c.args.pairs.now c.args.number c.in-Err.field-0 c.requires by_left
