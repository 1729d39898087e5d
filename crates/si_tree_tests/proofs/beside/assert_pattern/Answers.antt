use Rattle.std.proofs.Common.{sym, subst}
use Rattle.si_defs.specs.declared.Relation.{Relation}
use Rattle.si_term.specs.Meaning.{pattern_of}
use Rattle.si_index.specs.Engines.{AnswersStanding, IsOfWanted}
use Rattle.si_index.proofs.StandingLaws.{is_orderly, answers_stand, trees_stand}
use Rattle.si_tree_tests.proofs.beside.assert_pattern.Goals as goal

pub answered-requires-clause-standing : goal.answered-requires-clause-standing
answered-requires-clause-standing g c =
    trees_stand c.args.index.now c.trees.result.now _ (pattern_of c.args.pattern.now) c.trees.ensures.answer c.trees.ensures.trees c.requires

pub answered-requires-in-loop-relation-clause-standing : goal.answered-requires-in-loop-relation-clause-standing
answered-requires-in-loop-relation-clause-standing g c =
    let k = c.args.index.now in
    let p = pattern_of c.args.pattern.now in
    let orderly =
    is_orderly k c.signature.result.now c.stats.ensures.keyed c.stats.ensures.numbering c.signature.ensures.numbers c.signature.ensures.signature c.stats.ensures.stored.sound in
    let stand : (relation : Relation) → AnswersStanding (IsOfWanted c.new-scan.result) k relation p =
    λ relation. subst (λ scan. AnswersStanding (IsOfWanted scan) k relation p) (sym c.new-scan.ensures)
    (answers_stand (IsOfWanted k) k relation p orderly c.requires (λ literal kind query posting. ((λ w. w), (λ w. w)))) in
    stand _
