use Rattle.std.proofs.Common.{◌≤◌, length, sym, arith, ◌∙◌}
use Rattle.std.proofs.lemmas.Slice.Zip.{AllZip-long}
use Rattle.si_defs.specs.Clauses.{Pattern}
use Rattle.si_defs.specs.Entries.{state_entries}
use Rattle.si_defs.specs.declared.Relation.TheVariants.{Unifiable}
use Rattle.si_term.specs.Meaning.{pattern_of}
use Rattle.si_exist.proofs.OneSolution.{one_solution}
use Rattle.si_index.specs.Explaining.{Explains}
use Rattle.si_index.specs.Finding.{entries_from_position}
use Rattle.si_index.specs.Kept.{Kept}
use Rattle.si_index.specs.declared.explain.Explained.{Explained}
use Rattle.si_session.specs.Answering.{IsHitOf}
use Rattle.si_session.specs.Sums.{CountsUnifiable}
use Rattle.si_session.proofs.Answering.{hits_of, is_answer, are_inside, all_solved, few_answers}
use Rattle.si_session.proofs.sample.count_unifiable.Goals as goal

-- what was counted are the answers with their lists
counted : (k : Kept) (p : Pattern) (e : Explained) → Explains k Unifiable p e → CountsUnifiable (state_entries k.clauses) p e.answers
counted k p e explains =
    let solved = all_solved Unifiable p k.clauses (one_solution Unifiable) (entries_from_position 0 k.clauses) explains.hits explains.are_hits in
    let hits = hits_of Unifiable p k.clauses explains.hits (are_inside Unifiable p k.clauses explains.hits explains.are_hits) solved in
    (hits.0, is_answer Unifiable p k.clauses explains.hits hits.0 explains.are_hits hits.1, explains.answers ∙ sym (AllZip-long (IsHitOf Unifiable p k.clauses) explains.hits hits.0 hits.1))

pub prove-unreachable-requires : goal.prove-unreachable-requires
prove-unreachable-requires c =
    let k = c.args.index.now in
    let p = pattern_of c.args.pattern.now in
    let answer = counted k p c.in_ok-explained.explained c.in_ok-explained.ensures in
    let few : length answer.0 ≤ length (state_entries k.clauses) = few_answers Unifiable p k.clauses (state_entries k.clauses) answer.0 answer.1 in
    omega (arith, few, answer.2, c.stats-kept.ensures.entries, c.if-prove.true)

pub returns : goal.returns
returns c = counted c.args.index.now (pattern_of c.args.pattern.now) c.in_ok-explained.explained c.in_ok-explained.ensures
