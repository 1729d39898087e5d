use Rattle.std.proofs.Common.{List, map, sym, subst, subst₂}
use Rattle.si_flat.specs.declared.Cell.{Cell}
use Rattle.std.proofs.lemmas.Result.{IfOk-weaker}
use Rattle.si_state.specs.Subsumption.{IsMap, AnswersLeast}
use Rattle.si_flat.specs.declared.Owner.TheVariants.{Query, Entry}
use Rattle.si_flat.specs.FlatClauses.{clause_numbers}
use Rattle.si_term.specs.Meaning.{literal_of}
use Rattle.si_subsume.specs.Maps.{IsComparable, AnswersFlat}
use Rattle.si_subsume.proofs.ClauseMaps.{clause_answer, query_comparable, entry_comparable, numbering_together, first_flat, second_flat}
use Rattle.si_subsume.proofs.literals.least_map.Goals as goal

pub least_map_of-requires-clause-c : goal.least_map_of-requires-clause-c
least_map_of-requires-clause-c c =
    let ls = map literal_of c.args.c.now in
    let ks = map literal_of c.args.d.now in
    let flat : List Cell × List Cell = (c.in_ok-flat_c.flat_c, c.in_ok-flat_c.flat_d) in
    subst (IsComparable Query) (sym c.cells.ensures.cells) (query_comparable (clause_numbers ls ks) ls c.in_ok-flat_c.flat_c (first_flat ls ks flat c.requires.c c.requires.d c.in_ok-flat_c.ensures))

pub least_map_of-requires-clause-d : goal.least_map_of-requires-clause-d
least_map_of-requires-clause-d c =
    let ls = map literal_of c.args.c.now in
    let ks = map literal_of c.args.d.now in
    let flat : List Cell × List Cell = (c.in_ok-flat_c.flat_c, c.in_ok-flat_c.flat_d) in
    subst (IsComparable Entry) (sym c.cells-2.ensures.cells) (entry_comparable (clause_numbers ls ks) ks c.in_ok-flat_c.flat_d (second_flat ls ks flat c.requires.c c.requires.d c.in_ok-flat_c.ensures))

pub returns : goal.returns
returns c =
    let ls = map literal_of c.args.c.now in
    let ks = map literal_of c.args.d.now in
    let flat : List Cell × List Cell = (c.in_ok-flat_c.flat_c, c.in_ok-flat_c.flat_d) in
    IfOk-weaker c.least_map_of.result (AnswersFlat c.cells.result.now c.cells-2.result.now) (AnswersLeast (IsMap ls ks))
    (λ answer told.
    clause_answer (clause_numbers ls ks) (numbering_together ls ks flat c.requires.c c.requires.d c.in_ok-flat_c.ensures) ls ks c.in_ok-flat_c.flat_c c.in_ok-flat_c.flat_d
    (first_flat ls ks flat c.requires.c c.requires.d c.in_ok-flat_c.ensures) (second_flat ls ks flat c.requires.c c.requires.d c.in_ok-flat_c.ensures) answer
    (subst₂ (λ x y. AnswersFlat x y answer) c.cells.ensures.cells c.cells-2.ensures.cells told))
    c.least_map_of.ensures
