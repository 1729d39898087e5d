use Rattle.std.proofs.Common.{map, sym, subst}
use Rattle.std.proofs.lemmas.Result.{IfOk-weaker}
use Rattle.si_defs.specs.Clauses.{AreSoundLiterals}
use Rattle.si_state.specs.Signatures.{numbering}
use Rattle.si_term.specs.Meaning.{literal_of}
use Rattle.si_index.proofs.ComparedLaws.{filled_for, no_map, both_comparable, both_mapped}
use Rattle.si_index.proofs.subsuming.Comparison.answer.Goals as goal

pub returns-then-not-may_have_map : goal.returns-then-not-may_have_map
returns-then-not-may_have_map c =
    no_map (map literal_of) c.args.self.now.direction c.args.self.now.formula c.args.literals c.from_to.result c.from_to.ensures (c.may_have_map.ensures.no_map c.if-not-may_have_map.true)

pub fill-requires : goal.fill-requires
fill-requires c = subst (λ ls. AreSoundLiterals (map literal_of ls)) (sym c.as_slice.ensures) c.requires.literals

pub least_map_of-requires-clause-c : goal.least_map_of-requires-clause-c
least_map_of-requires-clause-c c =
    (both_comparable (numbering c.args.flat.now.signature.now) (map literal_of c.args.self.now.formula.now) c.requires.flat.numbered (map literal_of c.args.literals.now) c.requires.formula c.requires.literals c.requires.known
    c.args.self.now.direction c.args.flat.now.cells c.cells.result c.from_to-2.result c.from_to-2.ensures c.requires.flat.cells_are
    (filled_for (map literal_of) (numbering c.args.flat.now.signature.now) c.clause_owner-owner.result _ c.as_slice.result.now _ c.fill.new.self.cells c.cells.result.now c.in_ok-fill.ensures.flat c.clause_owner-owner.ensures c.as_slice.ensures c.cells.ensures)).0

pub least_map_of-requires-clause-d : goal.least_map_of-requires-clause-d
least_map_of-requires-clause-d c =
    (both_comparable (numbering c.args.flat.now.signature.now) (map literal_of c.args.self.now.formula.now) c.requires.flat.numbered (map literal_of c.args.literals.now) c.requires.formula c.requires.literals c.requires.known
    c.args.self.now.direction c.args.flat.now.cells c.cells.result c.from_to-2.result c.from_to-2.ensures c.requires.flat.cells_are
    (filled_for (map literal_of) (numbering c.args.flat.now.signature.now) c.clause_owner-owner.result _ c.as_slice.result.now _ c.fill.new.self.cells c.cells.result.now c.in_ok-fill.ensures.flat c.clause_owner-owner.ensures c.as_slice.ensures c.cells.ensures)).1

pub returns : goal.returns
returns c =
    IfOk-weaker c.least_map_of.result _ _
    (both_mapped (numbering c.args.flat.now.signature.now) (map literal_of c.args.self.now.formula.now) c.requires.flat.numbered (map literal_of c.args.literals.now) c.requires.formula c.requires.literals c.requires.known
    c.args.self.now.direction c.args.flat.now.cells c.cells.result c.from_to-2.result c.from_to-2.ensures c.requires.flat.cells_are
    (filled_for (map literal_of) (numbering c.args.flat.now.signature.now) c.clause_owner-owner.result _ c.as_slice.result.now _ c.fill.new.self.cells c.cells.result.now c.in_ok-fill.ensures.flat c.clause_owner-owner.ensures c.as_slice.ensures c.cells.ensures))
    c.least_map_of.ensures
