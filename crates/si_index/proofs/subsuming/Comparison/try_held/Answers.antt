use Rattle.std.proofs.Common.{map, sym, subst, subst₂}
use Rattle.si_defs.specs.Clauses.{AreSoundLiterals}
use Rattle.si_state.specs.Signatures.{numbering}
use Rattle.si_term.specs.Meaning.{literal_of}
use Rattle.si_flat.specs.FlatClauses.{FlattensClause}
use Rattle.si_index.specs.Subsuming.{formula_owner}
use Rattle.si_index.proofs.subsuming.Comparison.try_held.Goals as goal

pub fill-requires : goal.fill-requires
fill-requires c = subst (λ ls. AreSoundLiterals (map literal_of ls)) (sym c.as_slice.ensures) c.requires.formula

pub try_slots-requires-clause-flat : goal.try_slots-requires-clause-flat
try_slots-requires-clause-flat c =
    let numbers = numbering c.args.signature.now in
    record {
      cells_are =
          subst (FlattensClause numbers (formula_owner c.args.self.now.direction) (map literal_of c.args.self.now.formula.now)) (sym c.cells.ensures)
          (subst₂ (λ owner ls. FlattensClause numbers owner (map literal_of ls) c.fill.new.self.cells) c.formula_owner-owner.ensures c.as_slice.ensures c.in_ok-fill.ensures.flat);
      numbered = c.requires.numbering;
    }
