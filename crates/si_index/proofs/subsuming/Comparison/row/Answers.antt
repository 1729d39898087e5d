use Rattle.std.proofs.Common.{map, sym, subst}
use Rattle.si_defs.specs.Clauses.{AreSoundLiterals}
use Rattle.si_state.specs.Signatures.{numbering}
use Rattle.si_term.specs.Meaning.{literal_of}
use Rattle.si_flat.specs.Numbered.{number_in}
use Rattle.si_screen.specs.ClauseRows.{IsRowOf, lacking, with_extra}
use Rattle.si_index.proofs.subsuming.Comparison.row.Goals as goal

pub of-requires : goal.of-requires
of-requires c = record { sound = subst (λ ls. AreSoundLiterals (map literal_of ls)) (sym c.as_slice-literals.ensures) c.requires }

pub returns : goal.returns
returns c =
    let numbers = numbering c.args.signature.now in
    subst (λ ls. IsRowOf (number_in (with_extra numbers (lacking numbers (map literal_of ls)))) (map literal_of ls) c.literals_row.result) c.as_slice-literals.ensures
    (subst (λ extra. IsRowOf (number_in (with_extra numbers extra)) (map literal_of c.as_slice-literals.result.now) c.literals_row.result) c.in_ok-extra.ensures.are c.literals_row.ensures)
