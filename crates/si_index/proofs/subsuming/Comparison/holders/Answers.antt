use Rattle.std.proofs.Common.{map, sym, subst}
use Rattle.std.proofs.lemmas.Result.{IfOk-weaker}
use Rattle.si_term.specs.Meaning.{literal_of}
use Rattle.si_index.specs.Holding.{Spares}
use Rattle.si_index.specs.Subsuming.{HasMap, IsMapIn}
use Rattle.si_index.proofs.HoldingLaws.{first_sound, spares_mapped}
use Rattle.si_index.proofs.subsuming.Comparison.holders.Goals as goal

pub of-requires-clause-sound : goal.of-requires-clause-sound
of-requires-clause-sound c = first_sound c.args.self.now.formula.now c.at.result.now c.at.ensures c.requires.formula

pub returns-in-ToFormula : goal.returns-in-ToFormula
returns-in-ToFormula c slot key d out there has = c.all-in-ToFormula.ensures slot out

pub returns-in-FromFormula : goal.returns-in-FromFormula
returns-in-FromFormula c =
    let formula = c.args.self.now.formula.now in
    IfOk-weaker c.of.result _ _
    (λ holders spares.
    subst (λ d. Spares (HasMap (IsMapIn d (map literal_of formula))) c.args.places.now holders) (sym c.in-FromFormula.is)
    (spares_mapped formula c.at.result.now c.args.places.now holders c.at.ensures spares))
    c.of.ensures
