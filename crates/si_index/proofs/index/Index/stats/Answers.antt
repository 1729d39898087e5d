use Rattle.std.proofs.Common.{arith, sym, subst}
use Rattle.std.proofs.lemmas.List.{length-map}
use Rattle.si_state.specs.Signatures.{CountsSymbols}
use Rattle.si_term.specs.Meaning.{clause_of}
use Rattle.si_index.specs.Kept.{Kept, AreKeyed, clauses_of}
use Rattle.si_index.proofs.KeyStays.{are_keyed}
use Rattle.si_index.proofs.StoreLaws.{clauses_few}
use Rattle.si_sign.proofs.StateLaws.{counts_symbols}
use Rattle.si_index.proofs.index.Index.stats.Goals as goal

pub overflow_cast-result : goal.overflow_cast-result
overflow_cast-result c =
    omega (
      arith,
      c.len.ensures.number,
      length-map c.self.inside.clauses.items (λ p. clause_of p.1),
      clauses_few (clauses_of c.self.inside.clauses.items) c.self.invariant.0.stored.sound,
      c.self.invariant.0.stored.few,
      c.self.invariant.0.small,
    )

pub returns-clause-symbols : goal.returns-clause-symbols
returns-clause-symbols c =
    subst (λ (k : Kept). CountsSymbols k.clauses c.len-2.result) c.self.view_is
    (subst (CountsSymbols (clauses_of c.self.inside.clauses.items)) (sym c.len-2.ensures.number)
    (counts_symbols (clauses_of c.self.inside.clauses.items) c.self.inside.register.signature c.len-2.ensures.signature c.self.invariant.0.registered.signed))

pub returns-clause-keyed : goal.returns-clause-keyed
returns-clause-keyed c =
    subst (λ (k : Kept). AreKeyed k) c.self.view_is
    (let keyed = are_keyed c.self.inside.clauses.items c.len.ensures.distinct in record { number = keyed.number; distinct = keyed.distinct })
