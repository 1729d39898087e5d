use Rattle.std.proofs.Common.{refl, subst}
use Rattle.si_defs.specs.Substitutions.{AreDistinct}
use Rattle.si_index.specs.Kept.{Kept, AreKeyed, NumbersExactly, TreesHold}
use Rattle.si_index.specs.Engines.{TreesAnswer}
use Rattle.si_index.proofs.StandingLaws.{is_orderly, trees_answer}
use Rattle.si_index.proofs.KeyStays.{are_keyed}
use Rattle.si_index.proofs.HeldClauses.{keyed_keys, numbers_exactly, trees_hold}
use Rattle.si_index.proofs.index.Index.trees.Goals as goal

pub returns-clause-keyed : goal.returns-clause-keyed
returns-clause-keyed c =
    subst (λ (k : Kept). AreKeyed k) c.self.view_is
    (let keyed = are_keyed c.self.inside.clauses.items (subst AreDistinct (keyed_keys c.self.inside.clauses.items) c.self.invariant.1.keys) in
    record { number = keyed.number; distinct = keyed.distinct })

pub returns-clause-hold : goal.returns-clause-hold
returns-clause-hold c = subst (λ (k : Kept). TreesHold k) c.self.view_is (trees_hold c.self.inside.clauses.items c.self.inside.register c.self.inside.trees c.self.invariant.1)

pub returns-clause-answer : goal.returns-clause-answer
returns-clause-answer c =
    subst (λ (k : Kept). TreesAnswer k) c.self.view_is
    (trees_answer _
    (is_orderly _ c.self.inside.register.signature
    (let keyed = are_keyed c.self.inside.clauses.items (subst AreDistinct (keyed_keys c.self.inside.clauses.items) c.self.invariant.1.keys) in
    record { number = keyed.number; distinct = keyed.distinct })
    c.self.invariant.0.registered.signature.numbered refl c.self.invariant.0.registered.signed c.self.invariant.0.stored.sound)
    (trees_hold c.self.inside.clauses.items c.self.inside.register c.self.inside.trees c.self.invariant.1))

pub returns-clause-exactly : goal.returns-clause-exactly
returns-clause-exactly c =
    subst (λ (k : Kept). NumbersExactly k.numbers k.clauses) c.self.view_is
    (numbers_exactly c.self.inside.clauses.items c.self.inside.register.signature c.self.invariant.0.registered.signature c.self.invariant.0.registered.signed)
