use Rattle.std.proofs.Common.{[], map, subst, ◌∷◌}
use Rattle.std.specs.List.{AllByRecursion}
use Rattle.si_defs.specs.Clauses.{IsSoundClause}
use Rattle.si_defs.proofs.ListLaws.{all_back}
use Rattle.si_state.specs.States.{limited_to}
use Rattle.si_term.specs.Meaning.{clause_of}
use Rattle.si_term.proofs.Alone.{clause_few}
use Rattle.si_sign.proofs.PlainLaws.{last_gone, stored_but_last}
use Rattle.si_sign.proofs.plain.PlainStoreClauseStore.remove_last.Goals as goal

pub entry_count-requires : goal.entry_count-requires
entry_count-requires c =
    let rest = c.pop.new.self.items in
    let whole = last_gone c.self.inside.clauses.items rest c.pop.result c.in-Some.clause c.pop.ensures.items c.in-Some.is in
    clause_few (clause_of c.in-Some.clause)
    (all_back IsSoundClause (map clause_of rest) (clause_of c.in-Some.clause ∷ []) (subst (AllByRecursion IsSoundClause) whole c.self.invariant.0.sound)).0

pub returns-clause-stored : goal.returns-clause-stored
returns-clause-stored c = stored_but_last (limited_to c.self.inside.limit) c.self.inside.clauses.items c.pop.new.self.items c.pop.result c.pop.ensures.items c.self.invariant.0

pub invariant_of-self : goal.invariant_of-self
invariant_of-self c = (returns-clause-stored c, c.self.invariant.1)
