use Rattle.std.proofs.Common.{◌∷◌, ◌++◌, [], map, subst}
use Rattle.std.specs.Prelude.{is_ok}
use Rattle.si_state.specs.States.{limited_to}
use Rattle.si_state.specs.Acceptance.{Accepts}
use Rattle.si_term.specs.Meaning.{clause_of}
use Rattle.si_sign.proofs.PlainLaws.{stored_pushed}
use Rattle.si_sign.proofs.plain.PlainStoreClauseStore.add.Goals as goal

pub returns-clause-stored : goal.returns-clause-stored
returns-clause-stored c =
    let accepts =
    subst (λ l. Accepts (limited_to c.self.inside.limit) (map clause_of l) (clause_of c.args.clause) (map clause_of l ++ clause_of c.args.clause ∷ []))
    c.as_slice.ensures.value c.in-Ok.ensures.accepted in
    stored_pushed (limited_to c.self.inside.limit) c.self.inside.clauses.items c.push.new.self.items c.args.clause (is_ok c.push.result) c.push.ensures.items
    c.self.invariant.0 c.requires.sound accepts

pub invariant_of-self : goal.invariant_of-self
invariant_of-self c = (returns-clause-stored c, c.self.invariant.1)
