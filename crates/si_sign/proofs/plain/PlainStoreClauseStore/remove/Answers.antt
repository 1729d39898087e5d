use Rattle.std.proofs.Common.{◌≡◌, slice_get, Some, map, sym, ap, ◌∙◌, subst}
use Rattle.std.proofs.lemmas.Option.{get_or_from_slice_get, slice_get_within}
use Rattle.si_state.specs.States.{limited_to}
use Rattle.si_state.specs.Acceptance.{Removes}
use Rattle.si_sign.specs.Stores.{IsStored}
use Rattle.si_term.specs.Meaning.{clause_of, name_of}
use Rattle.si_term.specs.declared.clause.Clause.{Clause}
use Rattle.si_term.proofs.Alone.{clause_few}
use Rattle.si_sign.proofs.PlainLaws.{sound_at, removes_at, stored_without}
use Rattle.si_sign.proofs.plain.PlainStoreClauseStore.remove.Goals as goal

pub entry_count-requires : goal.entry_count-requires
entry_count-requires c =
    let cs = c.self.inside.clauses.items in
    let at = c.in-Some.at in
    let gone = c.remove-clause.result in
    let found = c.in-Some.ensures.found in
    let read = subst (λ l. slice_get l at ≡ Some found.0) c.as_slice.ensures.value found.1 in
    clause_few (clause_of gone) (sound_at cs at gone (slice_get_within cs at found.0 read) c.remove-clause.ensures.value c.self.invariant.0.sound)

pub returns-clause-stored : goal.returns-clause-stored
returns-clause-stored c =
    let cs = c.self.inside.clauses.items in
    let at = c.in-Some.at in
    let found = c.in-Some.ensures.found in
    let read = subst (λ l. slice_get l at ≡ Some found.0) c.as_slice.ensures.value found.1 in
    subst (λ l. IsStored (limited_to c.self.inside.limit) (map clause_of l)) (sym c.remove-clause.ensures.items)
    (stored_without cs at c.remove-clause.result (slice_get_within cs at found.0 read) c.remove-clause.ensures.value (limited_to c.self.inside.limit) c.self.invariant.0)

pub invariant_of-self : goal.invariant_of-self
invariant_of-self c = (returns-clause-stored c, c.self.invariant.1)

pub returns-clause-removed : goal.returns-clause-removed
returns-clause-removed c =
    let cs = c.self.inside.clauses.items in
    let at = c.in-Some.at in
    let gone = c.remove-clause.result in
    let name = name_of c.args.name.now in
    let found = c.in-Some.ensures.found in
    let read = subst (λ l. slice_get l at ≡ Some found.0) c.as_slice.ensures.value found.1 in
    let same : gone ≡ found.0 = c.remove-clause.ensures.value ∙ get_or_from_slice_get cs at found.0 gone read in
    let named = ap (λ (d : Clause). name_of d.name) same ∙ found.2 in
    let removes = removes_at cs at gone (slice_get_within cs at found.0 read) c.remove-clause.ensures.value name named in (
      clause_of gone,
      subst (λ l. Removes l name (clause_of gone) (map clause_of c.remove-clause.new.self.items)) (ap (λ v. v.1) c.self.view_is)
          (subst (λ l. Removes (map clause_of cs) name (clause_of gone) (map clause_of l)) (sym c.remove-clause.ensures.items) removes),
      c.entry_count.ensures,
    )
