-- What solving answers, and the whole list of bindings as the canonical list.
use Rattle.std.proofs.Common.{◌≡◌, List, [], true, refl, Some, None}
use Rattle.std.specs.List.{AllByRecursion}
use Rattle.si_defs.specs.Terms as terms
use Rattle.si_defs.specs.Solutions.{order}
use Rattle.si_defs.specs.declared.Relation.TheVariants.{Unifiable}
use Rattle.si_flat.specs.declared.Cell.{Cell}
use Rattle.si_flat.specs.Cells.{same_variable, Term, StandsFor, IsWhole}
use Rattle.si_flat.specs.declared.Owner.TheVariants.{Query, Entry}
use Rattle.si_trail.specs.Trails.{HasDistinctSlots}
use Rattle.si_unify.specs.declared.slots.Slots.{Slots}
use Rattle.si_unify.specs.Solving.{Pairs, slot_count, AreInRange, IsAcyclic, IsBinding, HaveCommon, HasSolved}
use Rattle.si_form.specs.declared.solution.Binding.{Binding}
use Rattle.si_form.specs.Answers.{AnswersTo}
use Rattle.si_form.specs.Unifying.{right_side, listed_bindings, ListsAllBindings, AreSlotsOf}
use Rattle.si_flat.proofs.VariableLaws.{variable_is, variable_self}
use Rattle.si_form.proofs.UnifierLaws.{one_unifier}
use Rattle.si_form.proofs.GeneralLaws.{general}
use Rattle.si_form.proofs.FoldedLaws.{canonical_of_folded}
use Rattle.si_form.proofs.TrailLaws.{bound_list, is_general, has_unifiers, no_unifier}
use Rattle.si_form.proofs.OrderedLaws.{variables_of_slots}
use Rattle.si_form.proofs.OrderOfSlots.{order_of_slots}
use Rattle.si_form.proofs.RightSides.{folded_list}
use Rattle.si_form.proofs.VariableCounts.{in_range_of, apart_owners}

pub none_bound : (slots : Slots) → IsAcyclic slots []
none_bound slots = ((λ k. 0), tt)

module _ (slots : Slots) (query_cells entry_cells : List Cell) (of : AreSlotsOf query_cells entry_cells slots) where
  pub query_in_range : IsWhole query_cells → AreInRange slots query_cells
  query_in_range whole = in_range_of slots Query slots.query query_cells whole.0 refl whole.1 of.query

  pub entry_in_range : IsWhole entry_cells → AreInRange slots entry_cells
  entry_in_range whole = in_range_of slots Entry slots.entry entry_cells whole.0 refl whole.1 of.entry

  order_is : (q e : Term) → StandsFor query_cells q → StandsFor entry_cells e → order same_variable q e ≡ variables_of_slots slots 0 (slot_count slots)
  order_is q e p t =
      order_of_slots slots q e of.free.none (of.query q p) (of.entry e t)
      (apart_owners slots.query slots.entry (terms.variables q) (terms.variables e) (of.query q p) (of.entry e t))

  -- no solution, no unifier
  pub refused : (HaveCommon slots [] query_cells entry_cells → ⊥) → (q e : Term) → StandsFor query_cells q → StandsFor entry_cells e → AnswersTo Unifiable q e None
  refused none q e p t r = no_unifier slots of.free.query of.free.entry [] tt tt (none_bound slots) query_cells entry_cells q e p t none r.0 r.1

  module _ (pairs : Pairs) (bindings : AllByRecursion (IsBinding slots) pairs) (distinct : HasDistinctSlots pairs) (acyclic : IsAcyclic slots pairs) where
    pub answered : (list : List Binding) → HasSolved slots [] pairs query_cells entry_cells true → ListsAllBindings slots pairs list → (q e : Term) → StandsFor query_cells q → StandsFor entry_cells e → AnswersTo Unifiable q e (Some list)
    answered list solved all q e p t =
        let f = general same_variable variable_is variable_self (bound_list slots of.free.query of.free.entry pairs bindings distinct acyclic) in
        let is = is_general slots of.free.query of.free.entry pairs bindings distinct acyclic in
        let whole = all f is in
        let folded = folded_list slots f q e (order_is q e p t) whole.used whole.ks whole.ordered whole.to_bind whole.of_bind whole.has is.stays in
        let has = has_unifiers slots of.free.query of.free.entry pairs bindings distinct acyclic query_cells entry_cells q e p t solved in
        let canonical =
        canonical_of_folded same_variable variable_is variable_self q e (bound_list slots of.free.query of.free.entry pairs bindings distinct acyclic) has (listed_bindings slots (right_side slots f) whole.ks) folded in (
          listed_bindings slots (right_side slots f) whole.ks,
          whole.stands,
          record {
            canonical = canonical;
            only = λ other h. one_unifier same_variable variable_is variable_self q e other (listed_bindings slots (right_side slots f) whole.ks) h canonical;
          },
        )
