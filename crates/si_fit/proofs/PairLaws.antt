-- What a walk or the solver tells of a left side and its right side.
use Rattle.std.proofs.Common.{◌≡◌, ℕ, Bool, true, false, List, refl, sym, subst}
use Rattle.std.specs.Prelude.{Result, Ok, Err, OnErr}
use Rattle.si_defs.specs.Substitutions.{image, Grows}
use Rattle.si_flat.specs.declared.Cell.{Cell}
use Rattle.si_flat.specs.Cells.{same_variable}
use Rattle.si_trail.specs.Trails.{HasDistinctSlots}
use Rattle.si_unify.specs.declared.slots.Slots.{Slots}
use Rattle.si_unify.specs.Solving.{Pairs, HasSolved, AllowsSolving}
use Rattle.si_unify.proofs.Solutions.{solved_of_triangular}
use Rattle.si_fit.specs.Meeting.{HasMet}
use Rattle.si_fit.specs.declared.meeting.Met.TheVariants.{Equal, Clash}
use Rattle.si_fit.proofs.FitTurns.{no_more}

module _ (slots : Slots) (old new : Pairs) (left right : List Cell) where
  pub met_solved : (count : ℕ) → HasMet slots old new left right Equal → AllowsSolving slots new count → HasDistinctSlots new → HasSolved slots old new left right true
  met_solved count met ready distinct =
      let some = solved_of_triangular slots new ready.bindings distinct ready.triangular in (
        (some.0, (met (image same_variable some.0)).0 some.1),
        λ s. met (image same_variable s),
      )

  pub clash_unsolved : HasMet slots old new left right Clash → HasSolved slots old new left right false
  clash_unsolved met some = met (image same_variable some.0) some.1.0 some.1.1

-- whatever the solver answered, the bindings that were there are
pub still_grows : {E : Type 0} (old new : Pairs) (r : Result Bool E) → (r ≡ Ok true → Grows old new) → (r ≡ Ok false → new ≡ old) → OnErr r (new ≡ old) → Grows old new
still_grows old new (Ok true) grown same err = grown refl
still_grows old new (Ok false) grown same err = subst (Grows old) (sym (same refl)) (no_more old)
still_grows old new (Err e) grown same err = subst (Grows old) (sym err) (no_more old)
