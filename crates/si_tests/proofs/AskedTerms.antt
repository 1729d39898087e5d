-- Questions and entries whose cells are written out.
use Rattle.std.proofs.Common.{◌≡◌, List, sym, subst}
use Rattle.si_defs.specs.Terms as terms
use Rattle.si_flat.specs.declared.Cell.{Cell}
use Rattle.si_flat.specs.declared.Owner.{Owner}
use Rattle.si_flat.specs.Cells.{Term, IsSound, IsWhole, cells_of}
use Rattle.si_unify.proofs.Reading.{one_term}
use Rattle.si_form.specs.Answers.{AreNumbered, IsNumbered}

abbrev pub a : Term
a = terms.app (record { number = 6; arity = 0 }) terms.none

abbrev pub g : Term → Term
g t = terms.app (record { number = 4; arity = 1 }) (terms.more t terms.none)

abbrev pub f : Term → Term → Term
f t u = terms.app (record { number = 2; arity = 2 }) (terms.more t (terms.more u terms.none))

pub whole : (cells : List Cell) (t : Term) → cells ≡ cells_of t → IsSound t → IsWhole cells
whole cells t e sound = (t, record { cells_are = e; sound = sound })

pub numbered : (owner : Owner) (cells : List Cell) (t : Term) → cells ≡ cells_of t → IsSound t → IsNumbered owner t → AreNumbered owner cells
numbered owner cells t e sound is u stands = subst (IsNumbered owner) (one_term cells t u (record { cells_are = e; sound = sound }) stands) is

-- a copy of the cells
pub copied : (owner : Owner) (cells copy : List Cell) → copy ≡ cells → AreNumbered owner cells → AreNumbered owner copy
copied owner cells copy e is = subst (AreNumbered owner) (sym e) is
