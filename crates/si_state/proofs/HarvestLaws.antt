-- What a reading of files tried, event by event.
use Rattle.std.proofs.Common.{◌≡◌, List, [], ◌∷◌, ◌++◌, refl, ap}
use Rattle.si_state.specs.Harvest.{Event, ask, attempt, tried}

pub tried-append : (xs ys : List Event) → tried (xs ++ ys) ≡ tried xs ++ tried ys
tried-append [] ys = refl
tried-append (ask file ∷ xs) ys = tried-append xs ys
tried-append (attempt c ∷ xs) ys = ap (λ cs. c ∷ cs) (tried-append xs ys)
