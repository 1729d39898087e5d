-- What holds of bindings holds of their copy.
use Rattle.std.proofs.Common.{◌≡◌, List, sym, subst}
use Rattle.std.specs.Prelude.{Result, Ok, Err, IfOk}
use Rattle.si_flat.specs.Rows.{CellPair}

pub copied : {E : Type 0} (r : Result (List CellPair) E) (bs : List CellPair) (P : List CellPair → Type 0) → IfOk r (λ copy. copy ≡ bs) → P bs → IfOk r P
copied (Ok copy) bs P same holds = subst P (sym same) holds
copied (Err e) bs P same holds = tt
