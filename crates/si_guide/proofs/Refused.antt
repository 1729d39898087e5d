-- What an index refuses, and not for want of memory, is refused by the definition.
use Rattle.std.proofs.Common.{◌≡◌, List, refl}
use Rattle.si_defs.specs.Clauses.{Clause}
use Rattle.si_state.specs.States.{Rules}
use Rattle.si_state.specs.Acceptance.{Refusal, taken, misused, full, Refuses}
use Rattle.si_sign.specs.Stores.{Rejects}
use Rattle.si_sign.specs.declared.faults.AddFault.{AddFault}
use Rattle.si_sign.specs.declared.faults.AddFault.TheVariants.{Taken, Clash, Full, Memory}

pub refused : (rules : Rules) (state : List Clause) (clause : Clause) (why : AddFault) → Rejects rules state clause why → (why ≡ Memory → ⊥)
    → (refusal : Refusal) × Refuses rules state clause refusal
refused rules state clause Taken rejects other = (taken, rejects)
refused rules state clause (Clash c) rejects other = (misused c.occurrence rejects.0 rejects.1, rejects.2)
refused rules state clause (Full n most) rejects other = (full n, rejects.0)
refused rules state clause Memory rejects other = absurd (other refl)
