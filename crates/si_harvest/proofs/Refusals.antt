-- Why the store rejects a clause, as a fault of the load.
use Rattle.std.proofs.Common.{◌≡◌, List, refl, inr}
use Rattle.si_defs.specs.Clauses as clauses
use Rattle.si_state.specs.States.{Rules}
use Rattle.si_state.specs.Acceptance.{Refusal, Refuses, taken, misused, full}
use Rattle.si_state.specs.Harvest.{rejected, IsRejected}
use Rattle.si_term.specs.Meaning.{clause_of}
use Rattle.si_sign.specs.declared.faults.AddFault.{AddFault}
use Rattle.si_sign.specs.declared.faults.AddFault.TheVariants as add_fault
use Rattle.si_sign.specs.declared.faults.Rejected.{Rejected}
use Rattle.si_sign.specs.Stores.{Rejects}
use Rattle.si_harvest.specs.declared.faults.HarvestFault.TheVariants as harvest_fault
use Rattle.si_harvest.specs.Faults.{IsReason, IsRejection, NamesWhy}

reason : (rules : Rules) (state : List clauses.Clause) (clause : clauses.Clause) (why : AddFault) → (why ≡ add_fault.Memory → ⊥) → Rejects rules state clause why
    → (refusal : Refusal) × IsReason rules why refusal × Refuses rules state clause refusal
reason rules state clause add_fault.Taken n r = (taken, refl, r)
reason rules state clause (add_fault.Clash c) n r = (misused c.occurrence r.0 r.1, (r.0, r.1, refl, r.3), r.2)
reason rules state clause (add_fault.Full m most) n r = (full m, (refl, r.1), r.0)
reason rules state clause add_fault.Memory n r = absurd (n refl)

pub why_rejected : (r : Rejected) (rules : Rules) (state : List clauses.Clause) → clauses.IsSoundClause (clause_of r.clause) → (r.why ≡ add_fault.Memory → ⊥) → Rejects rules state (clause_of r.clause) r.why
    → NamesWhy rules (harvest_fault.Rejected r) (IsRejected rules state (clause_of r.clause))
why_rejected r rules state sound n h =
    let w = reason rules state (clause_of r.clause) r.why n h in
    let why : IsRejection rules r w.0 = record { sound = sound; kept = state; refuses = w.2; reason = w.1 } in
    inr (record { fault = rejected (clause_of r.clause) w.0; named = (w.0, refl, why); holds = (refl, w.2) })
