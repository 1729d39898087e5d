-- Faults that are passed on.
use Rattle.std.proofs.Common.{◌≡◌, ◌⊎◌, ℕ, List, Option, sym, subst, inl, inr}
use Rattle.si_defs.specs.Bytes.{Bytes}
use Rattle.si_defs.specs.Clauses.{Clause}
use Rattle.std.specs.Prelude.{Bool, Result, Ok, Err, IfErr, IsErrAnd}
use Rattle.std.proofs.lemmas.Result.{on_ok_weaker}
use Rattle.si_state.specs.States.{Rules}
use Rattle.si_state.specs.Harvest.{Files, Bounds, Fault}
use Rattle.si_steps.specs.Loads.{MayFetch}
use Rattle.si_io.specs.Counts.{raised_by}
use Rattle.si_io.specs.Library.{Counts}
use Rattle.si_harvest.specs.declared.files.OpenFile.{OpenFile}
use Rattle.si_harvest.specs.declared.names.NameSet.{NameSet}
use Rattle.si_harvest.specs.declared.reading.Reading.{Reading}
use Rattle.si_harvest.specs.declared.faults.HarvestFault.{HarvestFault}
use Rattle.si_harvest.specs.Faults.{NamesWhy, HasFaultCause, HasLoadCause}
use Rattle.si_harvest.specs.Opened.{OpensInside, Enters, HasFault, HasFetched}
use Rattle.si_harvest.specs.Loading.{ReadsFiles}

-- the fault is named for another reason
pub why_weaker : (rules : Rules) (e : HarvestFault) (P Q : Fault → Type 0) → ((f : Fault) → P f → Q f) → NamesWhy rules e P → NamesWhy rules e Q
why_weaker rules e P Q f (inl m) = inl m
why_weaker rules e P Q f (inr t) = inr (record { fault = t.fault; named = t.named; holds = f t.fault t.holds })

-- the same fault
pub err_again : {T E : Type 0} (r : Result T E) (e : E) (P : E → Type 0) → IsErrAnd r (λ x. x ≡ e) → P e → IfErr r P
err_again (Ok x) e P h p = tt
err_again (Err x) e P h p = subst P (sym h) p

-- an error has it
pub err_has : {T E : Type 0} (r : Result T E) (e : E) (P : E → Type 0) → IsErrAnd r (λ x. x ≡ e) → P e → IsErrAnd r P
err_has (Ok x) e P h p = absurd h
err_has (Err x) e P h p = subst P (sym h) p

pub cause_again : {T : Type 0} (r : Result T HarvestFault) (e : HarvestFault) (may_fail : Bool) (before now : Counts) → IsErrAnd r (λ x. x ≡ e) → HasFaultCause may_fail before now e → HasLoadCause may_fail before now r
cause_again (Ok x) e may_fail before now h c = absurd h
cause_again (Err x) e may_fail before now h c = subst (HasFaultCause may_fail before now) (sym h) c

-- so a load ends with it
pub reads_fault : {T : Type 0} (told : Option Files) (bounds : Bounds) (rules : Rules) (file : Bytes) (r : Result T HarvestFault) (e : HarvestFault) (start kept : List Clause) (calls calls_now made : ℕ)
    → IsErrAnd r (λ x. x ≡ e) → calls_now ≡ raised_by made calls → MayFetch bounds file made → (made ≡ 0) ⊎ HasFetched told bounds rules start file made → NamesWhy rules e (HasFault told bounds rules start file made)
    → ReadsFiles told bounds rules file r start kept calls calls_now
reads_fault told bounds rules file (Ok x) e start kept calls calls_now made h counted may first f = absurd h
reads_fault told bounds rules file (Err x) e start kept calls calls_now made h counted may first f =
    record { made = made; counted = counted; may = may; first = first; right = tt; fault = subst (λ y. NamesWhy rules y (HasFault told bounds rules start file made)) (sym h) f }

-- a file is opened inside others, of which it is known how they are written
pub enters_as : {T : Type 0} (told : Option Files) (bounds : Bounds) (name : Bytes) (P Q : Option NameSet → Type 0) (outer outer' : List OpenFile) (made made' : ℕ) (after : Reading) (r : Result T HarvestFault)
    → ((names : Option NameSet) → P names → Q names) → outer ≡ outer' → made ≡ made' → Enters told bounds name P outer made after r → Enters told bounds name Q outer' made' after r
enters_as told bounds name P Q outer outer' made made' after r f files count h =
    subst (λ n. Enters told bounds name Q outer' n after r) count
    (subst (λ fs. Enters told bounds name Q fs made after r) files (record { entered = on_ok_weaker r weaker h.entered; unopened = h.unopened; once = h.once })) where
      weaker : OpensInside told bounds name P outer made after → OpensInside told bounds name Q outer made after
      weaker o = record { may = o.may; file = o.file; chosen = o.chosen; listed = f o.chosen o.listed; given = o.given; inside = o.inside; counted = o.counted }
