-- Why a load is refused, as the program names it.
use Rattle.std.specs.Prelude.{◌≡◌, ◌⊎◌, Bool, List, [], Result, Ok, Err, IsErrAnd, IsTrue}
use Rattle.si_defs.specs.Bytes.{Bytes}
use Rattle.si_defs.specs.Symbols.{Symbol}
use Rattle.si_defs.specs.Clauses.{Clause, IsSoundClause}
use Rattle.si_state.specs.States.{Rules}
use Rattle.si_state.specs.Acceptance as state
use Rattle.si_state.specs.Acceptance.{Refusal, Refuses}
use Rattle.si_state.specs.Harvest.{Bounds, MayAsk, IsBarred, Fault, cycle, too_deep, too_many, missing, too_big, failed, foreign, malformed, rejected}
use Rattle.si_term.specs.Meaning.{clause_of}
use Rattle.si_io.specs.Counts.{raised}
use Rattle.si_io.specs.Library.{Counts, faults_in}
use Rattle.si_io.specs.Shown.{LibraryShown, KeepsFiles}
use Rattle.si_sign.specs.Shapes.{HasShapes}
use Rattle.si_sign.specs.declared.faults.Rejected.{Rejected}
use Rattle.si_sign.specs.declared.faults.AddFault.{AddFault}
use Rattle.si_sign.specs.declared.faults.AddFault.TheVariants as add_fault
use Rattle.si_harvest.specs.declared.faults.HarvestLimits.{HarvestLimits}
use Rattle.si_harvest.specs.declared.faults.HarvestFault.{HarvestFault}
use Rattle.si_harvest.specs.declared.faults.HarvestFault.TheVariants.{Syntax, Language, Missing, Big, Fault as LibraryFault, Cycle, Depth, Fetches, Memory}
use Rattle.si_harvest.specs.declared.faults.HarvestFault.TheVariants as harvest_fault

abbrev pub bounds_of : HarvestLimits → Bounds
bounds_of limits = record { file = limits.file; fetches = limits.fetches; depth = limits.depth }

-- why a clause isn't added, by these rules; never for want of memory
abbrev pub IsReason : Rules → AddFault → Refusal → Type 0
IsReason rules add_fault.Taken refusal = refusal ≡ state.taken
IsReason rules (add_fault.Clash c) refusal =
    (found : Symbol) × (kept : Symbol) × (refusal ≡ state.misused c.occurrence found kept)
    × HasShapes c found kept
IsReason rules (add_fault.Full n most) refusal = (refusal ≡ state.full n) × (most ≡ rules.entries)
IsReason rules add_fault.Memory refusal = ⊥

-- the clause is sound, and some list of clauses refuses it for this reason
pub record IsRejection (rules : Rules) (r : Rejected) (refusal : Refusal) : Type 0 where
  pub sound : IsSoundClause (clause_of r.clause)
  pub kept : List Clause
  pub refuses : Refuses rules kept (clause_of r.clause) refusal
  pub reason : IsReason rules r.why refusal

-- by these rules the program names this fault
abbrev pub NamesFault : Rules → HarvestFault → Fault → Type 0
NamesFault rules (Syntax file line) fault = fault ≡ malformed file line
NamesFault rules (Language file line) fault = fault ≡ foreign file line
NamesFault rules (harvest_fault.Rejected r) fault =
    (refusal : Refusal)
    × (fault ≡ rejected (clause_of r.clause) refusal) × IsRejection rules r refusal
NamesFault rules (Missing file) fault = fault ≡ missing file
NamesFault rules (Big file) fault = fault ≡ too_big file
NamesFault rules (LibraryFault file) fault = fault ≡ failed file
NamesFault rules (Cycle file) fault = fault ≡ cycle file
NamesFault rules (Depth file) fault = fault ≡ too_deep file
NamesFault rules Fetches fault = fault ≡ too_many
NamesFault rules Memory fault = ⊥

-- the fault that it names is one of which P holds
pub record NamesOneOf (rules : Rules) (e : HarvestFault) (P : Fault → Type 0) : Type 0 where
  pub fault : Fault
  pub named : NamesFault rules e fault
  pub holds : P fault

-- memory ran out, or it names such a fault
abbrev pub NamesWhy : Rules → HarvestFault → (Fault → Type 0) → Type 0
NamesWhy rules e P = (e ≡ Memory) ⊎ NamesOneOf rules e P

-- A load of a file that may not be asked for at its start is refused for the first reason why not,
-- or for want of memory, whatever the library tells.
abbrev pub ChecksStart : {T : Type 0} → Bounds → Rules → Bytes → Result T HarvestFault → Type 0
ChecksStart bounds rules file result =
    (MayAsk bounds [] 0 file → ⊥) →
    IsErrAnd result (λ e. NamesWhy rules e (IsBarred bounds [] 0 file))

-- A library's failures, missing files and files that are too big have a count each, which is one
-- more where a load is refused for it, and no other count moved. For a failure it is refused only
-- where the library may fail.
abbrev pub HasFaultCause : Bool → Counts → Counts → HarvestFault → Type 0
HasFaultCause may_fail before now (Missing file) =
    now ≡ record before { misses = raised before.misses }
HasFaultCause may_fail before now (Big file) =
    now ≡ record before { bigs = raised before.bigs }
HasFaultCause may_fail before now (LibraryFault file) =
    (now ≡ record before { faults = raised before.faults }) × IsTrue may_fail
HasFaultCause may_fail before now fault = now ≡ before

abbrev pub HasLoadCause : {T : Type 0} → Bool → Counts → Counts → Result T HarvestFault → Type 0
HasLoadCause may_fail before now (Ok x) = now ≡ before
HasLoadCause may_fail before now (Err fault) = HasFaultCause may_fail before now fault

-- that cause, by what a library shows before a load and after it
abbrev pub CountsCause : {T : Type 0} → LibraryShown → LibraryShown → Result T HarvestFault → Type 0
CountsCause before now result =
    HasLoadCause before.may_fail (faults_in before.counts) (faults_in now.counts) result

-- What a load makes of a library: it tells the same files as before and may fail where it might
-- before, and what it counted is the cause of the fault, if there is one.
pub record UsesLibrary {T : Type 0} (before now : LibraryShown) (result : Result T HarvestFault)
    : Type 0 where
  pub keeps : KeepsFiles before now
  pub cause : CountsCause before now result
