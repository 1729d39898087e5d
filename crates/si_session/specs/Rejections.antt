-- Why a clause isn't kept, as a reply reports it.
use Rattle.std.specs.Prelude.{◌≡◌, ◌<◌, Some, codes, length, slice_get}
use Rattle.si_defs.specs.Symbols.{Symbol}
use Rattle.si_defs.specs.Clauses.{IsSoundClause}
use Rattle.si_defs.specs.Entries.{clause_symbols}
use Rattle.si_steps.specs.Replies.{taken_line, full_line, file_line, numbered_line, fetches_line, memory_line}
use Rattle.si_term.specs.Meaning.{name_of, clause_of}
use Rattle.si_sign.specs.declared.faults.Rejected.{Rejected}
use Rattle.si_sign.specs.declared.faults.AddFault.{AddFault}
use Rattle.si_sign.specs.declared.faults.AddFault.TheVariants as add_fault
use Rattle.si_harvest.specs.declared.faults.HarvestFault.{HarvestFault}
use Rattle.si_harvest.specs.declared.faults.HarvestFault.TheVariants as harvest_fault
use Rattle.si_session.specs.Replies.{reply_line, misused_text}
use Rattle.si_session.specs.declared.reply.ReplyLine.{ReplyLine}

-- the occurrence of a clash is one of the clause's
abbrev pub NamesOccurrence : Rejected → AddFault → Type 0
NamesOccurrence rejected (add_fault.Clash c) =
    c.occurrence < length (clause_symbols (clause_of rejected.clause))
NamesOccurrence rejected why = Unit {0}

-- the clause is sound, and where a symbol of it clashes, it occurs there
abbrev pub IsReportableClause : Rejected → Type 0
IsReportableClause rejected =
    IsSoundClause (clause_of rejected.clause) × NamesOccurrence rejected rejected.why

-- the reply's line reports this fault
abbrev pub ReportsFault : Rejected → ReplyLine → AddFault → Type 0
ReportsFault rejected reply add_fault.Taken =
    reply_line reply ≡ taken_line (name_of rejected.clause.name)
ReportsFault rejected reply (add_fault.Clash c) =
    (s : Symbol) → slice_get (clause_symbols (clause_of rejected.clause)) c.occurrence ≡ Some s
    → reply_line reply ≡ misused_text s c.found c.kept
ReportsFault rejected reply (add_fault.Full needed limit) =
    reply_line reply ≡ full_line needed limit
ReportsFault rejected reply add_fault.Memory = reply_line reply ≡ memory_line

-- the reply reports why
abbrev pub ReportsWhy : Rejected → ReplyLine → Type 0
ReportsWhy rejected reply = ReportsFault rejected reply rejected.why

-- ---- loads
-- where the load is refused for a clause, that is such a one
abbrev pub IsReportable : HarvestFault → Type 0
IsReportable (harvest_fault.Rejected r) = IsReportableClause r
IsReportable fault = Unit {0}

-- the reply's line reports this fault of a load
abbrev pub ReportsFaultOfLoad : HarvestFault → ReplyLine → Type 0
ReportsFaultOfLoad (harvest_fault.Syntax file line) reply =
    reply_line reply ≡ numbered_line (codes "! syntax ") file line
ReportsFaultOfLoad (harvest_fault.Language file line) reply =
    reply_line reply ≡ numbered_line (codes "! language ") file line
ReportsFaultOfLoad (harvest_fault.Rejected r) reply = ReportsWhy r reply
ReportsFaultOfLoad (harvest_fault.Missing file) reply =
    reply_line reply ≡ file_line (codes "! missing ") file
ReportsFaultOfLoad (harvest_fault.Big file) reply =
    reply_line reply ≡ file_line (codes "! big ") file
ReportsFaultOfLoad (harvest_fault.Fault file) reply =
    reply_line reply ≡ file_line (codes "! fault ") file
ReportsFaultOfLoad (harvest_fault.Cycle file) reply =
    reply_line reply ≡ file_line (codes "! cycle ") file
ReportsFaultOfLoad (harvest_fault.Depth file) reply =
    reply_line reply ≡ file_line (codes "! depth ") file
ReportsFaultOfLoad harvest_fault.Fetches reply = reply_line reply ≡ fetches_line
ReportsFaultOfLoad harvest_fault.Memory reply = reply_line reply ≡ memory_line
