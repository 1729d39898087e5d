-- What reads, and what calls that follow one another, make of a count of faults.
use Rattle.std.proofs.Common.{◌≡◌, ℕ, Result, Ok, Err, ap, arith}
use Rattle.si_io.specs.declared.failed.Failed.{Failed}
use Rattle.si_io.specs.declared.counts.SourceCounts.{SourceCounts}
use Rattle.si_io.specs.Counts.{read_counted}
use Rattle.si_io.specs.Faults.{HasCause}

-- what a read counted has its cause
pub HasCause_counted : (r : Result ℕ Failed) (room : ℕ) (before now : SourceCounts) → now ≡ read_counted room r before → HasCause before.faults now.faults r
HasCause_counted (Ok n) room before now counted = let faults = ap (λ (k : SourceCounts). k.faults) counted in record { later = omega (arith, faults); kept = faults; failed = tt }
HasCause_counted (Err e) room before now counted = let faults = ap (λ (k : SourceCounts). k.faults) counted in record { later = omega (arith, faults); kept = tt; failed = faults }
