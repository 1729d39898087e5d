use Rattle.std.proofs.Common.{◌≡◌, ◌-◌, ◌≤◌, false, length, drop}
use Rattle.si_lex.specs.Scans.{behind_quote}
use Rattle.si_lex.proofs.scans.quoted_end.Given as goal

abbrev pub invariant-loop-place : goal.invariant-loop-place
invariant-loop-place l =
    (l.at ≤ l.place) × (l.place ≤ length l.bytes) × (behind_quote l.quote false (drop l.place l.bytes) ≡ behind_quote l.quote false (drop l.at l.bytes))

abbrev pub decreases-loop-place : goal.decreases-loop-place
decreases-loop-place l = length l.initial.bytes - l.place
