use Rattle.std.proofs.Common.{◌≡◌, ◌+◌, drop}
use Rattle.si_lex.specs.Scans.{before_close}
use Rattle.si_lex.proofs.blanks.find_close.Given as goal

abbrev pub invariant-loop-i : goal.invariant-loop-i
invariant-loop-i l = l.i + before_close (drop l.i l.bytes) ≡ l.at + before_close (drop l.at l.bytes)
