use Rattle.std.proofs.Common.{◌≡◌, ◌+◌, drop}
use Rattle.std.specs.List.{prefix_len}
use Rattle.si_defs.specs.Bytes as classes
use Rattle.si_lex.proofs.scans.digits_end.Given as goal

abbrev pub invariant-loop-i : goal.invariant-loop-i
invariant-loop-i l = l.i + prefix_len classes.is_digit (drop l.i l.bytes) ≡ l.at + prefix_len classes.is_digit (drop l.at l.bytes)
