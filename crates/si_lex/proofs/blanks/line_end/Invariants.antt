use Rattle.std.proofs.Common.{◌≡◌, ◌+◌, drop}
use Rattle.std.specs.List.{prefix_len}
use Rattle.si_lex.specs.Scans.{is_in_line}
use Rattle.si_lex.proofs.blanks.line_end.Given as goal

abbrev pub invariant-loop-i : goal.invariant-loop-i
invariant-loop-i l = l.i + prefix_len is_in_line (drop l.i l.bytes) ≡ l.at + prefix_len is_in_line (drop l.at l.bytes)
