use Rattle.std.proofs.Common.{◌≡◌, ◌+◌, drop}
use Rattle.std.specs.List.{prefix_len}
use Rattle.si_defs.specs.Bytes as classes
use Rattle.si_lex.proofs.scans.word_end.Given as goal

abbrev pub invariant-loop-i : goal.invariant-loop-i
invariant-loop-i l = l.i + prefix_len classes.is_word_byte (drop l.i l.bytes) ≡ l.at + prefix_len classes.is_word_byte (drop l.at l.bytes)
