use Rattle.std.proofs.Common.{◌<◌, length, map}
use Rattle.si_term.specs.Meaning.{literal_of}
use Rattle.si_term.specs.Walks.{entries_alone}
use Rattle.si_term.proofs.Literals.{later}
use Rattle.si_term.proofs.Progress.{Progress}
use Rattle.si_term.proofs.entries.entry_at.Given as goal

abbrev pub invariant-loop-i : goal.invariant-loop-i
invariant-loop-i l = record {
  within : l.left < length (entries_alone (later l.literals l.i));
  progress : Progress (entries_alone (map literal_of l.literals)) (entries_alone (later l.literals l.i)) l.fn.number l.left;
}
