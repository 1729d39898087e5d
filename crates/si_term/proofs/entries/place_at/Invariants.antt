use Rattle.std.proofs.Common.{◌+◌, ◌<◌, length, map}
use Rattle.si_term.specs.Meaning.{literal_of}
use Rattle.si_term.proofs.Alone.{places_alone}
use Rattle.si_term.proofs.Literals.{later}
use Rattle.si_term.proofs.Progress.{Progress}
use Rattle.si_term.proofs.entries.place_at.Given as goal

abbrev pub invariant-loop-i : goal.invariant-loop-i
invariant-loop-i l = record {
  within : l.left < length (places_alone (1 + l.i) (later l.literals l.i));
  progress : Progress (places_alone 1 (map literal_of l.literals)) (places_alone (1 + l.i) (later l.literals l.i)) l.fn.number l.left;
}
