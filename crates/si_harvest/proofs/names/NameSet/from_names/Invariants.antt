use Rattle.std.proofs.Common.{map, take}
use Rattle.si_term.specs.Meaning.{name_of}
use Rattle.si_harvest.specs.Chosen.{IsSetOf}
use Rattle.si_harvest.proofs.names.NameSet.from_names.Given as goal

abbrev pub invariant-loop-i : goal.invariant-loop-i
invariant-loop-i l = IsSetOf (map name_of (take l.i l.names)) l.set
