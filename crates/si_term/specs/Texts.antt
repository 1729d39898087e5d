-- The bytes that a text has.
use Rattle.std.specs.Prelude.{ℕ, List}
use Rattle.si_term.specs.declared.text.TheConstants.{NEGATED_CONJECTURE}
use Rattle.si_term.specs.declared.text.Bytes.{Bytes}
use Rattle.si_term.specs.declared.text.Bytes.TheVariants.{Short, NegatedConjecture, Long}

abbrev pub bytes_of : Bytes → List ℕ
bytes_of (Short short) = short
bytes_of NegatedConjecture = NEGATED_CONJECTURE.now
bytes_of (Long long) = long.value.items
