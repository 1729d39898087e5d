use Rattle.std.proofs.Common.{arith}
use Rattle.si_examples.proofs.bounds.largest_inputs.Goals as goal

pub returns-clause-largest_sample : goal.returns-clause-largest_sample
returns-clause-largest_sample c = λ start count s n. record {
  start_fits = omega (arith, s);
  some = omega (arith, n);
  count_fits = omega (arith, n);
}

pub returns-clause-no_later_start : goal.returns-clause-no_later_start
returns-clause-no_later_start c = λ start count s a. absurd (omega (arith, s, a.start_fits))

pub returns-clause-no_larger_sample : goal.returns-clause-no_larger_sample
returns-clause-no_larger_sample c = λ start count n a. absurd (omega (arith, n, a.count_fits))

pub returns-clause-largest_literal : goal.returns-clause-largest_literal
returns-clause-largest_literal c = λ l sound size. record {
  each = (sound, tt);
  no_larger = omega (arith, size);
}

pub returns-clause-no_larger_literals : goal.returns-clause-no_larger_literals
returns-clause-no_larger_literals c = λ ls size sound. absurd (omega (arith, size, sound.no_larger))
