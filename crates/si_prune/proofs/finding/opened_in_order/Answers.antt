use Rattle.std.proofs.Common.{IsPermutation, subst}
use Rattle.std.proofs.lemmas.List.Sorted.{IsNonDecreasingBy-from_sort}
use Rattle.si_prune.proofs.finding.opened_in_order.Goals as goal

pub returns : goal.returns
returns c = record {
  same = subst (λ l. IsPermutation l c.sort_unstable.new.self.items) c.in_ok-opened.ensures c.sort_unstable.ensures.permutation;
  rise = IsNonDecreasingBy-from_sort (λ n. n) _ c.sort_unstable.ensures.sorted;
}
