use Rattle.std.proofs.Common.{◌≡◌, ◌++◌, IsPermutation, rules, sym, ◌∙◌, ap, subst, append-nil}
use Rattle.std.proofs.lemmas.List.Sorted.{IsNonDecreasingBy-from_sort_by_key}
use Rattle.si_prune.proofs.finding.in_order.Goals as goal

pub returns : goal.returns
returns c =
    let all = c.loop-pair.order.items in
    let same : all ≡ c.args.bindings.now = sym (append-nil all) ∙ ap (λ l. all ++ l) (sym c.in-None.ensures.steps.0) ∙ c.loop-pair.invariant in
    record {
      distinct = c.requires;
      same = subst (λ l. IsPermutation l c.sort_unstable_by_key.new.self.items) same c.sort_unstable_by_key.ensures.permutation;
      rise = IsNonDecreasingBy-from_sort_by_key (λ pair. pair.0) _ c.sort_unstable_by_key.ensures.sorted (λ a r q k. search rules);
    }
