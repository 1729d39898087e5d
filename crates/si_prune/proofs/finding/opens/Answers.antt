use Rattle.std.proofs.Common.{IfSome, ◌∙◌, subst}
use Rattle.std.specs.List.Sorted.{IsBinarySearchResult}
use Rattle.std.specs.Ordering.{nat_cmp}
use Rattle.si_tree.specs.Numbers.{rights_in}
use Rattle.si_prune.specs.Pruning.{AreNumbersInOrder}
use Rattle.si_prune.proofs.FindLaws.{number_found}
use Rattle.si_prune.proofs.finding.opens.Goals as goal

pub returns-in-Some : goal.returns-in-Some
returns-in-Some c =
    let rights = rights_in c.args.bindings.now in
    let order : AreNumbersInOrder rights c.in-Some.numbers.items = subst (λ o. IfSome o (λ numbers. AreNumbersInOrder rights numbers.items)) c.in-Some.is c.requires in
    let found = subst (λ l. IsBinarySearchResult (λ m. nat_cmp m c.args.number) l c.binary_search.result) c.deref.ensures.value c.binary_search.ensures.position in
    c.is_ok.ensures.value ∙ number_found rights c.in-Some.numbers.items c.args.number c.binary_search.result order found
