use Rattle.std.proofs.Common.{refl}
use Rattle.si_defs.specs.Terms.{var}
use Rattle.si_flat.specs.Cells.{query, entry}
use Rattle.si_flat.specs.declared.Owner.TheVariants.{Query, Entry}
use Rattle.si_tests.proofs.AskedTerms.{f, whole, numbered}
use Rattle.si_tests.proofs.solutions.variants_are_right.Goals as goal

pub is_right-requires-clause-whole_query : goal.is_right-requires-clause-whole_query
is_right-requires-clause-whole_query c = whole _ (f (var (query 0)) (var (query 1))) refl (refl, (tt, (tt, tt)))

pub is_right-requires-clause-whole_entry : goal.is_right-requires-clause-whole_entry
is_right-requires-clause-whole_entry c = whole _ (f (var (entry 0)) (var (entry 1))) refl (refl, (tt, (tt, tt)))

pub is_right-requires-clause-query : goal.is_right-requires-clause-query
is_right-requires-clause-query c = numbered Query _ (f (var (query 0)) (var (query 1))) refl (refl, (tt, (tt, tt))) (2, refl)

pub is_right-requires-clause-entry : goal.is_right-requires-clause-entry
is_right-requires-clause-entry c = numbered Entry _ (f (var (entry 0)) (var (entry 1))) refl (refl, (tt, (tt, tt))) (2, refl)
