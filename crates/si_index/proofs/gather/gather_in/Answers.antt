use Rattle.std.proofs.Common.{sym, subst}
use Rattle.si_defs.specs.Entries.{pattern_entry}
use Rattle.si_defs.proofs.ListLaws.{all_got}
use Rattle.si_flat.specs.declared.Owner.TheVariants.{Query}
use Rattle.si_flat.specs.Flattened.{query_numbers}
use Rattle.si_form.specs.Answers.{AreNumbered}
use Rattle.si_index.specs.Gathering.{IsStandingAt}
use Rattle.si_index.specs.Searching.{numbers_of, pattern_in}
use Rattle.si_index.proofs.FlatLaws.{flat_is_numbered}
use Rattle.si_index.proofs.GatherLaws.{hit_place}
use Rattle.si_index.proofs.gather.gather_in.Goals as goal

pub new-query-requires-clause-numbered : goal.new-query-requires-clause-numbered
new-query-requires-clause-numbered c =
    let s = c.args.search.now in
    subst (AreNumbered Query) (sym c.cells.ensures.cells)
    (flat_is_numbered (query_numbers (numbers_of s) s.query.extra) Query (pattern_entry (pattern_in s)) s.query.flat c.requires.ready.flat.flat)

pub new-walk-requires-clause-there : goal.new-walk-requires-clause-there
new-walk-requires-clause-there c =
    let here = all_got (IsStandingAt c.args.search.now c.args.matches.now.leaves.items) c.args.places.now 0 c.in-Some.first.now c.requires.stand (sym c.in-Some.ensures.value) in
    hit_place c.args.search.now _ here.hit c.requires.ready here.at
