use Rattle.std.proofs.Common.{◌≡◌, subst, sym}
use Rattle.si_parse.specs.Meaning.{selection_of}
use Rattle.si_harvest.specs.Faults.{bounds_of}
use Rattle.si_harvest.specs.Underway.{Lists}
use Rattle.si_harvest.proofs.Errors.{enters_as}
use Rattle.si_harvest.proofs.Fetching.{fetches_from}
use Rattle.si_harvest.proofs.reading.Reading.include.Goals as goal

pub returns-clause-enters : goal.returns-clause-enters
returns-clause-enters g c =
    enters_as (g.L.Library.shown c.args.library.now).files (bounds_of c.args.limits.now) c.args.name.now (λ names. names ≡ c.in_ok-chosen.chosen) (Lists (selection_of c.args.selection.now))
    c.push.new.self.files.items _ c.push.new.self.fetches _ c.enter.new.self c.enter.result
    (λ names same. subst (Lists (selection_of c.args.selection.now)) (sym same) c.in_ok-chosen.ensures) c.in_ok-push.ensures.files c.push.ensures.fetches c.enter.ensures.enters

pub returns-clause-fetches : goal.returns-clause-fetches
returns-clause-fetches g c = fetches_from _ _ c.push.new.self _ _ _ c.push.ensures.fetches c.enter.ensures.fetches
