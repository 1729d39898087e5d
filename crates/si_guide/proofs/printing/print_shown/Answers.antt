use Rattle.std.proofs.Common.{sym}
use Rattle.si_guide.proofs.ShownEntries.{shows_entry}
use Rattle.si_guide.proofs.printing.print_shown.Goals as goal

pub put_solution-requires : goal.put_solution-requires
put_solution-requires g c =
    let e = c.requires.shown.3 in
    record {
      known = (
        e.solution,
        shows_entry c.args.index.now.numbers c.requires.shown.0 c.requires.shown.1 c.requires.shown.2 c.args.shown.now e _ (sym c.signature.ensures.numbers),
      );
    }

pub returns : goal.returns
returns g c = λ relation p e shows.
    c.put_solution.ensures shows.solution
    (shows_entry c.args.index.now.numbers relation p e c.args.shown.now shows _ (sym c.signature.ensures.numbers))
