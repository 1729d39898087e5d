use Rattle.si_parse.specs.Meaning.{selection_of}
use Rattle.si_parse.specs.Parsing.{Anything, NoName}
use Rattle.si_parse.proofs.ParseReads.{reads_some, reads_none}
use Rattle.std.specs.Prelude.{codes}
use Rattle.si_parse.proofs.ParseSequences.{then_some}
use Rattle.si_parse.proofs.GrammarNames.{opened}
use Rattle.si_parse.proofs.GrammarIncludes.{include_some, include_none, opening_first, opening_then, file_first, file_then, selection_first, selection_then, last_follows}
use Rattle.si_parse.proofs.grammar.includes.include.Goals as goal

pub returns-in_default : goal.returns-in_default
returns-in_default c = include_none (opening_first (opened c.as_slice.result.now (codes "include") c.as_slice.ensures c.in_default.ensures))

pub returns-in_default-2 : goal.returns-in_default-2
returns-in_default-2 c = include_none (opening_then (opened c.as_slice.result.now (codes "include") c.as_slice.ensures c.in-Some.ensures) (file_first (reads_none (λ t. t) c.in-Some.rest.now c.in_ok-file.ensures c.in_default-2.is)))

pub returns-in_default-3 : goal.returns-in_default-3
returns-in_default-3 c =
    include_none (opening_then (opened c.as_slice.result.now (codes "include") c.as_slice.ensures c.in-Some.ensures) (file_then (reads_some (λ t. t) c.in-Some.rest.now c.in_ok-file.ensures c.in-Some-2.is)
    (selection_first (reads_none selection_of c.in-Some-2.rest.now c.in_ok-selection.ensures c.in_default-3.is))))

pub returns-in-Some-last : goal.returns-in-Some-last
returns-in-Some-last c =
    include_some (then_some {F = Anything} (λ n used rest b g. tt) (opened c.as_slice.result.now (codes "include") c.as_slice.ensures c.in-Some.ensures)
    (then_some {F = Anything} (λ n used rest b g. tt) (reads_some (λ t. t) c.in-Some.rest.now c.in_ok-file.ensures c.in-Some-2.is)
    (then_some {F = NoName} last_follows (reads_some selection_of c.in-Some-2.rest.now c.in_ok-selection.ensures c.in-Some-3.is) c.in-Some-last.ensures)))

pub returns-in-None : goal.returns-in-None
returns-in-None c =
    include_none (opening_then (opened c.as_slice.result.now (codes "include") c.as_slice.ensures c.in-Some.ensures) (file_then (reads_some (λ t. t) c.in-Some.rest.now c.in_ok-file.ensures c.in-Some-2.is)
    (selection_then (reads_some selection_of c.in-Some-2.rest.now c.in_ok-selection.ensures c.in-Some-3.is) c.in-None.ensures)))
