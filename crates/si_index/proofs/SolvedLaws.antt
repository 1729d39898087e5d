-- What the cells of an entry are answered, the entry is.
use Rattle.std.proofs.Common.{◌≡◌, List, subst, Option, Some}
use Rattle.si_defs.specs.Bytes.{Bytes}
use Rattle.si_defs.specs.Entries.{Entry}
use Rattle.si_state.specs.Answers.{Stands}
use Rattle.si_flat.specs.declared.Cell.{Cell}
use Rattle.si_flat.specs.Flattened.{HoldsEntry, query_numbers}
use Rattle.si_form.specs.declared.solution.Binding.{Binding}
use Rattle.si_form.specs.Answers.{Answers}
use Rattle.si_index.specs.Searching.{numbers_of, pattern_in, term_in, IsReadyToSearch, IsKnownEntry, AreCompared, AnswersEntry, SolvesEntry, SolvesTerm}
use Rattle.si_index.specs.declared.search.Search.{Search}
use Rattle.si_index.proofs.FlatLaws.{flat_answers, alike_standing}

pub solved_in : (s : Search) (e : Entry) (query entry held : List Cell) (names : List Bytes)
    → query ≡ s.query.flat
    → entry ≡ held
    → IsReadyToSearch s
    → IsKnownEntry (numbers_of s) e
    → AreCompared (pattern_in s) e
    → HoldsEntry (numbers_of s) e held names
    → (answer : Option (List Binding))
    → Answers s.relation query entry answer
    → AnswersEntry s.relation (query_numbers (numbers_of s) s.query.extra) (pattern_in s) e answer
solved_in s e query entry held names of_query of_entry ready known alike holds answer told =
    flat_answers s.relation (numbers_of s) (pattern_in s) s.query e held answer ready.numbering ready.sound ready.flat known alike holds.flat
    (subst (λ l. Answers s.relation l held answer) of_query (subst (λ l. Answers s.relation query l answer) of_entry told))

-- what the cells of a term are answered, each entry is that has the term
pub term_solves : (s : Search) (e : Entry) (list : List Binding) → IsReadyToSearch s → IsKnownEntry (numbers_of s) e → Stands s.relation (pattern_in s) e → SolvesTerm s (term_in s e) list
    → SolvesEntry s.relation (query_numbers (numbers_of s) s.query.extra) (pattern_in s) e list
term_solves s e list ready known stands solves =
    flat_answers s.relation (numbers_of s) (pattern_in s) s.query e solves.flat (Some list) ready.numbering ready.sound ready.flat known (alike_standing s.relation (pattern_in s) e stands)
    (record { stands = solves.stands; numbered = solves.numbered }) solves.answered
