use Rattle.std.proofs.Common.{◌≡◌, IfOk, List, [], ap, subst, ◌∙◌}
use Rattle.std.specs.Prelude.{bytes_eq}
use Rattle.std.proofs.lemmas.Slice.Eq.{bytes_eq-Decides}
use Rattle.indexmap.specs.IndexSet.{insert_all}
use Rattle.si_defs.specs.Bytes.{Bytes}
use Rattle.si_defs.specs.Terms.{firsts, variables}
use Rattle.si_defs.specs.Entries.{distinct_variables}
use Rattle.si_term.specs.Terms.{term_of}
use Rattle.si_term.specs.Meaning.{entry_of}
use Rattle.si_term.proofs.Inserted.{inserted-firsts, shown}
use Rattle.si_term.proofs.entries.vars_of.Goals as goal

pub returns : goal.returns
returns c =
    let found = variables (term_of c.whole.result.now) in
    let from_none : shown c.new-seen.result.keys ≡ [] = ap shown c.new-seen.ensures.empty in
    let all : shown c.as_slice.result.now ≡ distinct_variables (entry_of c.args.entry) =
    ap shown c.as_slice.ensures.keys
    ∙ c.in_ok-gather_term.ensures
    ∙ ap (λ known. insert_all bytes_eq known found) from_none
    ∙ inserted-firsts bytes_eq bytes_eq-Decides found
    ∙ ap (firsts bytes_eq) (ap variables c.whole.ensures) in
    let P : List Bytes → Type 0 = λ l. IfOk c.copy_texts.result (λ names. names ≡ l) in
    subst P all c.copy_texts.ensures
