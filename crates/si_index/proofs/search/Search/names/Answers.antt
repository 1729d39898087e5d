use Rattle.std.proofs.Common.{◌≡◌, ap, ◌∙◌, subst}
use Rattle.std.specs.Prelude.{bytes_eq}
use Rattle.std.proofs.lemmas.Result.{IfOk-weaker}
use Rattle.std.proofs.lemmas.Slice.Eq.{bytes_eq-Decides}
use Rattle.indexmap.specs.IndexSet.{insert_all}
use Rattle.si_defs.specs.Terms.{firsts, variables}
use Rattle.si_defs.specs.Entries.{distinct_variables}
use Rattle.si_term.specs.Terms.{term_of}
use Rattle.si_term.specs.Meaning.{entry_of}
use Rattle.si_term.proofs.Inserted.{inserted-firsts, shown}
use Rattle.si_flat.specs.Flattened.{FillsEntry}
use Rattle.si_index.specs.Searching.{numbers_of}
use Rattle.si_index.proofs.FlatLaws.{none_lacks}
use Rattle.si_index.proofs.search.Search.names.Goals as goal

pub returns-then-branch : goal.returns-then-branch
returns-then-branch c =
    let found = variables (term_of c.whole.result.now) in
    let all : shown c.as_slice.result.now ≡ distinct_variables (entry_of c.args.entry) =
    ap shown c.as_slice.ensures.value
    ∙ c.in_ok-meet_term.ensures c.if-branch.true
    ∙ ap (λ known. insert_all bytes_eq known found) (ap shown c.clear.ensures.items)
    ∙ inserted-firsts bytes_eq bytes_eq-Decides found
    ∙ ap (firsts bytes_eq) (ap variables c.whole.ensures) in
    IfOk-weaker c.from_slice.result (λ names. names.items ≡ c.as_slice.result.now) (λ names. shown names.items ≡ distinct_variables (entry_of c.args.entry)) (λ names is. ap shown is ∙ all) c.from_slice.ensures.ok

pub unreachable-requires : goal.unreachable-requires
unreachable-requires c =
    subst (FillsEntry (numbers_of c.args.self.now) (entry_of c.args.entry) _ _) c.if-not-branch.true c.in_ok-fill.ensures.filled
    (none_lacks (numbers_of c.args.self.now) _ c.requires.numbered)
