use Rattle.std.proofs.Common.{ap, sym, ◌∙◌, subst, arith}
use Rattle.std.proofs.lemmas.Option.{slice_get_within}
use Rattle.si_term.specs.Meaning.{entry_of}
use Rattle.si_index.specs.Finding.{Finding}
use Rattle.si_index.specs.Showing.{ShowsHit}
use Rattle.si_index.specs.Searching.{numbers_of, pattern_in, hit_of, SolvesEntry}
use Rattle.si_flat.specs.Flattened.{query_numbers}
use Rattle.si_index.proofs.FoundLaws.{inside, hit_at, match_at, is_made, solves_at, shows_entry}
use Rattle.si_index.proofs.found.Found.shown.Goals as goal

pub index-leaf-requires : goal.index-leaf-requires
index-leaf-requires c =
    let leaves = c.self.inside.matches.leaves in
    let m = c.index-found.result.now in
    let here = match_at c.self.inside.search leaves.items c.self.inside.matches.found.items c.args.n m c.args.self.now.hits (ap (λ (f : Finding). f.hits) c.self.view_is) c.requires c.index-found.ensures c.self.invariant.each in
    omega (arith, slice_get_within leaves.items m.leaf here.list.1.0 here.list.1.1, leaves.ok.0)

pub list_of-list-requires : goal.list_of-list-requires
list_of-list-requires c =
    let s = c.self.inside.search in
    let leaves = c.self.inside.matches.leaves.items in
    let m = c.index-found.result.now in
    let here = match_at s leaves c.self.inside.matches.found.items c.args.n m c.args.self.now.hits (ap (λ (f : Finding). f.hits) c.self.view_is) c.requires c.index-found.ensures c.self.invariant.each in
    is_made s (entry_of m.entry) leaves m.leaf c.index-leaf.result.now here.list c.index-leaf.ensures

pub returns : goal.returns
returns c =
    let s = c.self.inside.search in
    let leaves = c.self.inside.matches.leaves.items in
    let ms = c.self.inside.matches.found.items in
    let m = c.index-found.result.now in
    let less = inside ms c.args.n c.args.self.now.hits (ap (λ (f : Finding). f.hits) c.self.view_is) c.requires in
    let here = match_at s leaves ms c.args.n m c.args.self.now.hits (ap (λ (f : Finding). f.hits) c.self.view_is) c.requires c.index-found.ensures c.self.invariant.each in
    let solves = solves_at s (entry_of m.entry) leaves m.leaf c.index-leaf.result.now here.list c.index-leaf.ensures c.list_of-list.result.now c.list_of-list.ensures in
    subst (λ (f : Finding). ShowsHit f c.args.n (record { solution = c.in_ok-copy.field-0; query_names = c.in_ok-copy-2.field-0; entry_names = c.in_ok-vars_of.field-0; extra = c.in_ok-copy_symbols.field-0 })) c.self.view_is (
      hit_of m,
      hit_at ms c.args.n m less c.index-found.ensures,
      shows_entry s s.index.now.numbers (entry_of m.entry) c.in_ok-copy.field-0 c.in_ok-copy-2.field-0 c.in_ok-vars_of.field-0 c.in_ok-copy_symbols.field-0
          c.self.invariant.numbers c.self.invariant.ready
          (subst (SolvesEntry s.relation (query_numbers (numbers_of s) s.query.extra) (pattern_in s) (entry_of m.entry)) (sym c.in_ok-copy.ensures) solves)
          (c.in_ok-copy-2.ensures ∙ c.self.invariant.names)
          c.in_ok-vars_of.ensures
          c.in_ok-copy_symbols.ensures,
    )
