use Rattle.std.proofs.Common.{Bor, map, refl, ap, ◌∙◌, subst, arith}
use Rattle.std.proofs.lemmas.Option.{slice_get_within}
use Rattle.si_defs.specs.Bytes.{Bytes}
use Rattle.si_term.specs.Meaning.{entry_of}
use Rattle.si_index.specs.Finding.{Finding}
use Rattle.si_index.specs.Showing.{ShowsHit}
use Rattle.si_index.specs.Searching.{hit_of}
use Rattle.si_index.proofs.FoundLaws.{inside, hit_at, match_at, is_made, solves_at, shows_entry}
use Rattle.si_index.proofs.found.Found.lent.Goals as goal

pub index-leaf-requires : goal.index-leaf-requires
index-leaf-requires c =
    let leaves = c.self.inside.matches.leaves in
    let m = c.index-found.result.now in
    let here = match_at c.self.inside.search leaves.items c.self.inside.matches.found.items c.args.n m c.args.self.now.hits (ap (λ (f : Finding). f.hits) c.self.view_is) c.requires c.index-found.ensures c.self.invariant.each in
    omega (arith, slice_get_within leaves.items m.leaf here.list.1.0 here.list.1.1, leaves.ok.0)

pub list_of-list-requires : goal.list_of-list-requires
list_of-list-requires c =
    let s = c.self.inside.search in
    let leaves = c.self.inside.matches.leaves.items in
    let m = c.index-found.result.now in
    let here = match_at s leaves c.self.inside.matches.found.items c.args.n m c.args.self.now.hits (ap (λ (f : Finding). f.hits) c.self.view_is) c.requires c.index-found.ensures c.self.invariant.each in
    is_made s (entry_of m.entry) leaves m.leaf c.index-leaf.result.now here.list c.index-leaf.ensures

pub returns : goal.returns
returns c =
    let s = c.self.inside.search in
    let leaves = c.self.inside.matches.leaves.items in
    let ms = c.self.inside.matches.found.items in
    let m = c.index-found.result.now in
    let less = inside ms c.args.n c.args.self.now.hits (ap (λ (f : Finding). f.hits) c.self.view_is) c.requires in
    let here = match_at s leaves ms c.args.n m c.args.self.now.hits (ap (λ (f : Finding). f.hits) c.self.view_is) c.requires c.index-found.ensures c.self.invariant.each in
    let list = c.list_of-list.result.now in
    let solves = solves_at s (entry_of m.entry) leaves m.leaf c.index-leaf.result.now here.list c.index-leaf.ensures list c.list_of-list.ensures in
    let now : Bor Bytes → Bytes = λ name. name.now in
    let names = map now c.as_slice.result.now in
    subst (λ (f : Finding). ShowsHit f c.args.n (record { solution = list; query_names = c.self.inside.query_names; entry_names = names; extra = s.query.extra })) c.self.view_is (
      hit_of m,
      hit_at ms c.args.n m less c.index-found.ensures,
      shows_entry s s.index.now.numbers (entry_of m.entry) list c.self.inside.query_names names s.query.extra
          c.self.invariant.numbers c.self.invariant.ready solves c.self.invariant.names (ap (map now) c.as_slice.ensures ∙ here.are_names) refl,
    )
