use Rattle.std.proofs.Common.{rules, ◌≡◌, is_some, length, ap, sym, ◌∙◌, subst, arith}
use Rattle.std.specs.List.{filter}
use Rattle.std.proofs.lemmas.Fn.{filter_same}
use Rattle.slab.specs.Slab.{get}
use Rattle.si_keyed.specs.KeyedSlots.{IsLinked, marked, without_holes}
use Rattle.si_keyed.proofs.IndexedLaws.{closed_knows, closed_within, closed_same, few_closed, indexed_closed}
use Rattle.si_keyed.proofs.MarkLaws.{marked_closed, closed_length}
use Rattle.si_keyed.proofs.keyed.close_if_sparse.Goals as goal

pub renumber-requires : goal.renumber-requires
renumber-requires g c =
    let closed : c.retain.new.self.items ≡ filter is_some c.args.slots.now.items = filter_same _ _ _ (λ x b f' k. search rules) _ _ c.retain.ensures.filtered in
    closed_knows c.args.slots.now.items _ _ c.requires.indexed.linked (c.as_slice-2.ensures.value ∙ closed)

pub refill-requires : goal.refill-requires
refill-requires g c =
    let closed : c.retain.new.self.items ≡ filter is_some c.args.slots.now.items = filter_same _ _ _ (λ x b f' k. search rules) _ _ c.retain.ensures.filtered in
    omega (arith, c.len-3.ensures, c.retain.new.self.ok, closed_within c.args.slots.now.items _ c.args.ranks.now c.requires.indexed.counted closed)

pub returns-clause-same : goal.returns-clause-same
returns-clause-same g c =
    closed_same c.args.slots.now.items _ (filter_same _ _ _ (λ x b f' k. search rules) _ _ c.retain.ensures.filtered)

pub returns-clause-indexed : goal.returns-clause-indexed
returns-clause-indexed g c =
    let closed : c.retain.new.self.items ≡ filter is_some c.args.slots.now.items = filter_same _ _ _ (λ x b f' k. search rules) _ _ c.retain.ensures.filtered in
    let linked = subst (λ s. IsLinked s (λ key. get c.renumber.new.places key)) c.as_slice-2.ensures.value c.renumber.ensures.linked in
    indexed_closed c.args.slots.now.items _ c.args.places.now _ c.args.ranks.now _ _ c.requires.indexed closed linked c.renumber.ensures.number (c.len-3.ensures ∙ c.retain.new.self.ok.0) c.refill.ensures

pub returns-clause-few_holes : goal.returns-clause-few_holes
returns-clause-few_holes g c =
    few_closed c.args.slots.now.items _ (filter_same _ _ _ (λ x b f' k. search rules) _ _ c.retain.ensures.filtered)

pub close_marks-requires : goal.close_marks-requires
close_marks-requires g c = c.requires.marked ∙ sym (ap length c.as_slice.ensures.value)

pub returns-clause-same_marks : goal.returns-clause-same_marks
returns-clause-same_marks g c =
    let closed : c.retain.new.self.items ≡ filter is_some c.args.slots.now.items = filter_same _ _ _ (λ x b f' k. search rules) _ _ c.retain.ensures.filtered in
    (λ i. marked (closed i) ((c.close_marks.ensures ∙ ap (λ s. without_holes s c.args.marks.now.items) c.as_slice.ensures.value) i))
    ∙ marked_closed c.args.slots.now.items c.args.marks.now.items c.requires.marked

pub returns-clause-marked : goal.returns-clause-marked
returns-clause-marked g c =
    let closed : c.retain.new.self.items ≡ filter is_some c.args.slots.now.items = filter_same _ _ _ (λ x b f' k. search rules) _ _ c.retain.ensures.filtered in
    ap length (c.close_marks.ensures ∙ ap (λ s. without_holes s c.args.marks.now.items) c.as_slice.ensures.value)
    ∙ closed_length c.args.slots.now.items c.args.marks.now.items c.requires.marked
    ∙ sym (ap length closed)
