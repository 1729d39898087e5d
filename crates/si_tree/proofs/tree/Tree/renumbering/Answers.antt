use Rattle.std.proofs.Common.{◌≡◌, ◌+◌, ◌++◌, ◌∷◌, [], ℕ, List, refl, sym, ◌∙◌, ap, subst, arith, length, max}
use Rattle.std.specs.Prelude.{is_some}
use Rattle.std.proofs.lemmas.List.{nil_from_length}
use Rattle.si_defs.specs.Substitutions.{AreDistinct}
use Rattle.si_flat.specs.Rows.{CellPair, AreWhole, left_sides}
use Rattle.si_tree.specs.Numbers.{AreBelow, rights_in, noted, noted_number, renumbered_pairs}
use Rattle.si_tree.specs.Renumbers.{HasNotedSplit, split_in, visits}
use Rattle.si_legal.specs.Legal.{IsLegal}
use Rattle.si_tree.specs.KeptNodes.{content_of}
use Rattle.si_tree.specs.Reading.{children_of}
use Rattle.si_tree.proofs.WalkLaws.{known_rights, opened_fits, known_lefts, known_rights_then, distinct_then, split_noted}
use Rattle.si_tree.proofs.WalkSteps.{walk_at, walk_starts, walk_ends, last_stood, is_taken, fewer_done, turned_to, one_longer}
use Rattle.si_tree.proofs.tree.Tree.renumbering.Goals as goal

-- the same bindings open the same
noted_same : (numbers : List ℕ) (first : ℕ) (bs cs : List CellPair) → bs ≡ cs → noted numbers first (rights_in bs) ≡ noted numbers first (rights_in cs)
noted_same numbers first bs cs e = ap (λ xs. noted numbers first (rights_in xs)) e

opened_same : (first : ℕ) (bs cs : List CellPair) → bs ≡ cs → first + length (rights_in bs) ≡ first + length (rights_in cs)
opened_same first bs cs e = ap (λ xs. first + length (rights_in xs)) e

pub loop-visit-init : goal.loop-visit-init
loop-visit-init c =
    walk_starts c.args.self.now _ _ _ _ _ _ (subst IsLegal c.self.view_is c.self.invariant.legal)
    c.new-left.ensures.items c.in_ok-push.ensures.items c.in_ok-nodes.ensures.items
    (c.in_ok-numbers.ensures.items_if_clones_equal (λ y e. e))
    (sym c.in_ok-numbers.numbers.ok.0 ∙ c.in_ok-numbers.ensures.len ∙ ap (λ t. t.next) c.self.view_is)
    (ap (λ t. t.root) c.self.view_is)
    refl

pub index-node-requires : goal.index-node-requires
index-node-requires c =
    let h = walk_at _ _ _ _ _ _ _ _ _ c.self.view_is c.in-Some.ensures.items c.visit.view_is c.loop-visit.invariant in
    ap is_some (last_stood c.self.inside c.self.invariant _ _ _ _ _ h).1

pub note_rights-opened-requires-clause-known : goal.note_rights-opened-requires-clause-known
note_rights-opened-requires-clause-known c =
    let h = walk_at _ _ _ _ _ _ _ _ _ c.self.view_is c.in-Some.ensures.items c.visit.view_is c.loop-visit.invariant in
    let s = is_taken c.self.inside c.self.invariant _ _ _ _ _ h c.index-node.result.now c.index-node.ensures in
    subst (λ bs. AreBelow (length c.loop-visit.numbers.items) (rights_in bs)) (sym c.bindings.ensures)
    (known_rights c.self.inside c.self.invariant _ _ c.index-node.result.now s)

pub note_rights-opened-requires-clause-room : goal.note_rights-opened-requires-clause-room
note_rights-opened-requires-clause-room c =
    let h = walk_at _ _ _ _ _ _ _ _ _ c.self.view_is c.in-Some.ensures.items c.visit.view_is c.loop-visit.invariant in
    let s = is_taken c.self.inside c.self.invariant _ _ _ _ _ h c.index-node.result.now c.index-node.ensures in
    let fits = opened_fits c.self.inside c.self.invariant _ _ c.index-node.result.now s in
    let rights = ap (λ bs. length (rights_in bs)) c.bindings.ensures in
    omega (arith, fits, rights)

pub renumbered-requires-clause-whole : goal.renumbered-requires-clause-whole
renumbered-requires-clause-whole c = subst AreWhole (sym c.bindings-in-Some.ensures) (c.self.invariant.whole _ c.index-node.result.now c.index-node.ensures)

pub renumbered-requires-clause-lefts : goal.renumbered-requires-clause-lefts
renumbered-requires-clause-lefts c =
    let h = walk_at _ _ _ _ _ _ _ _ _ c.self.view_is c.in-Some.ensures.items c.visit.view_is c.loop-visit.invariant in
    let s = is_taken c.self.inside c.self.invariant _ _ _ _ _ h c.index-node.result.now c.index-node.ensures in
    subst (λ bs. AreBelow (length c.as_slice.result.now) (left_sides bs)) (sym c.bindings-in-Some.ensures)
    (subst (λ l. AreBelow (length l) (left_sides c.index-node.result.now.bindings)) (sym (c.as_slice.ensures.value ∙ c.note_rights-opened.ensures.noted ∙ noted_same _ _ _ _ c.bindings.ensures))
    (known_lefts c.self.inside c.self.invariant _ _ c.index-node.result.now s))

pub renumbered-requires-clause-rights : goal.renumbered-requires-clause-rights
renumbered-requires-clause-rights c =
    let h = walk_at _ _ _ _ _ _ _ _ _ c.self.view_is c.in-Some.ensures.items c.visit.view_is c.loop-visit.invariant in
    let s = is_taken c.self.inside c.self.invariant _ _ _ _ _ h c.index-node.result.now c.index-node.ensures in
    subst (λ bs. AreBelow (length c.as_slice.result.now) (rights_in bs)) (sym c.bindings-in-Some.ensures)
    (subst (λ l. AreBelow (length l) (rights_in c.index-node.result.now.bindings)) (sym (c.as_slice.ensures.value ∙ c.note_rights-opened.ensures.noted ∙ noted_same _ _ _ _ c.bindings.ensures))
    (known_rights_then c.self.inside c.self.invariant _ _ c.index-node.result.now s))

pub renumbered-requires-clause-distinct : goal.renumbered-requires-clause-distinct
renumbered-requires-clause-distinct c =
    let h = walk_at _ _ _ _ _ _ _ _ _ c.self.view_is c.in-Some.ensures.items c.visit.view_is c.loop-visit.invariant in
    let s = is_taken c.self.inside c.self.invariant _ _ _ _ _ h c.index-node.result.now c.index-node.ensures in
    subst (λ bs. AreDistinct (left_sides (renumbered_pairs (noted_number c.as_slice.result.now) bs))) (sym c.bindings-in-Some.ensures)
    (subst (λ l. AreDistinct (left_sides (renumbered_pairs (noted_number l) c.index-node.result.now.bindings))) (sym (c.as_slice.ensures.value ∙ c.note_rights-opened.ensures.noted ∙ noted_same _ _ _ _ c.bindings.ensures))
    (distinct_then c.self.inside c.self.invariant _ _ c.index-node.result.now s))

pub split_in-requires : goal.split_in-requires
split_in-requires c =
    let h = walk_at _ _ _ _ _ _ _ _ _ c.self.view_is c.in-Some.ensures.items c.visit.view_is c.loop-visit.invariant in
    let s = is_taken c.self.inside c.self.invariant _ _ _ _ _ h c.index-node.result.now c.index-node.ensures in
    subst (HasNotedSplit (content_of c.index-node.result.now.content)) (sym (c.as_slice-in-Some.ensures.value ∙ c.note_rights-opened.ensures.noted ∙ noted_same _ _ _ _ c.bindings.ensures))
    (split_noted c.self.inside c.self.invariant _ _ c.index-node.result.now s)

pub loop-visit-smaller : goal.loop-visit-smaller
loop-visit-smaller c =
    let h = walk_at _ _ _ _ _ _ _ _ _ c.self.view_is c.in-Some.ensures.items c.visit.view_is c.loop-visit.invariant in
    let few = fewer_done c.self.inside c.self.invariant _ _ _ _ _ h in
    let nodes = ap (λ x. length x.nodes) c.self.view_is in
    let more = one_longer _ _ _ c.in_ok-push-2.ensures.items in
    omega (arith, few, nodes, more)

pub loop-visit-preserved : goal.loop-visit-preserved
loop-visit-preserved c =
    let h = walk_at _ _ _ _ _ _ _ _ _ c.self.view_is c.in-Some.ensures.items c.visit.view_is c.loop-visit.invariant in
    let opened = c.note_rights-opened.ensures.next ∙ opened_same _ _ _ c.bindings.ensures in
    let numbers = c.note_rights-opened.ensures.noted ∙ noted_same _ _ _ _ c.bindings.ensures in
    let bindings = c.in_ok-renumbered.ensures ∙ ap (renumbered_pairs (noted_number c.as_slice.result.now)) c.bindings-in-Some.ensures ∙ ap (λ l. renumbered_pairs (noted_number l) c.index-node.result.now.bindings) (c.as_slice.ensures.value ∙ numbers) in
    let split = c.split_in.ensures ∙ ap (split_in (content_of c.index-node.result.now.content)) (c.as_slice-in-Some.ensures.value ∙ numbers) in
    let key = ap (λ v. v.node) (sym c.visit.view_is) in
    turned_to c.self.inside c.self.invariant _ _ _ _ _ h c.index-node.result.now c.index-node.ensures _ _ _ _ _
    c.self.view_is
    (c.in_ok-stack.ensures ∙ ap (λ cs. c.pop.new.self.items ++ visits c.note_rights-opened.result cs) c.children.ensures ∙ (λ i. c.pop.new.self.items ++ visits (opened i) (children_of (content_of c.index-node.result.now.content))))
    numbers
    (c.in_ok-push-2.ensures.items ∙ (λ i. c.loop-visit.nodes.items ++ record { node = key i; bindings = bindings i; split = split i } ∷ []))
    (c.max-next.ensures ∙ ap (max c.loop-visit.next) opened)

pub returns : goal.returns
returns c =
    walk_ends _ _ _ _ _ (subst IsLegal c.self.view_is c.self.invariant.legal) (nil_from_length _ (omega (arith, c.in_default.ensures.cases.0, c.loop-visit.left.ok))) c.loop-visit.invariant _ refl refl
