use Rattle.std.proofs.Common.{◌≡◌, ℕ, List, Option, Some, refl, sym, ap, subst, ◌∙◌}
use Rattle.si_flat.specs.declared.Cell.{Cell}
use Rattle.si_flat.specs.Cells.{Term, IsWhole, StandsFor}
use Rattle.si_legal.specs.declared.Posting.{Posting}
use Rattle.si_legal.specs.Trees.{inner, Tree}
use Rattle.si_insert.specs.Parting.{MayPart}
use Rattle.si_insert.specs.Walking.{GivesHead}
use Rattle.si_legal.specs.Legal.{IsLegal}
use Rattle.si_changes.specs.Nodes.{MayComeIn}
use Rattle.si_defs.specs.Substitutions.{IsAmong}
use Rattle.si_legal.proofs.PathLaws.{one_node}
use Rattle.si_flat.specs.Rows.{CellPair}
use Rattle.si_legal.specs.Bindings.{StandForBindings}
use Rattle.si_tree.specs.declared.node.Head.{Head}
use Rattle.si_tree.specs.Heads.{IsChildBy}
use Rattle.si_insert.specs.Passing.{PassesAll, PassesNever}
use Rattle.si_tree.specs.Reading.{AtNode, split_of}
use Rattle.si_insert.specs.declared.open.Opened.{Opened}
use Rattle.si_insert.specs.Inserting.{Inserts, MayInsert}
use Rattle.si_insert.proofs.WalkLaws.{Walk, walk_start, below_child, WalksOn, walked}
use Rattle.si_insert.proofs.UnderwayLaws.{may_pass}
use Rattle.si_insert.proofs.InsertLaws.{here, IsInner, inner_here, at_inner, bindings_whole, may_add_here, leaf_added, leaf_found, may_post, posted}
use Rattle.si_insert.proofs.inserting.place.Goals as goal

pub loop-split-init : goal.loop-split-init
loop-split-init c = (
  refl,
  c.root-node.ensures.legal,
  λ t stands. subst (λ k. Walk c.args.tree.now c.args.cells.now t k c.start.new.self) (sym c.root-node.ensures.root) (walk_start c.args.tree.now c.args.cells.now t c.start.new.self c.root-node.ensures.legal stands c.in_ok-start.ensures),
)

-- the term, over what the loop has
term_of : (cells : List Cell) (tree now : Tree Term) (p : Posting) → now ≡ tree → MayInsert tree cells p → (t : Term) × StandsFor cells t × MayComeIn now t p
term_of cells tree now p e may = (may.0, may.1, subst (λ k. MayComeIn k may.0 p) (sym e) may.2)

moved : (tree now new : Tree Term) (cells : List Cell) (p : Posting) (key : ℕ) → now ≡ tree → Inserts now new cells p key → Inserts tree new cells p key
moved tree now new cells p key e h = subst (λ k. Inserts k new cells p key) e h

-- the walk goes on at the child
child_step : (tree : Tree Term) (cells : List Cell) (t : Term) (key child split : ℕ) (pairs : List CellPair) (all new : List Opened) (head : Head) → IsLegal tree → StandsFor cells t → (w : Walk tree cells t key all) → IsInner tree key split w.path w.there → IsChildBy tree key head child → AtNode tree child (λ n. StandForBindings pairs n.bindings) → PassesAll cells all pairs new → WalksOn tree cells t key child new
child_step tree cells t key child split pairs all new head legal stands w i by at passes =
    let b = below_child tree key child split i.children i.node head legal i.has i.content by in
    let p = passes w.there b.node.bindings (may_pass tree key child b.node w.path t w.there cells all pairs legal w.underway w.holds b.has b.below (at b.node b.has)) in
    walked tree cells t key child split head all new legal stands w b p.0 p.1

-- the child is to be split
may_part : (tree : Tree Term) (cells : List Cell) (t : Term) (key child split : ℕ) (pairs : List CellPair) (all : List Opened) (head : Head) (p : Posting) → IsLegal tree → IsWhole cells → StandsFor cells t → MayComeIn tree t p → (w : Walk tree cells t key all) → IsInner tree key split w.path w.there → IsChildBy tree key head child → GivesHead cells all split head → AtNode tree child (λ n. StandForBindings pairs n.bindings) → PassesNever cells all pairs → MayPart tree cells all child p
may_part tree cells t key child split pairs all head p legal whole stands may w i by gives at never =
    let b = below_child tree key child split i.children i.node head legal i.has i.content by in
    record {
      legal = legal;
      whole = whole;
      term = t;
      stands = stands;
      may = may;
      key = key;
      path = w.path;
      there = w.there;
      underway = w.underway;
      holds = w.holds;
      head = head;
      by = by;
      part = i.part;
      among = subst (λ n. IsAmong w.there (n, i.part)) (split_same split by.split i.children by.children (sym i.content ∙ ap (λ n. n.content) (one_node tree key i.node by.node i.has by.has) ∙ by.content)) i.among;
      has_head = gives w.there i.part w.holds.stand i.among;
      never = λ node fs has makes. never w.there node.bindings fs (may_pass tree key child node w.path t w.there cells all pairs legal w.underway w.holds has (ap (λ n. n.parent) (one_node tree child node b.node has b.has) ∙ b.below) (at node has)) makes;
    } where
      split_same : (k n : ℕ) (ks ns : List ℕ) → inner k ks ≡ inner n ns → k ≡ n
      split_same k n ks ns e = cc

pub split-requires : goal.split-requires
split-requires c =
    let m = term_of c.args.cells.now c.args.tree.now c.loop-split.tree c.args.posting c.loop-split.invariant.0 c.requires in
    let h = here c.loop-split.tree c.args.cells.now m.0 c.loop-split.node c.loop-split.openings (c.loop-split.invariant.2 m.0 m.1) in
    (h.node, h.has)

pub child-requires : goal.child-requires
child-requires c =
    let m = term_of c.args.cells.now c.args.tree.now c.loop-split.tree c.args.posting c.loop-split.invariant.0 c.requires in
    let h = here c.loop-split.tree c.args.cells.now m.0 c.loop-split.node c.loop-split.openings (c.loop-split.invariant.2 m.0 m.1) in
    (h.node, h.has)

split_at : (tree : Tree Term) (key split : ℕ) (told : Option ℕ) → told ≡ Some split → AtNode tree key (λ n. told ≡ split_of n.content) → AtNode tree key (λ n. Some split ≡ split_of n.content)
split_at tree key split told e at = λ node has. sym e ∙ at node has

pub head_there-requires : goal.head_there-requires
head_there-requires c =
    let m = term_of c.args.cells.now c.args.tree.now c.loop-split.tree c.args.posting c.loop-split.invariant.0 c.requires in
    let w = c.loop-split.invariant.2 m.0 m.1 in
    at_inner c.loop-split.tree c.args.cells.now m.0 c.loop-split.node c.in-Some.split c.loop-split.openings c.loop-split.invariant.1 (c.requires.0, c.requires.1) m.2.leaf_term w (inner_here c.loop-split.tree c.args.cells.now m.0 c.loop-split.node c.in-Some.split c.loop-split.openings c.loop-split.invariant.1 w (split_at c.loop-split.tree c.loop-split.node c.in-Some.split c.split.result c.in-Some.is c.split.ensures))

pub add_leaf-requires-clause-whole : goal.add_leaf-requires-clause-whole
add_leaf-requires-clause-whole c =
    let m = term_of c.args.cells.now c.args.tree.now c.loop-split.tree c.args.posting c.loop-split.invariant.0 c.requires in
    bindings_whole c.loop-split.tree c.args.cells.now m.0 c.loop-split.node c.loop-split.openings c.in_ok-bindings.bindings (c.loop-split.invariant.2 m.0 m.1) c.in_ok-bindings.ensures

pub add_leaf-requires-clause-may : goal.add_leaf-requires-clause-may
add_leaf-requires-clause-may c =
    let m = term_of c.args.cells.now c.args.tree.now c.loop-split.tree c.args.posting c.loop-split.invariant.0 c.requires in
    let w = c.loop-split.invariant.2 m.0 m.1 in
    let i = inner_here c.loop-split.tree c.args.cells.now m.0 c.loop-split.node c.in-Some.split c.loop-split.openings c.loop-split.invariant.1 w (split_at c.loop-split.tree c.loop-split.node c.in-Some.split c.split.result c.in-Some.is c.split.ensures) in
    may_add_here c.loop-split.tree c.args.cells.now m.0 c.loop-split.node c.in-Some.split c.loop-split.openings c.args.posting c.head_there.result c.in_ok-bindings.bindings w i m.2 c.head_there.ensures c.in_default-child.ensures.none c.in_ok-bindings.ensures

pub returns-in_default-child-clause-ok : goal.returns-in_default-child-clause-ok
returns-in_default-child-clause-ok c =
    let m = term_of c.args.cells.now c.args.tree.now c.loop-split.tree c.args.posting c.loop-split.invariant.0 c.requires in
    let w = c.loop-split.invariant.2 m.0 m.1 in
    let i = inner_here c.loop-split.tree c.args.cells.now m.0 c.loop-split.node c.in-Some.split c.loop-split.openings c.loop-split.invariant.1 w (split_at c.loop-split.tree c.loop-split.node c.in-Some.split c.split.result c.in-Some.is c.split.ensures) in
    moved c.args.tree.now c.loop-split.tree c.add_leaf.new.self c.args.cells.now c.args.posting c.in_ok-add_leaf.field-0 c.loop-split.invariant.0 (leaf_added c.loop-split.tree c.add_leaf.new.self c.args.cells.now m.0 c.loop-split.node c.in-Some.split c.in_ok-add_leaf.field-0 c.loop-split.openings c.args.posting c.head_there.result c.in_ok-bindings.bindings c.loop-split.invariant.1 m.1 w i m.2 c.head_there.ensures c.in_default-child.ensures.none c.in_ok-bindings.ensures c.in_ok-add_leaf.ensures.ok)

pub pass-requires-clause-can_pass : goal.pass-requires-clause-can_pass
pass-requires-clause-can_pass c =
    let m = term_of c.args.cells.now c.args.tree.now c.loop-split.tree c.args.posting c.loop-split.invariant.0 c.requires in
    let w = c.loop-split.invariant.2 m.0 m.1 in
    let i = inner_here c.loop-split.tree c.args.cells.now m.0 c.loop-split.node c.in-Some.split c.loop-split.openings c.loop-split.invariant.1 w (split_at c.loop-split.tree c.loop-split.node c.in-Some.split c.split.result c.in-Some.is c.split.ensures) in
    let b = below_child c.loop-split.tree c.loop-split.node c.in-Some-child.child c.in-Some.split i.children i.node c.head_there.result c.loop-split.invariant.1 i.has i.content c.in-Some-child.ensures.some in
    (w.there, b.node.bindings, may_pass c.loop-split.tree c.loop-split.node c.in-Some-child.child b.node w.path m.0 w.there c.args.cells.now c.loop-split.openings c.bindings-in-Some.result.now c.loop-split.invariant.1 w.underway w.holds b.has b.below (c.bindings-in-Some.ensures b.node b.has))

pub loop-split-smaller : goal.loop-split-smaller
loop-split-smaller c =
    let m = term_of c.args.cells.now c.args.tree.now c.loop-split.tree c.args.posting c.loop-split.invariant.0 c.requires in
    let w = c.loop-split.invariant.2 m.0 m.1 in
    let i = inner_here c.loop-split.tree c.args.cells.now m.0 c.loop-split.node c.in-Some.split c.loop-split.openings c.loop-split.invariant.1 w (split_at c.loop-split.tree c.loop-split.node c.in-Some.split c.split.result c.in-Some.is c.split.ensures) in
    (child_step c.loop-split.tree c.args.cells.now m.0 c.loop-split.node c.in-Some-child.child c.in-Some.split c.bindings-in-Some.result.now c.loop-split.openings c.pass.new.openings c.head_there.result c.loop-split.invariant.1 m.1 w i c.in-Some-child.ensures.some c.bindings-in-Some.ensures (c.in_ok-pass.ensures.passes c.if-not-branch.false)).less

pub loop-split-preserved : goal.loop-split-preserved
loop-split-preserved c = (
  c.loop-split.invariant.0,
  c.loop-split.invariant.1,
  λ t stands.
      let w = c.loop-split.invariant.2 t stands in
      let i = inner_here c.loop-split.tree c.args.cells.now t c.loop-split.node c.in-Some.split c.loop-split.openings c.loop-split.invariant.1 w (split_at c.loop-split.tree c.loop-split.node c.in-Some.split c.split.result c.in-Some.is c.split.ensures) in
      (child_step c.loop-split.tree c.args.cells.now t c.loop-split.node c.in-Some-child.child c.in-Some.split c.bindings-in-Some.result.now c.loop-split.openings c.pass.new.openings c.head_there.result c.loop-split.invariant.1 stands w i c.in-Some-child.ensures.some c.bindings-in-Some.ensures (c.in_ok-pass.ensures.passes c.if-not-branch.false)).walk,
)

pub add_posting-requires : goal.add_posting-requires
add_posting-requires c =
    let m = term_of c.args.cells.now c.args.tree.now c.loop-split.tree c.args.posting c.loop-split.invariant.0 c.requires in
    let f = leaf_found c.loop-split.tree c.args.cells.now m.0 c.loop-split.node c.loop-split.openings c.loop-split.invariant.1 (c.loop-split.invariant.2 m.0 m.1) (λ node has. sym c.in_default.is ∙ c.split.ensures node has) in
    may_post c.loop-split.tree c.loop-split.node m.0 f.0 c.args.posting f.1 m.2

pub returns-clause-ok : goal.returns-clause-ok
returns-clause-ok c =
    let m = term_of c.args.cells.now c.args.tree.now c.loop-split.tree c.args.posting c.loop-split.invariant.0 c.requires in
    let f = leaf_found c.loop-split.tree c.args.cells.now m.0 c.loop-split.node c.loop-split.openings c.loop-split.invariant.1 (c.loop-split.invariant.2 m.0 m.1) (λ node has. sym c.in_default.is ∙ c.split.ensures node has) in
    moved c.args.tree.now c.loop-split.tree c.add_posting.new.self c.args.cells.now c.args.posting c.loop-split.node c.loop-split.invariant.0 (posted c.loop-split.tree c.add_posting.new.self c.args.cells.now c.loop-split.node m.0 f.0 c.args.posting c.loop-split.invariant.1 m.1 f.1 c.in_ok-add_posting.ensures.ok)

pub part-requires : goal.part-requires
part-requires c =
    let m = term_of c.args.cells.now c.args.tree.now c.loop-split.tree c.args.posting c.loop-split.invariant.0 c.requires in
    let w = c.loop-split.invariant.2 m.0 m.1 in
    let i = inner_here c.loop-split.tree c.args.cells.now m.0 c.loop-split.node c.in-Some.split c.loop-split.openings c.loop-split.invariant.1 w (split_at c.loop-split.tree c.loop-split.node c.in-Some.split c.split.result c.in-Some.is c.split.ensures) in
    subst (λ all. MayPart c.loop-split.tree c.args.cells.now all c.in-Some-child.child c.args.posting) (sym (c.in_ok-pass.ensures.stays c.if-not-branch.true)) (may_part c.loop-split.tree c.args.cells.now m.0 c.loop-split.node c.in-Some-child.child c.in-Some.split c.bindings-in-Some.result.now c.loop-split.openings c.head_there.result c.args.posting c.loop-split.invariant.1 (c.requires.0, c.requires.1) m.1 m.2 w i c.in-Some-child.ensures.some c.head_there.ensures c.bindings-in-Some.ensures (c.in_ok-pass.ensures.differs c.if-not-branch.true))
