-- A child by its head.
use Rattle.std.proofs.Common.{◌≡◌, ℕ, List, Some, sym, ◌∙◌, ap, subst, Option, None, IfNone}
use Rattle.si_defs.specs.Substitutions.{IsAmong}
use Rattle.si_defs.proofs.ListLaws.{get_among}
use Rattle.si_flat.specs.Cells.{Term}
use Rattle.si_legal.specs.declared.Posting.{Posting}
use Rattle.si_legal.specs.Trees.{Content, inner, leaf, Node, Tree, HasNode}
use Rattle.si_legal.specs.Legal.{IsLegal}
use Rattle.si_legal.proofs.PathLaws.{one_node}
use Rattle.si_changes.proofs.Frames.{one_right}
use Rattle.si_tree.specs.declared.node.Head.{Head}
use Rattle.si_tree.specs.Heads.{HasHead, HeadsAt, AreHeadsOf, IsChildBy, StandTogether}
use Rattle.si_tree.specs.Reading.{children_of}
use Rattle.si_tree.proofs.HeadLaws.{one_head, head_of_child, child_of_head}

pub none_weaker : {T P Q : Type 0} (r : Option T) → (P → Q) → IfNone r P → IfNone r Q
none_weaker None f p = f p
none_weaker (Some x) f p = tt

abbrev pub split_at : Content → ℕ
split_at (inner split children) = split
split_at (leaf postings) = 0

pub same_split : (m n : ℕ) (ms ns : List ℕ) → inner m ms ≡ inner n ns → m ≡ n
same_split m n ms ns e = ap split_at e

pub same_children : (m n : ℕ) (ms ns : List ℕ) → inner m ms ≡ inner n ns → ms ≡ ns
same_children m n ms ns e = ap children_of e

pub inner_no_leaf : (n : ℕ) (ns : List ℕ) (ps : List Posting) → inner n ns ≡ leaf ps → ⊥
inner_no_leaf n ns ps e = cc

-- a head binds one child's split
pub same_head_at : (tree : Tree Term) (split child : ℕ) (h k : Head) → IsLegal tree → HeadsAt tree split child h → HeadsAt tree split child k → h ≡ k
same_head_at tree split child h k legal (t, (node, has, binds), p) (u, (other, has', binds'), q) =
    let same : node ≡ other = one_node tree child node other has has' in
    let right : t ≡ u = one_right node.bindings split t u (legal.nodes child node has).binds.distinct binds (subst (λ n. IsAmong n.bindings (split, u)) (sym same) binds') in
    one_head u h k (subst (λ v. HasHead v h) right p) q

-- the place of a head leads to the child with that head
pub by_head : (tree : Tree Term) (key : ℕ) (node : Node Term) (split : ℕ) (heads : List Head) (children : List ℕ) (head : Head) → HasNode tree key node → node.content ≡ inner split children → AreHeadsOf tree split heads children → (child : ℕ) → StandTogether heads children head child → IsChildBy tree key head child
by_head tree key node split heads children head has content are child (place, h, k) =
    let found = child_of_head tree split heads children head child place are h k in
    record {
      node = node;
      split = split;
      children = children;
      has = has;
      content = content;
      among = found.0;
      by = found.1;
    }

-- the head of a child stands among them
pub among_by_head : (tree : Tree Term) (key : ℕ) (node : Node Term) (split : ℕ) (heads : List Head) (children : List ℕ) (head : Head) → IsLegal tree → HasNode tree key node → node.content ≡ inner split children → AreHeadsOf tree split heads children → (child : ℕ) → IsChildBy tree key head child → IsAmong heads head
among_by_head tree key node split heads children head legal has content are child by =
    let same : node ≡ by.node = one_node tree key node by.node has by.has in
    let contents : inner split children ≡ inner by.split by.children = sym content ∙ ap (λ n. n.content) same ∙ by.content in
    let among : IsAmong children child = subst (λ cs. IsAmong cs child) (sym (same_children split by.split children by.children contents)) by.among in
    let found = head_of_child tree split heads children child are among in
    let there = subst (λ n. HeadsAt tree n child head) (sym (same_split split by.split children by.children contents)) by.by in
    subst (λ h. IsAmong heads h) (same_head_at tree split child found.0 head legal found.2 there) (get_among heads found.1.0 found.0 found.1.1)

-- a leaf has no child
pub none_at_leaf : (tree : Tree Term) (key : ℕ) (node : Node Term) (postings : List Posting) (head : Head) → HasNode tree key node → node.content ≡ leaf postings → (child : ℕ) → IsChildBy tree key head child → ⊥
none_at_leaf tree key node postings head has content child by =
    inner_no_leaf by.split by.children postings (sym by.content ∙ ap (λ n. n.content) (one_node tree key by.node node by.has has) ∙ content)
