-- What stands among the children of a node of a legal tree is a node.
use Rattle.std.proofs.Common.{◌≡◌, ℕ, ◌<◌, ◌∷◌, List, length, get_or, sym, subst}
use Rattle.si_defs.specs.Substitutions.{IsAmong}
use Rattle.si_defs.proofs.ListLaws.{all_from, all_get}
use Rattle.si_flat.specs.Cells.{Term}
use Rattle.si_legal.specs.Trees.{Content, inner, leaf, Tree, Path}
use Rattle.si_legal.specs.Legal.{IsLegal, IsLegalContent}
use Rattle.si_tree.specs.Reading.{IsNode, AtNode, children_of}

child_of : (tree : Tree Term) (key : ℕ) (path : Path) (content : Content) → IsLegalContent tree key path content → (child : ℕ) → IsAmong (children_of content) child → IsNode tree child
child_of tree key path (inner split children) l child a = let there = (l.1 child).0 a in (there.0, there.1)
child_of tree key path (leaf postings) l child a = absurd a

pub child_is_node : (tree : Tree Term) → IsLegal tree → (key : ℕ) → IsNode tree key → (children : List ℕ) → AtNode tree key (λ n. children ≡ children_of n.content) → (place child : ℕ) → place < length children → child ≡ get_or children place child → IsNode tree child
child_is_node tree legal key node children read place child within is =
    let h = legal.nodes key node.0 node.1 in
    child_of tree key ((key, node.0) ∷ h.above) node.0.content h.content child
    (subst (λ all. IsAmong all child) (read node.0 node.1)
    (subst (IsAmong children) (sym is) (all_get (IsAmong children) children place child (all_from (IsAmong children) children (λ x a. a)) within)))
