-- How long right sides are: of a node, and of all nodes.
use Rattle.std.proofs.Common.{◌≤◌, ℕ, List, [], ◌∷◌, length, subst, arith}
use Rattle.si_defs.specs.Substitutions.{IsAmong}
use Rattle.si_defs.proofs.ListLaws.{all_weaker}
use Rattle.si_flat.specs.Cells.{Term, cells_of}
use Rattle.si_flat.specs.Rows.{CellPair}
use Rattle.si_legal.specs.Bindings.{Binding, StandForBindings}
use Rattle.si_legal.specs.Trees.{Content, inner, leaf, Node, Tree, HasNode}
use Rattle.si_legal.specs.Legal.{IsLegalContent}
use Rattle.si_changes.proofs.Frames.{HasLegalNodes}
use Rattle.si_tree.specs.Reading.{children_of}
use Rattle.si_descend.specs.Lending.{AreNoLongerBindings, AreRightsNoLongerThan, most_cells}
use Rattle.si_descend.proofs.Below.{IsChildOf}

-- ---- one node
pub no_longer : (n : ℕ) (rows : List CellPair) (bs : List Binding) → StandForBindings rows bs → most_cells rows ≤ n → AreNoLongerBindings n bs
no_longer n [] [] stand h = tt
no_longer n [] (b ∷ bs) stand h = absurd stand
no_longer n (r ∷ rows) [] stand h = absurd stand
no_longer n (r ∷ rows) (b ∷ bs) stand h =
    (subst (λ l. length l ≤ n) stand.1.cells_are (omega (arith, h)), no_longer n rows bs stand.2 (omega (arith, h)))

pub bindings_wider : (m n : ℕ) (bs : List Binding) → m ≤ n → AreNoLongerBindings m bs → AreNoLongerBindings n bs
bindings_wider m n bs less h = all_weaker (λ b. length (cells_of b.1) ≤ m) (λ b. length (cells_of b.1) ≤ n) bs (λ b short. omega (arith, short, less)) h

module _ (tree : Tree Term) where
  module _ (legal : HasLegalNodes tree) (key : ℕ) (node : Node Term) (has : HasNode tree key node) where
    pub child_among : (child : ℕ) → IsChildOf tree key child → IsAmong (children_of node.content) child
    child_among child is = by node.content (legal.nodes key node has).content where
      by : (c : Content) → IsLegalContent tree key ((key, node) ∷ (legal.nodes key node has).above) c → IsAmong (children_of c) child
      by (inner split children) h = (h.1 child).1 is
      by (leaf ps) h = (h.0 child).1 is

    pub among_child : (child : ℕ) → IsAmong (children_of node.content) child → IsChildOf tree key child
    among_child child a = by node.content (legal.nodes key node has).content a where
      by : (c : Content) → IsLegalContent tree key ((key, node) ∷ (legal.nodes key node has).above) c → IsAmong (children_of c) child → IsChildOf tree key child
      by (inner split children) h b = (h.1 child).0 b
      by (leaf ps) h b = absurd b

-- ---- the whole tree
pub rights_wider : (tree : Tree Term) (m n : ℕ) → m ≤ n → AreRightsNoLongerThan m tree → AreRightsNoLongerThan n tree
rights_wider tree m n less h key node has = bindings_wider m n node.bindings less (h key node has)
