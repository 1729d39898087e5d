-- Heads of terms as the code tells them, and children by their heads.
use Rattle.std.specs.Prelude.{◌≡◌, ℕ, List, [], ◌∷◌, Some, slice_get}
use Rattle.si_defs.specs.Terms as terms
use Rattle.si_defs.specs.Substitutions.{IsAmong}
use Rattle.si_flat.specs.Cells.{entry, Term}
use Rattle.si_legal.specs.Trees.{inner, Node, Tree, HasNode}
use Rattle.si_legal.specs.Legal.{ChildBinds}
use Rattle.si_tree.specs.declared.node.Head.{Head}
use Rattle.si_tree.specs.declared.node.Head.TheVariants.{Sym, Var}

-- the term's head is this symbol, or it is this variable of an entry
abbrev pub HasHead : Term → Head → Type 0
HasHead (terms.app s ts) (Sym number arity) = (s.number ≡ number) × (s.arity ≡ arity)
HasHead (terms.var (entry m)) (Var n) = m ≡ n
HasHead _ _ = ⊥

-- the child gives the split a term with this head
abbrev pub HeadsAt : Tree Term → ℕ → ℕ → Head → Type 0
HeadsAt tree split child head = (t : Term) × ChildBinds tree child split t × HasHead t head

-- the children have these heads, in order
abbrev pub AreHeadsOf : Tree Term → ℕ → List Head → List ℕ → Type 0
AreHeadsOf tree split [] [] = Unit {0}
AreHeadsOf tree split [] (child ∷ children) = ⊥
AreHeadsOf tree split (head ∷ heads) [] = ⊥
AreHeadsOf tree split (head ∷ heads) (child ∷ children) =
    HeadsAt tree split child head × AreHeadsOf tree split heads children

-- this is the child of an inner node that has this head
pub record IsChildBy (tree : Tree Term) (key : ℕ) (head : Head) (child : ℕ) : Type 0 where
  pub node : Node Term
  pub split : ℕ
  pub children : List ℕ
  pub has : HasNode tree key node
  pub content : node.content ≡ inner split children
  pub among : IsAmong children child
  pub by : HeadsAt tree split child head

-- ---- heads in lists
-- the head stands at one place, and the child at the same place
abbrev pub StandTogether : List Head → List ℕ → Head → ℕ → Type 0
StandTogether heads children head child =
    (place : ℕ) × (slice_get heads place ≡ Some head) × (slice_get children place ≡ Some child)
