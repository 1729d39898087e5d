-- The child that has a head, by its place.
use Rattle.std.proofs.Common.{◌≡◌, ℕ, zero, suc, List, [], ◌∷◌, Some, refl, sym, ◌∙◌, ap, subst}
use Rattle.std.specs.Prelude.{slice_get}
use Rattle.si_legal.specs.Trees.{inner}
use Rattle.si_defs.specs.Substitutions.{IsAmong, AreDistinct}
use Rattle.si_defs.proofs.ListLaws.{get_among}
use Rattle.si_tree.specs.declared.node.Head.{Head}
use Rattle.si_tree.specs.Nodes.{TreeNode}
use Rattle.si_tree.specs.KeptNodes.{content_of, heads_of, HasChildBy}
use Rattle.si_tree.proofs.ChildLaws.{same_children}

-- an item of distinct ones has one place
one_place : {X : Type 0} (xs : List X) (m n : ℕ) (x : X) → AreDistinct xs → slice_get xs m ≡ Some x → slice_get xs n ≡ Some x → m ≡ n
one_place [] m n x distinct p q = absurd (by p) where
  by : slice_get [] m ≡ Some x → ⊥
  by e = cc
one_place (y ∷ xs) zero zero x distinct p q = refl
one_place (y ∷ xs) zero (suc n) x distinct p q = absurd (distinct.0 (get_among xs n y (q ∙ sym p)))
one_place (y ∷ xs) (suc m) zero x distinct p q = absurd (distinct.0 (get_among xs m y (p ∙ sym q)))
one_place (y ∷ xs) (suc m) (suc n) x distinct p q = ap suc (one_place xs m n x distinct.1 p q)

module _ (n : TreeNode) (split : ℕ) (heads : List Head) (children : List ℕ) (content : content_of n.content ≡ inner split children) (heads_are : heads_of n.content ≡ heads) (head : Head) (child : ℕ) (has : HasChildBy n head child) where
  pub head_among : IsAmong heads head
  head_among = subst (λ hs. IsAmong hs head) heads_are (get_among (heads_of n.content) has.together.0 head has.together.1)

  children_are : has.children ≡ children
  children_are = same_children _ _ _ _ (sym has.content ∙ content)

  -- the place of the head is the child's
  pub child_at : (place : ℕ) → slice_get heads place ≡ Some head → slice_get children place ≡ Some child
  child_at place got =
      let same = one_place (heads_of n.content) has.together.0 place head has.distinct has.together.1 (subst (λ hs. slice_get hs place ≡ Some head) (sym heads_are) got) in
      sym (λ i. slice_get (children_are i) (same i)) ∙ has.together.2
