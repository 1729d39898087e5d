-- Nodes that get what they are to have: what each has then.
use Rattle.std.proofs.Common.{◌≡◌, ◌≢◌, ℕ, inl, inr, List, [], ◌∷◌, Option, None, Some, refl, sym, ◌∙◌, ap, subst}
use Rattle.std.specs.Prelude.{is_some}
use Rattle.std.proofs.lemmas.Bool.{cases_eq}
use Rattle.slab.specs.Slab.{Slab, get, ContainsKey, with_value}
use Rattle.slab.proofs.SlabLemmas.{Updates-with_value}
use Rattle.si_defs.specs.Substitutions.{IsAmong, AreDistinct}
use Rattle.si_tree.specs.Nodes.{TreeNode}
use Rattle.si_tree.specs.declared.renumber.Renumbered.{Renumbered}
use Rattle.si_tree.specs.Renumbers.{with_numbers, keys_of, AreKeysOf, renumbered_slot, exchanged}

key_stays : (nodes : Slab TreeNode) (key other : ℕ) (m : TreeNode) → ContainsKey nodes key → ContainsKey nodes other → ContainsKey (with_value nodes key m) other
key_stays nodes key other m there has = elim (cases_eq other key) as (λ _. ContainsKey (with_value nodes key m) other) [
  | inl same ↦ ap is_some (ap (get (with_value nodes key m)) same ∙ (Updates-with_value nodes key m there).changed)
  | inr apart ↦ ap is_some ((Updates-with_value nodes key m there).others other apart) ∙ has
]

pub keys_stay : (nodes : Slab TreeNode) (key : ℕ) (m : TreeNode) (all : List Renumbered) → ContainsKey nodes key → AreKeysOf nodes all → AreKeysOf (with_value nodes key m) all
keys_stay nodes key m [] there are = tt
keys_stay nodes key m (r ∷ rs) there are = (key_stays nodes key r.node m there are.0, keys_stay nodes key m rs there are.1)

pub exchanged_one : (nodes : Slab TreeNode) (r : Renumbered) (rest : List Renumbered) (n : TreeNode) → get nodes r.node ≡ Some n → exchanged nodes (r ∷ rest) ≡ exchanged (with_value nodes r.node (with_numbers r.bindings r.split n)) rest
exchanged_one nodes r rest n got = ap (λ slot. exchanged (renumbered_slot nodes r slot) rest) got

-- ---- one key
slot_other : (nodes : Slab TreeNode) (r : Renumbered) (slot : Option TreeNode) (k : ℕ) → get nodes r.node ≡ slot → k ≢ r.node → get (renumbered_slot nodes r slot) k ≡ get nodes k
slot_other nodes r None k got apart = refl
slot_other nodes r (Some n) k got apart = (Updates-with_value nodes r.node (with_numbers r.bindings r.split n) (ap is_some got)).others k apart

slot_here : (nodes : Slab TreeNode) (r : Renumbered) (n : TreeNode) → get nodes r.node ≡ Some n → get (renumbered_slot nodes r (Some n)) r.node ≡ Some (with_numbers r.bindings r.split n)
slot_here nodes r n got = (Updates-with_value nodes r.node (with_numbers r.bindings r.split n) (ap is_some got)).changed

pub exchanged_other : (nodes : Slab TreeNode) (all : List Renumbered) (k : ℕ) → (IsAmong (keys_of all) k → ⊥) → get (exchanged nodes all) k ≡ get nodes k
exchanged_other nodes [] k other = refl
exchanged_other nodes (r ∷ rs) k other =
    exchanged_other (renumbered_slot nodes r (get nodes r.node)) rs k (λ a. other (inr a))
    ∙ slot_other nodes r (get nodes r.node) k refl (λ e. other (inl (sym e)))

key_among : (all : List Renumbered) (r : Renumbered) → IsAmong all r → IsAmong (keys_of all) r.node
key_among [] r a = absurd a
key_among (q ∷ all) r (inl e) = inl (ap (λ x. x.node) e)
key_among (q ∷ all) r (inr a) = inr (key_among all r a)

-- each of distinct keys has what it is to have
pub exchanged_here : (nodes : Slab TreeNode) (all : List Renumbered) (r : Renumbered) (n : TreeNode) → AreDistinct (keys_of all) → IsAmong all r → get nodes r.node ≡ Some n → get (exchanged nodes all) r.node ≡ Some (with_numbers r.bindings r.split n)
exchanged_here nodes [] r n distinct a got = absurd a
exchanged_here nodes (q ∷ rs) r n distinct (inl e) got =
    let first : get (renumbered_slot nodes q (get nodes q.node)) q.node ≡ Some (with_numbers q.bindings q.split n) = first_of (ap (λ x. get nodes x.node) e ∙ got) in
    subst (λ x. get (exchanged nodes (q ∷ rs)) x.node ≡ Some (with_numbers x.bindings x.split n)) e
    (exchanged_other (renumbered_slot nodes q (get nodes q.node)) rs q.node distinct.0 ∙ first) where
      first_of : get nodes q.node ≡ Some n → get (renumbered_slot nodes q (get nodes q.node)) q.node ≡ Some (with_numbers q.bindings q.split n)
      first_of there = ap (λ slot. get (renumbered_slot nodes q slot) q.node) there ∙ slot_here nodes q n there
exchanged_here nodes (q ∷ rs) r n distinct (inr a) got =
    exchanged_here (renumbered_slot nodes q (get nodes q.node)) rs r n distinct.1 a
    (slot_other nodes q (get nodes q.node) r.node refl (λ e. distinct.0 (subst (IsAmong (keys_of rs)) e (key_among rs r a))) ∙ got)
