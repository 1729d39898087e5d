-- Leaves as they are found, and their lists as they are made.
use Rattle.std.proofs.Common.{◌≡◌, inl, inr, ℕ, ◌<◌, true, false, List, [], ◌∷◌, ◌++◌, Option, is_some, length, get_or, refl, sym, ◌∙◌, ap, subst, set}
use Rattle.std.specs.Prelude.{None, Some, slice_get}
use Rattle.std.proofs.lemmas.Bool.{false≢true}
use Rattle.std.proofs.lemmas.Bool.Decides.{eqb_tells}
use Rattle.std.proofs.lemmas.Option.{same_Some, none-some, slice_get_within, slice_get-get_or}
use Rattle.si_defs.specs.Entries.{Entry}
use Rattle.si_defs.proofs.ListLaws.{get_front, get_either, set_same, set_other}
use Rattle.si_state.specs.Answers.{Stands}
use Rattle.si_form.specs.declared.solution.Binding.{Binding}
use Rattle.si_changes.proofs.StoredLaws.{one_leaf}
use Rattle.si_flat.specs.Cells.{Term}
use Rattle.si_index.specs.Leaves.{HasLeafAt, HasMade, IsUnmade, AreUnmade, StayMade}
use Rattle.si_index.specs.Searching.{numbers_of, pattern_in, term_in, tree_in, IsReadyToSearch, IsKnownEntry, SolvesTerm, IsLeafOf, IsOfLeaf, AreMade, HasList}
use Rattle.si_index.specs.declared.search.Search.{Search}
use Rattle.si_index.specs.declared.wanted.Leaf.{Leaf}
use Rattle.si_index.proofs.SolvedLaws.{term_solves}

-- ---- what is known of leaves
pub stays_itself : (leaves : List Leaf) → StayMade leaves leaves
stays_itself leaves = record { nodes = λ n node h. h; lists = λ n list h. h }

pub of_leaf_stays : (s : Search) (old new : List Leaf) (n : ℕ) (e : Entry) → StayMade old new → IsOfLeaf s old n e → IsOfLeaf s new n e
of_leaf_stays s old new n e stay h = (h.0, stay.nodes n h.0 h.1, h.2)

one_made : (leaves : List Leaf) (n node other : ℕ) → HasLeafAt leaves n node → HasLeafAt leaves n other → node ≡ other
one_made leaves n node other h g = sym h.2 ∙ ap (λ (l : Leaf). l.node) (same_Some h.0 g.0 (sym h.1 ∙ g.1)) ∙ g.2

-- ---- a leaf comes
pub pushed_stays : (leaves : List Leaf) (l : Leaf) → StayMade leaves (leaves ++ l ∷ [])
pushed_stays leaves l = record {
  nodes = λ n node h. (h.0, get_front leaves (l ∷ []) n h.0 h.1, h.2);
  lists = λ n list h. (h.0, get_front leaves (l ∷ []) n h.0 h.1, h.2);
}

pub pushed_unmade : (leaves : List Leaf) (l : Leaf) → l.list ≡ None → AreUnmade leaves → AreUnmade (leaves ++ l ∷ [])
pushed_unmade leaves l none unmade n m got =
    elim (get_either leaves l n m got) [
      | inl there ↦ unmade n m there
      | inr last ↦ ap (λ (k : Leaf). k.list) last.1 ∙ none
    ]

pub none_made : (s : Search) (leaves : List Leaf) → AreUnmade leaves → AreMade s leaves
none_made s leaves unmade n list h = absurd (none-some list (sym (unmade n h.0 h.1) ∙ h.2))

-- ---- a list is made
module _ (leaves : List Leaf) (at : ℕ) (l made : Leaf) (here : slice_get leaves at ≡ Some l) (none : l.list ≡ None) (same : made.node ≡ l.node) where
  inside : at < length leaves
  inside = slice_get_within leaves at l here

  at_made : slice_get (set leaves at made) at ≡ Some made
  at_made = set_same leaves at made inside

  pub made_stays : StayMade leaves (set leaves at made)
  made_stays = record {
    nodes = λ n node h. elim (eqb_tells n at) as (λ _. HasLeafAt (set leaves at made) n node) [
      | inl is ↦
          let own : l ≡ h.0 = same_Some l h.0 (sym here ∙ ap (slice_get leaves) (sym is.1) ∙ h.1) in
          (made, ap (slice_get (set leaves at made)) is.1 ∙ at_made, same ∙ ap (λ (k : Leaf). k.node) own ∙ h.2)
      | inr apart ↦ (h.0, set_other leaves at n made apart.1 ∙ h.1, h.2)
    ];
    lists = λ n list h. elim (eqb_tells n at) as (λ _. HasMade (set leaves at made) n list) [
      | inl is ↦
          let own : l ≡ h.0 = same_Some l h.0 (sym here ∙ ap (slice_get leaves) (sym is.1) ∙ h.1) in
          absurd (none-some list (sym none ∙ ap (λ (k : Leaf). k.list) own ∙ h.2))
      | inr apart ↦ (h.0, set_other leaves at n made apart.1 ∙ h.1, h.2)
    ];
  }

  pub has_made : (list : List Binding) → made.list ≡ Some list → HasMade (set leaves at made) at list
  has_made list is = (made, at_made, is)

  -- by an entry of the leaf
  pub are_made : (s : Search) (e : Entry) (list : List Binding) → made.list ≡ Some list → IsOfLeaf s leaves at e → SolvesTerm s (term_in s e) list → AreMade s leaves → AreMade s (set leaves at made)
  are_made s e list is of_leaf solves all n other h =
      elim (eqb_tells n at) as (λ _. (node : ℕ) × HasLeafAt (set leaves at made) n node × ((t : Term) × IsLeafOf (tree_in s) node t × SolvesTerm s t other)) [
        | inl here_too ↦
            let own : made ≡ h.0 = same_Some made h.0 (sym at_made ∙ ap (slice_get (set leaves at made)) (sym here_too.1) ∙ h.1) in
            let lists : list ≡ other = same_Some list other (sym is ∙ ap (λ (k : Leaf). k.list) own ∙ h.2) in
            let moved = of_leaf_stays s leaves (set leaves at made) at e made_stays of_leaf in
            (moved.0, subst (λ m. HasLeafAt (set leaves at made) m moved.0) (sym here_too.1) moved.1, (term_in s e, moved.2, subst (SolvesTerm s (term_in s e)) lists solves))
        | inr apart ↦
            let before = all n other (h.0, sym (set_other leaves at n made apart.1) ∙ h.1, h.2) in
            (before.0, made_stays.nodes n before.0 before.1, before.2)
      ]

-- ---- the list that a leaf has is that of each of its entries
pub has_list : (s : Search) (leaves : List Leaf) (n : ℕ) (e : Entry) (list : List Binding) → IsReadyToSearch s → IsKnownEntry (numbers_of s) e → Stands s.relation (pattern_in s) e → IsOfLeaf s leaves n e → AreMade s leaves → HasMade leaves n list
    → HasList s e leaves n
has_list s leaves n e list ready known stands of_leaf made h =
    let own = made n list h in
    let node = one_made leaves n own.0 of_leaf.0 own.1 of_leaf.1 in
    let leaf = subst (λ k. IsLeafOf (tree_in s) k own.2.0) node own.2.1 in
    let term : own.2.0 ≡ term_in s e = (one_leaf (tree_in s) of_leaf.0 own.2.0 (term_in s e) leaf.0 of_leaf.2.0 leaf.1 of_leaf.2.1).0 in
    (list, h, term_solves s e list ready known stands (subst (λ t. SolvesTerm s t list) term own.2.2))

-- ---- a leaf that was read
some_list : (list : Option (List Binding)) → is_some list ≡ true → (is : List Binding) × (list ≡ Some is)
some_list (Some is) some = (is, refl)
some_list None some = absurd (false≢true some)

no_list : (list : Option (List Binding)) → is_some list ≡ false → list ≡ None
no_list None none = refl
no_list (Some is) none = absurd (false≢true (sym none))

module _ (s : Search) (leaves : List Leaf) (n : ℕ) (e : Entry) (read : Leaf) (of_leaf : IsOfLeaf s leaves n e) (is : read ≡ get_or leaves n read) where
  pub leaf_inside : n < length leaves
  leaf_inside = slice_get_within leaves n of_leaf.1.0 of_leaf.1.1

  pub got_leaf : slice_get leaves n ≡ Some read
  got_leaf = slice_get-get_or leaves n read leaf_inside ∙ ap Some (sym is)

  pub has_list_there : IsReadyToSearch s → IsKnownEntry (numbers_of s) e → Stands s.relation (pattern_in s) e → AreMade s leaves → is_some read.list ≡ true → HasList s e leaves n
  has_list_there ready known stands made some =
      let own = some_list read.list some in
      has_list s leaves n e own.0 ready known stands of_leaf made (read, got_leaf, own.1)

  pub unmade_there : is_some read.list ≡ false → IsUnmade leaves n
  unmade_there none leaf got = ap (λ (l : Leaf). l.list) (same_Some leaf read (sym got ∙ got_leaf)) ∙ no_list read.list none
