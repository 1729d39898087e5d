-- The leaf of a posting that is stored is the one that is noted.
use Rattle.std.proofs.Common.{◌≡◌, ◌<◌, ℕ, Bool, List, get_or, length, Some, slice_get, refl, sym, ◌∙◌, ap, subst}
use Rattle.std.proofs.lemmas.Option.{same_Some, slice_get-get_or, slice_get_within}
use Rattle.si_flat.specs.Cells.{Term}
use Rattle.si_legal.specs.declared.Posting.{Posting}
use Rattle.si_legal.specs.Trees.{StandsIn}
use Rattle.si_legal.specs.StoredSets.{IsUnder}
use Rattle.si_held.specs.TwoTrees.{TwoTrees, tree_for}
use Rattle.si_forest.specs.Locations.{Location, location}
use Rattle.si_forest.specs.Kept.{AreNoted}

module _ (notes : ℕ → List Location) (trees : TwoTrees) (literal : Bool) (p : Posting) (noted : AreNoted notes trees) (stored : (t : Term) × IsUnder (tree_for literal trees) t p) (own : List Location) (read : own ≡ notes p.clause) where
  at : (leaf : ℕ) × (slice_get own p.entry ≡ Some (location literal leaf))
  at = subst (λ l. (leaf : ℕ) × (slice_get l p.entry ≡ Some (location literal leaf))) (sym read) ((noted.each p.clause).located literal stored.0 p stored.1 refl)

  pub is_inside : p.entry < length own
  is_inside = slice_get_within own p.entry (location literal at.0) at.1

  pub noted_leaf : (here : Location) → here ≡ get_or own p.entry here → (t : Term) × StandsIn (tree_for literal trees) here.leaf t p
  noted_leaf here reads =
      let same : location literal at.0 ≡ here = same_Some (location literal at.0) here (sym at.1 ∙ slice_get-get_or own p.entry here is_inside ∙ ap Some (sym reads)) in
      let stands = (noted.each p.clause).stand p.entry (location literal at.0) (ap (λ l. slice_get l p.entry) (sym read) ∙ at.1) in
      subst (λ (l : Location). (t : Term) × StandsIn (tree_for literal trees) l.leaf t p) same stands
