-- Where a search begins: what is known above, and that all is closed where that isn't open.
use Rattle.std.proofs.Common.{◌≡◌, ℕ, List, ◌∷◌, Some, refl, sym, subst}
use Rattle.si_defs.specs.declared.Relation.{Relation}
use Rattle.si_defs.specs.declared.Relation.TheVariants.{Variants, Instances, Generalizations, Unifiable}
use Rattle.si_flat.specs.declared.Cell.{Cell}
use Rattle.si_flat.specs.Cells.{query, Term, StandsFor}
use Rattle.si_flat.specs.Flattened.{IsNumberedBy}
use Rattle.si_trail.specs.Trails.{HasDistinctSlots}
use Rattle.si_unify.specs.declared.slots.Slots.{Slots}
use Rattle.si_unify.specs.Solving.{Pairs, AllowsSolving}
use Rattle.si_unify.proofs.Reading.{one_term}
use Rattle.si_legal.specs.Trees.{Node, Tree, HasNode, IsPath, path_term}
use Rattle.si_legal.specs.OpenNodes.{IsOpen}
use Rattle.si_changes.proofs.Frames.{legal_nodes}
use Rattle.si_changes.proofs.StoredLaws.{path_start}
use Rattle.si_descend.specs.declared.search.Search.{Search}
use Rattle.si_descend.specs.Descending.{HasSlotsForTree, Renames, ShowsAbove}
use Rattle.si_descend.specs.Renaming.{IsRenaming}
use Rattle.si_descend.specs.Searching.{IsReady, KeepsApart, HasComeTo, IsClosedAt}
use Rattle.si_descend.proofs.Entered.{variants_freeze}
use Rattle.si_descend.proofs.FreeLaws.{some_solution}
use Rattle.si_descend.proofs.Openness.{open_solved, renames_fewer, entry_kept}
use Rattle.si_descend.proofs.VariantLaws.{open_renaming}

module _ (search : Search) (ready : IsReady search) (key : ℕ) (node : Node Term) (has : HasNode search.tree.now key node) (pairs : Pairs) (count : ℕ) (solving : AllowsSolving search.slots pairs count) (distinct : HasDistinctSlots pairs) (above : ShowsAbove search.slots pairs search.tree.now key search.query.now) where
  pub comes_to : KeepsApart search.relation search.slots pairs → HasComeTo search node.parent pairs
  comes_to apart = record {
    shows = λ q path h reached. above node path q has reached h;
    solution = some_solution search.slots pairs solving.bindings distinct solving.triangular;
    apart = apart;
  }

  -- where the bindings above don't keep the entry's variables apart, the node is closed
  pub closed_above : (KeepsApart search.relation search.slots pairs → ⊥) → IsClosedAt search key
  closed_above none = by search.relation refl where
    numbered : (q : Term) → StandsFor search.query.now q → IsNumberedBy query q
    numbered q h = subst (IsNumberedBy query) (one_term search.query.now ready.term q ready.query.stands h) ready.query.numbered

    by : (relation : Relation) → search.relation ≡ relation → IsClosedAt search key
    by Variants e q path h reached is =
        let start = path_start search.tree.now key node path has reached in
        let here : IsPath search.tree.now (Some key) ((key, node) ∷ start.0) = subst (IsPath search.tree.now (Some key)) start.1 reached in
        let is_open : IsOpen search.relation q (path_term ((key, node) ∷ start.0)) = subst (λ p. IsOpen search.relation q (path_term p)) start.1 is in
        let legal = legal_nodes search.tree.now ready.legal in
        let s = open_solved search.tree.now legal search.slots q (numbered q h) (Some key) ((key, node) ∷ start.0) here search.relation ready.freezes is_open in
        let shows = above node start.0 q has here.2 h in
        let solved = (shows s.map).1 (record { frozen = s.solves.frozen; zero = s.solves.zero; bindings = s.solves.bindings.1 }) in
        let fewer = renames_fewer Variants (path_term start.0) (path_term ((key, node) ∷ start.0)) s.map (λ m a. entry_kept node.bindings (path_term start.0) m a) (subst (λ k. Renames k (path_term ((key, node) ∷ start.0)) s.map) e s.renames) in
        let renaming : IsRenaming search.slots pairs = open_renaming search.tree.now legal search.slots (variants_freeze search ready e) q (numbered q h) (subst (HasSlotsForTree search.slots search.tree.now) (one_term search.query.now ready.term q ready.query.stands h) ready.room) node.parent start.0 here.2 pairs count shows solving distinct s.map solved fewer in
        none (subst (λ k. KeepsApart k search.slots pairs) (sym e) renaming)
    by Instances e q path h reached is = none (subst (λ k. KeepsApart k search.slots pairs) (sym e) tt)
    by Generalizations e q path h reached is = none (subst (λ k. KeepsApart k search.slots pairs) (sym e) tt)
    by Unifiable e q path h reached is = none (subst (λ k. KeepsApart k search.slots pairs) (sym e) tt)

-- the search is for what was asked
pub asked_above : (search : Search) (tree : Tree Term) (slots : Slots) (cells : List Cell) (pairs : Pairs) (key : ℕ) → search.tree.now ≡ tree → search.query.now ≡ cells → search.slots ≡ slots → ShowsAbove slots pairs tree key cells → ShowsAbove search.slots pairs search.tree.now key search.query.now
asked_above search tree slots cells pairs key e f g h =
    subst (λ t. ShowsAbove search.slots pairs t key search.query.now) (sym e)
    (subst (λ l. ShowsAbove search.slots pairs tree key l) (sym f)
    (subst (λ s. ShowsAbove s pairs tree key cells) (sym g) h))
