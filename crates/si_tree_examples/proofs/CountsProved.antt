-- Open nodes of the tree of five nodes, counted.
use Rattle.std.proofs.Common.{◌≡◌, ◌↔◌, inl, inr, ℕ, [], ◌∷◌, List, Some, refl, ap, sym, subst, arith}
use Rattle.std.specs.List.{AllByRecursion}
use Rattle.std.proofs.lemmas.Option.{same_Some}
use Rattle.si_defs.specs.Substitutions.{IsAmong, AreDistinct}
use Rattle.si_defs.specs.Relations.{IsUnifiable}
use Rattle.si_defs.specs.declared.Relation.TheVariants.{Unifiable}
use Rattle.si_defs.proofs.ListLaws.{all_at}
use Rattle.si_flat.specs.Cells.{query, ind, same_variable, Term}
use Rattle.si_legal.specs.Trees.{Node, Path, IsPath, path_term}
use Rattle.si_legal.specs.OpenNodes.{IsOpenNode}
use Rattle.si_legal.proofs.PathLaws.{one_path}
use Rattle.si_changes.proofs.FewOpened.{few_members}
use Rattle.si_tree_examples.specs.SomeTerms.{f, a, b, c, y}
use Rattle.si_tree_examples.specs.SomeTrees.{five_nodes}
use Rattle.si_tree_examples.specs.SomeOpenNodes.{FourOpen, NoOtherCount}
use Rattle.si_tree_examples.proofs.FiveNodesProved.{each_node, leaf_a, leaf_b, leaf_c, above_leaf, above_middle, not_none, symbol_in}

abbrev asked : Term
asked = f (y ∷ [])

abbrev keys : List ℕ
keys = 0 ∷ 2 ∷ 1 ∷ 3 ∷ []

abbrev IsOpenKey : ℕ → Type 0
IsOpenKey key = IsOpenNode five_nodes 0 Unifiable asked key

-- ---- these are open
are_open : (key : ℕ) → IsAmong keys key → IsOpenKey key
are_open key (inl e) =
    subst IsOpenKey e (record {
      path = above_middle;
      leads = (refl, refl, refl);
      below = inl refl;
      open_for = ((ind 0, asked) ∷ [], refl);
    })
are_open key (inr (inl e)) =
    subst IsOpenKey e (record {
      path = above_leaf;
      leads = (refl, refl, (refl, refl, refl));
      below = inr (inl refl);
      open_for = ((ind 1, y) ∷ [], refl);
    })
are_open key (inr (inr (inl e))) =
    subst IsOpenKey e (record {
      path = (1, leaf_a) ∷ above_leaf;
      leads = (refl, refl, (refl, refl, (refl, refl, refl)));
      below = inr (inr (inl refl));
      open_for = ((query 0, a) ∷ [], refl);
    })
are_open key (inr (inr (inr (inl e)))) =
    subst IsOpenKey e (record {
      path = (3, leaf_b) ∷ above_leaf;
      leads = (refl, refl, (refl, refl, (refl, refl, refl)));
      below = inr (inr (inl refl));
      open_for = ((query 0, b) ∷ [], refl);
    })
are_open key (inr (inr (inr (inr h)))) = absurd h

-- ---- and no others
c_closed : IsUnifiable same_variable asked c → ⊥
c_closed h = omega (arith, ap symbol_in h.1)

abbrev OpenAmong : ℕ → Node Term → Type 0
OpenAmong key node =
    (above : Path) → IsPath five_nodes node.parent above
    → IsUnifiable same_variable asked (path_term ((key, node) ∷ above)) → IsAmong keys key

no_others : (path : Path) (key : ℕ) → IsPath five_nodes (Some key) path → IsUnifiable same_variable asked (path_term path) → IsAmong keys key
no_others [] key leads unifies = absurd (not_none key (sym leads))
no_others (step ∷ above) key leads unifies =
    subst (IsAmong keys) (sym (same_Some key step.0 leads.0)) (
    each_node OpenAmong five_nodes.nodes (
      (λ above path h. inl refl),
      (
        (λ above path h. inr (inr (inl refl))),
        (
          (λ above path h. inr (inl refl)),
          (
            (λ above path h. inr (inr (inr (inl refl)))),
            (
              (λ above path h. absurd (c_closed (subst (λ q. IsUnifiable same_variable asked (path_term ((4, leaf_c) ∷ q))) (one_path five_nodes (Some 0) above above_middle path (refl, refl, refl)) h))),
              tt,
            ),
          ),
        ),
      ),
    ) step.0 step.1 leads.1 above leads.2 unifies
    )

-- ---- four
not_in : (n : ℕ) (ns : List ℕ) → AllByRecursion (λ m. m ≡ n → ⊥) ns → IsAmong ns n → ⊥
not_in n ns h m = all_at (λ k. k ≡ n → ⊥) ns n h m refl

keys_distinct : AreDistinct keys
keys_distinct = (
  not_in 0 (2 ∷ 1 ∷ 3 ∷ []) ((λ e. omega (arith, e)), ((λ e. omega (arith, e)), ((λ e. omega (arith, e)), tt))),
  (
    not_in 2 (1 ∷ 3 ∷ []) ((λ e. omega (arith, e)), ((λ e. omega (arith, e)), tt)),
    (not_in 1 (3 ∷ []) ((λ e. omega (arith, e)), tt), ((λ h. h), tt)),
  ),
)

exactly : (key : ℕ) → IsAmong keys key ↔ IsOpenKey key
exactly key = (are_open key, (λ h. no_others h.path key h.leads h.open_for))

pub four_open : FourOpen
four_open = (keys, keys_distinct, exactly, refl)

pub no_other_count : NoOtherCount
no_other_count n differs (others, distinct, open_keys, count) =
    let most = few_members others keys distinct (λ key m. (exactly key).1 ((open_keys key).0 m)) in
    let least = few_members keys others keys_distinct (λ key m. (open_keys key).1 ((exactly key).0 m)) in
    differs (omega (arith, count, most, least))
