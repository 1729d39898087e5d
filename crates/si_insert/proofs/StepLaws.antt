-- An insertion goes on below a node whose bindings fit.
use Rattle.std.proofs.Common.{◌≡◌, ℕ, ◌⊎◌, inl, inr, List, ◌++◌, sym, ◌∙◌, ap, subst}
use Rattle.std.specs.List.{AllByRecursion}
use Rattle.std.proofs.lemmas.List.{map-append}
use Rattle.si_defs.specs.Substitutions.{IsAmong, AreDistinct}
use Rattle.si_defs.proofs.ListLaws.{among_front, among_back, among_parts}
use Rattle.si_flat.specs.Cells.{Term}
use Rattle.si_flat.specs.Rows.{left_sides}
use Rattle.si_flat.proofs.RowLaws.{distinct_append}
use Rattle.si_legal.specs.Bindings.{Binding, indicators, right_indicators, BindsExactly, applied, composed}
use Rattle.si_changes.proofs.Permuted.{among_or_not}
use Rattle.si_changes.proofs.HeadLaws.{image_bound}
use Rattle.si_changes.proofs.Borrowed.{bound_left, image_other}
use Rattle.si_changes.proofs.ComposeLaws.{bound, same_applied, bound_front, bound_back, bound_unused, bound_composed, composed_applied, right_among, unused_left, left_unused, distinct_unused, is_open, open_from, IsOpenAfter}
use Rattle.si_insert.specs.Passing.{without, FitAll}

module _ (p : Term) (there bs fs : List Binding)
    (binds : BindsExactly (λ n. IsAmong (indicators p) n) there)
    (lefts : AllByRecursion (λ n. IsAmong (indicators p) n) (left_sides bs))
    (distinct : AreDistinct (left_sides bs))
    (apart : (n : ℕ) → IsAmong (indicators p) n → IsAmong (right_indicators bs) n → ⊥)
    (once : AreDistinct (right_indicators bs))
    (fit : FitAll fs there bs) where
  -- what is open below the node
  abbrev pub after : List Binding
  after = without (left_sides bs) there ++ fs

  new_right : (n k : ℕ) (r : Term) → IsAmong bs (n, r) → IsAmong (indicators r) k → IsAmong (left_sides (without (left_sides bs) there)) k → ⊥
  new_right n k r among inside left =
      apart k ((binds.1 k).0 (unused_left (left_sides bs) there k left).0) (right_among bs (n, r) k among inside)

  abbrev bound_after : (n : ℕ) → IsAmong (indicators p) n → applied after (bound bs n) ≡ bound there n
  bound_after n inside = elim (among_or_not (left_sides bs) n) as (λ _. applied after (bound bs n) ≡ bound there n) [
    | inl left ↦
        let b = bound_left bs n left in
        let here = bound_left there n ((binds.1 n).1 inside) in
        ap (applied after) (image_bound bs n b.0 distinct b.1)
        ∙ same_applied after fs b.0 (λ k among. bound_back (without (left_sides bs) there) fs k (new_right n k b.0 b.1 among))
        ∙ fit.each n b.0 here.0 b.1 here.1
        ∙ sym (image_bound there n here.0 binds.0 here.1)
    | inr other ↦
        ap (applied after) (image_other bs n other)
        ∙ bound_front (without (left_sides bs) there) fs n (left_unused (left_sides bs) there n ((binds.1 n).1 inside) other)
        ∙ bound_unused (left_sides bs) there n other
  ]

  pub gives_after : applied after (applied bs p) ≡ applied there p
  gives_after =
      composed_applied bs after p apart
      ∙ same_applied (composed bs after) there p (λ n inside. bound_composed bs after n (apart n inside) ∙ bound_after n inside)

  pub binds_after : BindsExactly (λ n. IsAmong (indicators (applied bs p)) n) after
  binds_after = (
    subst AreDistinct (sym (map-append (λ b. b.0) (without (left_sides bs) there) fs)) (distinct_append (left_sides (without (left_sides bs) there)) (left_sides fs) (distinct_unused (left_sides bs) there binds.0) (subst AreDistinct (sym fit.lefts) once) (λ n left right. apart n ((binds.1 n).0 (unused_left (left_sides bs) there n left).0) (subst (λ l. IsAmong l n) fit.lefts right))),
    λ n. (λ among. is_open bs p n distinct lefts (from n (among_parts (left_sides (without (left_sides bs) there)) (left_sides fs) n (subst (λ l. IsAmong l n) (map-append (λ b. b.0) (without (left_sides bs) there) fs) among))), λ open_there. subst (λ l. IsAmong l n) (sym (map-append (λ b. b.0) (without (left_sides bs) there) fs)) (back n (open_from bs p n distinct open_there))),
  ) where
    from : (n : ℕ) → IsAmong (left_sides (without (left_sides bs) there)) n ⊎ IsAmong (left_sides fs) n → IsOpenAfter bs p n
    from n (inl left) = let u = unused_left (left_sides bs) there n left in inl ((binds.1 n).0 u.0, u.1)
    from n (inr right) = inr (subst (λ l. IsAmong l n) fit.lefts right)

    back : (n : ℕ) → IsOpenAfter bs p n → IsAmong (left_sides (without (left_sides bs) there) ++ left_sides fs) n
    back n (inl old) = among_front (left_sides (without (left_sides bs) there)) (left_sides fs) n (left_unused (left_sides bs) there n ((binds.1 n).1 old.0) old.1)
    back n (inr new) = among_back (left_sides (without (left_sides bs) there)) (left_sides fs) n (subst (λ l. IsAmong l n) (sym fit.lefts) new)
