-- The pairs of the second list that are added to the first.
use Rattle.std.proofs.Common.{◌≡◌, ℕ, Bool, true, false, cond, not, ◌==◌, inl, inr, List, [], ◌∷◌, ◌++◌, refl, sym, ◌∙◌, ap, subst, append_assoc, append-nil}
use Rattle.std.specs.List.{list_any}
use Rattle.std.proofs.lemmas.List.{map-append}
use Rattle.si_defs.specs.Substitutions.{IsAmong, AreDistinct}
use Rattle.si_flat.specs.Rows.{CellPair, left_sides}
use Rattle.si_flat.proofs.RowLaws.{distinct_append, distinct_parts}
use Rattle.si_legal.specs.Bindings.{Binding, right_indicators, StandForBindings}
use Rattle.si_changes.proofs.ComposeLaws.{carried, unused}
use Rattle.si_tree.specs.Numbers.{rights_in}
use Rattle.si_tree.proofs.DecodingLaws.{bindings_read, stand_whole}
use Rattle.si_tree.proofs.NumberLaws.{rights_of}
use Rattle.si_prune.specs.Pruning.{carried_pairs, unused_pairs, MayCompose, Composes}
use Rattle.si_prune.proofs.CarryLaws.{lefts_carried, all_distinct}
use Rattle.si_prune.proofs.FillLaws.{carried_stand}

-- ---- the loop
-- the first list has the pairs that are unused so far, and these are left
pub record IsAdding (ns : List ℕ) (first second both left : List CellPair) : Type 0 where
  pub whole : both ++ unused_pairs ns left ≡ first ++ unused_pairs ns second
  pub distinct : AreDistinct (left_sides both ++ left_sides left)

pub add_begins : (node second first left : List CellPair) (ns : List ℕ) → MayCompose node second → first ≡ carried_pairs node second → left ≡ second → IsAdding ns (carried_pairs node second) second first left
add_begins node second first left ns may carried all = record {
  whole = λ i. carried i ++ unused_pairs ns (all i);
  distinct = subst AreDistinct (λ i. sym (ap left_sides carried ∙ lefts_carried node second) i ++ left_sides (sym all i)) (all_distinct node second may);
}

module _ (ns : List ℕ) (first second both : List CellPair) (pair : CellPair) (rest : List CellPair) (h : IsAdding ns first second both (pair ∷ rest)) where
  parts : AreDistinct (left_sides both) × AreDistinct (pair.0 ∷ left_sides rest) × ((n : ℕ) → IsAmong (left_sides both) n → IsAmong (pair.0 ∷ left_sides rest) n → ⊥)
  parts = distinct_parts (left_sides both) (pair.0 ∷ left_sides rest) h.distinct

  pub add_skips : list_any (λ n. n == pair.0) ns ≡ true → IsAdding ns first second both rest
  add_skips used = record {
    whole = ap (λ t. both ++ cond (not t) (pair ∷ unused_pairs ns rest) (unused_pairs ns rest)) (sym used) ∙ h.whole;
    distinct = distinct_append (left_sides both) (left_sides rest) parts.0 parts.1.1 (λ n a b. parts.2 n a (inr b));
  }

  pub add_new : IsAmong (left_sides both) pair.0 → ⊥
  add_new a = parts.2 pair.0 a (inl refl)

  pub add_more : list_any (λ n. n == pair.0) ns ≡ false → IsAdding ns first second (both ++ pair ∷ []) rest
  add_more other = record {
    whole =
        append_assoc both (pair ∷ []) (unused_pairs ns rest)
        ∙ ap (λ t. both ++ cond (not t) (pair ∷ unused_pairs ns rest) (unused_pairs ns rest)) (sym other)
        ∙ h.whole;
    distinct =
        subst AreDistinct
        (sym (ap (λ l. l ++ left_sides rest) (map-append (λ b. b.0) both (pair ∷ [])) ∙ append_assoc (left_sides both) (pair.0 ∷ []) (left_sides rest)))
        h.distinct;
  }

add_ends : (ns : List ℕ) (first second both left : List CellPair) → IsAdding ns first second both left → left ≡ [] → both ≡ first ++ unused_pairs ns second
add_ends ns first second both left h none = sym (append-nil both) ∙ ap (λ l. both ++ unused_pairs ns l) (sym none) ∙ h.whole

-- ---- what they stand for
stand_append : (xs ys : List CellPair) (bs cs : List Binding) → StandForBindings xs bs → StandForBindings ys cs → StandForBindings (xs ++ ys) (bs ++ cs)
stand_append [] ys [] cs h k = k
stand_append [] ys (b ∷ bs) cs h k = absurd h
stand_append (x ∷ xs) ys [] cs h k = absurd h
stand_append (x ∷ xs) ys (b ∷ bs) cs h k = (h.0, h.1, stand_append xs ys bs cs h.2 k)

stand_unused : (ns : List ℕ) (cells : List CellPair) (bs : List Binding) → StandForBindings cells bs → StandForBindings (unused_pairs ns cells) (unused ns bs)
stand_unused ns [] [] h = tt
stand_unused ns [] (b ∷ bs) h = absurd h
stand_unused ns (c ∷ cells) [] h = absurd h
stand_unused ns (c ∷ cells) (b ∷ bs) h =
    subst (λ m. StandForBindings (unused_pairs ns (c ∷ cells)) (cond (not (list_any (λ n. n == m) ns)) (b ∷ unused ns bs) (unused ns bs))) h.0
    (by (not (list_any (λ n. n == c.0) ns)) (stand_unused ns cells bs h.2)) where
      by : (test : Bool) → StandForBindings (unused_pairs ns cells) (unused ns bs) → StandForBindings (cond test (c ∷ unused_pairs ns cells) (unused_pairs ns cells)) (cond test (b ∷ unused ns bs) (unused ns bs))
      by true rest = (h.0, h.1, rest)
      by false rest = rest

pub composes : (node second both left : List CellPair) (opened : List ℕ) → IsAdding opened (carried_pairs node second) second both left → left ≡ [] → opened ≡ rights_in node → Composes node second both
composes node second both left opened h none is ns cs stand stand' =
    let opens : opened ≡ right_indicators ns = is ∙ rights_of node (stand_whole node ns stand) ∙ ap right_indicators (bindings_read node ns stand) in
    subst (λ l. StandForBindings l (carried ns cs ++ unused (right_indicators ns) cs)) (sym (add_ends opened (carried_pairs node second) second both left h none))
    (subst (λ l. StandForBindings (carried_pairs node second ++ unused_pairs opened second) (carried ns cs ++ unused l cs)) opens
    (stand_append (carried_pairs node second) (unused_pairs opened second) (carried ns cs) (unused opened cs) (carried_stand second cs stand' node ns stand) (stand_unused opened second cs stand')))
