-- The place of a member that was inserted.
use Rattle.std.proofs.Common.{◌≡◌, ◌+◌, Bool, true, false, cond, not, ◌||◌, List, [], ◌∷◌, ◌++◌, refl, ap, ◌∙◌, Decides, sym, ℕ, Some, None}
use Rattle.std.specs.List.{list_any, position_or_len}
use Rattle.std.proofs.lemmas.Option.{same_Some, none-some}
use Rattle.indexmap.specs.IndexSet.{insert_key}
use Rattle.si_term.proofs.Inserted.{swapped}
use Rattle.si_flat.specs.Numbered.{place_in}
use Rattle.si_flat.specs.Flattening.{IsIndex}

module _ {V : Type 0} (same : V → V → Bool) (decides : (x y : V) → Decides (same x y) (x ≡ y)) where
  -- the place of the one that was inserted, whatever comes after
  pub inserted-place : (known : List V) (x : V) → IsIndex same (insert_key same known x) x (position_or_len (same x) known)
  inserted-place [] x more = rw ((decides x x).1 refl) refl
  inserted-place (y ∷ known) x more =
      step (same x y || list_any (same x) known)
      ∙ ap (λ b. cond b 0 (1 + place_in same (cond (same x y || list_any (same x) known) known (known ++ x ∷ []) ++ more) x)) (swapped same decides y x)
      ∙ by (same x y) (list_any (same x) known) (inserted-place known x more) where
        step : (q : Bool) → place_in same (cond q (y ∷ known) (y ∷ known ++ x ∷ []) ++ more) x ≡ cond (same y x) 0 (1 + place_in same (cond q known (known ++ x ∷ []) ++ more) x)
        step true = refl
        step false = refl

        by : (b k : Bool) → place_in same (cond k known (known ++ x ∷ []) ++ more) x ≡ position_or_len (same x) known
            → cond b 0 (1 + place_in same (cond (b || k) known (known ++ x ∷ []) ++ more) x) ≡ cond (not b) (1 + position_or_len (same x) known) 0
        by true k h = refl
        by false k h = ap (λ n. 1 + n) h

-- the place that a look for one gives
pub found_place : (b : Bool) (n place : ℕ) → Some place ≡ cond b (Some n) None → place ≡ n
found_place true n place e = same_Some place n e
found_place false n place e = absurd (none-some place (sym e))
