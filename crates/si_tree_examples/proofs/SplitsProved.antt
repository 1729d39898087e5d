-- What two lists of bindings have in common, proved.
use Rattle.std.proofs.Common.{◌≡◌, ◌⊎◌, inl, inr, ℕ, true, false, [], ◌∷◌, refl, ap, sym, subst, arith}
use Rattle.si_defs.specs.Terms as terms
use Rattle.si_defs.specs.Substitutions.{IsAmong}
use Rattle.si_flat.specs.Cells.{Term}
use Rattle.si_legal.specs.Bindings.{Binding, indicator}
use Rattle.si_legal.specs.Generalizations.{IsFresh}
use Rattle.si_legal.proofs.SplitLaws.{split_is}
use Rattle.si_legal.proofs.PartLaws.{same_indicator}
use Rattle.si_tree_examples.specs.SomeTerms.{f, g, a, b, c}
use Rattle.si_tree_examples.specs.SomeSplits.{FreshIndicator, KeptIndicator, WholeRightSide, NoGeneralPart, NoLowIndicator, NoSwappedRests}

pub fresh_indicator : FreshIndicator
fresh_indicator =
    split_is 1 ((0, f (a ∷ g b ∷ [])) ∷ []) ((0, f (c ∷ g b ∷ [])) ∷ []) (record {
      same_lefts = refl;
      distinct = ((λ h. h), tt);
      low = (omega arith, tt);
      ground = refl;
      opens_once = tt;
      opens_low = tt;
      opens_others = tt;
      no_bare = ((λ h. h), tt);
      room = omega arith;
    }) ((refl, ((refl, tt), ((refl, ((refl, tt), tt)), tt))), tt) ((refl, ((refl, tt), ((refl, ((refl, tt), tt)), tt))), tt)

pub kept_indicator : KeptIndicator
kept_indicator =
    split_is 2 ((0, f (indicator 1 ∷ a ∷ [])) ∷ []) ((0, f (b ∷ c ∷ [])) ∷ []) (record {
      same_lefts = refl;
      distinct = ((λ h. h), tt);
      low = (omega arith, tt);
      ground = refl;
      opens_once = ((λ h. h), tt);
      opens_low = (omega arith, tt);
      opens_others = ((λ h. no_other h), tt);
      no_bare = ((λ h. h), tt);
      room = omega arith;
    }) ((refl, (tt, ((refl, tt), tt))), tt) ((refl, ((refl, tt), ((refl, tt), tt))), tt) where
      no_other : IsAmong {V = ℕ} (0 ∷ []) 1 → ⊥
      no_other (inl e) = omega (arith, e)
      no_other (inr h) = h

pub whole_right_side : WholeRightSide
whole_right_side =
    split_is 3 ((1, a) ∷ (2, b) ∷ []) ((1, a) ∷ (2, c) ∷ []) (record {
      same_lefts = refl;
      distinct = ((λ h. no_other h), ((λ h. h), tt));
      low = (omega arith, (omega arith, tt));
      ground = refl;
      opens_once = tt;
      opens_low = tt;
      opens_others = tt;
      no_bare = ((λ h. h), ((λ h. h), tt));
      room = omega arith;
    }) ((refl, tt), ((refl, tt), tt)) ((refl, tt), ((refl, tt), tt)) where
      no_other : IsAmong {V = ℕ} (2 ∷ []) 1 → ⊥
      no_other (inl e) = omega (arith, e)
      no_other (inr h) = h

-- ---- what is none
pub no_general_part : NoGeneralPart
no_general_part rest_node rest_new s =
    by (s.common_part.terms.1.heads (2 ∷ []) (g b) (g b) (indicator 2) (g b, refl, refl) (g b, refl, refl) (indicator 2, refl, refl)) where
      by : ((true ≡ true) × (false ≡ true)) ⊎ ((true ≡ false) × IsFresh 1 (indicator 2)) → ⊥
      by (inl h) = cc
      by (inr h) = cc

pub no_low_indicator : NoLowIndicator
no_low_indicator rest_node rest_new s =
    by (s.common_part.terms.1.heads (1 ∷ []) a c (indicator 1) (a, refl, refl) (c, refl, refl) (indicator 1, refl, refl)) where
      by : ((false ≡ true) × (false ≡ true)) ⊎ ((false ≡ false) × IsFresh 3 (indicator 1)) → ⊥
      by (inl h) = cc
      by (inr h) = omega (arith, h.1.1, same_indicator 1 h.1.0 h.1.2)

-- the new list has c where its rest has a
abbrev number : Term → ℕ
number (terms.var y) = 0
number (terms.app s ts) = s.number

pub no_swapped_rests : NoSwappedRests
no_swapped_rests s =
    let parts : (1, a) ∷ [] ≡ s.new_part.parts = s.new_part.rest_is in
    let part = s.new_part.each (record { left = 0; node = f (a ∷ g b ∷ []); new = f (c ∷ g b ∷ []) }) (f (indicator 1 ∷ g b ∷ [])) (inl refl) (inl refl) (1 ∷ []) 1 c (inl refl) (indicator 1, refl, refl) (c, refl, refl) in
    by (subst (λ l. IsAmong l (1, c)) (sym parts) part) where
      differ : ◌≡◌ {A = ℕ} 6 10 → ⊥
      differ e = omega (arith, e)

      by : IsAmong {V = Binding} ((1, a) ∷ []) (1, c) → ⊥
      by (inl e) = differ (ap (λ p. number p.1) e)
      by (inr h) = h
