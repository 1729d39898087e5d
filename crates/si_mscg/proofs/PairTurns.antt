-- The turns of the two loops over the pairs of two lists.
use Rattle.std.proofs.Common.{◌≡◌, ◌⊎◌, inl, inr, Bool, true, false, List, [], ◌∷◌, refl, ap, sym, ◌∙◌, subst}
use Rattle.std.specs.Prelude.{Option, None, Some}
use Rattle.std.specs.Option.{MatchOption}
use Rattle.si_flat.specs.Rows.{CellPair}
use Rattle.si_legal.specs.Bindings.{Binding, StandForBindings}
use Rattle.si_legal.specs.Generalizations.{Sides, sides}
use Rattle.si_unify.proofs.Reading.{one_term}
use Rattle.si_mscg.specs.Walking.{PartsSoFar, HaveSides, OfSides, TellsHeads, MayLeave, MayAgree, MaySharePair, SharesPair, with_whole, with_differing, with_agreeing}
use Rattle.si_mscg.proofs.PairLaws.{first_sides, no_sides, left_none, left_same, left_one, Unbound, left_unbound, shared_none, Goes, goes_other, goes_on, may_share_pair}

-- ---- cells stand for one list of bindings
pub one_list : (cs : List CellPair) (bs bs' : List Binding) → StandForBindings cs bs → StandForBindings cs bs' → bs ≡ bs'
one_list [] [] [] h k = refl
one_list [] [] (d ∷ ds) h k = absurd k
one_list [] (b ∷ bs) ds h k = absurd h
one_list (c ∷ cs) [] ds h k = absurd h
one_list (c ∷ cs) (b ∷ bs) [] h k = absurd k
one_list (c ∷ cs) (b ∷ bs) (d ∷ ds) h k =
    let left : b.0 ≡ d.0 = sym h.0 ∙ k.0 in
    let right = one_term c.1 b.1 d.1 h.1 k.1 in
    let rest = one_list cs bs ds h.2 k.2 in
    λ i. (left i, right i) ∷ rest i

pub of_any : (node new : List CellPair) (P : List Sides → Type 0) → HaveSides node new P → OfSides node new P
of_any node new P h = λ ns ms k l. subst (λ xs. P (sides xs ms)) (one_list node h.ns ns h.node_stand k) (subst (λ ys. P (sides h.ns ys)) (one_list new h.ms ms h.new_stand l) h.holds)

-- ---- both iterators
-- one step of two iterators side by side, from what they have left to what they have then
abbrev pub Steps : (f g f' g' : List CellPair) → Option (CellPair × CellPair) → Type 0
Steps f g f' g' r = MatchOption r (((u : List CellPair) × ((f ≡ []) × (u ≡ []))) ⊎ ((u : List CellPair) × ((g ≡ []) × (u ≡ [])))) (λ p. (f ≡ p.0 ∷ f') × (g ≡ p.1 ∷ g'))

pub record BothFirst (f g f' g' : List CellPair) (p q : CellPair) : Type 0 where
  pub node : f ≡ p ∷ f'
  pub new : g ≡ q ∷ g'

pub both_first : (f g f' g' : List CellPair) (r : Option (CellPair × CellPair)) (p q : CellPair) → r ≡ Some (p, q) → Steps f g f' g' r → BothFirst f g f' g' p q
both_first f g f' g' r p q e h = let both = subst (Steps f g f' g') e h in record { node = both.0; new = both.1 }

pub one_ends : (f g f' g' : List CellPair) (r : Option (CellPair × CellPair)) → r ≡ None → Steps f g f' g' r → (f ≡ []) ⊎ (g ≡ [])
one_ends f g f' g' r e h = by (subst (Steps f g f' g') e h) where
  by : Steps f g f' g' None → (f ≡ []) ⊎ (g ≡ [])
  by (inl x) = inl x.1.0
  by (inr x) = inr x.1.0

module _ (node new : List CellPair) (start : PartsSoFar) where
  -- ---- what differs at the root
  abbrev pub LeavesPairs : List CellPair → List CellPair → PartsSoFar → Type 0
  LeavesPairs first second s = OfSides node new (λ ss. HaveSides first second (λ rest. with_differing s rest ≡ with_differing start ss))

  pub leaves_all : (first second : List CellPair) → first ≡ node → second ≡ new → LeavesPairs first second start
  leaves_all first second d e = λ ns ms h k. record {
    ns = ns;
    ms = ms;
    node_stand = subst (λ l. StandForBindings l ns) (sym d) h;
    new_stand = subst (λ l. StandForBindings l ms) (sym e) k;
    holds = refl;
  }

  pub leaves_none : (first second : List CellPair) (s : PartsSoFar) → (first ≡ []) ⊎ (second ≡ []) → LeavesPairs first second s → OfSides node new (λ ss. s ≡ with_differing start ss)
  leaves_none first second s e l = λ ns ms h k. left_none s ∙ no_sides first second (λ rest. with_differing s rest ≡ with_differing start (sides ns ms)) e (l ns ms h k)

  -- ---- what agrees at the root
  abbrev pub SharesPairs : List CellPair → List CellPair → PartsSoFar → Type 0
  SharesPairs first second s = OfSides node new (λ ss. HaveSides first second (Goes s (with_agreeing start ss)))

  pub shares_all : (first second : List CellPair) → first ≡ node → second ≡ new → HaveSides node new (MayAgree start) → SharesPairs first second start
  shares_all first second d e may = λ ns ms h k. let here = of_any node new (MayAgree start) may ns ms h k in record {
    ns = ns;
    ms = ms;
    node_stand = subst (λ l. StandForBindings l ns) (sym d) h;
    new_stand = subst (λ l. StandForBindings l ms) (sym e) k;
    holds = record { empty = here.empty; short = here.short; leads = refl };
  }

  pub shares_none : (first second : List CellPair) (s : PartsSoFar) → (first ≡ []) ⊎ (second ≡ []) → SharesPairs first second s → OfSides node new (λ ss. s ≡ with_agreeing start ss)
  shares_none first second s e l = λ ns ms h k. let last = no_sides first second (Goes s (with_agreeing start (sides ns ms))) e (l ns ms h k) in shared_none s last.empty ∙ last.leads

  -- ---- one turn
  module _ (f g f' g' : List CellPair) (p q : CellPair) (first : BothFirst f g f' g' p q) (same : Bool) (tells : TellsHeads same p q) (s : PartsSoFar) where
    pub left_skips : same ≡ true → LeavesPairs f g s → LeavesPairs f' g' s
    left_skips e l = λ ns ms h k.
        let one = first_sides f g p q f' g' (λ rest. with_differing s rest ≡ with_differing start (sides ns ms)) first.node first.new (l ns ms h k) in
        record {
          ns = one.ns;
          ms = one.ms;
          node_stand = one.node_stand;
          new_stand = one.new_stand;
          holds = left_same s (record { left = p.0; node = one.t; new = one.u }) (sides one.ns one.ms) (sym (tells one.t one.u one.stands one.new_stands) ∙ e) ∙ one.holds;
        }

    pub left_goes_on : (after : PartsSoFar) → same ≡ false → after ≡ with_whole s p q → LeavesPairs f g s → LeavesPairs f' g' after
    left_goes_on after e is l = λ ns ms h k.
        let one = first_sides f g p q f' g' (λ rest. with_differing s rest ≡ with_differing start (sides ns ms)) first.node first.new (l ns ms h k) in
        record {
          ns = one.ns;
          ms = one.ms;
          node_stand = one.node_stand;
          new_stand = one.new_stand;
          holds = ap (λ x. with_differing x (sides one.ns one.ms)) is ∙ left_one s p q one.t one.u (sides one.ns one.ms) one.stands one.new_stands (sym (tells one.t one.u one.stands one.new_stands) ∙ e) ∙ one.holds;
        }

    pub left_may : same ≡ false → HaveSides node new (MayLeave start) → LeavesPairs f g s → Unbound s p.0
    left_may e may l =
        let one = first_sides f g p q f' g' (λ rest. with_differing s rest ≡ with_differing start (sides may.ns may.ms)) first.node first.new (l may.ns may.ms may.node_stand may.new_stand) in
        left_unbound s (with_differing start (sides may.ns may.ms)) (record { left = p.0; node = one.t; new = one.u }) (sides one.ns one.ms) one.holds (sym (tells one.t one.u one.stands one.new_stands) ∙ e) may.holds

    pub shared_skips : same ≡ false → SharesPairs f g s → SharesPairs f' g' s
    shared_skips e l = λ ns ms h k.
        let one = first_sides f g p q f' g' (Goes s (with_agreeing start (sides ns ms))) first.node first.new (l ns ms h k) in
        record {
          ns = one.ns;
          ms = one.ms;
          node_stand = one.node_stand;
          new_stand = one.new_stand;
          holds = goes_other s (with_agreeing start (sides ns ms)) (record { left = p.0; node = one.t; new = one.u }) (sides one.ns one.ms) (sym (tells one.t one.u one.stands one.new_stands) ∙ e) one.holds;
        }

    pub shared_goes_on : (after : PartsSoFar) → same ≡ true → SharesPair s p q after → SharesPairs f g s → SharesPairs f' g' after
    shared_goes_on after e is l = λ ns ms h k.
        let one = first_sides f g p q f' g' (Goes s (with_agreeing start (sides ns ms))) first.node first.new (l ns ms h k) in
        record {
          ns = one.ns;
          ms = one.ms;
          node_stand = one.node_stand;
          new_stand = one.new_stand;
          holds = subst (λ x. Goes x (with_agreeing start (sides ns ms)) (sides one.ns one.ms)) (sym (is one.t one.u one.stands one.new_stands)) (goes_on s (with_agreeing start (sides ns ms)) (record { left = p.0; node = one.t; new = one.u }) (sides one.ns one.ms) (sym (tells one.t one.u one.stands one.new_stands) ∙ e) one.holds);
        }

    pub shared_may : same ≡ true → HaveSides node new (MayAgree start) → SharesPairs f g s → MaySharePair s p q
    shared_may e may l =
        let one = first_sides f g p q f' g' (Goes s (with_agreeing start (sides may.ns may.ms))) first.node first.new (l may.ns may.ms may.node_stand may.new_stand) in
        may_share_pair s (with_agreeing start (sides may.ns may.ms)) p q one.t one.u (sides one.ns one.ms) one.stands one.new_stands (sym (tells one.t one.u one.stands one.new_stands) ∙ e) may.holds.distinct may.holds.may_end one.holds
