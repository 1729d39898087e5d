-- The left sides of a node are bound: what is open then.
use Rattle.std.proofs.Common.{◌≡◌, ℕ, inl, inr, Bool, true, false, not, cond, ◌==◌, ◌<◌, List, [], ◌∷◌, ◌++◌, length, refl, sym, ◌∙◌, ap, subst}
use Rattle.std.specs.List.{AllByRecursion, list_any}
use Rattle.std.specs.Prelude.{◌||◌}
use Rattle.std.proofs.lemmas.Bool.{eq-eqb}
use Rattle.std.proofs.lemmas.List.{map-append}
use Rattle.std.proofs.lemmas.List.Elements.{filter-append}
use Rattle.std.proofs.lemmas.Bool.Decides.{eqb_tells}
use Rattle.si_defs.specs.Substitutions.{IsAmong, Grows}
use Rattle.si_defs.proofs.ListLaws.{all_append, all_at, all_from, among_front}
use Rattle.si_flat.specs.declared.Cell.{Cell}
use Rattle.si_flat.specs.Rows.{CellPair, left_sides}
use Rattle.si_flat.proofs.RowLaws.{distinct_parts}
use Rattle.si_legal.specs.Bindings.{Binding, right_indicators, StandForBindings}
use Rattle.si_legal.proofs.SplitLaws.{occurs_not}
use Rattle.si_insert.specs.declared.open.Opened.{Opened}
use Rattle.si_insert.specs.Opened.{numbers, term_at, AreWithin, with_bound, open_pairs}
use Rattle.si_insert.specs.Fitting.{all_pairs, OpensFor}
use Rattle.si_insert.specs.Passing.{without, FitAll, MayPass, IsBoundBy, Passes}
use Rattle.si_insert.proofs.OpenedLaws.{numbers-bound}
use Rattle.si_insert.proofs.PassLaws.{stand_lefts, stand_append, numbers_opened}
use Rattle.si_insert.proofs.OpenPairs.{fewer_lefts}

-- ---- bindings without some
pub without_more : (n : ℕ) (ns : List ℕ) (bs : List Binding) → without ns (without (n ∷ []) bs) ≡ without (n ∷ ns) bs
without_more n ns [] = refl
without_more n ns (b ∷ bs) = by (n == b.0) (without_more n ns bs) where
  test : Bool
  test = list_any (λ m. m == b.0) ns

  by : (t : Bool) → without ns (without (n ∷ []) bs) ≡ without (n ∷ ns) bs → without ns (cond (not (t || false)) (b ∷ without (n ∷ []) bs) (without (n ∷ []) bs)) ≡ cond (not (t || test)) (b ∷ without (n ∷ ns) bs) (without (n ∷ ns) bs)
  by true rest = rest
  by false rest = λ i. cond (not test) (b ∷ rest i) (rest i)

pub keeps_all : (ns : List ℕ) (bs : List Binding) → ((n : ℕ) → IsAmong (left_sides bs) n → IsAmong ns n → ⊥) → without ns bs ≡ bs
keeps_all ns [] apart = refl
keeps_all ns (b ∷ bs) apart =
    ap (λ t. cond (not t) (b ∷ without ns bs) (without ns bs)) (occurs_not ns b.0 (apart b.0 (inl refl)))
    ∙ ap (λ l. b ∷ l) (keeps_all ns bs (λ n among. apart n (inr among)))

-- ---- one is bound
bound_one : (cells : List Cell) (n : ℕ) (all : List Opened) (bs : List Binding) → StandForBindings (open_pairs cells all) bs → StandForBindings (open_pairs cells (with_bound n all)) (without (n ∷ []) bs)
bound_one cells n [] [] h = tt
bound_one cells n [] (b ∷ bs) h = absurd h
bound_one cells n (o ∷ os) bs h = elim (eqb_tells o.indicator n) as (λ _. P (o.indicator == n)) [
  | inl e ↦ subst P (sym e.0) (now_bound o.bound bs e.1 (λ cs k. bound_one cells n os cs k) h)
  | inr e ↦ subst P (sym e.0) (left_open o.bound bs e.1 (λ cs k. bound_one cells n os cs k) h)
] where
  P : Bool → Type 0
  P t = StandForBindings (open_pairs cells (cond t (record o { bound = true }) o ∷ with_bound n os)) (without (n ∷ []) bs)

  Later : Type 0
  Later = (cs : List Binding) → StandForBindings (open_pairs cells os) cs → StandForBindings (open_pairs cells (with_bound n os)) (without (n ∷ []) cs)

  one : CellPair
  one = (o.indicator, term_at cells o.at)

  now_bound : (t : Bool) (cs : List Binding) → o.indicator ≡ n → Later → StandForBindings (cond t (open_pairs cells os) (one ∷ open_pairs cells os)) cs → StandForBindings (open_pairs cells (with_bound n os)) (without (n ∷ []) cs)
  now_bound true cs e later k = later cs k
  now_bound false [] e later k = absurd k
  now_bound false (c ∷ cs) e later k = subst (StandForBindings (open_pairs cells (with_bound n os))) (sym (ap (λ t. cond (not (t || false)) (c ∷ without (n ∷ []) cs) (without (n ∷ []) cs)) (eq-eqb n c.0 (sym e ∙ k.0)))) (later cs k.2)

  other : (m : ℕ) → (n ≡ m → ⊥) → (n == m) ≡ false
  other m differ = elim (eqb_tells n m) [ inl e ↦ absurd (differ e.1) | inr e ↦ e.0 ]

  left_open : (t : Bool) (cs : List Binding) → (o.indicator ≡ n → ⊥) → Later → StandForBindings (cond t (open_pairs cells os) (one ∷ open_pairs cells os)) cs → StandForBindings (cond t (open_pairs cells (with_bound n os)) (one ∷ open_pairs cells (with_bound n os))) (without (n ∷ []) cs)
  left_open true cs differ later k = later cs k
  left_open false [] differ later k = absurd k
  left_open false (c ∷ cs) differ later k = subst (StandForBindings (one ∷ open_pairs cells (with_bound n os))) (sym (ap (λ t. cond (not (t || false)) (c ∷ without (n ∷ []) cs) (without (n ∷ []) cs)) (other c.0 (λ e. differ (k.0 ∙ sym e))))) (k.0, k.1, later cs k.2)

pub bound_all : (cells : List Cell) (ns : List ℕ) (all end : List Opened) (bs : List Binding) → IsBoundBy ns all end → StandForBindings (open_pairs cells all) bs → StandForBindings (open_pairs cells end) (without ns bs)
bound_all cells [] all end bs e h = subst (λ l. StandForBindings (open_pairs cells l) (without [] bs)) (sym e) (subst (StandForBindings (open_pairs cells all)) (sym (keeps_all [] bs (λ n a b. b))) h)
bound_all cells (n ∷ ns) all end bs e h = subst (StandForBindings (open_pairs cells end)) (without_more n ns bs) (bound_all cells ns (with_bound n all) end (without (n ∷ []) bs) e (bound_one cells n all bs h))

pub numbers_stay : (ns : List ℕ) (all end : List Opened) → IsBoundBy ns all end → numbers end ≡ numbers all
numbers_stay [] all end e = ap numbers e
numbers_stay (n ∷ ns) all end e = numbers_stay ns (with_bound n all) end e ∙ numbers-bound n all

pub within_stays : (cells : List Cell) (ns : List ℕ) (all end : List Opened) → IsBoundBy ns all end → AreWithin cells all → AreWithin cells end
within_stays cells [] all end e h = subst (AreWithin cells) (sym e) h
within_stays cells (n ∷ ns) all end e h = within_stays cells ns (with_bound n all) end e (one all h) where
  one : (os : List Opened) → AreWithin cells os → AreWithin cells (with_bound n os)
  one [] k = tt
  one (o ∷ os) k = (by (o.indicator == n) k.0, one os k.1) where
    by : (t : Bool) → o.at < length cells → (cond t (record o { bound = true }) o).at < length cells
    by true less = less
    by false less = less

-- ---- the whole
open_more : (cells : List Cell) (old others : List Opened) → AllByRecursion (λ o. o.bound ≡ false) others → open_pairs cells (old ++ others) ≡ open_pairs cells old ++ all_pairs cells others
open_more cells [] [] free = refl
open_more cells [] (o ∷ os) free = ap (λ t. cond t (open_pairs cells os) ((o.indicator, term_at cells o.at) ∷ open_pairs cells os)) free.0 ∙ ap (λ l. (o.indicator, term_at cells o.at) ∷ l) (open_more cells [] os free.1)
open_more cells (o ∷ old) others free = by o.bound (open_more cells old others free) where
  by : (t : Bool) → open_pairs cells (old ++ others) ≡ open_pairs cells old ++ all_pairs cells others → cond t (open_pairs cells (old ++ others)) ((o.indicator, term_at cells o.at) ∷ open_pairs cells (old ++ others)) ≡ cond t (open_pairs cells old) ((o.indicator, term_at cells o.at) ∷ open_pairs cells old) ++ all_pairs cells others
  by true rest = rest
  by false rest = ap (λ l. (o.indicator, term_at cells o.at) ∷ l) rest

pub all_passed : (cells : List Cell) (old now new : List Opened) (node : List CellPair) (there bs fs : List Binding) → MayPass cells old node there bs → FitAll fs there bs → OpensFor cells old now fs → IsBoundBy (left_sides bs) now new → Passes cells old new there bs fs
all_passed cells old now new node there bs fs may fit opens by = record {
  fit = fit;
  stand = subst (StandForBindings (open_pairs cells new)) apart (bound_all cells (left_sides bs) now new (there ++ fs) by stands);
  within = within_stays cells (left_sides bs) now new by (subst (AreWithin cells) (sym opens.grows) (all_append (λ o. o.at < length cells) old opens.others may.within opens.within));
  numbers_are = numbers_stay (left_sides bs) now new by ∙ numbers_opened cells old now fs opens;
} where
  stands : StandForBindings (open_pairs cells now) (there ++ fs)
  stands = subst (λ l. StandForBindings l (there ++ fs)) (sym (ap (open_pairs cells) opens.grows ∙ open_more cells old opens.others opens.free)) (stand_append (open_pairs cells old) (all_pairs cells opens.others) there fs may.stand opens.stand)

  new_ones : (n : ℕ) → IsAmong (left_sides fs) n → IsAmong (left_sides bs) n → ⊥
  new_ones n among left = (distinct_parts (numbers old) (right_indicators bs) may.distinct).2 n (fewer_lefts cells old n (subst (λ l. IsAmong l n) (sym (stand_lefts (open_pairs cells old) there may.stand)) (all_at (IsAmong (left_sides there)) (left_sides bs) n may.lefts left))) (subst (λ l. IsAmong l n) fit.lefts among)

  apart : without (left_sides bs) (there ++ fs) ≡ without (left_sides bs) there ++ fs
  apart = filter-append (λ b. not (list_any (λ n. n == b.0) (left_sides bs))) there fs ∙ (λ i. without (left_sides bs) there ++ keeps_all (left_sides bs) fs new_ones i)

-- the left sides of the node were opened
pub lefts_opened : (cells : List Cell) (old new : List Opened) (node : List CellPair) (there bs : List Binding) → MayPass cells old node there bs → Grows old new → AllByRecursion (IsAmong (numbers new)) (left_sides node)
lefts_opened cells old new node there bs may grows = all_from (IsAmong (numbers new)) (left_sides node) by where
  by : (n : ℕ) → IsAmong (left_sides node) n → IsAmong (numbers new) n
  by n among =
      let left : IsAmong (left_sides there) n = all_at (IsAmong (left_sides there)) (left_sides bs) n may.lefts (subst (λ l. IsAmong l n) (stand_lefts node bs may.node_stand) among) in
      let before : IsAmong (numbers old) n = fewer_lefts cells old n (subst (λ l. IsAmong l n) (sym (stand_lefts (open_pairs cells old) there may.stand)) left) in
      subst (λ l. IsAmong l n) (sym (ap numbers grows.1 ∙ map-append (λ o. o.indicator) old grows.0)) (among_front (numbers old) (numbers grows.0) n before)
