-- Where indicators end at different variables that are free, some solution gives them any terms of
-- the entry's variables.
use Rattle.std.proofs.Common.{◌≡◌, ◌≢◌, inl, inr, ℕ, ◌+◌, ◌<◌, ◌≤◌, Bool, true, false, List, [], ◌∷◌, ◌++◌, map, Option, None, Some, refl, ap, sym, ◌∙◌, subst, arith}
use Rattle.std.proofs.lemmas.Bool.Decides.{eqb_tells}
use Rattle.std.specs.Prelude.{◌==◌}
use Rattle.std.specs.List.{AllByRecursion, list_any}
use Rattle.std.specs.Borrow.{Bor}
use Rattle.si_defs.specs.Terms as terms
use Rattle.si_defs.specs.Substitutions.{Substitution, image, apply, IsAmong, AreDistinct}
use Rattle.si_defs.proofs.ListLaws.{all_weaker, all_append, all_front, all_back, all_at, all_from, among_front, among_back}
use Rattle.si_flat.specs.declared.Cell.{Cell}
use Rattle.si_flat.specs.declared.Cell.TheVariants as cell
use Rattle.si_flat.specs.Cells.{Symbol, Variable, query, entry, ind, same_variable, Term, Terms, variable_cell, cells_of, cells_of_all, IsSound}
use Rattle.si_trail.specs.Trails.{value_at, HasDistinctSlots}
use Rattle.si_unify.specs.declared.slots.Slots.{Slots}
use Rattle.si_unify.specs.Solving.{Pairs, variable_of, is_frozen, CellIsInRange, Equalizes, IsBinding, RanksBelow, IsTriangularBy, IsAcyclic, IsSolution}
use Rattle.si_unify.specs.Spots.{cell_slot}
use Rattle.si_unify.proofs.Binding.{slot_below}
use Rattle.si_unify.proofs.Lists.{apart_from}
use Rattle.si_unify.proofs.Places.{variable_of-slot_of}
use Rattle.si_unify.proofs.Searching.{ranks_below_cell}
use Rattle.si_unify.proofs.Solutions.{solved_of_triangular}
use Rattle.si_fit.proofs.EndLaws.{lent}
use Rattle.si_legal.proofs.SplitLaws.{occurs, occurs_not}
use Rattle.si_descend.specs.Subtrees.{EndsFree, AreEndsOf, IsClear, AreClear}

-- ---- pairs after others
module _ {X : Type 0} where
  value_none : (pairs : List (ℕ × X)) (slot : ℕ) → AllByRecursion (λ p. p.0 ≢ slot) pairs → value_at pairs slot ≡ None
  value_none [] slot h = refl
  value_none (p ∷ pairs) slot h = elim (eqb_tells p.0 slot) [ inl e ↦ absurd (h.0 e.1) | inr e ↦ rw e.0 (value_none pairs slot h.1) ]

  distinct_joined : (pairs news : List (ℕ × X)) → HasDistinctSlots pairs → HasDistinctSlots news → AllByRecursion (λ r. value_at pairs r.0 ≡ None) news → HasDistinctSlots (pairs ++ news)
  distinct_joined [] news d e free = e
  distinct_joined (p ∷ pairs) news d e free = (
    value_none (pairs ++ news) p.0 (all_append (λ q. q.0 ≢ p.0) pairs news (apart_from pairs p.0 d.0) (all_weaker (λ r. value_at (p ∷ pairs) r.0 ≡ None) (λ r. r.0 ≢ p.0) news (λ r none same. (apart_from (p ∷ pairs) r.0 none).0 (sym same)) free)),
    distinct_joined pairs news d.1 e (all_weaker (λ r. value_at (p ∷ pairs) r.0 ≡ None) (λ r. value_at pairs r.0 ≡ None) news (λ r none. value_none pairs r.0 (apart_from (p ∷ pairs) r.0 none).1) free),
  )

-- ---- new levels: below all are the slots that are free, and next come the entry's variables
abbrev is_entry : Variable → Bool
is_entry (entry m) = true
is_entry x = false

entry_is : (x : Variable) → is_entry x ≡ true → (m : ℕ) × (x ≡ entry m)
entry_is (query n) e = absurd (by e) where
  by : false ≡ true → ⊥
  by p = cc
entry_is (entry m) e = (m, refl)
entry_is (ind n) e = absurd (by e) where
  by : false ≡ true → ⊥
  by p = cc

abbrev level : {X : Type 0} → Bool → Option X → Bool → ℕ → ℕ
level true value is n = 2 + n
level false None is n = 0
level false (Some v) true n = 1
level false (Some v) false n = 2 + n

level_most : {X : Type 0} (b : Bool) (o : Option X) (is : Bool) (n : ℕ) → level b o is n ≤ 2 + n
level_most true o is n = omega arith
level_most false None is n = omega arith
level_most false (Some v) true n = omega arith
level_most false (Some v) false n = omega arith

level_entry : {X : Type 0} (o : Option X) (n : ℕ) → level false o true n ≤ 1
level_entry None n = omega arith
level_entry (Some v) n = omega arith

-- ---- cells below a slot
ranked_cell : (slots : Slots) (rank : ℕ → ℕ) (slot : ℕ) (c : Cell) → ((next : ℕ) → cell_slot slots c ≡ Some next → rank next < rank slot) → RanksBelow slots rank slot c
ranked_cell slots rank slot (cell.App s a n) give = tt
ranked_cell slots rank slot (cell.Query n) give = give _ refl
ranked_cell slots rank slot (cell.Entry n) give = give _ refl
ranked_cell slots rank slot (cell.Ind n) give = give _ refl

-- what holds of the cells of a term's variables holds of all its cells, where it holds of symbols
mutual
  cells_from : (C : Cell → Type 0) (t : Term) → ((s a n : ℕ) → C (cell.App s a n)) → ((x : Variable) → IsAmong (terms.variables t) x → C (variable_cell x)) → AllByRecursion C (cells_of t)
  cells_from C (terms.var x) plain give = (give x (inl refl), tt)
  cells_from C (terms.app s ts) plain give = (plain s.number s.arity (1 + terms.sizes ts), all_cells_from C ts plain give)

  all_cells_from : (C : Cell → Type 0) (ts : Terms) → ((s a n : ℕ) → C (cell.App s a n)) → ((x : Variable) → IsAmong (terms.variables_of_all ts) x → C (variable_cell x)) → AllByRecursion C (cells_of_all ts)
  all_cells_from C terms.none plain give = tt
  all_cells_from C (terms.more t ts) plain give =
      all_append C (cells_of t) (cells_of_all ts)
      (cells_from C t plain (λ x a. give x (among_front (terms.variables t) (terms.variables_of_all ts) x a)))
      (all_cells_from C ts plain (λ x a. give x (among_back (terms.variables t) (terms.variables_of_all ts) x a)))

-- a term of the entry's variables
pub record IsOfEntry (slots : Slots) (t : Term) : Type 0 where
  pub sound : IsSound t
  pub entries : (x : Variable) → IsAmong (terms.variables t) x → (m : ℕ) × (x ≡ entry m) × (m < slots.entry)

module _ (slots : Slots) (pairs : Pairs) (bindings : AllByRecursion (IsBinding slots) pairs) (distinct : HasDistinctSlots pairs) (triangular : IsAcyclic slots pairs) (ns ends : List ℕ) (are : AreEndsOf slots pairs ns ends) (clear : AreClear slots pairs ends) (v : ℕ → Term) (plain : (n : ℕ) → IsOfEntry slots (v n)) where
  abbrev new_rank : ℕ → ℕ
  new_rank slot = level (list_any (λ n. n == slot) ends) (value_at pairs slot) (is_entry (variable_of slots slot)) (triangular.0 slot)

  new_most : (slot : ℕ) → new_rank slot ≤ 2 + triangular.0 slot
  new_most slot = level_most (list_any (λ n. n == slot) ends) (value_at pairs slot) (is_entry (variable_of slots slot)) (triangular.0 slot)

  -- ---- the old pairs
  bound_some : (slot : ℕ) (w : Bor (List Cell)) → IsAmong pairs (slot, w) → (u : Bor (List Cell)) × (value_at pairs slot ≡ Some u)
  bound_some slot w a = by (value_at pairs slot) refl where
    by : (o : Option (Bor (List Cell))) → value_at pairs slot ≡ o → (u : Bor (List Cell)) × (value_at pairs slot ≡ Some u)
    by None e = absurd (all_at (λ p. p.0 ≢ slot) pairs (slot, w) (apart_from pairs slot e) a refl)
    by (Some u) e = (u, e)

  end_free : (slot : ℕ) → IsAmong ends slot → value_at pairs slot ≡ None
  end_free slot a = by are.rows are.free (subst (λ l. IsAmong l slot) (sym are.ends_are) a) where
    by : (rows : List (ℕ × ℕ)) → AllByRecursion (λ r. EndsFree slots pairs r.0 r.1) rows → IsAmong (map (λ r. r.1) rows) slot → value_at pairs slot ≡ None
    by [] free b = absurd b
    by (r ∷ rows) free (inl e) = subst (λ k. value_at pairs k ≡ None) e free.0.unbound
    by (r ∷ rows) free (inr b) = by rows free.1 b

  some_none : (u : Bor (List Cell)) → Some u ≡ None → ⊥
  some_none u e = cc

  no_end : (slot : ℕ) (u : Bor (List Cell)) → value_at pairs slot ≡ Some u → list_any (λ n. n == slot) ends ≡ false
  no_end slot u e = occurs_not ends slot (λ a. some_none u (sym e ∙ end_free slot a))

  old_ranked : (pair : ℕ × Bor (List Cell)) → IsAmong pairs pair → AllByRecursion (RanksBelow slots new_rank pair.0) pair.1.now
  old_ranked pair a = by (is_entry (variable_of slots pair.0)) refl where
    u : (u : Bor (List Cell)) × (value_at pairs pair.0 ≡ Some u)
    u = bound_some pair.0 pair.1 a

    old : AllByRecursion (RanksBelow slots triangular.0 pair.0) pair.1.now
    old = all_at (λ p. AllByRecursion (RanksBelow slots triangular.0 p.0) p.1.now) pairs pair triangular.1 a

    level_is : (b : Bool) → is_entry (variable_of slots pair.0) ≡ b → new_rank pair.0 ≡ level false (Some u.0) b (triangular.0 pair.0)
    level_is b e = λ i. level (no_end pair.0 u.0 u.1 i) (u.1 i) (e i) (triangular.0 pair.0)

    clear_cell : (c : Cell) → IsClear pairs ends (cell_slot slots c) → (next : ℕ) → cell_slot slots c ≡ Some next → new_rank next ≡ 0
    clear_cell c h next e =
        let is : IsClear pairs ends (Some next) = subst (IsClear pairs ends) e h in
        λ i. level (occurs_not ends next is.1 i) (is.0 i) (is_entry (variable_of slots next)) (triangular.0 next)

    by : (b : Bool) → is_entry (variable_of slots pair.0) ≡ b → AllByRecursion (RanksBelow slots new_rank pair.0) pair.1.now
    by true e =
        let m = entry_is (variable_of slots pair.0) e in
        all_weaker (λ c. IsClear pairs ends (cell_slot slots c)) (RanksBelow slots new_rank pair.0) pair.1.now
        (λ c h. ranked_cell slots new_rank pair.0 c (λ next s. omega (arith, clear_cell c h next s, level_is true e)))
        (all_at (λ p. (m : ℕ) → variable_of slots p.0 ≡ entry m → AllByRecursion (λ c. IsClear pairs ends (cell_slot slots c)) p.1.now) pairs pair clear a m.0 m.1)
    by false e =
        all_weaker (RanksBelow slots triangular.0 pair.0) (RanksBelow slots new_rank pair.0) pair.1.now
        (λ c h. ranked_cell slots new_rank pair.0 c (λ next s. omega (arith, new_most next, ranks_below_cell slots triangular.0 pair.0 next c h s, level_is false e)))
        old

  -- ---- the new ones
  abbrev new_pair : ℕ × ℕ → ℕ × Bor (List Cell)
  new_pair r = (r.1, lent (cells_of (v r.0)))

  abbrev news : List (ℕ × ℕ) → Pairs
  news rows = map new_pair rows

  new_binding : (r : ℕ × ℕ) → EndsFree slots pairs r.0 r.1 → IsBinding slots (new_pair r)
  new_binding r h = record {
    below = subst (λ k. k < slots.query + slots.entry + slots.inds) h.slot_is (slot_below slots h.variable h.range);
    unfrozen = ap (is_frozen slots) (ap (variable_of slots) (sym h.slot_is) ∙ variable_of-slot_of slots h.variable h.range) ∙ h.unfrozen;
    whole = (v r.0, record { cells_are = refl; sound = (plain r.0).sound });
    in_range = cells_from (CellIsInRange slots) (v r.0) (λ s a n. tt) (λ x a. let m = (plain r.0).entries x a in subst (λ y. CellIsInRange slots (variable_cell y)) (sym m.1) m.2);
  }

  entry_low : (m : ℕ) → m < slots.entry → new_rank (slots.query + m) ≤ 1
  entry_low m less =
      let name : variable_of slots (slots.query + m) ≡ entry m = variable_of-slot_of slots (entry m) less in
      subst (λ n. n ≤ 1) (λ i. level (sym (no_entry_end (slots.query + m) m name) i) (value_at pairs (slots.query + m)) (is_entry (sym name i)) (triangular.0 (slots.query + m)))
      (level_entry (value_at pairs (slots.query + m)) (triangular.0 (slots.query + m)))
    where
      no_entry_end : (slot m : ℕ) → variable_of slots slot ≡ entry m → list_any (λ n. n == slot) ends ≡ false
      no_entry_end slot m name = occurs_not ends slot (λ a. by are.rows are.free (subst (λ l. IsAmong l slot) (sym are.ends_are) a)) where
        by : (rows : List (ℕ × ℕ)) → AllByRecursion (λ r. EndsFree slots pairs r.0 r.1) rows → IsAmong (map (λ r. r.1) rows) slot → ⊥
        by [] free b = b
        by (r ∷ rows) free (inl e) = free.0.no_entry m (sym (variable_of-slot_of slots free.0.variable free.0.range) ∙ ap (variable_of slots) (free.0.slot_is ∙ e) ∙ name)
        by (r ∷ rows) free (inr b) = by rows free.1 b

  new_ranked : (r : ℕ × ℕ) → IsAmong ends r.1 → AllByRecursion (RanksBelow slots new_rank r.1) (cells_of (v r.0))
  new_ranked r a =
      cells_from (RanksBelow slots new_rank r.1) (v r.0) (λ s b n. tt)
      (λ x b. let m = (plain r.0).entries x b in subst (λ y. RanksBelow slots new_rank r.1 (variable_cell y)) (sym m.1) (omega (arith, entry_low m.0 m.2, high)))
    where
      high : new_rank r.1 ≡ 2 + triangular.0 r.1
      high = λ i. level (occurs ends r.1 a i) (value_at pairs r.1) (is_entry (variable_of slots r.1)) (triangular.0 r.1)

  -- ---- all of them
  abbrev all_pairs : Pairs
  all_pairs = pairs ++ news are.rows

  news_all : (P : ℕ × Bor (List Cell) → Type 0) (rows : List (ℕ × ℕ)) → ((r : ℕ × ℕ) → IsAmong rows r → P (new_pair r)) → AllByRecursion P (news rows)
  news_all P [] give = tt
  news_all P (r ∷ rows) give = (give r (inl refl), news_all P rows (λ q a. give q (inr a)))

  row_free : (r : ℕ × ℕ) → IsAmong are.rows r → EndsFree slots pairs r.0 r.1
  row_free r a = all_at (λ r. EndsFree slots pairs r.0 r.1) are.rows r are.free a

  end_among : (rows : List (ℕ × ℕ)) (r : ℕ × ℕ) → IsAmong rows r → IsAmong (map (λ r. r.1) rows) r.1
  end_among [] r a = absurd a
  end_among (q ∷ rows) r (inl e) = inl (ap (λ p. p.1) e)
  end_among (q ∷ rows) r (inr a) = inr (end_among rows r a)

  news_distinct : (rows : List (ℕ × ℕ)) → AreDistinct (map (λ r. r.1) rows) → HasDistinctSlots (news rows)
  news_distinct [] d = tt
  news_distinct (r ∷ rows) d = (
    value_none (news rows) r.1 (news_all (λ p. p.0 ≢ r.1) rows (λ q a same. d.0 (subst (IsAmong (map (λ r. r.1) rows)) same (end_among rows q a)))),
    news_distinct rows d.1,
  )

  all_bindings : AllByRecursion (IsBinding slots) all_pairs
  all_bindings = all_append (IsBinding slots) pairs (news are.rows) bindings (news_all (IsBinding slots) are.rows (λ r a. new_binding r (row_free r a)))

  all_distinct : HasDistinctSlots all_pairs
  all_distinct = distinct_joined pairs (news are.rows) distinct (news_distinct are.rows (subst AreDistinct (sym are.ends_are) are.distinct)) (news_all (λ p. value_at pairs p.0 ≡ None) are.rows (λ r a. (row_free r a).unbound))

  all_ranked : IsTriangularBy slots new_rank all_pairs
  all_ranked =
      all_append (λ p. AllByRecursion (RanksBelow slots new_rank p.0) p.1.now) pairs (news are.rows)
      (all_from (λ p. AllByRecursion (RanksBelow slots new_rank p.0) p.1.now) pairs old_ranked)
      (news_all (λ p. AllByRecursion (RanksBelow slots new_rank p.0) p.1.now) are.rows (λ r a. new_ranked r (subst (λ l. IsAmong l r.1) are.ends_are (end_among are.rows r a))))

  abbrev IsEqual : Substitution Symbol Variable → ℕ × Bor (List Cell) → Type 0
  IsEqual s pair = Equalizes (image same_variable s) (variable_cell (variable_of slots pair.0) ∷ []) pair.1.now

  pub record Assigns (s : Substitution Symbol Variable) : Type 0 where
    pub solution : IsSolution slots pairs s
    pub gives : (n : ℕ) → IsAmong ns n → image same_variable s (ind n) ≡ apply same_variable s (v n)

  pub assigned : (s : Substitution Symbol Variable) × Assigns s
  assigned = (
    solved.0,
    record {
      solution = old;
      gives = λ n a. by are.rows are.free (all_back (IsEqual solved.0) pairs (news are.rows) solved.1.equal) n (subst (λ l. IsAmong l n) (sym are.indicators_are) a);
    },
  ) where
    solved : (s : Substitution Symbol Variable) × IsSolution slots all_pairs s
    solved = solved_of_triangular slots all_pairs all_bindings all_distinct (new_rank, all_ranked)

    old : IsSolution slots pairs solved.0
    old = record { frozen = solved.1.frozen; equal = all_front (IsEqual solved.0) pairs (news are.rows) solved.1.equal }

    one : (r : ℕ × ℕ) → EndsFree slots pairs r.0 r.1 → IsEqual solved.0 (new_pair r) → image same_variable solved.0 (ind r.0) ≡ apply same_variable solved.0 (v r.0)
    one r h is =
        h.same (image same_variable solved.0) old
        ∙ subst (λ y. Equalizes (image same_variable solved.0) (variable_cell y ∷ []) (cells_of (v r.0))) (ap (variable_of slots) (sym h.slot_is) ∙ variable_of-slot_of slots h.variable h.range) is
        (terms.var h.variable) (v r.0) (record { cells_are = refl; sound = tt }) (record { cells_are = refl; sound = (plain r.0).sound })

    by : (rows : List (ℕ × ℕ)) → AllByRecursion (λ r. EndsFree slots pairs r.0 r.1) rows → AllByRecursion (IsEqual solved.0) (news rows) → (n : ℕ) → IsAmong (map (λ r. r.0) rows) n → image same_variable solved.0 (ind n) ≡ apply same_variable solved.0 (v n)
    by [] free is n a = absurd a
    by (r ∷ rows) free is n (inl e) = subst (λ k. image same_variable solved.0 (ind k) ≡ apply same_variable solved.0 (v k)) e (one r free.0 is.0)
    by (r ∷ rows) free is n (inr a) = by rows free.1 is.1 n a
