-- A triangular list of bindings that solves two terms, as a list whose solutions are their
-- unifiers.
use Rattle.std.proofs.Common.{◌≡◌, ◌≢◌, ℕ, ◌<◌, ◌≤◌, inl, inr, Bool, true, false, cond, List, [], ◌∷◌, refl, sym, ◌∙◌, ap, subst, arith}
use Rattle.std.proofs.lemmas.Bool.Decides.{nat_tests}
use Rattle.std.specs.Prelude.{nat_lt}
use Rattle.std.specs.List.{AllByRecursion}
use Rattle.si_defs.specs.Terms as terms
use Rattle.si_defs.specs.Substitutions.{Substitution, image, lefts, rights, IsAmong}
use Rattle.si_defs.specs.Relations.{Unifies}
use Rattle.si_defs.specs.Solutions.{IsTriangular, in_sequence}
use Rattle.si_defs.proofs.ListLaws.{all_weaker, all_front, all_back}
use Rattle.si_flat.specs.declared.Cell.{Cell}
use Rattle.si_flat.specs.Cells.{Symbol, Variable, query, entry, ind, same_variable, Term, Terms, variable_cell, cells_of, cells_of_all, IsSound, AreSound, StandsFor}
use Rattle.si_trail.specs.Trails.{HasDistinctSlots}
use Rattle.si_unify.specs.declared.slots.Slots.{Slots}
use Rattle.si_unify.specs.Solving as solving
use Rattle.si_unify.specs.Solving.{Pairs, slot_count, slot_of, variable_of, is_frozen, Equalizes, IsSolvedBy, IsBinding, RanksBelow, IsTriangularBy, HasSolved}
use Rattle.si_unify.proofs.Lists.{apart_from}
use Rattle.si_flat.proofs.VariableLaws.{variable_is, variable_self}
use Rattle.si_defs.proofs.ListLaws as members
use Rattle.si_form.proofs.UnifierLaws.{sequence_is, free_stays}
use Rattle.si_form.proofs.GeneralLaws.{Solves, general, general_solves, HasUnifiers}
use Rattle.si_form.proofs.NodeLaws.{slot_again, same_slots}
use Rattle.si_unify.specs.Solving.{CellIsInRange}
use Rattle.si_unify.proofs.Places.{variable_of-slot_of, in_range-variable}
use Rattle.si_form.proofs.FoldedLaws.{sequence_inside, lefts_gone}
use Rattle.si_unify.proofs.Rows.{count-substitute}
use Rattle.si_unify.proofs.Reading.{one_term}
use Rattle.si_unify.proofs.Binding.{slot_below}
use Rattle.si_unify.proofs.Solutions.{rows, IsApartFrom}
use Rattle.si_form.specs.Unifying.{StaysFree, IsGeneral, HasGeneral}
use Rattle.si_form.specs.Classes.{LeavesUnbound}

-- ---- rows of slots and terms
abbrev AreApart : List (ℕ × Term) → Type 0
AreApart [] = Unit {0}
AreApart (row ∷ rows) = AllByRecursion (IsApartFrom row.0) rows × AreApart rows

-- the variables of the term rank below the slot
abbrev Under : Slots → (ℕ → ℕ) → ℕ → Variable → Type 0
Under slots rank slot x = rank (slot_of slots x) < rank slot

abbrev IsRanked : Slots → (ℕ → ℕ) → ℕ × Term → Type 0
IsRanked slots rank row = AllByRecursion (Under slots rank row.0) (terms.variables row.1)

module _ (rank : ℕ → ℕ) where
  -- the row at its place, the greatest rank first
  abbrev insert : ℕ × Term → List (ℕ × Term) → List (ℕ × Term)
  insert r [] = r ∷ []
  insert r (s ∷ rs) = cond (nat_lt (rank s.0) (rank r.0)) (r ∷ s ∷ rs) (s ∷ insert r rs)

  abbrev sorted : List (ℕ × Term) → List (ℕ × Term)
  sorted [] = []
  sorted (r ∷ rs) = insert r (sorted rs)

  abbrev RanksUpTo : ℕ → ℕ × Term → Type 0
  RanksUpTo n row = rank row.0 ≤ n

  abbrev AreFalling : List (ℕ × Term) → Type 0
  AreFalling [] = Unit {0}
  AreFalling (r ∷ rs) = AllByRecursion (RanksUpTo (rank r.0)) rs × AreFalling rs

  inserted_all : (P : ℕ × Term → Type 0) (r : ℕ × Term) (rs : List (ℕ × Term)) → P r → AllByRecursion P rs → AllByRecursion P (insert r rs)
  inserted_all P r [] p h = (p, tt)
  inserted_all P r (s ∷ rs) p h = by (nat_lt (rank s.0) (rank r.0)) (inserted_all P r rs p h.1)
    where
      by : (b : Bool) → AllByRecursion P (insert r rs) → AllByRecursion P (cond b (r ∷ s ∷ rs) (s ∷ insert r rs))
      by true k = (p, h)
      by false k = (h.0, k)

  of_inserted : (P : ℕ × Term → Type 0) (r : ℕ × Term) (rs : List (ℕ × Term)) → AllByRecursion P (insert r rs) → P r × AllByRecursion P rs
  of_inserted P r [] h = (h.0, tt)
  of_inserted P r (s ∷ rs) h = by (nat_lt (rank s.0) (rank r.0)) h (λ k. of_inserted P r rs k)
    where
      by : (b : Bool) → AllByRecursion P (cond b (r ∷ s ∷ rs) (s ∷ insert r rs)) → (AllByRecursion P (insert r rs) → P r × AllByRecursion P rs) → P r × AllByRecursion P (s ∷ rs)
      by true k later = k
      by false k later = let l = later k.1 in (l.0, (k.0, l.1))

  sorted_all : (P : ℕ × Term → Type 0) (rs : List (ℕ × Term)) → AllByRecursion P rs → AllByRecursion P (sorted rs)
  sorted_all P [] h = tt
  sorted_all P (r ∷ rs) h = inserted_all P r (sorted rs) h.0 (sorted_all P rs h.1)

  of_sorted : (P : ℕ × Term → Type 0) (rs : List (ℕ × Term)) → AllByRecursion P (sorted rs) → AllByRecursion P rs
  of_sorted P [] h = tt
  of_sorted P (r ∷ rs) h = let k = of_inserted P r (sorted rs) h in (k.0, of_sorted P rs k.1)

  inserted_apart : (r : ℕ × Term) (rs : List (ℕ × Term)) → AllByRecursion (IsApartFrom r.0) rs → AreApart rs → AreApart (insert r rs)
  inserted_apart r [] a h = (tt, tt)
  inserted_apart r (s ∷ rs) a h = by (nat_lt (rank s.0) (rank r.0)) (inserted_apart r rs a.1 h.1)
    where
      by : (b : Bool) → AreApart (insert r rs) → AreApart (cond b (r ∷ s ∷ rs) (s ∷ insert r rs))
      by true k = (a, h)
      by false k = (inserted_all (IsApartFrom s.0) r rs (λ e. a.0 (sym e)) h.0, k)

  sorted_apart : (rs : List (ℕ × Term)) → AreApart rs → AreApart (sorted rs)
  sorted_apart [] h = tt
  sorted_apart (r ∷ rs) h = inserted_apart r (sorted rs) (sorted_all (IsApartFrom r.0) rs h.0) (sorted_apart rs h.1)

  inserted_falling : (r : ℕ × Term) (rs : List (ℕ × Term)) → AreFalling rs → AreFalling (insert r rs)
  inserted_falling r [] h = (tt, tt)
  inserted_falling r (s ∷ rs) h = by (nat_lt (rank s.0) (rank r.0)) refl (inserted_falling r rs h.1)
    where
      by : (b : Bool) → nat_lt (rank s.0) (rank r.0) ≡ b → AreFalling (insert r rs) → AreFalling (cond b (r ∷ s ∷ rs) (s ∷ insert r rs))
      by true e k =
          let less : rank s.0 ≤ rank r.0 = grind (arith, nat_tests) in
          ((less, all_weaker (RanksUpTo (rank s.0)) (RanksUpTo (rank r.0)) rs (λ row m. up row.0 m less) h.0), h)
        where
          up : (z : ℕ) → rank z ≤ rank s.0 → rank s.0 ≤ rank r.0 → rank z ≤ rank r.0
          up z m less = omega (arith, m, less)
      by false e k = let more : rank r.0 ≤ rank s.0 = grind (arith, nat_tests) in (inserted_all (RanksUpTo (rank s.0)) r rs more h.0, k)

  sorted_falling : (rs : List (ℕ × Term)) → AreFalling (sorted rs)
  sorted_falling [] = tt
  sorted_falling (r ∷ rs) = inserted_falling r (sorted rs) (sorted_falling rs)

-- ---- rows as bindings of variables
abbrev named : Slots → List (ℕ × Term) → List (Variable × Term)
named slots [] = []
named slots (r ∷ rs) = (variable_of slots r.0, r.1) ∷ named slots rs

pub not_named : (slots : Slots) (rs : List (ℕ × Term)) (slot : ℕ) → AllByRecursion (IsApartFrom slot) rs → IsAmong (lefts (named slots rs)) (variable_of slots slot) → ⊥
not_named slots [] slot h a = elim a [ ]
not_named slots (r ∷ rs) slot h a = elim a [ inl e ↦ h.0 (same_slots slots r.0 slot e) | inr b ↦ not_named slots rs slot h.1 b ]

module _ (slots : Slots) (rank : ℕ → ℕ) where
  not_under : (slot : ℕ) (row : ℕ × Term) → IsRanked slots rank row → rank row.0 ≤ rank slot → IsAmong (terms.variables row.1) (variable_of slots slot) → ⊥
  not_under slot row ranked less a =
      let under : rank (slot_of slots (variable_of slots slot)) < rank row.0 = members.all_at (Under slots rank row.0) (terms.variables row.1) (variable_of slots slot) ranked a in
      omega (arith, under, ap rank (slot_again slots slot), less)

  clear_rights : (slot : ℕ) (rs : List (ℕ × Term)) → AllByRecursion (IsRanked slots rank) rs → AllByRecursion (RanksUpTo rank (rank slot)) rs → AllByRecursion (λ t. IsAmong (terms.variables t) (variable_of slots slot) → ⊥) (rights (named slots rs))
  clear_rights slot [] h k = tt
  clear_rights slot (r ∷ rs) h k = (not_under slot r h.0 k.0, clear_rights slot rs h.1 k.1)

  named_triangular : (rs : List (ℕ × Term)) → AllByRecursion (IsRanked slots rank) rs → AreApart rs → AreFalling rank rs → IsTriangular same_variable (named slots rs)
  named_triangular [] h a f = tt
  named_triangular (r ∷ rs) h a f = (
    not_named slots rs r.0 a.0,
    (not_under r.0 r h.0 (omega arith), clear_rights r.0 rs h.1 f.0),
    named_triangular rs h.1 a.1 f.1,
  )

-- ---- the rows of bindings
mutual
  pub variables_ranked : (C : Cell → Type 0) (P : Variable → Type 0) (t : Term) → ((x : Variable) → C (variable_cell x) → P x) → AllByRecursion C (cells_of t) → AllByRecursion P (terms.variables t)
  variables_ranked C P (terms.var x) give h = (give x h.0, tt)
  variables_ranked C P (terms.app s ts) give h = all_variables_ranked C P ts give h.1

  pub all_variables_ranked : (C : Cell → Type 0) (P : Variable → Type 0) (ts : Terms) → ((x : Variable) → C (variable_cell x) → P x) → AllByRecursion C (cells_of_all ts) → AllByRecursion P (terms.variables_of_all ts)
  all_variables_ranked C P terms.none give h = tt
  all_variables_ranked C P (terms.more t ts) give h =
      members.all_append P (terms.variables t) (terms.variables_of_all ts)
      (variables_ranked C P t give (all_front C (cells_of t) (cells_of_all ts) h))
      (all_variables_ranked C P ts give (all_back C (cells_of t) (cells_of_all ts) h))

under_cell : (slots : Slots) (rank : ℕ → ℕ) (slot : ℕ) (x : Variable) → RanksBelow slots rank slot (variable_cell x) → Under slots rank slot x
under_cell slots rank slot (query n) h = h
under_cell slots rank slot (entry n) h = h
under_cell slots rank slot (ind n) h = h

rows_ranked : (slots : Slots) (rank : ℕ → ℕ) (pairs : Pairs) (b : AllByRecursion (IsBinding slots) pairs) → IsTriangularBy slots rank pairs → AllByRecursion (IsRanked slots rank) (rows slots pairs b)
rows_ranked slots rank [] b t = tt
rows_ranked slots rank (pair ∷ pairs) b t = (
  variables_ranked (RanksBelow slots rank pair.0) (Under slots rank pair.0) b.0.whole.0 (λ x h. under_cell slots rank pair.0 x h)
      (subst (AllByRecursion (RanksBelow slots rank pair.0)) b.0.whole.1.cells_are t.0),
  rows_ranked slots rank pairs b.1 t.1,
)

rows_from : (slots : Slots) (pairs : Pairs) (b : AllByRecursion (IsBinding slots) pairs) (slot : ℕ) → AllByRecursion (λ pair. pair.0 ≢ slot) pairs → AllByRecursion (IsApartFrom slot) (rows slots pairs b)
rows_from slots [] b slot h = tt
rows_from slots (pair ∷ pairs) b slot h = (h.0, rows_from slots pairs b.1 slot h.1)

rows_apart : (slots : Slots) (pairs : Pairs) (b : AllByRecursion (IsBinding slots) pairs) → HasDistinctSlots pairs → AreApart (rows slots pairs b)
rows_apart slots [] b d = tt
rows_apart slots (pair ∷ pairs) b d = (rows_from slots pairs b.1 pair.0 (apart_from pairs pair.0 d.0), rows_apart slots pairs b.1 d.1)

abbrev IsEqualBy : Slots → (Variable → Term) → ℕ × Term → Type 0
IsEqualBy slots f row = f (variable_of slots row.0) ≡ terms.substitute f row.1

named_solves : (slots : Slots) (f : Variable → Term) (rs : List (ℕ × Term)) → AllByRecursion (IsEqualBy slots f) rs → Solves f (named slots rs)
named_solves slots f [] h = tt
named_solves slots f (r ∷ rs) h = (h.0, named_solves slots f rs h.1)

of_named_solves : (slots : Slots) (f : Variable → Term) (rs : List (ℕ × Term)) → Solves f (named slots rs) → AllByRecursion (IsEqualBy slots f) rs
of_named_solves slots f [] h = tt
of_named_solves slots f (r ∷ rs) h = (h.0, of_named_solves slots f rs h.1)

rows_equal : (slots : Slots) (f : Variable → Term) (pairs : Pairs) (b : AllByRecursion (IsBinding slots) pairs) → AllByRecursion (λ pair. Equalizes f (variable_cell (variable_of slots pair.0) ∷ []) pair.1.now) pairs → AllByRecursion (IsEqualBy slots f) (rows slots pairs b)
rows_equal slots f [] b h = tt
rows_equal slots f (pair ∷ pairs) b h =
    (h.0 (terms.var (variable_of slots pair.0)) b.0.whole.0 (record { cells_are = refl; sound = tt }) b.0.whole.1, rows_equal slots f pairs b.1 h.1)

of_rows_equal : (slots : Slots) (f : Variable → Term) (pairs : Pairs) (b : AllByRecursion (IsBinding slots) pairs) → AllByRecursion (IsEqualBy slots f) (rows slots pairs b) → AllByRecursion (λ pair. Equalizes f (variable_cell (variable_of slots pair.0) ∷ []) pair.1.now) pairs
of_rows_equal slots f [] b h = tt
of_rows_equal slots f (pair ∷ pairs) b h = (
  (λ t u left right.
      ap (terms.substitute f) (one_term (variable_cell (variable_of slots pair.0) ∷ []) t (terms.var (variable_of slots pair.0)) left (record { cells_are = refl; sound = tt }))
      ∙ h.0
      ∙ ap (terms.substitute f) (one_term pair.1.now b.0.whole.0 u b.0.whole.1 right)),
  of_rows_equal slots f pairs b.1 h.1,
)

-- ---- the variables of rows
abbrev pub HasSlot : Slots → Variable → Type 0
HasSlot slots y = (j : ℕ) × (j < slot_count slots) × (y ≡ variable_of slots j)

pub cell_has_slot : (slots : Slots) (x : Variable) → CellIsInRange slots (variable_cell x) → HasSlot slots x
cell_has_slot slots x h =
    let range = in_range-variable slots x h in
    (slot_of slots x, slot_below slots x range, sym (variable_of-slot_of slots x range))

abbrev HasSlots : Slots → ℕ × Term → Type 0
HasSlots slots row = AllByRecursion (HasSlot slots) (terms.variables row.1)

rows_have_slots : (slots : Slots) (pairs : Pairs) (b : AllByRecursion (IsBinding slots) pairs) → AllByRecursion (HasSlots slots) (rows slots pairs b)
rows_have_slots slots [] b = tt
rows_have_slots slots (pair ∷ pairs) b = (
  variables_ranked (CellIsInRange slots) (HasSlot slots) b.0.whole.0 (λ x h. cell_has_slot slots x h)
      (subst (AllByRecursion (CellIsInRange slots)) b.0.whole.1.cells_are b.0.in_range),
  rows_have_slots slots pairs b.1,
)

named_rights : (slots : Slots) (rs : List (ℕ × Term)) → AllByRecursion (HasSlots slots) rs → AllByRecursion (λ u. AllByRecursion (HasSlot slots) (terms.variables u)) (rights (named slots rs))
named_rights slots [] h = tt
named_rights slots (r ∷ rs) h = (h.0, named_rights slots rs h.1)

-- ---- nothing is frozen
none_frozen : {P : Type 0} (slots : Slots) → slots.freeze_query ≡ false → slots.freeze_entry ≡ false → (x : Variable) → is_frozen slots x ≡ true → P
none_frozen slots a b (query n) e = let bad : true ≡ false = sym e ∙ a in cc
none_frozen slots a b (entry n) e = let bad : true ≡ false = sym e ∙ b in cc
none_frozen slots a b (ind n) e = let bad : false ≡ true = e in cc

-- ---- sound terms
rows_sound : (slots : Slots) (pairs : Pairs) (b : AllByRecursion (IsBinding slots) pairs) → AllByRecursion (λ row. IsSound row.1) (rows slots pairs b)
rows_sound slots [] b = tt
rows_sound slots (pair ∷ pairs) b = (b.0.whole.1.sound, rows_sound slots pairs b.1)

named_sound : (slots : Slots) (rs : List (ℕ × Term)) → AllByRecursion (λ row. IsSound row.1) rs → AllByRecursion IsSound (rights (named slots rs))
named_sound slots [] h = tt
named_sound slots (r ∷ rs) h = (h.0, named_sound slots rs h.1)

mutual
  substituted_sound : (f : Variable → Term) (t : Term) → ((y : Variable) → IsSound (f y)) → IsSound t → IsSound (terms.substitute f t)
  substituted_sound f (terms.var x) give h = give x
  substituted_sound f (terms.app s ts) give h = (count-substitute f ts ∙ h.0, all_substituted_sound f ts give h.1)

  all_substituted_sound : (f : Variable → Term) (ts : Terms) → ((y : Variable) → IsSound (f y)) → AreSound ts → AreSound (terms.substitute_all f ts)
  all_substituted_sound f terms.none give h = tt
  all_substituted_sound f (terms.more t ts) give h = (substituted_sound f t give h.0, all_substituted_sound f ts give h.1)

sequence_sound : (bs : List (Variable × Term)) (t : Term) → IsSound t → AllByRecursion IsSound (rights bs) → IsSound (in_sequence same_variable bs t)
sequence_sound [] t h k = h
sequence_sound (b ∷ bs) t h k =
    sequence_sound bs (terms.substitute (λ y. cond (same_variable b.0 y) b.1 (terms.var y)) t)
    (substituted_sound (λ y. cond (same_variable b.0 y) b.1 (terms.var y)) t (λ y. by y (same_variable b.0 y)) h)
    k.1
  where
    by : (y : Variable) (c : Bool) → IsSound (cond c b.1 (terms.var y))
    by y true = k.0
    by y false = tt

module _ (slots : Slots) (free_query : slots.freeze_query ≡ false) (free_entry : slots.freeze_entry ≡ false) (pairs : Pairs) (bindings : AllByRecursion (IsBinding slots) pairs) (distinct : HasDistinctSlots pairs) (triangular : solving.IsAcyclic slots pairs) where
  -- the bindings as a triangular list
  abbrev pub bound_list : List (Variable × Term)
  bound_list = named slots (sorted triangular.0 (rows slots pairs bindings))

  bound_triangular : IsTriangular same_variable bound_list
  bound_triangular =
      named_triangular slots triangular.0 (sorted triangular.0 (rows slots pairs bindings))
      (sorted_all triangular.0 (IsRanked slots triangular.0) (rows slots pairs bindings) (rows_ranked slots triangular.0 pairs bindings triangular.1))
      (sorted_apart triangular.0 (rows slots pairs bindings) (rows_apart slots pairs bindings distinct))
      (sorted_falling triangular.0 (rows slots pairs bindings))

  solves_of : (f : Variable → Term) → IsSolvedBy slots pairs f → Solves f bound_list
  solves_of f h = named_solves slots f (sorted triangular.0 (rows slots pairs bindings)) (sorted_all triangular.0 (IsEqualBy slots f) (rows slots pairs bindings) (rows_equal slots f pairs bindings h.equal))

  of_solves : (f : Variable → Term) → Solves f bound_list → IsSolvedBy slots pairs f
  of_solves f h = record {
    frozen = λ x e. none_frozen slots free_query free_entry x e;
    equal = of_rows_equal slots f pairs bindings (of_sorted triangular.0 (IsEqualBy slots f) (rows slots pairs bindings) (of_named_solves slots f (sorted triangular.0 (rows slots pairs bindings)) h));
  }

  -- the map that the list makes solves the bindings, and leaves the variables that aren't bound
  pub general_of_bound : IsSolvedBy slots pairs (general same_variable variable_is variable_self bound_list)
  general_of_bound = of_solves (general same_variable variable_is variable_self bound_list) (general_solves same_variable variable_is variable_self bound_list bound_triangular)

  pub general_leaves : LeavesUnbound slots pairs (general same_variable variable_is variable_self bound_list)
  general_leaves slot less unbound =
      sym (sequence_is same_variable variable_is variable_self bound_list (terms.var (variable_of slots slot)))
      ∙ free_stays same_variable variable_is variable_self bound_list (variable_of slots slot)
      (not_named slots (sorted triangular.0 (rows slots pairs bindings)) slot
      (sorted_all triangular.0 (IsApartFrom slot) (rows slots pairs bindings) (rows_from slots pairs bindings slot (apart_from pairs slot unbound))))

  -- the variables of images are variables of slots that the map leaves
  pub general_stays : (k : ℕ) → k < slot_count slots → AllByRecursion (StaysFree slots (general same_variable variable_is variable_self bound_list)) (terms.variables (general same_variable variable_is variable_self bound_list (variable_of slots k)))
  general_stays k less =
      subst (λ t. AllByRecursion (StaysFree slots (general same_variable variable_is variable_self bound_list)) (terms.variables t)) (sequence_is same_variable variable_is variable_self bound_list (terms.var (variable_of slots k)))
      (
      members.all_from (StaysFree slots (general same_variable variable_is variable_self bound_list)) (terms.variables (in_sequence same_variable bound_list (terms.var (variable_of slots k))))
      (λ y a.
      let known =
      members.all_at (HasSlot slots) (terms.variables (in_sequence same_variable bound_list (terms.var (variable_of slots k)))) y
      (sequence_inside same_variable variable_is variable_self (HasSlot slots) bound_list (terms.var (variable_of slots k)) ((k, less, refl), tt)
      (named_rights slots (sorted triangular.0 (rows slots pairs bindings)) (sorted_all triangular.0 (HasSlots slots) (rows slots pairs bindings) (rows_have_slots slots pairs bindings))))
      a in (
        known.0,
        known.1,
        known.2,
        sym (sequence_is same_variable variable_is variable_self bound_list (terms.var y))
            ∙ free_stays same_variable variable_is variable_self bound_list y
            (λ l. lefts_gone same_variable variable_is variable_self bound_list (terms.var (variable_of slots k)) y bound_triangular l a),
      ))
      )

  pub general_sound : (x : Variable) → IsSound (general same_variable variable_is variable_self bound_list x)
  general_sound x =
      subst IsSound (sequence_is same_variable variable_is variable_self bound_list (terms.var x))
      (
      sequence_sound bound_list (terms.var x) tt
      (named_sound slots (sorted triangular.0 (rows slots pairs bindings)) (sorted_all triangular.0 (λ row. IsSound row.1) (rows slots pairs bindings) (rows_sound slots pairs bindings)))
      )

  pub is_general : IsGeneral slots pairs (general same_variable variable_is variable_self bound_list)
  is_general = record {
    solves = general_of_bound;
    leaves = general_leaves;
    stays = λ k less. general_stays k less;
    sound = λ k less. general_sound (variable_of slots k);
  }

  pub has_general : HasGeneral slots pairs
  has_general = (general same_variable variable_is variable_self bound_list, is_general)

  -- its solutions are the unifiers of the two terms that were solved
  pub has_unifiers : (left right : List Cell) (q e : Term) → StandsFor left q → StandsFor right e → HasSolved slots [] pairs left right true → HasUnifiers same_variable variable_is variable_self q e bound_list
  has_unifiers left right q e p t solved = record {
    triangular = bound_triangular;
    every = λ s unifies.
        solves_of (image same_variable s)
        ((solved.1 s).1 (
          record { frozen = λ x k. none_frozen slots free_query free_entry x k; equal = tt },
          (λ u v left_u right_v.
              ap (terms.substitute (image same_variable s)) (one_term left u q left_u p) ∙ unifies ∙ ap (terms.substitute (image same_variable s)) (one_term right e v t right_v)),
        ));
    only = λ s solves. ((solved.1 s).0 (of_solves (image same_variable s) solves)).1 q e p t;
  }

  pub no_unifier : (left right : List Cell) (q e : Term) → StandsFor left q → StandsFor right e → (solving.HaveCommon slots [] left right → ⊥) → (s : Substitution Symbol Variable) → Unifies same_variable q e s → ⊥
  no_unifier left right q e p t none s unifies =
      none (
        s,
        (
          record { frozen = λ x k. none_frozen slots free_query free_entry x k; equal = tt },
          (λ u v left_u right_v.
              ap (terms.substitute (image same_variable s)) (one_term left u q left_u p) ∙ unifies ∙ ap (terms.substitute (image same_variable s)) (one_term right e v t right_v)),
        ),
      )
