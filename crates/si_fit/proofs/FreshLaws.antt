-- What a list tells nothing of isn't mentioned there, and what isn't mentioned stays so.
use Rattle.std.proofs.Common.{◌≡◌, ◌⊎◌, inl, inr, ℕ, ◌+◌, ◌<◌, ◌≤◌, List, [], ◌∷◌, ◌++◌, cond, ◌-◌, ◌==◌, true, false, refl, sym, ◌∙◌, ap, subst, arith, Option, None, Some}
use Rattle.std.proofs.lemmas.Bool.Decides.{eqb_tells}
use Rattle.std.specs.List.{AllByRecursion}
use Rattle.std.specs.Borrow.{Bor}
use Rattle.si_defs.specs.Terms as terms
use Rattle.si_defs.specs.Substitutions.{Substitution, image, IsAmong}
use Rattle.si_defs.proofs.ListLaws.{all_at, all_from, all_with, all_append, all_back, among_front, among_back}
use Rattle.si_flat.specs.declared.Cell.{Cell}
use Rattle.si_flat.specs.declared.Cell.TheVariants as cell
use Rattle.si_flat.specs.Cells.{Symbol, Variable, query, entry, ind, same_variable, Term, Terms, variable_cell, cells_of, cells_of_all, IsWhole}
use Rattle.si_trail.specs.Trails.{value_at, HasDistinctSlots}
use Rattle.si_unify.specs.declared.slots.Slots.{Slots}
use Rattle.si_unify.specs.Solving.{Pairs, slot_of, variable_of, is_frozen, IsInRange, CellIsInRange, AreInRange, Equalizes, IsBinding, RanksBelow, IsAcyclic, IsSolution, AllowsSolving}
use Rattle.si_unify.specs.Spots.{cell_slot, ChainComesDown}
use Rattle.si_unify.proofs.Binding.{solved_front}
use Rattle.si_unify.proofs.Places.{variable_of-slot_of}
use Rattle.si_unify.proofs.Solutions.{lt_tells, solved_of_triangular}
use Rattle.si_unify.proofs.Weights.{FitsIn, fits}
use Rattle.si_fit.specs.Ends.{EndsAt}
use Rattle.si_fit.specs.Fresh.{IsUnmentioned}
use Rattle.si_fit.specs.Meeting.{slot_cells, HasMet}
use Rattle.si_fit.specs.declared.meeting.Met.TheVariants.{Equal}
use Rattle.si_fit.proofs.BindLaws.{below_of, of_below, slot_rank, top_rank, none_higher}

-- ---- a map changed at an indicator
module _ (n : ℕ) (t : Term) (s : Substitution Symbol Variable) where
  abbrev pub changed : Variable → Term
  changed = image same_variable ((ind n, t) ∷ s)

  there : changed (ind n) ≡ t
  there = elim (eqb_tells n n) [ inl h ↦ rw h.0 refl | inr h ↦ absurd (h.1 refl) ]

  pub elsewhere : (x : Variable) → (x ≡ ind n → ⊥) → changed x ≡ image same_variable s x
  elsewhere (query m) other = refl
  elsewhere (entry m) other = refl
  elsewhere (ind m) other = elim (eqb_tells n m) [ inl h ↦ absurd (other (ap (λ k. ind k) (sym h.1))) | inr h ↦ rw h.0 refl ]

  -- a term without it becomes what it was
  mutual
    pub unchanged : (u : Term) → (IsAmong (cells_of u) (cell.Ind n) → ⊥) → terms.substitute changed u ≡ terms.substitute (image same_variable s) u
    unchanged (terms.var x) lacks = elsewhere x (λ e. lacks (inl (ap variable_cell e)))
    unchanged (terms.app r us) lacks = ap (terms.app r) (all_unchanged us (λ a. lacks (inr a)))

    all_unchanged : (us : Terms) → (IsAmong (cells_of_all us) (cell.Ind n) → ⊥) → terms.substitute_all changed us ≡ terms.substitute_all (image same_variable s) us
    all_unchanged terms.none lacks = refl
    all_unchanged (terms.more u us) lacks =
        let first = unchanged u (λ a. lacks (among_front (cells_of u) (cells_of_all us) (cell.Ind n) a)) in
        let rest = all_unchanged us (λ a. lacks (among_back (cells_of u) (cells_of_all us) (cell.Ind n) a)) in
        λ k. terms.more (first k) (rest k)

  pub still_equal : (left right : List Cell) → (IsAmong left (cell.Ind n) → ⊥) → (IsAmong right (cell.Ind n) → ⊥) → Equalizes (image same_variable s) left right → Equalizes changed left right
  still_equal left right left_lacks right_lacks h u v p q =
      unchanged u (subst (λ l. IsAmong l (cell.Ind n) → ⊥) p.cells_are left_lacks)
      ∙ h u v p q
      ∙ sym (unchanged v (subst (λ l. IsAmong l (cell.Ind n) → ⊥) q.cells_are right_lacks))

  pub still_frozen : (slots : Slots) → ((x : Variable) → is_frozen slots x ≡ true → image same_variable s x ≡ terms.var x) → (x : Variable) → is_frozen slots x ≡ true → changed x ≡ terms.var x
  still_frozen slots h x frozen = elsewhere x (λ e. not_frozen (sym (ap (is_frozen slots) e) ∙ frozen)) ∙ h x frozen where
    not_frozen : false ≡ true → ⊥
    not_frozen e = cc

  variable_lacks : (x : Variable) → (x ≡ ind n → ⊥) → IsAmong (variable_cell x ∷ []) (cell.Ind n) → ⊥
  variable_lacks (query m) other (inl e) = let bad : cell.Query m ≡ cell.Ind n = e in cc
  variable_lacks (entry m) other (inl e) = let bad : cell.Entry m ≡ cell.Ind n = e in cc
  variable_lacks (ind m) other (inl e) = other (same e) where
    same : cell.Ind m ≡ cell.Ind n → ind m ≡ ind n
    same e = cc
  variable_lacks x other (inr a) = absurd a

  -- it solves what doesn't mention the indicator
  pub still_solved : (slots : Slots) (pairs : Pairs) → IsUnmentioned slots pairs n → IsSolution slots pairs s → IsSolution slots pairs ((ind n, t) ∷ s)
  still_solved slots pairs unmentioned is = record {
    frozen = still_frozen slots is.frozen;
    equal =
        all_with (λ pair. (variable_of slots pair.0 ≡ ind n → ⊥) × (IsAmong pair.1.now (cell.Ind n) → ⊥)) (λ pair. Equalizes (image same_variable s) (variable_cell (variable_of slots pair.0) ∷ []) pair.1.now) (λ pair. Equalizes changed (variable_cell (variable_of slots pair.0) ∷ []) pair.1.now) pairs
        (λ pair h equal. still_equal (variable_cell (variable_of slots pair.0) ∷ []) pair.1.now (variable_lacks (variable_of slots pair.0) h.0) h.1 equal)
        unmentioned is.equal;
  }

-- ---- a term that is larger than another
abbrev larger : Term → Term
larger t = terms.app (record { number = 0; arity = 1 }) (terms.more t terms.none)

-- Where each change of the map still makes two terms equal, and the first lacks the indicator, the
-- second does too.
lacks_too : (n : ℕ) (s : Substitution Symbol Variable) (first last : Term) → (terms.substitute (changed n (larger (terms.substitute (image same_variable s) first)) s) first ≡ terms.substitute (image same_variable s) first) → ((t : Term) → terms.substitute (changed n t s) first ≡ terms.substitute (changed n t s) last) → IsAmong (cells_of last) (cell.Ind n) → ⊥
lacks_too n s first last kept equal a =
    let big : Term = larger (terms.substitute (image same_variable s) first) in
    let f : Variable → Term = changed n (larger (terms.substitute (image same_variable s) first)) s in
    let within : terms.size (f (ind n)) ≤ terms.size (terms.substitute f last) =
    all_at (FitsIn f (terms.size (terms.substitute f last))) (cells_of last) (cell.Ind n) (fits f (terms.size (terms.substitute f last)) last (omega arith)) a in
    absurd (omega (arith, within, ap terms.size (there n big s), ap terms.size kept, ap terms.size (equal big)))

is_it : (n : ℕ) (x : Variable) → (x ≡ ind n) ⊎ (x ≡ ind n → ⊥)
is_it n (query m) = inr (λ e. (let bad : query m ≡ ind n = e in cc))
is_it n (entry m) = inr (λ e. (let bad : entry m ≡ ind n = e in cc))
is_it n (ind m) = elim (eqb_tells m n) [ inl h ↦ inl (ap (λ k. ind k) h.1) | inr h ↦ inr (λ e. h.1 (number e)) ] where
  number : ind m ≡ ind n → m ≡ n
  number e = cc

no_query : (m n : ℕ) → query m ≡ ind n → ⊥
no_query m n e = cc

no_entry : (m n : ℕ) → entry m ≡ ind n → ⊥
no_entry m n e = cc

slot_back : (slots : Slots) (k n : ℕ) → variable_of slots k ≡ ind n → slot_of slots (ind n) ≡ k
slot_back slots k n e =
    elim (lt_tells k slots.query) [
      | inl h ↦ let bad : query k ≡ ind n = rw h.0 at e in absurd (no_query k n bad)
      | inr h ↦
          elim (lt_tells k (slots.query + slots.entry)) [
            | inl j ↦ let bad : entry (k - slots.query) ≡ ind n = rw (h.0, j.0) at e in absurd (no_entry (k - slots.query) n bad)
            | inr j ↦ let same : ind (k - slots.query - slots.entry) ≡ ind n = rw (h.0, j.0) at e in omega (arith, number same, h.1, j.1)
          ]
    ]
  where
    number : ind (k - slots.query - slots.entry) ≡ ind n → k - slots.query - slots.entry ≡ n
    number e = cc

-- ---- what a list tells nothing of
module _ (slots : Slots) (n : ℕ) (s : Substitution Symbol Variable) (pairs : Pairs) (is : IsSolution slots pairs s) (untold : (t : Term) → IsSolution slots pairs ((ind n, t) ∷ s)) where
  -- isn't mentioned
  module _ (bindings : AllByRecursion (IsBinding slots) pairs) (triangular : IsAcyclic slots pairs) (pair : ℕ × Bor (List Cell)) (a : IsAmong pairs pair) where
    abbrev x : Variable
    x = variable_of slots pair.0

    whole : IsWhole pair.1.now
    whole = (all_at (IsBinding slots) pairs pair bindings a).whole

    by_map : (f : Variable → Term) → AllByRecursion (λ p. Equalizes f (variable_cell (variable_of slots p.0) ∷ []) p.1.now) pairs → f x ≡ terms.substitute f whole.0
    by_map f equal = all_at (λ p. Equalizes f (variable_cell (variable_of slots p.0) ∷ []) p.1.now) pairs pair equal a (terms.var x) whole.0 (record { cells_are = refl; sound = tt }) whole.1

    value_lacks : IsAmong (cells_of whole.0) (cell.Ind n) → ⊥
    value_lacks m =
        elim (is_it n x) [
          | inl e ↦
              let ranked : AllByRecursion (RanksBelow slots triangular.0 pair.0) (cells_of whole.0) =
              subst (AllByRecursion (RanksBelow slots triangular.0 pair.0)) whole.1.cells_are (all_at (λ p. AllByRecursion (RanksBelow slots triangular.0 p.0) p.1.now) pairs pair triangular.1 a) in
              let below : triangular.0 (slot_of slots (ind n)) < triangular.0 pair.0 = all_at (RanksBelow slots triangular.0 pair.0) (cells_of whole.0) (cell.Ind n) ranked m in
              absurd (omega (arith, below, ap triangular.0 (slot_back slots pair.0 n e)))
          | inr other ↦ lacks_too n s (terms.var x) whole.0 (elsewhere n _ s x other) (λ t. by_map (changed n t s) (untold t).equal) m
        ]

    not_bound : x ≡ ind n → ⊥
    not_bound e =
        let same : larger (image same_variable s x) ≡ image same_variable s x =
        sym (ap (changed n (larger (image same_variable s x)) s) e ∙ there n (larger (image same_variable s x)) s)
        ∙ by_map (changed n (larger (image same_variable s x)) s) (untold (larger (image same_variable s x))).equal
        ∙ unchanged n (larger (image same_variable s x)) s whole.0 value_lacks
        ∙ sym (by_map (image same_variable s) is.equal) in
        absurd (omega (arith, ap terms.size same))

  pub unmentioned : AllByRecursion (IsBinding slots) pairs → IsAcyclic slots pairs → IsUnmentioned slots pairs n
  unmentioned bindings triangular =
      all_from (λ pair. (variable_of slots pair.0 ≡ ind n → ⊥) × (IsAmong pair.1.now (cell.Ind n) → ⊥)) pairs
      (λ pair a. (
        not_bound bindings triangular pair a,
        λ m. value_lacks bindings triangular pair a (subst (λ l. IsAmong l (cell.Ind n)) (whole bindings triangular pair a).1.cells_are m),
      ))

  -- and no chain that begins elsewhere ends at a term with it
  pub end_lacks : (start end : List Cell) → EndsAt slots pairs start end → (IsAmong start (cell.Ind n) → ⊥) → IsAmong end (cell.Ind n) → ⊥
  end_lacks start end e lacks m =
      lacks_too n s e.first e.last
      (unchanged n _ s e.first (subst (λ l. IsAmong l (cell.Ind n) → ⊥) e.first_stands.cells_are lacks))
      (λ t. e.same (changed n t s) (untold t))
      (subst (λ l. IsAmong l (cell.Ind n)) e.last_stands.cells_are m)

-- it stays so where terms without it are made equal
pub still_unmentioned : (slots : Slots) (old new : Pairs) (left right : List Cell) (n count : ℕ) → HasMet slots old new left right Equal → AllowsSolving slots new count → HasDistinctSlots new → IsUnmentioned slots old n → (IsAmong left (cell.Ind n) → ⊥) → (IsAmong right (cell.Ind n) → ⊥) → IsUnmentioned slots new n
still_unmentioned slots old new left right n count met ready distinct none left_lacks right_lacks =
    let some = solved_of_triangular slots new ready.bindings distinct ready.triangular in
    let before = (met (image same_variable some.0)).0 some.1 in
    unmentioned slots n some.0 new some.1 (λ t. (met (changed n t some.0)).1 (still_solved n t some.0 slots old none before.0, still_equal n t some.0 left right left_lacks right_lacks before.1))
    ready.bindings ready.triangular

-- nor does a chain lead from a term without it to one with it
pub end_still_lacks : (slots : Slots) (pairs : Pairs) (start end : List Cell) (n count : ℕ) → AllowsSolving slots pairs count → HasDistinctSlots pairs → IsUnmentioned slots pairs n → EndsAt slots pairs start end → (IsAmong start (cell.Ind n) → ⊥) → IsAmong end (cell.Ind n) → ⊥
end_still_lacks slots pairs start end n count ready distinct none ends lacks =
    let some = solved_of_triangular slots pairs ready.bindings distinct ready.triangular in
    end_lacks slots n some.0 pairs some.1 (λ t. still_solved n t some.0 slots pairs none some.1) start end ends lacks

-- ---- bound without a look
-- a list with one pair more is solved by what makes the two sides of that equal too
pub pair_met : (slots : Slots) (pairs : Pairs) (slot : ℕ) (v : Bor (List Cell)) → HasMet slots pairs (pairs ++ (slot, v) ∷ []) (slot_cells slots slot) v.now Equal
pair_met slots pairs slot v f = (
  λ solved. (
    solved_front slots pairs ((slot, v) ∷ []) f solved,
    (all_back (λ pair. Equalizes f (variable_cell (variable_of slots pair.0) ∷ []) pair.1.now) pairs ((slot, v) ∷ []) solved.equal).0,
  ),
  λ both. record {
    frozen = both.0.frozen;
    equal = all_append (λ pair. Equalizes f (variable_cell (variable_of slots pair.0) ∷ []) pair.1.now) pairs ((slot, v) ∷ []) both.0.equal (both.1, tt);
  },
)

module _ (slots : Slots) (pairs : Pairs) (n count : ℕ) (v : Bor (List Cell)) (ready : AllowsSolving slots pairs count) (range : IsInRange slots (ind n)) (none : IsUnmentioned slots pairs n) (whole : IsWhole v.now) (v_range : AreInRange slots v.now) (lacks : IsAmong v.now (cell.Ind n) → ⊥) where
  abbrev slot : ℕ
  slot = slot_of slots (ind n)

  name : variable_of slots slot ≡ ind n
  name = variable_of-slot_of slots (ind n) range

  pub slot_unbound : value_at pairs slot ≡ None
  slot_unbound = go pairs none where
    go : (some : Pairs) → IsUnmentioned slots some n → value_at some slot ≡ None
    go [] h = refl
    go (pair ∷ some) h = elim (eqb_tells pair.0 slot) [
      | inl e ↦ absurd (h.0.0 (ap (variable_of slots) e.1 ∙ name))
      | inr e ↦ rw e.0 (go some h.1)
    ]

  -- the new slot ranks above all of its value
  abbrev old : ℕ → ℕ
  old = ready.triangular.0

  abbrev rank : ℕ → ℕ
  rank k = cond (k == slot) (1 + top_rank slots old v.now) (old k)

  other_rank : (k : ℕ) → (k ≡ slot → ⊥) → rank k ≡ old k
  other_rank k other = elim (eqb_tells k slot) [ inl h ↦ absurd (other h.1) | inr h ↦ rw h.0 refl ]

  own_rank : rank slot ≡ 1 + top_rank slots old v.now
  own_rank = elim (eqb_tells slot slot) [ inl h ↦ rw h.0 refl | inr h ↦ absurd (h.1 refl) ]

  other_slot : (y : Variable) → IsInRange slots y → (y ≡ ind n → ⊥) → slot_of slots y ≡ slot → ⊥
  other_slot y inside other e = other (sym (variable_of-slot_of slots y inside) ∙ ap (variable_of slots) e ∙ name)

  -- a cell of another variable has another slot
  other_cell : (c : Cell) → CellIsInRange slots c → (c ≡ cell.Ind n → ⊥) → (m : ℕ) → cell_slot slots c ≡ Some m → m ≡ slot → ⊥
  other_cell (cell.App s a k) inside other m e same = let bad : None ≡ Some m = e in cc
  other_cell (cell.Query k) inside other m e same = let is : slot_of slots (query k) ≡ m = cc in other_slot (query k) inside (no_query k n) (is ∙ same)
  other_cell (cell.Entry k) inside other m e same = let is : slot_of slots (entry k) ≡ m = cc in other_slot (entry k) inside (no_entry k n) (is ∙ same)
  other_cell (cell.Ind k) inside other m e same = let is : slot_of slots (ind k) ≡ m = cc in other_slot (ind k) inside (λ f. other (of_variable f)) (is ∙ same) where
    of_variable : ind k ≡ ind n → cell.Ind k ≡ cell.Ind n
    of_variable f = ap variable_cell f

  still_below : (k : ℕ) (o : Option ℕ) → (k ≡ slot → ⊥) → ((m : ℕ) → o ≡ Some m → m ≡ slot → ⊥) → ChainComesDown old k o → ChainComesDown rank k o
  still_below k None other others h = tt
  still_below k (Some m) other others h = omega (arith, h, other_rank k other, other_rank m (others m refl))

  now_below : (o : Option ℕ) → ((m : ℕ) → o ≡ Some m → m ≡ slot → ⊥) → slot_rank old o ≤ top_rank slots old v.now → ChainComesDown rank slot o
  now_below None others low = tt
  now_below (Some m) others low = omega (arith, low, own_rank, other_rank m (others m refl))

  old_ranked : (pair : ℕ × Bor (List Cell)) → IsAmong pairs pair → AllByRecursion (RanksBelow slots rank pair.0) pair.1.now
  old_ranked pair a =
      let free = all_at (λ p. (variable_of slots p.0 ≡ ind n → ⊥) × (IsAmong p.1.now (cell.Ind n) → ⊥)) pairs pair none a in
      let b = all_at (IsBinding slots) pairs pair ready.bindings a in
      let ranked = all_at (λ p. AllByRecursion (RanksBelow slots old p.0) p.1.now) pairs pair ready.triangular.1 a in
      all_from (RanksBelow slots rank pair.0) pair.1.now
      (λ c m. of_below slots rank pair.0 c (still_below pair.0 (cell_slot slots c) (λ e. free.0 (ap (variable_of slots) e ∙ name))
      (other_cell c (all_at (CellIsInRange slots) pair.1.now c b.in_range m) (λ e. free.1 (subst (IsAmong pair.1.now) e m)))
      (below_of slots old pair.0 c (all_at (RanksBelow slots old pair.0) pair.1.now c ranked m))))

  now_ranked : AllByRecursion (RanksBelow slots rank slot) v.now
  now_ranked =
      all_from (RanksBelow slots rank slot) v.now
      (λ c m. of_below slots rank slot c (now_below (cell_slot slots c)
      (other_cell c (all_at (CellIsInRange slots) v.now c v_range m) (λ e. lacks (subst (IsAmong v.now) e m)))
      (all_at (λ d. slot_rank old (cell_slot slots d) ≤ top_rank slots old v.now) v.now c (none_higher slots old v.now) m)))

  pub fresh_ready : AllowsSolving slots (pairs ++ (slot, v) ∷ []) count
  fresh_ready = record {
    room = ready.room;
    bindings =
        all_append (IsBinding slots) pairs ((slot, v) ∷ []) ready.bindings (
          record { below = omega (arith, range); unfrozen = ap (is_frozen slots) name; whole = whole; in_range = v_range },
          tt,
        );
    triangular = (
      rank,
      all_append (λ pair. AllByRecursion (RanksBelow slots rank pair.0) pair.1.now) pairs ((slot, v) ∷ [])
          (all_from (λ pair. AllByRecursion (RanksBelow slots rank pair.0) pair.1.now) pairs old_ranked)
          (now_ranked, tt),
    );
  }
