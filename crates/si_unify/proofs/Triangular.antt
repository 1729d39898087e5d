-- A list is triangular where it was so up to a mark, and a search from the bindings after the mark
-- found no circle.
use Rattle.std.proofs.Common.{◌≡◌, ◌≢◌, ℕ, ◌+◌, ◌<◌, ◌≤◌, ◌⊎◌, inl, inr, Bool, true, false, List, [], ◌∷◌, length, take, drop, refl, sym, ◌∙◌, ap, subst, arith, suc, zero, Option, None, Some}
use Rattle.std.proofs.lemmas.Option.{same_Some}
use Rattle.std.proofs.lemmas.List.{take-append-drop}
use Rattle.std.proofs.lemmas.Bool.Decides.{eqb_tells}
use Rattle.std.proofs.lemmas.Bool.{eq-eqb}
use Rattle.std.specs.Prelude.{slice_get}
use Rattle.std.specs.List.{AllByRecursion}
use Rattle.std.specs.Borrow.{Bor}
use Rattle.si_defs.specs.Substitutions.{IsAmong}
use Rattle.si_defs.proofs.ListLaws.{all_with, all_weaker, all_append, all_take, all_drop, all_got}
use Rattle.si_flat.specs.declared.Cell.{Cell}
use Rattle.si_flat.specs.declared.Cell.TheVariants as cell
use Rattle.si_flat.specs.Cells.{query, entry, ind}
use Rattle.si_trail.specs.Trails.{value_at, HasDistinctSlots, IsSlotOf}
use Rattle.si_unify.specs.declared.slots.Slots.{Slots}
use Rattle.si_unify.specs.declared.states.State.{State}
use Rattle.si_unify.specs.declared.states.State.TheVariants.{New, Open, Done}
use Rattle.si_unify.specs.declared.circles.Visit.{Visit}
use Rattle.si_unify.specs.declared.circles.Visit.TheVariants.{Enter}
use Rattle.si_unify.specs.Solving.{Pairs, slot_count, slot_of, IsTriangularBy, IsAcyclic, RanksBelow, IsBinding}
use Rattle.si_unify.specs.Spots.{cell_slot}
use Rattle.si_unify.specs.Circles.{if_value, if_bound, with_slot, bound_slots, below_value, enter_each, visit_slot, visit_slots, IsDone, AreCovered, RanksUnder, ComeDown, slots_below, AreRanked, IsSearching, HasSearchedCircle, AreEntries, IsResolved, AreResolved, SaysTriangular}
use Rattle.si_unify.proofs.StateLaws.{new_at}
use Rattle.si_unify.proofs.Searching.{ranks_below_cell}
use Rattle.si_unify.specs.States.{AreNew}

-- ---- visits that enter slots
covered_alone : (slots : Slots) (pairs : Pairs) (states : List State) (before xs : List ℕ) → AreCovered slots pairs states before (enter_each xs)
covered_alone slots pairs states before [] = tt
covered_alone slots pairs states before (x ∷ xs) = (tt, covered_alone slots pairs states (x ∷ before) xs)

under_alone : (rank : ℕ → ℕ) (x : ℕ) (xs : List ℕ) → AllByRecursion (RanksUnder rank x) (enter_each xs)
under_alone rank x [] = tt
under_alone rank x (y ∷ xs) = (tt, under_alone rank x xs)

down_alone : (rank : ℕ → ℕ) (xs : List ℕ) → ComeDown rank (enter_each xs)
down_alone rank [] = tt
down_alone rank (x ∷ xs) = (under_alone rank x xs, down_alone rank xs)

valid_alone : (slots : Slots) (xs : List ℕ) → AllByRecursion (λ z. z < slot_count slots) xs → AllByRecursion (λ t. visit_slot t < slot_count slots) (enter_each xs)
valid_alone slots [] h = tt
valid_alone slots (x ∷ xs) h = (h.0, valid_alone slots xs h.1)

among_alone : (xs : List ℕ) (z : ℕ) → IsAmong xs z → IsAmong (visit_slots (enter_each xs)) z
among_alone [] z h = h
among_alone (x ∷ xs) z h = elim h [ inl e ↦ inl e | inr k ↦ inr (among_alone xs z k) ]

-- ---- bindings by their number
abbrev pub HasSlot : (ℕ → Type 0) → ℕ × Bor (List Cell) → Type 0
HasSlot P pair = P pair.0

abbrev pub IsFound : Pairs → ℕ × Bor (List Cell) → Type 0
IsFound pairs pair = value_at pairs pair.0 ≡ Some pair.1

abbrev pub HasRanks : Slots → (ℕ → ℕ) → ℕ × Bor (List Cell) → Type 0
HasRanks slots rank pair = AllByRecursion (RanksBelow slots rank pair.0) pair.1.now

same_pair_slot : (pairs : Pairs) (m n x y : ℕ) → m ≡ n → IsSlotOf pairs m x → IsSlotOf pairs n y → y ≡ x
same_pair_slot pairs m n x y e a b =
    let pairs_same : (y, b.0) ≡ (x, a.0) = same_Some (y, b.0) (x, a.0) (sym b.1 ∙ ap (slice_get pairs) (sym e) ∙ a.1) in
    ap (λ p. p.0) pairs_same

all_behind : (P : ℕ → Type 0) (pairs : Pairs) (mark : ℕ) → ((m slot : ℕ) → mark ≤ m → m < length pairs → IsSlotOf pairs m slot → P slot) → AllByRecursion (HasSlot P) (drop mark pairs)
all_behind P [] mark give = elim mark as (λ k. AllByRecursion (HasSlot P) (drop k [])) [ zero ↦ tt | suc k ↦ tt ]
all_behind P (p ∷ pairs) zero give = (
  give 0 p.0 (omega arith) (omega arith) (p.1, refl),
  all_from_start pairs (λ m slot b s. give (suc m) slot (omega arith) (omega (arith, b)) s),
)
  where
    all_from_start : (ps : Pairs) → ((m slot : ℕ) → m < length ps → IsSlotOf ps m slot → P slot) → AllByRecursion (HasSlot P) ps
    all_from_start [] h = tt
    all_from_start (q ∷ ps) h = (h 0 q.0 (omega arith) (q.1, refl), all_from_start ps (λ m slot b s. h (suc m) slot (omega (arith, b)) s))
all_behind P (p ∷ pairs) (suc mark) give = all_behind P pairs mark (λ m slot a b s. give (suc m) slot (omega (arith, a)) (omega (arith, b)) s)

told_behind : (first pair : ℕ × Bor (List Cell)) (pairs : Pairs) → value_at pairs first.0 ≡ None → value_at pairs pair.0 ≡ Some pair.1 → value_at (first ∷ pairs) pair.0 ≡ Some pair.1
told_behind first pair pairs none e =
    elim (eqb_tells first.0 pair.0) [
      | inl k ↦ let bad : None ≡ Some pair.1 = sym none ∙ ap (value_at pairs) k.1 ∙ e in cc
      | inr k ↦ rw k.0 e
    ]

-- each pair is the one that its slot finds
pub all_told : (pairs : Pairs) → HasDistinctSlots pairs → AllByRecursion (IsFound pairs) pairs
all_told [] h = tt
all_told (p ∷ pairs) h = (
  rw (eq-eqb p.0 p.0 refl) refl,
  all_weaker (IsFound pairs) (IsFound (p ∷ pairs)) pairs
      (λ pair e. told_behind p pair pairs h.0 e) (all_told pairs h.1),
)

-- ---- where the search starts
not_done : {P : Type 0} (states : List State) (slot : ℕ) → AreNew states → IsDone states slot → P
not_done states slot h d = let bad : Done ≡ New = new_at states slot Done h d in cc

not_open : {P : Type 0} (states : List State) (slot : ℕ) → AreNew states → slice_get states slot ≡ Some Open → P
not_open states slot h d = let bad : Open ≡ New = new_at states slot Open h d in cc

before : (m n : ℕ) → m < n + 1 → m ≢ n → m < n
before m n less differs = omega (arith, less, differs)

pub entries_none : (pairs : Pairs) (mark : ℕ) → HasDistinctSlots pairs → AreEntries pairs mark mark []
entries_none pairs mark distinct = record {
  slots = [];
  visits_are = refl;
  sound = tt;
  complete = λ m slot a b s. absurd (omega (arith, a, b));
  distinct = distinct;
}

pub entries_more : (pairs : Pairs) (mark n slot : ℕ) (visits new : List Visit) → AreEntries pairs mark n visits → IsSlotOf pairs n slot → new ≡ Enter slot ∷ visits → AreEntries pairs mark (n + 1) new
entries_more pairs mark n slot visits new h s is = record {
  slots = slot ∷ h.slots;
  visits_are = is ∙ ap (λ l. Enter slot ∷ l) h.visits_are;
  sound = ((n, s), h.sound);
  complete = λ m other a b o.
      elim (eqb_tells m n) [
        | inl e ↦ inl (same_pair_slot pairs m n other slot e.1 o s)
        | inr e ↦ inr (h.complete m other a (before m n b e.1) o)
      ];
  distinct = h.distinct;
}

pub search_begins : (slots : Slots) (pairs : Pairs) (states : List State) (visits : List Visit) (mark n : ℕ) → AllByRecursion (IsBinding slots) pairs → slot_count slots ≤ length states → AreNew states → AreEntries pairs mark n visits → IsSearching slots pairs states visits
search_begins slots pairs states visits mark n bindings long fresh e = record {
  bindings = bindings;
  long = long;
  ordered = record {
    rank = λ z. 0;
    top = 0;
    few = λ z d. not_done states z fresh d;
    down = λ z d. not_done states z fresh d;
  };
  covered = subst (AreCovered slots pairs states []) (sym e.visits_are) (covered_alone slots pairs states [] e.slots);
  come_down = λ rank t. subst (ComeDown rank) (sym e.visits_are) (down_alone rank e.slots);
  opened = λ z is_open. not_open states z fresh is_open;
  valid =
      subst (AllByRecursion (λ t. visit_slot t < slot_count slots)) (sym e.visits_are)
      (
      valid_alone slots e.slots
      (
      all_weaker (λ slot. (m : ℕ) × IsSlotOf pairs m slot) (λ z. z < slot_count slots) e.slots
      (λ slot s. (all_got (IsBinding slots) pairs s.0 (slot, s.1.0) bindings s.1.1).below)
      e.sound
      )
      );
}

-- ---- the ranks of slots of which some are known
-- the slots that are known, and a test for them
pub record AreTested (Known : ℕ → Type 0) : Type 0 where
  pub test : ℕ → Bool
  pub passes : (slot : ℕ) → Known slot → test slot ≡ true
  pub tells : (slot : ℕ) → Known slot ⊎ (test slot ≡ false)

module _ (slots : Slots) (pairs : Pairs) (Known : ℕ → Type 0) (known : AreTested Known) (ordered : AreRanked slots pairs Known) (rank : ℕ → ℕ) where
  -- an unbound slot comes first, then those that are known, then the others
  abbrev rank_by : Option (Bor (List Cell)) → Bool → ℕ → ℕ
  rank_by None b z = 0
  rank_by (Some v) true z = 1 + ordered.rank z
  rank_by (Some v) false z = 1 + ordered.top + rank z

  abbrev all_rank : ℕ → ℕ
  all_rank z = rank_by (value_at pairs z) (known.test z) z

  rank_unbound : (z : ℕ) → value_at pairs z ≡ None → all_rank z ≡ 0
  rank_unbound z e = ap (λ o. rank_by o (known.test z) z) e

  rank_known : (z : ℕ) (v : Bor (List Cell)) → value_at pairs z ≡ Some v → Known z → all_rank z ≡ 1 + ordered.rank z
  rank_known z v e d = ap (λ o. rank_by o (known.test z) z) e ∙ ap (λ b. rank_by (Some v) b z) (known.passes z d)

  rank_other : (z : ℕ) (v : Bor (List Cell)) → value_at pairs z ≡ Some v → known.test z ≡ false → all_rank z ≡ 1 + ordered.top + rank z
  rank_other z v e d = ap (λ o. rank_by o (known.test z) z) e ∙ ap (λ b. rank_by (Some v) b z) d

  ranks_at : (slot : ℕ) (c : Cell) → ((next : ℕ) → cell_slot slots c ≡ Some next → all_rank next < all_rank slot) → RanksBelow slots all_rank slot c
  ranks_at slot (cell.App s a n) give = tt
  ranks_at slot (cell.Query n) give = give (slot_of slots (query n)) refl
  ranks_at slot (cell.Entry n) give = give (slot_of slots (entry n)) refl
  ranks_at slot (cell.Ind n) give = give (slot_of slots (ind n)) refl

  others_of : (P : ℕ → Type 0) (o : Option ℕ) (xs : List ℕ) → AllByRecursion P (with_slot o xs) → AllByRecursion P xs
  others_of P None xs h = h
  others_of P (Some x) xs h = h.1

  next_under_known : (z next : ℕ) (v : Bor (List Cell)) (xs : List ℕ) (o : Option (Bor (List Cell))) → value_at pairs z ≡ Some v → Known z → value_at pairs next ≡ o → AllByRecursion (λ y. Known y × (ordered.rank y < ordered.rank z)) (with_slot (if_value o next) xs) → all_rank next < all_rank z
  next_under_known z next v xs None bound is e h = omega (arith, rank_unbound next e, rank_known z v bound is)
  next_under_known z next v xs (Some w) bound is e h = omega (arith, rank_known next w e h.0.0, rank_known z v bound is, h.0.1)

  known_cells : (z : ℕ) (v : Bor (List Cell)) (cells : List Cell) → value_at pairs z ≡ Some v → Known z → AllByRecursion (λ y. Known y × (ordered.rank y < ordered.rank z)) (bound_slots slots pairs cells) → AllByRecursion (RanksBelow slots all_rank z) cells
  known_cells z v [] bound is h = tt
  known_cells z v (c ∷ cells) bound is h = (
    ranks_at z c
        (λ next e.
        next_under_known z next v (bound_slots slots pairs cells) (value_at pairs next) bound is refl
        (subst (λ o. AllByRecursion (λ y. Known y × (ordered.rank y < ordered.rank z)) (with_slot (if_bound pairs o) (bound_slots slots pairs cells))) e h)),
    known_cells z v cells bound is
        (others_of (λ y. Known y × (ordered.rank y < ordered.rank z)) (if_bound pairs (cell_slot slots c)) (bound_slots slots pairs cells) h),
  )

  known_pair : (pair : ℕ × Bor (List Cell)) → value_at pairs pair.0 ≡ Some pair.1 → Known pair.0 → AllByRecursion (RanksBelow slots all_rank pair.0) pair.1.now
  known_pair pair bound is =
      known_cells pair.0 pair.1 pair.1.now bound is
      (subst (λ o. AllByRecursion (λ y. Known y × (ordered.rank y < ordered.rank pair.0)) (below_value slots pairs o)) bound (ordered.down pair.0 is))

  next_under_other : (z next : ℕ) (v : Bor (List Cell)) (o : Option (Bor (List Cell))) → value_at pairs z ≡ Some v → known.test z ≡ false → value_at pairs next ≡ o → rank next < rank z → all_rank next < all_rank z
  next_under_other z next v None bound other e less = omega (arith, rank_unbound next e, rank_other z v bound other)
  next_under_other z next v (Some w) bound other e less =
      elim (known.tells next) [
        | inl d ↦ omega (arith, rank_known next w e d, rank_other z v bound other, ordered.few next d)
        | inr d ↦ omega (arith, rank_other next w e d, rank_other z v bound other, less)
      ]

  old_pair : (pair : ℕ × Bor (List Cell)) → value_at pairs pair.0 ≡ Some pair.1 → AllByRecursion (RanksBelow slots rank pair.0) pair.1.now → AllByRecursion (RanksBelow slots all_rank pair.0) pair.1.now
  old_pair pair bound old =
      elim (known.tells pair.0) [
        | inl d ↦ known_pair pair bound d
        | inr d ↦
            all_weaker (RanksBelow slots rank pair.0) (RanksBelow slots all_rank pair.0) pair.1.now
            (λ c k. ranks_at pair.0 c (λ next e. next_under_other pair.0 next pair.1 (value_at pairs next) bound d refl (ranks_below_cell slots rank pair.0 next c k e)))
            old
      ]

  pub triangular_behind : (mark : ℕ) → HasDistinctSlots pairs → IsTriangularBy slots rank (take mark pairs) → AllByRecursion (HasSlot Known) (drop mark pairs) → IsAcyclic slots pairs
  triangular_behind mark distinct old is =
      let told : AllByRecursion (IsFound pairs) pairs = all_told pairs distinct in (
        all_rank,
        subst (IsTriangularBy slots all_rank) (take-append-drop mark pairs)
            (
            all_append (HasRanks slots all_rank) (take mark pairs) (drop mark pairs)
            (
            all_with (IsFound pairs) (HasRanks slots rank)
            (HasRanks slots all_rank) (take mark pairs) old_pair
            (all_take (IsFound pairs) mark pairs told) old
            )
            (
            all_with (IsFound pairs) (HasSlot Known)
            (HasRanks slots all_rank) (drop mark pairs) known_pair
            (all_drop (IsFound pairs) mark pairs told) is
            )
            ),
      )

-- ---- after a search
abbrev is_done : Option State → Bool
is_done None = false
is_done (Some New) = false
is_done (Some Open) = false
is_done (Some Done) = true

tells_done : (s : Option State) → (s ≡ Some Done) ⊎ (is_done s ≡ false)
tells_done None = inr refl
tells_done (Some New) = inr refl
tells_done (Some Open) = inr refl
tells_done (Some Done) = inl refl

done_tested : (states : List State) → AreTested (IsDone states)
done_tested states = record {
  test = λ z. is_done (slice_get states z);
  passes = λ z d. ap is_done d;
  tells = λ z. tells_done (slice_get states z);
}

pub search_tells :
    (slots : Slots) (pairs : Pairs) (states new : List State) (visits : List Visit) (mark : ℕ) (b : Bool)
    → AreEntries pairs mark (length pairs) visits
    → IsAcyclic slots (take mark pairs)
    → HasSearchedCircle slots pairs states new visits b
    → SaysTriangular slots pairs b
search_tells slots pairs states new visits mark false e old h = λ t. h t.0 t.1
search_tells slots pairs states new visits mark true e old h = (
  triangular_behind slots pairs (IsDone new) (done_tested new) h.0.ordered old.0 mark e.distinct old.1
      (
      all_behind (IsDone new) pairs mark
      (λ m slot a b s. h.2 slot (subst (λ l. IsAmong (visit_slots l) slot) (sym e.visits_are) (among_alone e.slots slot (e.complete m slot a b s))))
      ),
  e.distinct,
)

-- ---- without a search
abbrev is_empty : List ℕ → Bool
is_empty [] = true
is_empty (x ∷ xs) = false

tells_empty : (xs : List ℕ) → (xs ≡ []) ⊎ (is_empty xs ≡ false)
tells_empty [] = inl refl
tells_empty (x ∷ xs) = inr refl

resolved_tested : (slots : Slots) (pairs : Pairs) → AreTested (IsResolved slots pairs)
resolved_tested slots pairs = record {
  test = λ z. is_empty (slots_below slots pairs z);
  passes = λ z e. ap is_empty e;
  tells = λ z. tells_empty (slots_below slots pairs z);
}

resolved_ranked : (slots : Slots) (pairs : Pairs) → AreRanked slots pairs (IsResolved slots pairs)
resolved_ranked slots pairs = record {
  rank = λ z. 0;
  top = 1;
  few = λ z e. omega arith;
  down = λ z e. subst (AllByRecursion (λ c. IsResolved slots pairs c × (0 < 0))) (sym e) tt;
}

pub resolved_tells :
    (slots : Slots) (pairs : Pairs) (mark : ℕ)
    → AreResolved slots pairs mark (length pairs)
    → IsAcyclic slots (take mark pairs)
    → SaysTriangular slots pairs true
resolved_tells slots pairs mark h old = (
  triangular_behind slots pairs (IsResolved slots pairs) (resolved_tested slots pairs) (resolved_ranked slots pairs) old.0 mark h.distinct old.1
      (all_behind (IsResolved slots pairs) pairs mark h.resolved),
  h.distinct,
)

pub resolved_none : (slots : Slots) (pairs : Pairs) (mark : ℕ) → HasDistinctSlots pairs → AreResolved slots pairs mark mark
resolved_none slots pairs mark distinct = record {
  resolved = λ m slot a b s. absurd (omega (arith, a, b));
  distinct = distinct;
}

pub resolved_more : (slots : Slots) (pairs : Pairs) (mark n slot : ℕ) → AreResolved slots pairs mark n → IsSlotOf pairs n slot → IsResolved slots pairs slot → AreResolved slots pairs mark (n + 1)
resolved_more slots pairs mark n slot h s is = record {
  resolved = λ m other a b o.
      elim (eqb_tells m n) [
        | inl e ↦ subst (IsResolved slots pairs) (same_pair_slot pairs m n other slot e.1 o s) is
        | inr e ↦ h.resolved m other a (before m n b e.1) o
      ];
  distinct = h.distinct;
}

pub resolved_fewer : (slots : Slots) (pairs : Pairs) (mark k n : ℕ) → k ≤ n → AreResolved slots pairs mark n → AreResolved slots pairs mark k
resolved_fewer slots pairs mark k n fewer h = record {
  resolved = λ m slot a b s. h.resolved m slot a (omega (arith, fewer, b)) s;
  distinct = h.distinct;
}
