-- Choices that were made one after the other, and are taken back from the last.
use Rattle.std.proofs.Common.{◌≡◌, ◌⊎◌, inl, inr, ℕ, zero, suc, ◌<◌, ◌≤◌, List, [], ◌∷◌, ◌++◌, length, map, get_or, drop, take, refl, ap, sym, ◌∙◌, subst, arith, drop-cons, append-nil, length-append, None, Some}
use Rattle.std.proofs.Math.ListN.{drop_of_length-le}
use Rattle.std.proofs.Math.Seq.{take-append_seam}
use Rattle.std.specs.Prelude.{slice_get}
use Rattle.std.specs.List.{AllByRecursion}
use Rattle.std.specs.Borrow.{Bor}
use Rattle.std.proofs.lemmas.Option.{slice_get_within}
use Rattle.std.proofs.lemmas.List.{nil_from_length}
use Rattle.si_defs.specs.Substitutions.{Substitution, image, Grows}
use Rattle.si_defs.proofs.ListLaws.{all_front}
use Rattle.si_state.specs.Subsumption.{AreImages, IsNoLater}
use Rattle.si_flat.specs.declared.Cell.{Cell}
use Rattle.si_flat.specs.Cells.{Symbol, Variable, same_variable}
use Rattle.si_trail.specs.Trails.{Trail}
use Rattle.si_unify.specs.declared.slots.Slots.{Slots}
use Rattle.si_unify.specs.Solving.{Pairs, Equalizes, IsBinding, RanksBelow, IsSolution, HaveCommon, AllowsSolving}
use Rattle.si_subsume.specs.declared.search.Choice.{Choice}
use Rattle.si_subsume.specs.Search.{Slices, CanEnd, number_from_one, IsLeastSearch, IsChosen, WereChosen, AreTried, IsUnderwayFrom, IsDead, NextNumber, GoesOnFrom, FindsTarget, IsFirstTarget}

pub compare : (m n : ℕ) → (m < n) ⊎ ((m ≡ n) ⊎ (n < m))
compare zero zero = inr (inl refl)
compare zero (suc n) = inl (omega arith)
compare (suc m) zero = inr (inr (omega arith))
compare (suc m) (suc n) =
    elim (compare m n) [
      | inl h ↦ inl (omega (arith, h))
      | inr h ↦ elim h [ inl e ↦ inr (inl (ap (λ k. suc k) e)) | inr g ↦ inr (inr (omega (arith, g))) ]
    ]

-- what was bound first is ready by itself
pub ready_front : (slots : Slots) (old new : Pairs) (count : ℕ) → Grows old new → AllowsSolving slots new count → AllowsSolving slots old count
ready_front slots old new count grows ready = record {
  room = ready.room;
  bindings = all_front (IsBinding slots) old grows.0 (subst (AllByRecursion (IsBinding slots)) grows.1 ready.bindings);
  triangular = (
    ready.triangular.0,
    all_front (λ pair. AllByRecursion (RanksBelow slots ready.triangular.0 pair.0) pair.1.now) old grows.0
        (subst (AllByRecursion (λ pair. AllByRecursion (RanksBelow slots ready.triangular.0 pair.0) pair.1.now)) grows.1 ready.triangular.1),
  );
}

-- the bindings before a choice
pub bound_before : (old new : Pairs) (n : ℕ) → Grows old new → n ≡ length old → take n new ≡ old
bound_before old new n grows is = (λ i. take (is i) (grows.1 i)) ∙ take-append_seam old grows.0

pub nothing_bound : (old new : Pairs) → Grows old new → length new ≡ length old → new ≡ old
nothing_bound old new grows same = grows.1 ∙ ap (λ l. old ++ l) (nil_from_length grows.0 (omega (arith, ap length grows.1, same, length-append old grows.0))) ∙ append-nil old

module _ (slots : Slots) (targets : Slices) where
  abbrev TakesTo : Substitution Symbol Variable → Bor (List Cell) → Bor (List Cell) → Type 0
  TakesTo s l k = Equalizes (image same_variable s) l.now k.now

  -- ---- the last choice
  pub pushed : (old : Pairs) (literals : Slices) (choices : List Choice) (literal : Bor (List Cell)) (rest : Slices) (new next : Pairs) (choice : Choice)
      → WereChosen slots targets old literals choices (literal ∷ rest) new
      → IsChosen slots targets new next literal rest choice
      → WereChosen slots targets old literals (choices ++ choice ∷ []) rest next
  pushed old [] [] literal rest new next choice h chosen = absurd (let e : literal ∷ rest ≡ [] = h.0 in cc)
  pushed old (l ∷ ls) [] literal rest new next choice h chosen =
      let e : literal ∷ rest ≡ l ∷ ls = h.0 in
      let first : literal ≡ l = cc in
      let others : rest ≡ ls = cc in (
        next,
        subst (λ p. IsChosen slots targets p next l ls choice) h.1 (subst (λ k. IsChosen slots targets new next k ls choice) first (subst (λ ks. IsChosen slots targets new next literal ks choice) others chosen)),
        (others, refl),
      )
  pushed old [] (c ∷ choices) literal rest new next choice h chosen = absurd h
  pushed old (l ∷ ls) (c ∷ choices) literal rest new next choice h chosen = (h.0, h.1, pushed h.0 ls choices literal rest new next choice h.2 chosen)

  pub record IsLast (old : Pairs) (literals : Slices) (choices : List Choice) (left : Slices) (new : Pairs) (choice : Choice) : Type 0 where
    pub before : Pairs
    pub literal : Bor (List Cell)
    pub chosen_before : WereChosen slots targets old literals choices (literal ∷ left) before
    pub chosen : IsChosen slots targets before new literal left choice

  pub popped : (old : Pairs) (literals : Slices) (choices : List Choice) (left : Slices) (new : Pairs) (choice : Choice)
      → WereChosen slots targets old literals (choices ++ choice ∷ []) left new
      → IsLast old literals choices left new choice
  popped old [] [] left new choice h = absurd h
  popped old (l ∷ ls) [] left new choice h = record {
    before = old;
    literal = l;
    chosen_before = (ap (λ ks. l ∷ ks) h.2.0, refl);
    chosen = subst (λ p. IsChosen slots targets old p l left choice) (sym h.2.1) (subst (λ ks. IsChosen slots targets old h.0 l ks choice) (sym h.2.0) h.1);
  }
  popped old [] (c ∷ choices) left new choice h = absurd h
  popped old (l ∷ ls) (c ∷ choices) left new choice h =
      let r = popped h.0 ls choices left new choice h.2 in
      record { before = r.before; literal = r.literal; chosen_before = (h.0, h.1, r.chosen_before); chosen = r.chosen }

  -- ---- what is left
  left_is : (old : Pairs) (literals : Slices) (choices : List Choice) (left : Slices) (new : Pairs) → WereChosen slots targets old literals choices left new → left ≡ drop (length choices) literals
  left_is old literals [] left new h = h.0
  left_is old [] (c ∷ choices) left new h = absurd h
  left_is old (l ∷ ls) (c ∷ choices) left new h = left_is h.0 ls choices left new h.2

  pub next_literal : (old : Pairs) (literals : Slices) (choices : List Choice) (left : Slices) (new : Pairs) (d : Bor (List Cell))
      → WereChosen slots targets old literals choices left new
      → length choices < length literals
      → left ≡ get_or literals (length choices) d ∷ drop (suc (length choices)) literals
  next_literal old literals choices left new d h some = left_is old literals choices left new h ∙ drop-cons literals (length choices) d some

  pub none_left : (old : Pairs) (literals : Slices) (choices : List Choice) (left : Slices) (new : Pairs) → WereChosen slots targets old literals choices left new → length literals ≤ length choices → left ≡ []
  none_left old literals choices left new h all = left_is old literals choices left new h ∙ drop_of_length-le literals all

  -- ---- after a target was looked for
  abbrev common : (pairs : Pairs) (literal : Bor (List Cell)) (rest : Slices) (n : ℕ) (ns : List ℕ) → Type 0
  common pairs literal rest n ns = (k : Bor (List Cell)) × (slice_get targets n ≡ Some k) × HaveCommon slots pairs literal.now k.now

  goes_to : (pairs : Pairs) (literal : Bor (List Cell)) (rest : Slices) (n : ℕ) (ns : List ℕ) → CanEnd slots targets pairs (literal ∷ rest) (suc n ∷ ns) → common pairs literal rest n ns
  goes_to pairs literal rest n ns h = (h.2.0.0, h.2.0.1, (h.0, (h.1, h.2.0.2)))

  pub dead_without : (pairs new : Pairs) (literal : Bor (List Cell)) (rest : Slices) (from : ℕ)
      → AreTried slots targets pairs (literal ∷ rest) from
      → FindsTarget slots targets pairs new literal.now from None
      → (ns : List ℕ) → CanEnd slots targets pairs (literal ∷ rest) ns → ⊥
  dead_without pairs new literal rest from tried found [] h = h.2
  dead_without pairs new literal rest from tried found (zero ∷ ns) h = let e : None ≡ Some h.2.0.0 = h.2.0.1 in cc
  dead_without pairs new literal rest from tried found (suc n ∷ ns) h =
      let k = goes_to pairs literal rest n ns h in
      elim (compare n from) [
        | inl below ↦ tried n ns below h
        | inr above ↦ found.1 n k.0 (elim above [ inl e ↦ omega (arith, e) | inr g ↦ omega (arith, g) ]) k.1 k.2
      ]

  pub chosen_with : (pairs new : Pairs) (literal : Bor (List Cell)) (rest : Slices) (from : ℕ) (choice : Choice)
      → AreTried slots targets pairs (literal ∷ rest) from
      → IsFirstTarget slots targets pairs new literal.now from choice.number
      → choice.mark ≡ length pairs
      → IsChosen slots targets pairs new literal rest choice
  chosen_with pairs new literal rest from choice tried found mark = record {
    mark = mark;
    grows = found.grows;
    solved = found.solved;
    target = found.target;
    target_is = found.target_is;
    solves = found.solves;
    none_before = λ n ns less h.
        let k = goes_to pairs literal rest n ns h in
        elim (compare n from) [
          | inl below ↦ tried n ns below h
          | inr above ↦ found.none_before n k.0 (elim above [ inl e ↦ omega (arith, e) | inr g ↦ omega (arith, g) ]) less k.1 k.2
        ];
  }

  -- ---- after a choice was taken back
  pub tried_again : (old new : Pairs) (literal : Bor (List Cell)) (left : Slices) (choice : Choice) (end next : ℕ)
      → IsChosen slots targets old new literal left choice
      → ((ns : List ℕ) → CanEnd slots targets new left ns → ⊥)
      → NextNumber choice (length new) end next
      → AreTried slots targets old (literal ∷ left) next
  tried_again old new literal left choice end next chosen dead number n ns less h =
      elim number.2 [
        | inl is ↦
            elim (compare n choice.number) [
              | inl below ↦ chosen.none_before n ns below h
              | inr above ↦
                  elim above [
                    | inl e ↦
                        let got : slice_get targets n ≡ Some h.2.0.0 = h.2.0.1 in
                        let same : Some h.2.0.0 ≡ Some chosen.target = sym got ∙ ap (slice_get targets) e ∙ chosen.target_is in
                        let target : h.2.0.0 ≡ chosen.target = cc in
                        dead ns (h.0, (chosen.solves h.0).1 (h.1, subst (TakesTo h.0 literal) target h.2.0.2), h.2.1)
                    | inr g ↦ absurd (omega (arith, is, less, g))
                  ]
            ]
        | inr marks ↦
            let same = nothing_bound old new chosen.grows (marks ∙ chosen.mark) in
            dead ns (h.0, subst (λ p. IsSolution slots p h.0) (sym same) h.1, h.2.1)
      ]

  -- ---- when a target was chosen for each literal
  pub taken : (old : Pairs) (literals : Slices) (choices : List Choice) (new : Pairs) (s : Substitution Symbol Variable)
      → WereChosen slots targets old literals choices [] new
      → IsSolution slots new s
      → IsSolution slots old s × AreImages (TakesTo s) targets literals (map number_from_one choices)
  taken old [] [] new s h solves = (subst (λ p. IsSolution slots p s) h.1 solves, tt)
  taken old (l ∷ ls) [] new s h solves = absurd (let e : [] ≡ l ∷ ls = h.0 in cc)
  taken old [] (c ∷ choices) new s h solves = absurd h
  taken old (l ∷ ls) (c ∷ choices) new s h solves =
      let later = taken h.0 ls choices new s h.2 solves in
      let here = (h.1.solves s).0 later.0 in
      (here.0, ((h.1.target, h.1.target_is, here.1), later.1))

  pub least : (old : Pairs) (literals : Slices) (choices : List Choice) (new : Pairs) (ms : List ℕ)
      → WereChosen slots targets old literals choices [] new
      → CanEnd slots targets old literals ms
      → IsNoLater (map number_from_one choices) ms
  least old literals [] new ms h can = tt
  least old [] (c ∷ choices) new ms h can = absurd h
  least old (l ∷ ls) (c ∷ choices) new [] h can = absurd can.2
  least old (l ∷ ls) (c ∷ choices) new (zero ∷ ms) h can = absurd (let e : None ≡ Some can.2.0.0 = can.2.0.1 in cc)
  least old (l ∷ ls) (c ∷ choices) new (suc n ∷ ms) h can =
      elim (compare n c.number) [
        | inl below ↦ absurd (h.1.none_before n ms below can)
        | inr above ↦
            elim above [
              | inl e ↦
                  let got : slice_get targets n ≡ Some can.2.0.0 = can.2.0.1 in
                  let same : Some can.2.0.0 ≡ Some h.1.target = sym got ∙ ap (slice_get targets) e ∙ h.1.target_is in
                  let target : can.2.0.0 ≡ h.1.target = cc in
                  inr (ap (λ k. suc k) (sym e), least h.0 ls choices new ms h.2 (can.0, (h.1.solves can.0).1 (can.1, subst (TakesTo can.0 l) target can.2.0.2), can.2.1))
              | inr g ↦ inl (omega (arith, g))
            ]
      ]

  solvable : (old : Pairs) (literals : Slices) (choices : List Choice) (left : Slices) (new : Pairs)
      → WereChosen slots targets old literals choices left new
      → (s : Substitution Symbol Variable) × IsSolution slots old s
      → (s : Substitution Symbol Variable) × IsSolution slots new s
  solvable old literals [] left new h some = subst (λ p. (s : Substitution Symbol Variable) × IsSolution slots p s) (sym h.1) some
  solvable old [] (c ∷ choices) left new h some = absurd h
  solvable old (l ∷ ls) (c ∷ choices) left new h some = solvable h.0 ls choices left new h.2 h.1.solved

  all_inside : (old : Pairs) (literals : Slices) (choices : List Choice) (left : Slices) (new : Pairs) → WereChosen slots targets old literals choices left new → AllByRecursion (λ choice. choice.number < length targets) choices
  all_inside old literals [] left new h = tt
  all_inside old [] (c ∷ choices) left new h = absurd h
  all_inside old (l ∷ ls) (c ∷ choices) left new h = (slice_get_within targets c.number h.1.target h.1.target_is, all_inside h.0 ls choices left new h.2)

  pub least_found : (literals : Slices) (choices : List Choice) (left : Slices) (new : Pairs)
      → WereChosen slots targets [] literals choices left new
      → length literals ≤ length choices
      → IsLeastSearch slots literals targets choices
  least_found literals choices left new h all =
      let full = subst (λ ks. WereChosen slots targets [] literals choices ks new) (none_left [] literals choices left new h all) h in
      let solution = solvable [] literals choices left new h ([], record { frozen = λ x frozen. refl; equal = tt }) in
      let maps = taken [] literals choices new solution.0 full solution.1 in
      record {
        least = record { is_one = (solution.0, maps.0, maps.1); no_later = λ ms can. least [] literals choices new ms full can };
        inside = all_inside [] literals choices left new h;
      }

-- ---- what there is to take back
pub record IsDeadLast (slots : Slots) (targets literals : Slices) (choices : List Choice) (choice : Choice) (pairs : Pairs) : Type 0 where
  pub left : Slices
  pub last : IsLast slots targets [] literals choices left pairs choice
  pub dead : (ns : List ℕ) → CanEnd slots targets pairs left ns → ⊥
  pub inside : choice.number < length targets
  pub marked : choice.mark ≤ length pairs

module _ (slots : Slots) (targets literals : Slices) (pairs : Pairs) where
  pub dead_last : (all choices : List Choice) (choice : Choice) → IsDead slots targets literals all pairs → all ≡ choices ++ choice ∷ [] → IsDeadLast slots targets literals choices choice pairs
  dead_last all choices choice h is =
      let last = popped slots targets [] literals choices h.0 pairs choice (subst (λ cs. WereChosen slots targets [] literals cs h.0 pairs) is h.1) in
      record {
        left = h.0;
        last = last;
        dead = h.2;
        inside = slice_get_within targets choice.number last.chosen.target last.chosen.target_is;
        marked = omega (arith, last.chosen.mark, ap length last.chosen.grows.1, length-append last.before last.chosen.grows.0);
      }

  pub dead_start : (all : List Choice) → IsDead slots targets literals all pairs → all ≡ [] → (ns : List ℕ) → CanEnd slots targets [] literals ns → ⊥
  dead_start all h is ns can =
      let start : WereChosen slots targets [] literals [] h.0 pairs = subst (λ cs. WereChosen slots targets [] literals cs h.0 pairs) is h.1 in
      h.2 ns (subst (λ p. CanEnd slots targets p h.0 ns) (sym start.1) (subst (λ ks. CanEnd slots targets [] ks ns) (sym start.0) can))

  pub retreated : (all choices : List Choice) (choice : Choice) (mark next : ℕ) (undone : Pairs) (from : ℕ)
      → IsDead slots targets literals all pairs
      → all ≡ choices ++ choice ∷ []
      → mark ≡ length pairs
      → NextNumber choice mark (length targets) next
      → undone ≡ take choice.mark pairs
      → GoesOnFrom slots literals targets all from choices undone (Some next)
  retreated all choices choice mark next undone from h is mark_is number undone_is =
      let d = dead_last all choices choice h is in
      let back : undone ≡ d.last.before = undone_is ∙ bound_before d.last.before pairs choice.mark d.last.chosen.grows d.last.chosen.mark in
      let tried = tried_again slots targets d.last.before pairs d.last.literal d.left choice (length targets) next d.last.chosen d.dead (subst (λ k. NextNumber choice k (length targets) next) mark_is number) in (
        subst (λ p. IsUnderwayFrom slots targets literals choices p next) (sym back) (d.last.literal ∷ d.left, d.last.chosen_before, tried),
        inr (choice, is, number.0),
      )

  pub ready_again : (all choices : List Choice) (choice : Choice) (undone : Pairs) (count : ℕ)
      → IsDead slots targets literals all pairs
      → all ≡ choices ++ choice ∷ []
      → undone ≡ take choice.mark pairs
      → AllowsSolving slots pairs count
      → AllowsSolving slots undone count
  ready_again all choices choice undone count h is undone_is ready =
      let d = dead_last all choices choice h is in
      subst (λ p. AllowsSolving slots p count) (sym (undone_is ∙ bound_before d.last.before pairs choice.mark d.last.chosen.grows d.last.chosen.mark))
      (ready_front slots d.last.before pairs count d.last.chosen.grows ready)

-- ---- a turn
module _ (slots : Slots) (targets literals : Slices) (choices : List Choice) (old new : Pairs) (from number : ℕ) (d : Bor (List Cell))
    (h : IsUnderwayFrom slots targets literals choices old from) (some : length choices < length literals) (number_is : number ≡ length choices) where
  abbrev here : Bor (List Cell)
  here = get_or literals number d

  abbrev rest : Slices
  rest = drop (suc (length choices)) literals

  split : h.0 ≡ here ∷ rest
  split = next_literal slots targets [] literals choices h.0 old d h.1 some ∙ ap (λ k. get_or literals k d ∷ rest) (sym number_is)

  chosen_here : WereChosen slots targets [] literals choices (here ∷ rest) old
  chosen_here = subst (λ ks. WereChosen slots targets [] literals choices ks old) split h.1

  tried_here : AreTried slots targets old (here ∷ rest) from
  tried_here = subst (λ ks. AreTried slots targets old ks from) split h.2

  pub turn_dead : FindsTarget slots targets old new here.now from None → IsDead slots targets literals choices new
  turn_dead found = (
    here ∷ rest,
    subst (WereChosen slots targets [] literals choices (here ∷ rest)) (sym found.0) chosen_here,
    λ ns can. dead_without slots targets old new here rest from tried_here found ns (subst (λ p. CanEnd slots targets p (here ∷ rest) ns) found.0 can),
  )

  pub turn_chosen : (choice : Choice) (after : List Choice)
      → IsFirstTarget slots targets old new here.now from choice.number
      → choice.mark ≡ length old
      → after ≡ choices ++ choice ∷ []
      → GoesOnFrom slots literals targets choices from after new (Some 0)
  turn_chosen choice after found mark is =
      let chosen = pushed slots targets [] literals choices here rest old new choice chosen_here (chosen_with slots targets old new here rest from choice tried_here found mark) in (
        (rest, subst (λ cs. WereChosen slots targets [] literals cs rest new) (sym is) chosen, λ n ns less can. omega (arith, less)),
        inl (choice, is, found.at_least, slice_get_within targets choice.number found.target found.target_is, refl),
      )

-- ---- the whole search
pub record IsChoosing (slots : Slots) (targets literals : Slices) (choices : List Choice) (trail : Trail (Bor (List Cell))) (from : ℕ) : Type 0 where
  pub underway : IsUnderwayFrom slots targets literals choices trail.pairs from
  pub ready : AllowsSolving slots trail.pairs trail.slots

pub searching_start : (slots : Slots) (targets literals : Slices) (trail : Trail (Bor (List Cell))) (choices : List Choice) → trail.pairs ≡ [] → choices ≡ [] → AllowsSolving slots trail.pairs trail.slots → IsChoosing slots targets literals choices trail 0
searching_start slots targets literals trail choices unbound none ready = record {
  underway =
      subst (λ cs. IsUnderwayFrom slots targets literals cs trail.pairs 0) (sym none)
      (literals, (refl, unbound), λ n ns less can. omega (arith, less));
  ready = ready;
}
