-- The targets with the head of a literal, tried one after the other.
use Rattle.std.proofs.Common.{◌≡◌, inl, inr, ℕ, zero, suc, ◌+◌, ◌-◌, ◌<◌, ◌≤◌, Bool, true, false, cond, List, [], ◌∷◌, length, get_or, drop, refl, ap, sym, ◌∙◌, subst, arith, None, Some, length-drop}
use Rattle.std.proofs.lemmas.Bool.{eq-eqb}
use Rattle.std.specs.Prelude.{◌↔◌, ◌==◌, ◌&&◌, slice_get, Result, Ok, Err, IfOk}
use Rattle.std.specs.List.{AllByRecursion}
use Rattle.std.specs.Borrow.{Bor}
use Rattle.std.proofs.lemmas.Option.{slice_get_within, slice_get-get_or}
use Rattle.si_defs.specs.Substitutions.{Substitution, image, Grows}
use Rattle.si_defs.proofs.ListLaws.{all_got}
use Rattle.si_state.specs.Subsumption.{AreImages}
use Rattle.si_flat.specs.Cells.{Symbol, Variable, same_variable}
use Rattle.si_flat.specs.declared.Cell.{Cell}
use Rattle.si_flat.specs.declared.Cell.TheVariants as cell
use Rattle.si_trail.specs.Trails.{Trail}
use Rattle.si_unify.specs.declared.slots.Slots.{Slots}
use Rattle.si_unify.specs.Solving.{Pairs, Equalizes, IsSolution, IsCommon, HasSolved, HaveCommon}
use Rattle.si_subsume.specs.declared.heads.Head.{Head}
use Rattle.si_subsume.specs.Search.{Slices, CanEnd, IsSymbolCell, IsFlatLiteral, AreFlatLiterals, HaveOtherHeads, IsFirstTarget, FindsTarget}
use Rattle.si_subsume.specs.Heads.{head_of, equal_heads, first_cell, slice_head, first_in, nexts, IsFirstToTry, HasTargetByHead, TakesFrom}
use Rattle.si_subsume.proofs.Unequal.{never_equal}
use Rattle.si_subsume.proofs.HeadLaws.{skipped, hit, next_at, got_behind, heads_same}
use Rattle.si_subsume.proofs.Choices.{compare}

-- ---- other heads
other_heads : (c d : Cell) → IsSymbolCell c → IsSymbolCell d → equal_heads (head_of c) (head_of d) ≡ false → HaveOtherHeads c d
other_heads (cell.App s a m) (cell.App r b n) h k e = λ p.
    let both : (s == r && a == b) ≡ true = (λ i. eq-eqb s r p.0 i && eq-eqb a b p.1 i) in
    let bad : true ≡ false = sym both ∙ e in cc
other_heads (cell.App s a m) (cell.Query n) h k e = absurd k
other_heads (cell.App s a m) (cell.Entry n) h k e = absurd k
other_heads (cell.App s a m) (cell.Ind n) h k e = absurd k
other_heads (cell.Query n) d h k e = absurd h
other_heads (cell.Entry n) d h k e = absurd h
other_heads (cell.Ind n) d h k e = absurd h

abbrev literal_head : List Cell → Head
literal_head literal = head_of (first_cell literal)

module _ (slots : Slots) (targets : Slices) (pairs : Pairs) (literal : List Cell) (term : IsFlatLiteral slots literal) (terms : AreFlatLiterals slots targets) where
  pub never_there : (n : ℕ) (other : Bor (List Cell)) → slice_get targets n ≡ Some other → equal_heads (literal_head literal) (slice_head other) ≡ false → HaveCommon slots pairs literal other.now → ⊥
  never_there n other got differs common =
      let k = all_got (λ b. IsFlatLiteral slots b.now) targets n other terms got in
      never_equal slots pairs literal other.now term.whole k.whole (other_heads (first_cell literal) (first_cell other.now) term.headed k.headed differs) common

-- ---- the first target to try
-- the first of all
pub first_of_all : (targets : Slices) (h : Head) (from number : ℕ) → number ≡ first_in (length targets) 0 targets h → IsFirstToTry targets h from number
first_of_all targets h from number is = record {
  none = λ k other at_least below got. skipped (length targets) 0 targets h k other got (omega (arith, below, is));
  has = λ b got.
      let there = hit (length targets) 0 targets h (omega (arith, is, slice_get_within targets number b got)) in
      let place : number ≡ there.place = omega (arith, is, there.number) in
      let same : Some b ≡ Some there.slice = sym got ∙ ap (slice_get targets) place ∙ there.slice_is in
      let slice : b ≡ there.slice = cc in
      ap (λ (z : Bor (List Cell)). equal_heads h (slice_head z)) slice ∙ there.has;
}

-- the next one after a target with the head
pub first_behind : (targets : Slices) (h : Head) (before next : ℕ) (here : Bor (List Cell)) → slice_get targets before ≡ Some here
    → h ≡ slice_head here → next ≡ get_or (nexts (length targets) 0 targets) before 0 → IsFirstToTry targets h (suc before) next
first_behind targets h before next here got_here head is =
    let next_is : next ≡ first_in (length targets) (suc (0 + before)) (drop (suc before) targets) (slice_head here) = is ∙ next_at (length targets) 0 targets before here got_here in
    record {
      none = λ k other at_least below got.
          let place : suc before + (k - suc before) ≡ k = omega (arith, at_least) in
          let behind : slice_get (drop (suc before) targets) (k - suc before) ≡ Some other = got_behind targets (suc before) (k - suc before) ∙ ap (slice_get targets) place ∙ got in
          let differs = skipped (length targets) (suc (0 + before)) (drop (suc before) targets) (slice_head here) (k - suc before) other behind (omega (arith, place, below, next_is)) in
          ap (λ q. equal_heads q (slice_head other)) head ∙ differs;
      has = λ b got.
          let hits = hit (length targets) (suc (0 + before)) (drop (suc before) targets) (slice_head here) (omega (arith, next_is, slice_get_within targets next b got)) in
          let place : next ≡ suc before + hits.place = omega (arith, next_is, hits.number) in
          let same : Some b ≡ Some hits.slice = sym got ∙ ap (slice_get targets) place ∙ sym (got_behind targets (suc before) hits.place) ∙ hits.slice_is in
          let slice : b ≡ hits.slice = cc in
          ap (λ (z : Bor (List Cell)). equal_heads h (slice_head z)) slice ∙ ap (λ q. equal_heads q (slice_head hits.slice)) head ∙ hits.has;
    }

-- ---- one target after the other
-- nothing was bound, for none of the targets so far is of use; the next one has the literal's head
pub record IsSeekingBy (slots : Slots) (targets : Slices) (old new : Trail (Bor (List Cell))) (literal : List Cell) (from number : ℕ) : Type 0 where
  pub same : new ≡ old
  pub none : (k : ℕ) (other : Bor (List Cell)) → from ≤ k → k < number → slice_get targets k ≡ Some other → HaveCommon slots old.pairs literal other.now → ⊥
  pub has : (b : Bor (List Cell)) → slice_get targets number ≡ Some b → equal_heads (literal_head literal) (slice_head b) ≡ true

pub seeking_start : (slots : Slots) (targets : Slices) (trail : Trail (Bor (List Cell))) (literal : List Cell) (from number : ℕ)
    → IsFlatLiteral slots literal
    → AreFlatLiterals slots targets
    → IsFirstToTry targets (literal_head literal) from number
    → IsSeekingBy slots targets trail trail literal from number
seeking_start slots targets trail literal from number term terms begins = record {
  same = refl;
  none = λ k other at_least below got common. never_there slots targets trail.pairs literal term terms k other got (begins.none k other at_least below got) common;
  has = begins.has;
}

module _ (slots : Slots) (targets : Slices) (old new : Trail (Bor (List Cell))) (literal : List Cell) (from number : ℕ) (term : IsFlatLiteral slots literal) (terms : AreFlatLiterals slots targets) (h : IsSeekingBy slots targets old new literal from number) where
  pairs_same : new.pairs ≡ old.pairs
  pairs_same = ap (λ (t : Trail (Bor (List Cell))). t.pairs) h.same

  pub seeking_on : (after : Trail (Bor (List Cell))) (next : ℕ)
      → number < length targets
      → TakesFrom slots targets new.pairs after.pairs literal from number false
      → after.slots ≡ new.slots
      → next ≡ get_or (nexts (length targets) 0 targets) number 0
      → IsSeekingBy slots targets old after literal from next
  seeking_on after next less fails slots_stay is =
      let d : Bor (List Cell) = record { ref_ptr = (0, 0); now = [] } in
      let here = get_or targets number d in
      let got_here : slice_get targets number ≡ Some here = slice_get-get_or targets number d less in
      let head : literal_head literal ≡ slice_head here = heads_same (literal_head literal) (slice_head here) (h.has here got_here) in
      let begins = first_behind targets (literal_head literal) number next here got_here head is in
      record {
        same = (λ i. record { slots = slots_stay i; pairs = fails.0 i }) ∙ h.same;
        none = λ k other at_least below got common.
            elim (compare k number) [
              | inl earlier ↦ h.none k other at_least earlier got common
              | inr later ↦
                  elim later [
                    | inl e ↦ fails.1 (omega (arith, at_least, e)) other (sym (ap (slice_get targets) e) ∙ got) (subst (λ p. HaveCommon slots p literal other.now) (sym pairs_same) common)
                    | inr g ↦ never_there slots targets old.pairs literal term terms k other got (begins.none k other (omega (arith, g)) below got) common
                  ]
            ];
        has = begins.has;
      }

  pub sought : (after : Trail (Bor (List Cell)))
      → number < length targets
      → TakesFrom slots targets new.pairs after.pairs literal from number true
      → IsFirstTarget slots targets old.pairs after.pairs literal from number
  sought after less takes =
      let d : Bor (List Cell) = record { ref_ptr = (0, 0); now = [] } in
      let here = get_or targets number d in
      let got_here : slice_get targets number ≡ Some here = slice_get-get_or targets number d less in
      let solved = takes.2 here got_here in
      record {
        at_least = takes.0;
        target = here;
        target_is = got_here;
        grows = subst (λ p. Grows p after.pairs) pairs_same takes.1;
        solved = (solved.0.0, (solved.1 solved.0.0).1 solved.0.1);
        solves = λ s. subst (λ p. IsSolution slots after.pairs s ↔ IsCommon slots p literal here.now s) pairs_same (solved.1 s);
        none_before = h.none;
      }

  pub sought_all : length targets ≤ number → FindsTarget slots targets old.pairs new.pairs literal from None
  sought_all all = (pairs_same, λ k other at_least got common. h.none k other at_least (omega (arith, all, slice_get_within targets k other got)) got common)

-- the next number is larger
pub first_above : (end k : ℕ) (bs : Slices) (h : Head) → k + length bs ≡ end → k ≤ first_in end k bs h
first_above end k [] h e = omega (arith, e)
first_above end k (b ∷ bs) h e = by (equal_heads h (slice_head b)) (first_above end (suc k) bs h (omega (arith, e)))
  where
    by : (t : Bool) → suc k ≤ first_in end (suc k) bs h → k ≤ cond t k (first_in end (suc k) bs h)
    by true le = omega arith
    by false le = omega (arith, le)

pub next_above : (targets : Slices) (number : ℕ) → number < length targets → number < get_or (nexts (length targets) 0 targets) number 0
next_above targets number less =
    let d : Bor (List Cell) = record { ref_ptr = (0, 0); now = [] } in
    let here = get_or targets number d in
    omega (
      arith,
      next_at (length targets) 0 targets number here (slice_get-get_or targets number d less),
      first_above (length targets) (suc (0 + number)) (drop (suc number) targets) (slice_head here) (omega (arith, length-drop (suc number) targets, less)),
    )

-- what solving tells of a target
pub takes_of : {E : Type 0} (slots : Slots) (targets : Slices) (old new : Pairs) (literal : List Cell) (from number : ℕ) (here : Bor (List Cell)) (r : Result Bool E)
    → IfOk r (HasSolved slots old new literal here.now)
    → (r ≡ Ok true → Grows old new)
    → (r ≡ Ok false → new ≡ old)
    → from ≤ number
    → slice_get targets number ≡ Some here
    → IfOk r (TakesFrom slots targets old new literal from number)
takes_of slots targets old new literal from number here (Ok true) solved grows stays le got = (
  le,
  grows refl,
  λ target is.
      let same : Some here ≡ Some target = sym got ∙ is in
      let slice : here ≡ target = cc in
      subst (λ (b : Bor (List Cell)). HasSolved slots old new literal b.now true) slice solved,
)
takes_of slots targets old new literal from number here (Ok false) solved grows stays le got = (
  stays refl,
  λ more target is common.
      let same : Some target ≡ Some here = sym is ∙ got in
      let slice : target ≡ here = cc in
      solved (subst (λ (b : Bor (List Cell)). HaveCommon slots old literal b.now) slice common),
)
takes_of slots targets old new literal from number here (Err e) solved grows stays le got = solved

-- ---- a map takes each literal to a target with its head
module _ (slots : Slots) (targets : Slices) (target_terms : AreFlatLiterals slots targets) where
  target_of : (s : Substitution Symbol Variable) (literal : Bor (List Cell)) (n : ℕ) (target : Bor (List Cell))
      → IsSolution slots [] s
      → IsFlatLiteral slots literal.now
      → slice_get targets n ≡ Some target
      → Equalizes (image same_variable s) literal.now target.now
      → HasTargetByHead targets (slice_head literal)
  target_of s literal n target solution term got equal = by (equal_heads (slice_head literal) (slice_head target)) refl
    where
      by : (b : Bool) → equal_heads (slice_head literal) (slice_head target) ≡ b → HasTargetByHead targets (slice_head literal)
      by true has = (n, target, got, has)
      by false differs = absurd (never_there slots targets [] literal.now term target_terms n target got differs (s, (solution, equal)))

  each_taken : (s : Substitution Symbol Variable) (literals : Slices) (ns : List ℕ)
      → IsSolution slots [] s
      → AreFlatLiterals slots literals
      → AreImages (λ (l k : Bor (List Cell)). Equalizes (image same_variable s) l.now k.now) targets literals ns
      → AllByRecursion (λ literal. HasTargetByHead targets (slice_head literal)) literals
  each_taken s [] ns solution terms images = tt
  each_taken s (l ∷ ls) [] solution terms images = absurd images
  each_taken s (l ∷ ls) (zero ∷ ns) solution terms images = absurd (let e : None ≡ Some images.0.0 = images.0.1 in cc)
  each_taken s (l ∷ ls) (suc n ∷ ns) solution terms images = (
    target_of s l n images.0.0 solution terms.0 images.0.1 images.0.2,
    each_taken s ls ns solution terms.1 images.1,
  )

  pub map_has_targets : (literals : Slices) (ns : List ℕ)
      → AreFlatLiterals slots literals
      → CanEnd slots targets [] literals ns
      → AllByRecursion (λ literal. HasTargetByHead targets (slice_head literal)) literals
  map_has_targets literals ns terms can = each_taken can.0 literals ns can.1 terms can.2
