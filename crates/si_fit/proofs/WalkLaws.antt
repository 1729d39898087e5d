-- The walk over two terms: rows of terms are left of both.
use Rattle.std.proofs.Common.{◌≡◌, ◌↔◌, ℕ, ◌+◌, ◌<◌, ◌≤◌, true, false, List, [], ◌∷◌, ◌++◌, length, take, drop, get_or, refl, sym, ◌∙◌, ap, subst, arith, append-nil, length-append, drop-drop}
use Rattle.std.proofs.lemmas.List.{length-drop}
use Rattle.std.proofs.Math.Seq.{drop-append_seam}
use Rattle.std.specs.Borrow.{Bor}
use Rattle.si_defs.specs.Terms as terms
use Rattle.si_defs.proofs.ListLaws.{all_take, all_drop}
use Rattle.si_defs.proofs.TermLaws.{size_some, same_app, same_more}
use Rattle.si_flat.specs.declared.Cell.{Cell}
use Rattle.si_flat.specs.declared.Cell.TheVariants as cell
use Rattle.si_flat.specs.Cells.{Symbol, Variable, Term, Terms, join, cells_of, cells_of_all, AreSound, StandsFor, IsWhole}
use Rattle.si_flat.proofs.Subterms.{length-cells_of_all, cells_some}
use Rattle.si_trail.specs.Trails.{Trail}
use Rattle.si_unify.specs.declared.slots.Slots.{Slots}
use Rattle.si_unify.specs.Solving.{Pairs, CellIsInRange, AreInRange, Equalizes, IsSolvedBy}
use Rattle.si_unify.specs.Spots.{IsAt}
use Rattle.si_unify.specs.Symbols.{same_symbol}
use Rattle.si_unify.proofs.Places.{first_cell, cell-at, inside}
use Rattle.si_unify.proofs.Reading.{one_term}
use Rattle.si_unify.proofs.Rows.{cells-join, sound-join, count-join, substitute-join, count-substitute, join_injective}
use Rattle.si_unify.proofs.Binding.{cut_stands}
use Rattle.si_unify.proofs.Comparing.{grows_on}
use Rattle.si_unify.proofs.Meeting.{HaveHead, have_head}
use Rattle.si_fit.specs.Fitting.{AreWalkable, StaysSolvable, StayWithin}
use Rattle.si_fit.specs.Meeting.{HasMet, HasWalked}
use Rattle.si_fit.specs.declared.meeting.Met.TheVariants.{Equal, Clash, Unknown}
use Rattle.si_fit.proofs.EndLaws.{no_cell}
use Rattle.si_fit.proofs.FitTurns.{no_more}
use Rattle.si_fit.proofs.LengthLaws.{stay_there, parts_stay}

-- ---- cells
-- after so many cells
behind : (cells : List Cell) (at : ℕ) (front back : List Cell) (n : ℕ) → drop at cells ≡ front ++ back → n ≡ length front → drop (at + n) cells ≡ back
behind cells at front back n e long =
    sym (drop-drop n at cells) ∙ ap (drop n) e ∙ ap (λ k. drop k (front ++ back)) long ∙ drop-append_seam front back

-- what is cut out
pub cut_in_range : (slots : Slots) (cells : List Cell) (at : ℕ) (piece : List Cell) → AreInRange slots cells → piece ≡ take (length piece) (drop at cells) → AreInRange slots piece
cut_in_range slots cells at piece range place = subst (AreInRange slots) (sym place) (all_take (CellIsInRange slots) (length piece) (drop at cells) (all_drop (CellIsInRange slots) at cells range))

no_terms : (ts : Terms) → length (cells_of_all ts) ≡ 0 → ts ≡ terms.none
no_terms terms.none e = refl
no_terms (terms.more t ts) e = absurd (omega (arith, e, length-cells_of_all (terms.more t ts), size_some t))

module _ (slots : Slots) (left right : List Cell) (old : Trail (Bor (List Cell))) where
  -- the row `ts` is left of the one term, and `us` of the other
  pub record AreLeft (pairs : Pairs) (i j : ℕ) (ts us : Terms) : Type 0 where
    pub left_cells : drop i left ≡ cells_of_all ts
    pub right_cells : drop j right ≡ cells_of_all us
    pub left_sound : AreSound ts
    pub right_sound : AreSound us
    pub counts : terms.count ts ≡ terms.count us
    pub so_far :
        (f : Variable → Term)
        → (IsSolvedBy slots pairs f × (terms.substitute_all f ts ≡ terms.substitute_all f us))
        ↔ (IsSolvedBy slots old.pairs f × Equalizes f left right)

  pub record IsWalking (now : Trail (Bor (List Cell))) (i j : ℕ) : Type 0 where
    pub ts : Terms
    pub us : Terms
    pub rows : AreLeft now.pairs i j ts us
    pub trail : StaysSolvable slots old now
    pub within : StayWithin old.pairs now.pairs left right

  pub walk_starts : AreWalkable slots old left right → IsWalking old 0 0
  walk_starts both = by both.left both.right where
    by : IsWhole left → IsWhole right → IsWalking old 0 0
    by t u = record {
      ts = terms.more t.0 terms.none;
      us = terms.more u.0 terms.none;
      rows = record {
        left_cells = t.1.cells_are ∙ sym (append-nil (cells_of t.0));
        right_cells = u.1.cells_are ∙ sym (append-nil (cells_of u.0));
        left_sound = (t.1.sound, tt);
        right_sound = (u.1.sound, tt);
        counts = refl;
        so_far = λ f. (
          λ both. (both.0, λ v w left_stands right_stands. ap (terms.substitute f) (one_term left v t.0 left_stands t.1) ∙ (same_more _ _ _ _ both.1).0 ∙ ap (terms.substitute f) (one_term right u.0 w u.1 right_stands)),
          λ both. (both.0, ap (λ v. terms.more v terms.none) (both.1 t.0 u.0 t.1 u.1)),
        );
      };
      trail = record { grows = no_more old.pairs; ready = both.ready; count = refl };
      within = stay_there old.pairs left right;
    }

  -- ---- the next terms
  pub record AreNext (pairs : Pairs) (i j : ℕ) : Type 0 where
    pub t : Term
    pub u : Term
    pub ts : Terms
    pub us : Terms
    pub rows : AreLeft pairs i j (terms.more t ts) (terms.more u us)
    pub left_at : IsAt left i t
    pub right_at : IsAt right j u

  next_of : (pairs : Pairs) (i j : ℕ) (ts us : Terms) → AreLeft pairs i j ts us → j < length right → AreNext pairs i j
  next_of pairs i j ts terms.none h less = absurd (omega (arith, less, ap length h.right_cells, length-drop j right))
  next_of pairs i j terms.none (terms.more u us) h less = absurd (omega (arith, h.counts))
  next_of pairs i j (terms.more t ts) (terms.more u us) h less = record {
    t = t;
    u = u;
    ts = ts;
    us = us;
    rows = h;
    left_at = record { after = cells_of_all ts; from = h.left_cells; sound = h.left_sound.0 };
    right_at = record { after = cells_of_all us; from = h.right_cells; sound = h.right_sound.0 };
  }

  pub next_terms : (now : Trail (Bor (List Cell))) (i j : ℕ) → IsWalking now i j → j < length right → AreNext now.pairs i j
  next_terms now i j h less = next_of now.pairs i j h.ts h.us h.rows less

  pub left_inside : (now : Trail (Bor (List Cell))) (i j : ℕ) → IsWalking now i j → j < length right → i < length left
  left_inside now i j h less = let n = next_terms now i j h less in inside left i n.t n.left_at

  -- ---- one symbol on both sides
  symbol_passed : (pairs : Pairs) (i j : ℕ) (s : Symbol) (xs ys ts us : Terms) → AreLeft pairs i j (terms.more (terms.app s xs) ts) (terms.more (terms.app s ys) us) → AreLeft pairs (i + 1) (j + 1) (join xs ts) (join ys us)
  symbol_passed pairs i j s xs ys ts us h =
      let counts : terms.count xs ≡ terms.count ys = h.left_sound.0.0 ∙ sym h.right_sound.0.0 in
      record {
        left_cells = behind left i (cell.App s.number s.arity (1 + terms.sizes xs) ∷ []) (cells_of_all xs ++ cells_of_all ts) 1 h.left_cells refl ∙ sym (cells-join xs ts);
        right_cells = behind right j (cell.App s.number s.arity (1 + terms.sizes ys) ∷ []) (cells_of_all ys ++ cells_of_all us) 1 h.right_cells refl ∙ sym (cells-join ys us);
        left_sound = sound-join xs ts h.left_sound.0.1 h.left_sound.1;
        right_sound = sound-join ys us h.right_sound.0.1 h.right_sound.1;
        counts = count-join xs ts ∙ omega (arith, h.counts, counts, count-join ys us);
        so_far = λ f. (
          λ both.
              let halves = join_injective (terms.substitute_all f xs) (terms.substitute_all f ts) (terms.substitute_all f ys) (terms.substitute_all f us)
              (count-substitute f xs ∙ counts ∙ sym (count-substitute f ys))
              (sym (substitute-join f xs ts) ∙ both.1 ∙ substitute-join f ys us) in
              (h.so_far f).0 (both.0, λ k. terms.more (terms.app s (halves.front k)) (halves.back k)),
          λ both.
              let before = (h.so_far f).1 both in
              let two = same_more _ _ _ _ before.1 in
              (before.0, substitute-join f xs ts ∙ (λ k. join ((same_app _ _ _ _ two.0).1 k) (two.1 k)) ∙ sym (substitute-join f ys us)),
        );
      }

  heads_passed : (pairs : Pairs) (i j : ℕ) (t u : Term) (ts us : Terms) (head : HaveHead t u) → AreLeft pairs i j (terms.more t ts) (terms.more u us) → AreLeft pairs (i + 1) (j + 1) (join head.left_arguments ts) (join head.right_arguments us)
  heads_passed pairs i j t u ts us head h =
      symbol_passed pairs i j head.symbol head.left_arguments head.right_arguments ts us
      (subst (λ v. AreLeft pairs i j (terms.more (terms.app head.symbol head.left_arguments) ts) (terms.more v us)) head.right
      (subst (λ v. AreLeft pairs i j (terms.more v ts) (terms.more u us)) head.left h))

  pub walk_descends : (now : Trail (Bor (List Cell))) (i j : ℕ) → IsWalking now i j → j < length right → same_symbol (get_or left i no_cell) (get_or right j no_cell) ≡ true → IsWalking now (i + 1) (j + 1)
  walk_descends now i j h less e =
      let n = next_terms now i j h less in
      let cells : same_symbol (first_cell n.t) (first_cell n.u) ≡ true =
      ap (λ c. same_symbol c (first_cell n.u)) (sym (cell-at left i n.t no_cell n.left_at)) ∙ ap (same_symbol (get_or left i no_cell)) (sym (cell-at right j n.u no_cell n.right_at)) ∙ e in
      let head = have_head n.t n.u cells in
      record {
        ts = join head.left_arguments n.ts;
        us = join head.right_arguments n.us;
        rows = heads_passed now.pairs i j n.t n.u n.ts n.us head n.rows;
        trail = h.trail;
        within = h.within;
      }

  -- ---- two terms that have met
  module _ (now : Trail (Bor (List Cell))) (i j : ℕ) (one other : List Cell) (h : IsWalking now i j) (less : j < length right) (one_cut : one ≡ take (length one) (drop i left)) (other_cut : other ≡ take (length other) (drop j right)) (one_whole : IsWhole one) (other_whole : IsWhole other) where
    abbrev next : AreNext now.pairs i j
    next = next_terms now i j h less

    one_stands : StandsFor one next.t
    one_stands = cut_stands left one i next.t next.left_at one_cut one_whole

    other_stands : StandsFor other next.u
    other_stands = cut_stands right other j next.u next.right_at other_cut other_whole

    -- their first cells
    one_head : get_or one 0 no_cell ≡ get_or left i no_cell
    one_head = cell-at one 0 next.t no_cell (record { after = []; from = one_stands.cells_are ∙ sym (append-nil (cells_of next.t)); sound = one_stands.sound }) ∙ sym (cell-at left i next.t no_cell next.left_at)

    other_head : get_or other 0 no_cell ≡ get_or right j no_cell
    other_head = cell-at other 0 next.u no_cell (record { after = []; from = other_stands.cells_are ∙ sym (append-nil (cells_of next.u)); sound = other_stands.sound }) ∙ sym (cell-at right j next.u no_cell next.right_at)

    pub heads_differ : same_symbol (get_or left i no_cell) (get_or right j no_cell) ≡ false → same_symbol (get_or one 0 no_cell) (get_or other 0 no_cell) ≡ true → ⊥
    heads_differ e same =
        let bad : true ≡ false = sym same ∙ ap (λ c. same_symbol c (get_or other 0 no_cell)) one_head ∙ ap (same_symbol (get_or left i no_cell)) other_head ∙ e in cc

    pub other_some : 0 < length other
    other_some = omega (arith, ap length other_stands.cells_are, cells_some next.u)

    pub left_within : i + length one ≤ length left
    left_within = omega (arith, ap length one_stands.cells_are, ap length next.left_at.from, length-append (cells_of next.t) next.left_at.after, length-drop i left, inside left i next.t next.left_at)

    pub right_within : j + length other ≤ length right
    right_within = omega (arith, ap length other_stands.cells_are, ap length next.right_at.from, length-append (cells_of next.u) next.right_at.after, length-drop j right, less)

    pub part_walkable : AreWalkable slots old left right → AreWalkable slots now one other
    part_walkable both = record {
      left = one_whole;
      right = other_whole;
      left_range = cut_in_range slots left i one both.left_range one_cut;
      right_range = cut_in_range slots right j other both.right_range other_cut;
      ready = h.trail.ready;
    }

    -- what is left of the trail by that
    trail_after : (new : Trail (Bor (List Cell))) → StaysSolvable slots now new → StaysSolvable slots old new
    trail_after new then = record {
      grows = grows_on old.pairs now.pairs new.pairs h.trail.grows then.grows;
      ready = then.ready;
      count = then.count ∙ h.trail.count;
    }

    within_after : (new : Trail (Bor (List Cell))) → StayWithin now.pairs new.pairs one other → StayWithin old.pairs new.pairs left right
    within_after new stay = parts_stay old.pairs now.pairs new.pairs left right one other (omega (arith, left_within)) (omega (arith, right_within)) h.within stay

    -- what makes the two slices equal makes the terms equal
    equal_of : (f : Variable → Term) → terms.substitute f next.t ≡ terms.substitute f next.u → Equalizes f one other
    equal_of f e t u left_stands right_stands =
        ap (terms.substitute f) (one_term one t next.t left_stands one_stands) ∙ e ∙ ap (terms.substitute f) (one_term other next.u u other_stands right_stands)

    pub walk_goes_on : (new : Trail (Bor (List Cell))) → HasWalked slots now new one other Equal → IsWalking new (i + length one) (j + length other)
    walk_goes_on new walked = record {
      ts = next.ts;
      us = next.us;
      rows = record {
        left_cells = behind left i (cells_of next.t) (cells_of_all next.ts) (length one) next.rows.left_cells (ap length one_stands.cells_are);
        right_cells = behind right j (cells_of next.u) (cells_of_all next.us) (length other) next.rows.right_cells (ap length other_stands.cells_are);
        left_sound = next.rows.left_sound.1;
        right_sound = next.rows.right_sound.1;
        counts = omega (arith, next.rows.counts);
        so_far = λ f. (
          λ both.
              let before = (walked.outcome f).0 both.0 in
              (next.rows.so_far f).0 (before.0, λ k. terms.more (before.1 next.t next.u one_stands other_stands k) (both.1 k)),
          λ both.
              let before = (next.rows.so_far f).1 both in
              let two = same_more _ _ _ _ before.1 in
              ((walked.outcome f).1 (before.0, equal_of f two.0), two.1),
        );
      };
      trail = trail_after new walked.trail;
      within = within_after new walked.within;
    }

    pub walk_clashes : (new : Trail (Bor (List Cell))) → HasWalked slots now new one other Clash → HasWalked slots old new left right Clash
    walk_clashes new walked = record {
      outcome = λ f solved equal.
          let before = (next.rows.so_far f).1 (solved, equal) in
          walked.outcome f before.0 (equal_of f (same_more _ _ _ _ before.1).0);
      trail = trail_after new walked.trail;
      within = within_after new walked.within;
    }

    pub walk_stops : (new : Trail (Bor (List Cell))) → HasWalked slots now new one other Unknown → HasWalked slots old new left right Unknown
    walk_stops new walked = record {
      outcome = tt;
      trail = trail_after new walked.trail;
      within = within_after new walked.within;
    }

  -- ---- none is left
  none_of : (pairs : Pairs) (i j : ℕ) (ts us : Terms) → AreLeft pairs i j ts us → us ≡ terms.none → HasMet slots old.pairs pairs left right Equal
  none_of pairs i j terms.none us h e = λ f. (
    λ solved. (h.so_far f).0 (solved, sym (ap (terms.substitute_all f) e)),
    λ both. ((h.so_far f).1 both).0,
  )
  none_of pairs i j (terms.more t ts) us h e = absurd (omega (arith, h.counts, ap terms.count e))

  pub walk_ends : (now : Trail (Bor (List Cell))) (i j : ℕ) → IsWalking now i j → length right ≤ j → HasWalked slots old now left right Equal
  walk_ends now i j h over = record {
    outcome = none_of now.pairs i j h.ts h.us h.rows (no_terms h.us (sym (ap length h.rows.right_cells) ∙ length-drop j right ∙ omega (arith, over)));
    trail = h.trail;
    within = h.within;
  }
