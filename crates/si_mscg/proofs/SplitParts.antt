-- What the two walks come to is the common part and the rests of the lists that the cells stand for.
use Rattle.std.proofs.Common.{◌≡◌, ℕ, ◌+◌, ◌<◌, ◌≤◌, ◌^◌, not, List, [], ◌∷◌, ◌++◌, refl, ap, sym, ◌∙◌, subst, arith}
use Rattle.std.specs.Prelude.{Result, Ok, Err, IfOk}
use Rattle.std.specs.List.{AllByRecursion}
use Rattle.std.proofs.lemmas.List.{map-append}
use Rattle.si_defs.specs.Terms as terms
use Rattle.si_defs.specs.Substitutions.{AreDistinct}
use Rattle.si_defs.proofs.ListLaws.{all_append}
use Rattle.si_flat.specs.declared.bindings.Split.{Split}
use Rattle.si_flat.specs.Cells.{cells_of, IsSound}
use Rattle.si_flat.specs.Rows.{CellPair, left_sides}
use Rattle.si_flat.proofs.RowLaws.{distinct_parts}
use Rattle.si_legal.specs.Bindings.{Binding, StandForBindings, right_sizes}
use Rattle.si_legal.specs.Generalizations.{Sides, sides, agreeing, differing, same_head, MaySplit, Splits}
use Rattle.si_legal.specs.Pieces.{node_terms, new_terms, side_pairs, cut, common_of, node_rest, new_rest}
use Rattle.si_legal.proofs.Splitting.{either}
use Rattle.si_legal.proofs.SplitLaws.{IsCut, is_cut, fewer, sound_sides, sound_rows, same_count}
use Rattle.si_mscg.specs.declared.walk.Walk.{Walk}
use Rattle.si_mscg.specs.Generalising.{MayGeneralise, Generalises}
use Rattle.si_mscg.specs.Walking.{PartsSoFar, state_of, start, cell_pairs, with_differing, with_agreeing, HaveSides, OfSides, MayEnd, MayLeave, MayAgree}
use Rattle.si_mscg.proofs.PieceLaws.{AreSoundSides, sound_pieces, sound_side_pairs, sound_with_lefts, all_fit}
use Rattle.si_mscg.proofs.PairTurns.{one_list}

-- ---- bindings in cells
stands : (bs : List Binding) → AreSoundSides bs → StandForBindings (cell_pairs bs) bs
stands [] h = tt
stands (b ∷ bs) h = (refl, record { cells_are = refl; sound = h.0 }, stands bs h.1)

sound_of : (cs : List CellPair) (bs : List Binding) → StandForBindings cs bs → AreSoundSides bs
sound_of [] [] h = tt
sound_of [] (b ∷ bs) h = absurd h
sound_of (c ∷ cs) [] h = tt
sound_of (c ∷ cs) (b ∷ bs) h = (h.1.sound, sound_of cs bs h.2)

left_pairs : (bs : List Binding) → left_sides (cell_pairs bs) ≡ left_sides bs
left_pairs [] = refl
left_pairs (b ∷ bs) = ap (λ l. b.0 ∷ l) (left_pairs bs)

distinct_pairs : (bs : List Binding) → AreDistinct (left_sides bs) → AreDistinct (left_sides (cell_pairs bs))
distinct_pairs bs h = subst AreDistinct (sym (left_pairs bs)) h

-- ---- sizes
all_short : (n : ℕ) (ns ms : List Binding) → right_sizes ns < n → AllByRecursion (λ b. terms.size b.node < n) (sides ns ms)
all_short n [] ms less = tt
all_short n (b ∷ ns) [] less = tt
all_short n (b ∷ ns) (c ∷ ms) less = (omega (arith, less), all_short n ns ms (omega (arith, less)))

agreeing_small : (ns ms : List Binding) → terms.sizes (node_terms (agreeing (sides ns ms))) ≤ right_sizes ns
agreeing_small [] ms = omega arith
agreeing_small (b ∷ ns) [] = omega arith
agreeing_small (b ∷ ns) (c ∷ ms) =
    let rest = agreeing_small ns ms in
    let first : Sides = record { left = b.0; node = b.1; new = c.1 } in
    either (λ ss. terms.sizes (node_terms ss) ≤ terms.size b.1 + right_sizes ns) (same_head b.1 c.1) (first ∷ agreeing (sides ns ms)) (agreeing (sides ns ms)) (λ e. omega (arith, rest)) (λ e. omega (arith, rest))

-- ---- the end of the walks
abbrev pub end_of : ℕ → List Sides → PartsSoFar
end_of next ss = record {
  draft = [];
  common = cell_pairs (common_of next ss);
  node = cell_pairs (node_rest next ss);
  new = cell_pairs (new_rest next ss);
  next = (cut next ss).next;
}

end_is : (next : ℕ) (ss : List Sides) → with_agreeing (with_differing (start next) ss) ss ≡ end_of next ss
end_is next ss = λ i. record {
  draft = [];
  common = cell_pairs (common_of next ss);
  node = sym (map-append (λ b. (b.0, cells_of b.1)) (side_pairs (λ s. s.node) (differing ss)) (cut next ss).node) i;
  new = sym (map-append (λ b. (b.0, cells_of b.1)) (side_pairs (λ s. s.new) (differing ss)) (cut next ss).new) i;
  next = (cut next ss).next;
}

-- what is known of two lists that may be split
module _ (next : ℕ) (ns ms : List Binding) (may : MaySplit next ns ms) (sound : AreSoundSides ns) (new_sound : AreSoundSides ms) where
  whole : IsCut next ns ms
  whole = is_cut next ns ms may sound new_sound

  front_distinct : (bs cs : List Binding) → AreDistinct (left_sides (bs ++ cs)) → AreDistinct (left_sides bs)
  front_distinct bs cs h = (distinct_parts (left_sides bs) (left_sides cs) (subst AreDistinct (map-append (λ b. b.0) bs cs) h)).0

  pub may_leave : MayLeave (start next) (sides ns ms)
  may_leave = record {
    node = distinct_pairs (side_pairs (λ s. s.node) (differing (sides ns ms))) (front_distinct (side_pairs (λ s. s.node) (differing (sides ns ms))) (cut next (sides ns ms)).node whole.node_distinct);
    new = distinct_pairs (side_pairs (λ s. s.new) (differing (sides ns ms))) (front_distinct (side_pairs (λ s. s.new) (differing (sides ns ms))) (cut next (sides ns ms)).new whole.new_distinct);
    next = omega (arith, may.room);
  }

  end_may : MayEnd (end_of next (sides ns ms))
  end_may = record {
    node = distinct_pairs (node_rest next (sides ns ms)) whole.node_distinct;
    new = distinct_pairs (new_rest next (sides ns ms)) whole.new_distinct;
    next = omega (arith, may.room, agreeing_small ns ms, (all_fit next (node_terms (agreeing (sides ns ms))) (new_terms (agreeing (sides ns ms)))).bounded);
  }

  pub may_agree : MayAgree (with_differing (start next) (sides ns ms)) (sides ns ms)
  may_agree = record {
    empty = refl;
    short = all_short (2 ^ 32) ns ms (omega (arith, may.room));
    distinct = distinct_pairs (common_of next (sides ns ms)) whole.common_distinct;
    may_end = subst MayEnd (sym (end_is next (sides ns ms))) end_may;
  }

  both_sound : AllByRecursion (λ s. IsSound s.node × IsSound s.new) (sides ns ms)
  both_sound = sound_sides ns ms sound new_sound

  record SoundParts : Type 0 where
    common : AreSoundSides (common_of next (sides ns ms))
    node : AreSoundSides (node_rest next (sides ns ms))
    new : AreSoundSides (new_rest next (sides ns ms))

  first_of : (ss : List Sides) → AllByRecursion (λ s. IsSound s.node × IsSound s.new) ss → AllByRecursion (λ s. IsSound s.node) ss
  first_of [] h = tt
  first_of (s ∷ ss) h = (h.0.0, first_of ss h.1)

  second_of : (ss : List Sides) → AllByRecursion (λ s. IsSound s.node × IsSound s.new) ss → AllByRecursion (λ s. IsSound s.new) ss
  second_of [] h = tt
  second_of (s ∷ ss) h = (h.0.1, second_of ss h.1)

  sound_parts : SoundParts
  sound_parts =
      let ss = sides ns ms in
      let rows = sound_rows (agreeing ss) (fewer (λ s. IsSound s.node × IsSound s.new) (λ s. same_head s.node s.new) ss both_sound) in
      let left = fewer (λ s. IsSound s.node × IsSound s.new) (λ s. not (same_head s.node s.new)) ss both_sound in
      let ps = sound_pieces next (node_terms (agreeing ss)) (new_terms (agreeing ss)) (same_count (agreeing ss)) rows.0 rows.1 in
      record {
        common = sound_with_lefts (agreeing ss) (cut next ss).common ps.common;
        node = all_append (λ b. IsSound b.1) (side_pairs (λ s. s.node) (differing ss)) (cut next ss).node (sound_side_pairs (λ s. s.node) (differing ss) (first_of (differing ss) left)) ps.node;
        new = all_append (λ b. IsSound b.1) (side_pairs (λ s. s.new) (differing ss)) (cut next ss).new (sound_side_pairs (λ s. s.new) (differing ss) (second_of (differing ss) left)) ps.new;
      }

  -- the parts in cells
  pub record PartsStand : Type 0 where
    pub common : StandForBindings (end_of next (sides ns ms)).common (common_of next (sides ns ms))
    pub node : StandForBindings (end_of next (sides ns ms)).node (node_rest next (sides ns ms))
    pub new : StandForBindings (end_of next (sides ns ms)).new (new_rest next (sides ns ms))
    pub splits : Splits next ns ms (common_of next (sides ns ms)) (node_rest next (sides ns ms)) (new_rest next (sides ns ms))

  pub parts_stand : PartsStand
  parts_stand = record {
    common = stands (common_of next (sides ns ms)) sound_parts.common;
    node = stands (node_rest next (sides ns ms)) sound_parts.node;
    new = stands (new_rest next (sides ns ms)) sound_parts.new;
    splits = whole.splits;
  }

-- ---- the call
pub may_begin : (next : ℕ) (node new : List CellPair) (s : PartsSoFar) → s ≡ start next → MayGeneralise next node new → HaveSides node new (MayLeave s)
may_begin next node new s is h = record {
  ns = h.0;
  ms = h.1;
  node_stand = h.2;
  new_stand = h.3;
  holds = subst (λ x. MayLeave x (sides h.0 h.1)) (sym is) (may_leave next h.0 h.1 h.4 (sound_of node h.0 h.2) (sound_of new h.1 h.3));
}

pub may_go_on : (next : ℕ) (node new : List CellPair) (s t : PartsSoFar) → s ≡ start next → OfSides node new (λ ss. t ≡ with_differing s ss) → MayGeneralise next node new → HaveSides node new (MayAgree t)
may_go_on next node new s t is all h = record {
  ns = h.0;
  ms = h.1;
  node_stand = h.2;
  new_stand = h.3;
  holds =
      let here = all h.0 h.1 h.2 h.3 ∙ ap (λ x. with_differing x (sides h.0 h.1)) is in
      subst (λ x. MayAgree x (sides h.0 h.1)) (sym here) (may_agree next h.0 h.1 h.4 (sound_of node h.0 h.2) (sound_of new h.1 h.3));
}

pub generalises : (next : ℕ) (node new : List CellPair) (s t : PartsSoFar) (w : Walk) (split : Split) → s ≡ start next → OfSides node new (λ ss. t ≡ with_differing s ss) → OfSides node new (λ ss. state_of w ≡ with_agreeing t ss) → split ≡ w.split → MayGeneralise next node new → Generalises next node new split
generalises next node new s t w split is first second done h =
    λ ns ms k l.
    let may = subst (λ ys. MaySplit next ns ys) (one_list new h.1 ms h.3 l) (subst (λ xs. MaySplit next xs h.1) (one_list node h.0 ns h.2 k) h.4) in
    let ss = sides ns ms in
    let here : state_of w ≡ end_of next ss = second ns ms k l ∙ ap (λ x. with_agreeing x ss) (first ns ms k l ∙ ap (λ x. with_differing x ss) is) ∙ end_is next ss in
    let parts = parts_stand next ns ms may (sound_of node ns k) (sound_of new ms l) in (
      common_of next ss,
      node_rest next ss,
      new_rest next ss,
      subst (λ c. StandForBindings c (common_of next ss)) (sym (ap (λ x. x.common) here) ∙ sym (ap (λ x. x.common) done)) parts.common,
      subst (λ c. StandForBindings c (node_rest next ss)) (sym (ap (λ x. x.node) here) ∙ sym (ap (λ x. x.rest_node) done)) parts.node,
      subst (λ c. StandForBindings c (new_rest next ss)) (sym (ap (λ x. x.new) here) ∙ sym (ap (λ x. x.rest_new) done)) parts.new,
      parts.splits,
    )

pub generalises_if_ok : {E : Type 0} (r : Result Split E) (next : ℕ) (node new : List CellPair) (s t : PartsSoFar) (w : Walk) → s ≡ start next → OfSides node new (λ ss. t ≡ with_differing s ss) → OfSides node new (λ ss. state_of w ≡ with_agreeing t ss) → IfOk r (λ split. split ≡ w.split) → MayGeneralise next node new → IfOk r (Generalises next node new)
generalises_if_ok (Ok split) next node new s t w is first second done h = generalises next node new s t w split is first second done h
generalises_if_ok (Err e) next node new s t w is first second done h = tt
