-- Bindings carried by others, pair by pair.
use Rattle.std.proofs.Common.{◌≡◌, ◌+◌, ◌^◌, ◌<◌, ◌≤◌, List, [], ◌∷◌, ◌++◌, length, refl, sym, ◌∙◌, ap, subst, arith, append_assoc, append-nil}
use Rattle.std.specs.List.{AllByRecursion}
use Rattle.si_defs.specs.Terms as terms
use Rattle.si_defs.specs.Substitutions.{IsAmong, AreDistinct}
use Rattle.si_flat.specs.declared.Cell.{Cell}
use Rattle.si_flat.specs.Cells.{IsWhole}
use Rattle.si_flat.specs.Rows.{CellPair, left_sides}
use Rattle.si_flat.proofs.RowLaws.{distinct_parts}
use Rattle.si_legal.specs.Bindings.{Binding, indicators, right_indicators, right_sizes, applied, StandForBindings}
use Rattle.si_mscg.specs.Generalising.{IsDraft, respanned}
use Rattle.si_mscg.proofs.SpanLaws.{length-draft_of, draft_done}
use Rattle.si_tree.proofs.DecodingLaws.{bindings_read}
use Rattle.si_tree.proofs.RightLaws.{lefts_read, next_unbound}
use Rattle.si_prune.specs.Pruning.{filled, carried_pairs, MayCompose}
use Rattle.si_prune.proofs.FillLaws.{right_filled, is_draft}
use Rattle.si_prune.proofs.SizeLaws.{applied_small}

-- with the bindings applied, the right side is a term whose cells can be numbered
abbrev pub IsFillable : List CellPair → CellPair → Type 0
IsFillable bs pair = IsDraft (filled bs pair.1) × (length (filled bs pair.1) < 2 ^ 32)

are_fillable : (second : List CellPair) (cs : List Binding) → StandForBindings second cs → (node : List CellPair) (ns : List Binding) → StandForBindings node ns → AreDistinct (right_indicators ns) → right_sizes ns + right_sizes cs ≤ 2 ^ 30 → AllByRecursion (IsFillable second) node
are_fillable second cs stand [] [] h once room = tt
are_fillable second cs stand [] (b ∷ ns) h once room = absurd h
are_fillable second cs stand (c ∷ node) [] h once room = absurd h
are_fillable second cs stand (c ∷ node) (b ∷ ns) h once room =
    let parts = distinct_parts (indicators b.1) (right_indicators ns) once in
    let long : length (filled second c.1) ≡ terms.size (applied cs b.1) = ap length (right_filled second cs stand c.1 b.1 h.1) ∙ length-draft_of (applied cs b.1) in (
      (is_draft second cs stand c.1 b.1 h.1, omega (arith, applied_small cs b.1 parts.0, long, room)),
      are_fillable second cs stand node ns h.2 parts.1 (omega (arith, room)),
    )

pub lefts_stand : (cells : List CellPair) (bs : List Binding) → StandForBindings cells bs → left_sides bs ≡ left_sides cells
lefts_stand cells bs h = ap left_sides (sym (bindings_read cells bs h)) ∙ lefts_read cells

pub lefts_carried : (node second : List CellPair) → left_sides (carried_pairs node second) ≡ left_sides node
lefts_carried [] second = refl
lefts_carried (c ∷ node) second = ap (λ ns. c.0 ∷ ns) (lefts_carried node second)

-- no left side stands twice in both
pub all_distinct : (node second : List CellPair) → MayCompose node second → AreDistinct (left_sides node ++ left_sides second)
all_distinct node second (ns, cs, h, k, may) = subst AreDistinct (λ i. lefts_stand node ns h i ++ lefts_stand second cs k i) may.lefts

-- ---- the loop
-- these are carried, those are left, and nothing is drafted
pub record IsCarrying (node second both left : List CellPair) (draft : List Cell) : Type 0 where
  pub whole : both ++ carried_pairs left second ≡ carried_pairs node second
  pub empty : draft ≡ []
  pub fillable : AllByRecursion (IsFillable second) left

pub carry_begins : (node second both left : List CellPair) (draft : List Cell) → MayCompose node second → both ≡ [] → left ≡ node → draft ≡ [] → IsCarrying node second both left draft
carry_begins node second both left draft (ns, cs, h, k, may) none all empty = record {
  whole = λ i. none i ++ carried_pairs (all i) second;
  empty = empty;
  fillable = subst (AllByRecursion (IsFillable second)) (sym all) (are_fillable second cs k node ns h may.once may.room);
}

pub record CarryTurn (node second both : List CellPair) (pair : CellPair) (rest : List CellPair) (drafted : List Cell) : Type 0 where
  pub draft : IsDraft drafted
  pub short : length drafted < 2 ^ 32
  pub new : IsAmong (left_sides both) pair.0 → ⊥
  pub whole : IsWhole (respanned drafted)
  pub then : (draft : List Cell) → draft ≡ [] → IsCarrying node second (both ++ (pair.0, respanned drafted) ∷ []) rest draft

pub carry_turns : (node second both : List CellPair) (pair : CellPair) (rest : List CellPair) (draft drafted right : List Cell) → MayCompose node second → IsCarrying node second both (pair ∷ rest) draft → right ≡ pair.1 → drafted ≡ draft ++ filled second right → CarryTurn node second both pair rest drafted
carry_turns node second both pair rest draft drafted right may h same e = record {
  draft = is;
  short = subst (λ l. length l < 2 ^ 32) (sym drafted_is) h.fillable.0.1;
  new = next_unbound both (carried_pairs rest second) (carried_pairs node second) (pair.0, respanned (filled second pair.1)) h.whole
      (subst AreDistinct (sym (lefts_carried node second)) (distinct_parts (left_sides node) (left_sides second) (all_distinct node second may)).0);
  whole = (is.term, draft_done drafted is);
  then = λ new empty. record {
    whole =
        append_assoc both ((pair.0, respanned drafted) ∷ []) (carried_pairs rest second)
        ∙ ap (λ l. both ++ (pair.0, respanned l) ∷ carried_pairs rest second) drafted_is
        ∙ h.whole;
    empty = empty;
    fillable = h.fillable.1;
  };
} where
  drafted_is : drafted ≡ filled second pair.1
  drafted_is = e ∙ (λ i. h.empty i ++ filled second (same i))

  is : IsDraft drafted
  is = subst IsDraft (sym drafted_is) h.fillable.0.0

pub carry_ends : (node second both left : List CellPair) (draft : List Cell) → IsCarrying node second both left draft → left ≡ [] → both ≡ carried_pairs node second
carry_ends node second both left draft h none = sym (append-nil both) ∙ ap (λ l. both ++ carried_pairs l second) (sym none) ∙ h.whole
