-- The two walks over the pairs of two lists.
use Rattle.std.proofs.Common.{◌≡◌, ℕ, ◌<◌, ◌≤◌, ◌^◌, ◌⊎◌, inl, inr, true, false, not, cond, List, [], ◌∷◌, ◌++◌, length, refl, ap, sym, ◌∙◌, subst, arith, append_assoc, append-nil}
use Rattle.std.specs.List.{AllByRecursion}
use Rattle.std.proofs.lemmas.List.{map-append}
use Rattle.si_defs.specs.Terms as terms
use Rattle.si_defs.specs.Substitutions.{IsAmong, AreDistinct}
use Rattle.si_flat.specs.declared.Cell.{Cell}
use Rattle.si_flat.specs.Cells.{Term, cells_of, IsSound, StandsFor}
use Rattle.si_flat.specs.Rows.{CellPair, left_sides}
use Rattle.si_flat.proofs.RowLaws.{distinct_parts}
use Rattle.si_legal.specs.Bindings.{Binding, StandForBindings}
use Rattle.si_legal.specs.Generalizations.{same_head, Sides, sides, agreeing, differing}
use Rattle.si_legal.specs.Pieces.{pieces, piece, node_terms, new_terms, side_pairs, with_lefts, cut, common_of}
use Rattle.si_unify.proofs.Reading.{one_term}
use Rattle.si_mscg.specs.Walking.{PartsSoFar, cell_pairs, with_piece, with_whole, with_shared, with_differing, with_agreeing, HaveSides, MayEnd, MayShareSides, MaySharePair}
use Rattle.si_mscg.specs.Generalising.{draft_of, IsDraft, respanned}
use Rattle.si_mscg.proofs.SpanLaws.{length-draft_of, draft_done}
use Rattle.si_mscg.proofs.PieceLaws.{fits, all_fit, sound_piece}
use Rattle.si_mscg.proofs.WalkLaws.{fronts_apart}

-- ---- the first pair of each list
pub record FirstSides (p q : CellPair) (pairs others : List CellPair) (P : List Sides → Type 0) : Type 0 where
  pub t : Term
  pub u : Term
  pub stands : StandsFor p.1 t
  pub new_stands : StandsFor q.1 u
  pub ns : List Binding
  pub ms : List Binding
  pub node_stand : StandForBindings pairs ns
  pub new_stand : StandForBindings others ms
  pub holds : P (record { left = p.0; node = t; new = u } ∷ sides ns ms)

pub first_sides : (node new : List CellPair) (p q : CellPair) (pairs others : List CellPair) (P : List Sides → Type 0) → node ≡ p ∷ pairs → new ≡ q ∷ others → HaveSides node new P → FirstSides p q pairs others P
first_sides node new p q pairs others P d e h = by h.ns h.ms (subst (λ l. StandForBindings l h.ns) d h.node_stand) (subst (λ l. StandForBindings l h.ms) e h.new_stand) h.holds where
  by : (ns ms : List Binding) → StandForBindings (p ∷ pairs) ns → StandForBindings (q ∷ others) ms → P (sides ns ms) → FirstSides p q pairs others P
  by [] ms s r x = absurd s
  by (b ∷ ns) [] s r x = absurd r
  by (b ∷ ns) (c ∷ ms) s r x = record {
    t = b.1;
    u = c.1;
    stands = s.1;
    new_stands = r.1;
    ns = ns;
    ms = ms;
    node_stand = s.2;
    new_stand = r.2;
    holds = subst (λ n. P (record { left = n; node = b.1; new = c.1 } ∷ sides ns ms)) (sym s.0) x;
  }

-- one of the lists is at its end
pub no_sides : (node new : List CellPair) (P : List Sides → Type 0) → (node ≡ []) ⊎ (new ≡ []) → HaveSides node new P → P []
no_sides node new P e h = by h.ns h.ms e h.node_stand h.new_stand h.holds where
  by : (ns ms : List Binding) → (node ≡ []) ⊎ (new ≡ []) → StandForBindings node ns → StandForBindings new ms → P (sides ns ms) → P []
  by [] ms d s r x = x
  by (b ∷ ns) [] d s r x = x
  by (b ∷ ns) (c ∷ ms) (inl d) s r x = absurd (subst (λ l. StandForBindings l (b ∷ ns)) d s)
  by (b ∷ ns) (c ∷ ms) (inr d) s r x = absurd (subst (λ l. StandForBindings l (c ∷ ms)) d r)

-- ---- what the first pair is counted among
differs : (s : Sides) (ss : List Sides) → same_head s.node s.new ≡ false → differing (s ∷ ss) ≡ s ∷ differing ss
differs s ss e = ap (λ b. cond (not b) (s ∷ differing ss) (differing ss)) e

differs_not : (s : Sides) (ss : List Sides) → same_head s.node s.new ≡ true → differing (s ∷ ss) ≡ differing ss
differs_not s ss e = ap (λ b. cond (not b) (s ∷ differing ss) (differing ss)) e

agrees : (s : Sides) (ss : List Sides) → same_head s.node s.new ≡ true → agreeing (s ∷ ss) ≡ s ∷ agreeing ss
agrees s ss e = ap (λ b. cond b (s ∷ agreeing ss) (agreeing ss)) e

agrees_not : (s : Sides) (ss : List Sides) → same_head s.node s.new ≡ false → agreeing (s ∷ ss) ≡ agreeing ss
agrees_not s ss e = ap (λ b. cond b (s ∷ agreeing ss) (agreeing ss)) e

-- ---- the first walk
-- with these left whole
abbrev left_whole : PartsSoFar → List Sides → PartsSoFar
left_whole s ds = record {
  draft = s.draft;
  common = s.common;
  node = s.node ++ cell_pairs (side_pairs (λ b. b.node) ds);
  new = s.new ++ cell_pairs (side_pairs (λ b. b.new) ds);
  next = s.next;
}

pub left_none : (s : PartsSoFar) → s ≡ with_differing s []
left_none s = λ i. record {
  draft = s.draft;
  common = s.common;
  node = sym (append-nil s.node) i;
  new = sym (append-nil s.new) i;
  next = s.next;
}

pub left_same : (s : PartsSoFar) (d : Sides) (ss : List Sides) → same_head d.node d.new ≡ true → with_differing s ss ≡ with_differing s (d ∷ ss)
left_same s d ss e = ap (left_whole s) (sym (differs_not d ss e))

pub left_one : (s : PartsSoFar) (p q : CellPair) (t u : Term) (ss : List Sides) → StandsFor p.1 t → StandsFor q.1 u → same_head t u ≡ false → with_differing (with_whole s p q) ss ≡ with_differing s (record { left = p.0; node = t; new = u } ∷ ss)
left_one s p q t u ss h k e =
    let d : Sides = record { left = p.0; node = t; new = u } in
    (λ i. record {
      draft = s.draft;
      common = s.common;
      node = (append_assoc s.node (p ∷ []) (cell_pairs (side_pairs (λ b. b.node) (differing ss))) ∙ ap (λ cells. s.node ++ (p.0, cells) ∷ cell_pairs (side_pairs (λ b. b.node) (differing ss))) h.cells_are) i;
      new = (append_assoc s.new ((p.0, q.1) ∷ []) (cell_pairs (side_pairs (λ b. b.new) (differing ss))) ∙ ap (λ cells. s.new ++ (p.0, cells) ∷ cell_pairs (side_pairs (λ b. b.new) (differing ss))) k.cells_are) i;
      next = s.next;
    })
    ∙ ap (left_whole s) (sym (differs d ss e))

pub record Unbound (s : PartsSoFar) (n : ℕ) : Type 0 where
  pub node : IsAmong (left_sides s.node) n → ⊥
  pub new : IsAmong (left_sides s.new) n → ⊥

pub left_unbound : (s end : PartsSoFar) (d : Sides) (ss : List Sides) → with_differing s (d ∷ ss) ≡ end → same_head d.node d.new ≡ false → MayEnd end → Unbound s d.left
left_unbound s end d ss is e may =
    let all : left_whole s (d ∷ differing ss) ≡ end = ap (left_whole s) (sym (differs d ss e)) ∙ is in
    record {
      node = fronts_apart s.node (cell_pairs (side_pairs (λ b. b.node) (d ∷ differing ss))) end.node d.left (ap (λ x. x.node) all) may.node (inl refl);
      new = fronts_apart s.new (cell_pairs (side_pairs (λ b. b.new) (d ∷ differing ss))) end.new d.left (ap (λ x. x.new) all) may.new (inl refl);
    }

-- ---- the second walk
-- with these split
abbrev shared_all : PartsSoFar → List Sides → PartsSoFar
shared_all s some = record {
  draft = [];
  common = s.common ++ cell_pairs (with_lefts some (pieces s.next (node_terms some) (new_terms some)).common);
  node = s.node ++ cell_pairs (pieces s.next (node_terms some) (new_terms some)).node;
  new = s.new ++ cell_pairs (pieces s.next (node_terms some) (new_terms some)).new;
  next = (pieces s.next (node_terms some) (new_terms some)).next;
}

pub shared_none : (s : PartsSoFar) → s.draft ≡ [] → s ≡ with_agreeing s []
shared_none s empty = λ i. record {
  draft = empty i;
  common = sym (append-nil s.common) i;
  node = sym (append-nil s.node) i;
  new = sym (append-nil s.new) i;
  next = s.next;
}

pub shared_other : (s : PartsSoFar) (d : Sides) (ss : List Sides) → same_head d.node d.new ≡ false → with_agreeing s ss ≡ with_agreeing s (d ∷ ss)
shared_other s d ss e = ap (shared_all s) (sym (agrees_not d ss e))

pub shared_one : (s : PartsSoFar) (d : Sides) (ss : List Sides) → same_head d.node d.new ≡ true → with_agreeing (with_shared s d.left (piece s.next d.node d.new)) ss ≡ with_agreeing s (d ∷ ss)
shared_one s d ss e =
    let p = piece s.next d.node d.new in
    let rest = cut p.next ss in
    (λ i. record {
      draft = [];
      common = append_assoc s.common ((d.left, cells_of p.common) ∷ []) (cell_pairs (common_of p.next ss)) i;
      node = (append_assoc s.node (cell_pairs p.node) (cell_pairs rest.node) ∙ ap (λ l. s.node ++ l) (sym (map-append (λ b. (b.0, cells_of b.1)) p.node rest.node))) i;
      new = (append_assoc s.new (cell_pairs p.new) (cell_pairs rest.new) ∙ ap (λ l. s.new ++ l) (sym (map-append (λ b. (b.0, cells_of b.1)) p.new rest.new))) i;
      next = rest.next;
    })
    ∙ ap (shared_all s) (sym (agrees d ss e))

-- the front of a list without a left side twice has none twice
distinct_front : (xs ys all : List CellPair) → xs ++ ys ≡ all → AreDistinct (left_sides all) → AreDistinct (left_sides xs)
distinct_front xs ys all e distinct = (distinct_parts (left_sides xs) (left_sides ys) (subst AreDistinct (ap (λ l. left_sides l) (sym e) ∙ map-append (λ p. p.0) xs ys) distinct)).0

-- the state that the second walk comes to
pub record Goes (s end : PartsSoFar) (ss : List Sides) : Type 0 where
  pub empty : s.draft ≡ []
  pub short : AllByRecursion (λ b. terms.size b.node < 2 ^ 32) ss
  pub leads : with_agreeing s ss ≡ end

pub goes_other : (s end : PartsSoFar) (d : Sides) (ss : List Sides) → same_head d.node d.new ≡ false → Goes s end (d ∷ ss) → Goes s end ss
goes_other s end d ss e h = record { empty = h.empty; short = h.short.1; leads = shared_other s d ss e ∙ h.leads }

pub goes_on : (s end : PartsSoFar) (d : Sides) (ss : List Sides) → same_head d.node d.new ≡ true → Goes s end (d ∷ ss) → Goes (with_shared s d.left (piece s.next d.node d.new)) end ss
goes_on s end d ss e h = record { empty = refl; short = h.short.1; leads = shared_one s d ss e ∙ h.leads }

may_share : (s end : PartsSoFar) (d : Sides) (ss : List Sides) → same_head d.node d.new ≡ true → AreDistinct (left_sides end.common) → MayEnd end → Goes s end (d ∷ ss) → MayShareSides s d.left d.node d.new
may_share s end d ss e distinct may h =
    let p = piece s.next d.node d.new in
    let rest = cut p.next ss in
    let all = shared_one s d ss e ∙ h.leads in
    let common : s.common ++ ((d.left, cells_of p.common) ∷ cell_pairs (common_of p.next ss)) ≡ end.common =
    sym (append_assoc s.common ((d.left, cells_of p.common) ∷ []) (cell_pairs (common_of p.next ss))) ∙ ap (λ x. x.common) all in
    let last : rest.next ≡ end.next = ap (λ x. x.next) all in
    let grows : p.next ≤ rest.next = (all_fit p.next (node_terms (agreeing ss)) (new_terms (agreeing ss))).grows in
    record {
      empty = h.empty;
      unbound = fronts_apart s.common ((d.left, cells_of p.common) ∷ cell_pairs (common_of p.next ss)) end.common d.left common distinct (inl refl);
      short = h.short.0;
      may_end = record {
        node = distinct_front (s.node ++ cell_pairs p.node) (cell_pairs rest.node) end.node (ap (λ x. x.node) all) may.node;
        new = distinct_front (s.new ++ cell_pairs p.new) (cell_pairs rest.new) end.new (ap (λ x. x.new) all) may.new;
        next = omega (arith, last, grows, may.next);
      };
    }

-- the cells of a right side tell its term
same_sides : (P : Term → Term → Type 0) (p q : CellPair) (t u t' u' : Term) → StandsFor p.1 t → StandsFor q.1 u → StandsFor p.1 t' → StandsFor q.1 u' → P t u → P t' u'
same_sides P p q t u t' u' h k h' k' x = subst (λ y. P t' y) (one_term q.1 u u' k k') (subst (λ y. P y u) (one_term p.1 t t' h h') x)

pub may_share_pair : (s end : PartsSoFar) (p q : CellPair) (t u : Term) (ss : List Sides) → StandsFor p.1 t → StandsFor q.1 u → same_head t u ≡ true → AreDistinct (left_sides end.common) → MayEnd end → Goes s end (record { left = p.0; node = t; new = u } ∷ ss) → MaySharePair s p q
may_share_pair s end p q t u ss h k e distinct may goes = λ t' u' h' k'. same_sides (λ x y. MayShareSides s p.0 x y) p q t u t' u' h k h' k' (may_share s end (record { left = p.0; node = t; new = u }) ss e distinct may goes)

-- ---- one common right side
-- what was drafted is the common part of the two
pub record IsDrafted (s : PartsSoFar) (t : Term) : Type 0 where
  pub draft : IsDraft s.draft
  pub short : length s.draft < 2 ^ 32
  pub done : StandsFor (respanned s.draft) t

pub drafted : (s one : PartsSoFar) (left : ℕ) (t u : Term) → IsSound t → IsSound u → MayShareSides s left t u → one ≡ with_piece s (piece s.next t u) → IsDrafted one (piece s.next t u).common
drafted s one left t u h k may e =
    let p = piece s.next t u in
    let is : one.draft ≡ draft_of p.common = ap (λ x. x.draft) e ∙ ap (λ l. l ++ draft_of p.common) may.empty in
    let d : IsDraft one.draft = record { term = p.common; sound = (sound_piece s.next t u h k).common; draft = is } in
    let small : terms.size p.common ≤ terms.size t = (fits s.next t u).short in
    record {
      draft = d;
      short = omega (arith, ap length is, length-draft_of p.common, small, may.short);
      done = draft_done one.draft d;
    }

pub shared : (s one : PartsSoFar) (left : ℕ) (t u : Term) (draft : List Cell) → draft ≡ [] → (cells : List Cell) → StandsFor cells (piece s.next t u).common → one ≡ with_piece s (piece s.next t u) → (common : List CellPair) → common ≡ one.common ++ (left, cells) ∷ [] → record { draft = draft; common = common; node = one.node; new = one.new; next = one.next } ≡ with_shared s left (piece s.next t u)
shared s one left t u draft empty cells stands e common pushed =
    λ i. record {
      draft = empty i;
      common = (pushed ∙ (λ j. (e j).common ++ (left, stands.cells_are j) ∷ [])) i;
      node = (e i).node;
      new = (e i).new;
      next = (e i).next;
    }
