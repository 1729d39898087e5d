-- What a walk over two lists of bindings does.
use Rattle.std.specs.Prelude.{◌≡◌, ℕ, ◌+◌, ◌^◌, ◌<◌, Bool, List, [], ◌∷◌, ◌++◌, map}
use Rattle.std.specs.List.{AllByRecursion}
use Rattle.si_defs.specs.Terms as terms
use Rattle.si_defs.specs.Substitutions.{IsAmong, AreDistinct}
use Rattle.si_flat.specs.declared.Cell.{Cell}
use Rattle.si_flat.specs.declared.Cell.TheVariants as cell
use Rattle.si_flat.specs.Cells.{Term, cells_of, IsSound, IsWhole, StandsFor}
use Rattle.si_flat.specs.Rows.{CellPair, left_sides}
use Rattle.si_legal.specs.Bindings.{Binding, StandForBindings}
use Rattle.si_legal.specs.Generalizations.{same_head, Sides, sides, differing}
use Rattle.si_legal.specs.Pieces.{Piece, piece, side_pairs, cut, common_of}
use Rattle.si_mscg.specs.declared.walk.Walk.{Walk}
use Rattle.si_mscg.specs.Generalising.{draft_of}

abbrev pub cell_pairs : List Binding → List CellPair
cell_pairs bs = map (λ b. (b.0, cells_of b.1)) bs

-- what was found so far
pub record PartsSoFar : Type 0 where
  pub draft : List Cell
  pub common : List CellPair
  pub node : List CellPair
  pub new : List CellPair
  pub next : ℕ

abbrev pub state_of : Walk → PartsSoFar
state_of w = record {
  draft = w.draft.items;
  common = w.split.common;
  node = w.split.rest_node;
  new = w.split.rest_new;
  next = w.next;
}

abbrev pub start : ℕ → PartsSoFar
start next = record { draft = []; common = []; node = []; new = []; next = next }

-- no left side of a rest stands there twice, and there is a number for each fresh indicator
pub record MayEnd (s : PartsSoFar) : Type 0 where
  pub node : AreDistinct (left_sides s.node)
  pub new : AreDistinct (left_sides s.new)
  pub next : s.next < 2 ^ 32

-- ---- the walk over two terms
-- with one piece more
abbrev pub with_piece : PartsSoFar → Piece → PartsSoFar
with_piece s p = record {
  draft = s.draft ++ draft_of p.common;
  common = s.common;
  node = s.node ++ cell_pairs p.node;
  new = s.new ++ cell_pairs p.new;
  next = p.next;
}

-- the two terms may be split after what was found
abbrev pub MayShare : PartsSoFar → List Cell → List Cell → Type 0
MayShare s node new =
    (t u : Term) → StandsFor node t → StandsFor new u → MayEnd (with_piece s (piece s.next t u))

abbrev pub Shares : Walk → List Cell → List Cell → Walk → Type 0
Shares old node new w =
    (t u : Term) → StandsFor node t → StandsFor new u
    → state_of w ≡ with_piece (state_of old) (piece old.next t u)

-- a term stands at the front of the cells
pub record BeginsWithTerm (cells : List Cell) : Type 0 where
  pub term : Term
  pub rest : List Cell
  pub sound : IsSound term
  pub parts : cells ≡ cells_of term ++ rest

-- The indicator was kept, and the new rest has the first term at it. The others stand after that.
pub record Keeps (old : Walk) (n : ℕ) (cells : List Cell) (new : Walk)
    (rest : List Cell) : Type 0 where
  pub part : List Cell
  pub whole : IsWhole part
  pub parts : cells ≡ part ++ rest
  pub state : state_of new ≡ record {
    draft = old.draft.items ++ cell.Ind n ∷ [];
    common = old.split.common;
    node = old.split.rest_node;
    new = old.split.rest_new ++ (n, part) ∷ [];
    next = old.next;
  }

-- A fresh indicator stands for the two first terms, which the rests have at it.
pub record Cuts (old : Walk) (cells others : List Cell) (new : Walk)
    (rest others_rest : List Cell) : Type 0 where
  pub part : List Cell
  pub whole : IsWhole part
  pub parts : cells ≡ part ++ rest
  pub other : List Cell
  pub other_whole : IsWhole other
  pub other_parts : others ≡ other ++ others_rest
  pub state : state_of new ≡ record {
    draft = old.draft.items ++ cell.Ind old.next ∷ [];
    common = old.split.common;
    node = old.split.rest_node ++ (old.next, part) ∷ [];
    new = old.split.rest_new ++ (old.next, other) ∷ [];
    next = old.next + 1;
  }

-- ---- two right sides
-- the heads of the two right sides are the same just where this is true
abbrev pub TellsHeads : Bool → CellPair → CellPair → Type 0
TellsHeads same pair other =
    (t u : Term) → StandsFor pair.1 t → StandsFor other.1 u → same ≡ same_head t u

-- with two right sides left whole
abbrev pub with_whole : PartsSoFar → CellPair → CellPair → PartsSoFar
with_whole s pair other = record {
  draft = s.draft;
  common = s.common;
  node = s.node ++ pair ∷ [];
  new = s.new ++ (pair.0, other.1) ∷ [];
  next = s.next;
}

-- with a common right side more
abbrev pub with_shared : PartsSoFar → ℕ → Piece → PartsSoFar
with_shared s left p = record {
  draft = [];
  common = s.common ++ (left, cells_of p.common) ∷ [];
  node = s.node ++ cell_pairs p.node;
  new = s.new ++ cell_pairs p.new;
  next = p.next;
}

-- a common right side of the two may come next
pub record MayShareSides (s : PartsSoFar) (left : ℕ) (t u : Term) : Type 0 where
  pub empty : s.draft ≡ []
  pub unbound : IsAmong (left_sides s.common) left → ⊥
  pub short : terms.size t < 2 ^ 32
  pub may_end : MayEnd (with_piece s (piece s.next t u))

abbrev pub MaySharePair : PartsSoFar → CellPair → CellPair → Type 0
MaySharePair s pair other =
    (t u : Term) → StandsFor pair.1 t → StandsFor other.1 u → MayShareSides s pair.0 t u

abbrev pub SharesPair : PartsSoFar → CellPair → CellPair → PartsSoFar → Type 0
SharesPair old pair other new =
    (t u : Term) → StandsFor pair.1 t → StandsFor other.1 u
    → new ≡ with_shared old pair.0 (piece old.next t u)

-- ---- two lists
-- with what differs at the root left whole
abbrev pub with_differing : PartsSoFar → List Sides → PartsSoFar
with_differing s ss = record {
  draft = s.draft;
  common = s.common;
  node = s.node ++ cell_pairs (side_pairs (λ b. b.node) (differing ss));
  new = s.new ++ cell_pairs (side_pairs (λ b. b.new) (differing ss));
  next = s.next;
}

-- with what agrees at the root split
abbrev pub with_agreeing : PartsSoFar → List Sides → PartsSoFar
with_agreeing s ss = record {
  draft = [];
  common = s.common ++ cell_pairs (common_of s.next ss);
  node = s.node ++ cell_pairs (cut s.next ss).node;
  new = s.new ++ cell_pairs (cut s.next ss).new;
  next = (cut s.next ss).next;
}

-- the lists stand for bindings of which this holds
pub record HaveSides (node new : List CellPair) (P : List Sides → Type 0) : Type 0 where
  pub ns : List Binding
  pub ms : List Binding
  pub node_stand : StandForBindings node ns
  pub new_stand : StandForBindings new ms
  pub holds : P (sides ns ms)

-- this holds of whatever bindings the lists stand for
abbrev pub OfSides : List CellPair → List CellPair → (List Sides → Type 0) → Type 0
OfSides node new P =
    (ns ms : List Binding) → StandForBindings node ns → StandForBindings new ms → P (sides ns ms)

abbrev pub MayLeave : PartsSoFar → List Sides → Type 0
MayLeave s ss = MayEnd (with_differing s ss)

pub record MayAgree (s : PartsSoFar) (ss : List Sides) : Type 0 where
  pub empty : s.draft ≡ []
  pub short : AllByRecursion (λ b. terms.size b.node < 2 ^ 32) ss
  pub distinct : AreDistinct (left_sides (with_agreeing s ss).common)
  pub may_end : MayEnd (with_agreeing s ss)
