-- How two terms, and two lists of bindings, are split by a walk from left to right.
use Rattle.std.specs.Prelude.{ℕ, ◌+◌, cond, ◌&&◌, ◌==◌, List, [], ◌∷◌, ◌++◌, map}
use Rattle.si_defs.specs.Terms as terms
use Rattle.si_flat.specs.Cells.{Symbol, query, entry, ind, Term, Terms}
use Rattle.si_legal.specs.Bindings.{Binding, indicator}
use Rattle.si_legal.specs.Generalizations.{same_head, Sides, agreeing, differing}

-- ---- what two terms are split into: their common part, what is left of each, and the number of
-- the next fresh indicator
pub record Piece : Type 0 where
  pub common : Term
  pub node : List Binding
  pub new : List Binding
  pub next : ℕ

pub record Pieces : Type 0 where
  pub common : Terms
  pub node : List Binding
  pub new : List Binding
  pub next : ℕ

abbrev pub kept : ℕ → ℕ → Term → Piece
kept next n u = record { common = indicator n; node = []; new = (n, u) ∷ []; next = next }

abbrev pub alike : ℕ → Term → Piece
alike next t = record { common = t; node = []; new = []; next = next }

abbrev pub apart : ℕ → Term → Term → Piece
apart next t u = record {
  common = indicator next;
  node = (next, t) ∷ [];
  new = (next, u) ∷ [];
  next = 1 + next;
}

abbrev pub over : Symbol → Pieces → Piece
over s ps = record { common = terms.app s ps.common; node = ps.node; new = ps.new; next = ps.next }

abbrev pub nothing : ℕ → Pieces
nothing next = record { common = terms.none; node = []; new = []; next = next }

abbrev pub then : Piece → Pieces → Pieces
then p ps = record {
  common = terms.more p.common ps.common;
  node = p.node ++ ps.node;
  new = p.new ++ ps.new;
  next = ps.next;
}

abbrev mutual
  pub piece : ℕ → Term → Term → Piece
  piece next (terms.var (ind n)) u = kept next n u
  piece next (terms.var (query n)) u =
      cond (same_head (terms.var (query n)) u) (alike next (terms.var (query n)))
      (apart next (terms.var (query n)) u)
  piece next (terms.var (entry n)) u =
      cond (same_head (terms.var (entry n)) u) (alike next (terms.var (entry n)))
      (apart next (terms.var (entry n)) u)
  piece next (terms.app s ts) (terms.var x) = apart next (terms.app s ts) (terms.var x)
  piece next (terms.app s ts) (terms.app r us) =
      cond ((s.number == r.number) && (s.arity == r.arity)) (over s (pieces next ts us))
      (apart next (terms.app s ts) (terms.app r us))

  pub pieces : ℕ → Terms → Terms → Pieces
  pieces next terms.none us = nothing next
  pieces next (terms.more t ts) terms.none = nothing next
  pieces next (terms.more t ts) (terms.more u us) =
      then (piece next t u) (pieces (piece next t u).next ts us)

-- ---- the right sides as rows
abbrev pub side_terms : (Sides → Term) → List Sides → Terms
side_terms side [] = terms.none
side_terms side (s ∷ ss) = terms.more (side s) (side_terms side ss)

abbrev pub node_terms : List Sides → Terms
node_terms ss = side_terms (λ s. s.node) ss

abbrev pub new_terms : List Sides → Terms
new_terms ss = side_terms (λ s. s.new) ss

abbrev pub lefts_of : List Sides → List ℕ
lefts_of ss = map (λ s. s.left) ss

-- each term with its left side
abbrev pub with_lefts : List Sides → Terms → List Binding
with_lefts [] cs = []
with_lefts (s ∷ ss) terms.none = []
with_lefts (s ∷ ss) (terms.more c cs) = (s.left, c) ∷ with_lefts ss cs

-- one side of each
abbrev pub side_pairs : (Sides → Term) → List Sides → List Binding
side_pairs side ss = map (λ s. (s.left, side s)) ss

-- what the right sides with one head are split into
abbrev pub cut : ℕ → List Sides → Pieces
cut next ss = pieces next (node_terms (agreeing ss)) (new_terms (agreeing ss))

abbrev pub common_of : ℕ → List Sides → List Binding
common_of next ss = with_lefts (agreeing ss) (cut next ss).common

abbrev pub node_rest : ℕ → List Sides → List Binding
node_rest next ss = side_pairs (λ s. s.node) (differing ss) ++ (cut next ss).node

abbrev pub new_rest : ℕ → List Sides → List Binding
new_rest next ss = side_pairs (λ s. s.new) (differing ss) ++ (cut next ss).new
