-- The subterm that begins at a cell.
use Rattle.std.proofs.Common.{◌≡◌, ℕ, ◌+◌, ◌-◌, ◌<◌, ◌≤◌, inl, inr, List, [], ◌∷◌, ◌++◌, length, take, drop, get_or, refl, sym, ◌∙◌, ap, subst, arith, suc, zero, append_assoc, append-nil, length-append}
use Rattle.std.proofs.lemmas.Bool.{cases_lt}
use Rattle.std.proofs.Common.{add-zero}
use Rattle.std.proofs.lemmas.List.{get_or-drop, length-drop, take_rest}
use Rattle.std.proofs.Math.Seq.{drop-append_seam, take-append_seam}
use Rattle.si_defs.specs.Terms as terms
use Rattle.si_flat.specs.declared.Cell.{Cell}
use Rattle.si_flat.specs.declared.Cell.TheVariants as cell
use Rattle.si_flat.specs.Cells.{Symbol, query, entry, ind, Term, Terms, cells_of, cells_of_all, IsSound, AreSound, StandsFor, IsWhole, span}

-- a term has as many cells as occurrences
mutual
  pub length-cells_of : (t : Term) → length (cells_of t) ≡ terms.size t
  length-cells_of (terms.var x) = refl
  length-cells_of (terms.app s ts) = omega (arith, length-cells_of_all ts)

  pub length-cells_of_all : (ts : Terms) → length (cells_of_all ts) ≡ terms.sizes ts
  length-cells_of_all terms.none = refl
  length-cells_of_all (terms.more t ts) = length-append (cells_of t) (cells_of_all ts) ∙ omega (arith, length-cells_of t, length-cells_of_all ts)

-- no term has no cells
pub cells_some : (t : Term) → 0 < length (cells_of t)
cells_some (terms.var x) = omega arith
cells_some (terms.app s ts) = omega arith

pub some_cell : (cells : List Cell) → IsWhole cells → 0 < length cells
some_cell cells whole = omega (arith, ap length whole.1.cells_are, cells_some whole.0)

pub without_cells : (ts : Terms) → cells_of_all ts ≡ [] → ts ≡ terms.none
without_cells terms.none e = refl
without_cells (terms.more (terms.var x) ts) e = cc
without_cells (terms.more (terms.app s us) ts) e = cc

-- the first cell of a term tells its number of cells
pub span-first : (t : Term) (rest : List Cell) (d : Cell) → span (get_or (cells_of t ++ rest) 0 d) ≡ terms.size t
span-first (terms.var (query n)) rest d = refl
span-first (terms.var (entry n)) rest d = refl
span-first (terms.var (ind n)) rest d = refl
span-first (terms.app s ts) rest d = refl

-- a term that stands among the cells at a place, between others
pub record StandsAmong (cells : List Cell) (at : ℕ) : Type 0 where
  pub before : List Cell
  pub term : Term
  pub after : List Cell
  pub sound : IsSound term
  pub parts : cells ≡ before ++ (cells_of term ++ after)
  pub place : length before ≡ at

stands_after : (front cells : List Cell) (at : ℕ) → StandsAmong cells at → StandsAmong (front ++ cells) (length front + at)
stands_after front cells at f = record {
  before = front ++ f.before;
  term = f.term;
  after = f.after;
  sound = f.sound;
  parts = ap (λ l. front ++ l) f.parts ∙ sym (append_assoc front f.before (cells_of f.term ++ f.after));
  place = length-append front f.before ∙ ap (λ n. length front + n) f.place;
}

stands_before : (cells back : List Cell) (at : ℕ) → StandsAmong cells at → StandsAmong (cells ++ back) at
stands_before cells back at f = record {
  before = f.before;
  term = f.term;
  after = f.after ++ back;
  sound = f.sound;
  parts =
      ap (λ l. l ++ back) f.parts
      ∙ append_assoc f.before (cells_of f.term ++ f.after) back
      ∙ ap (λ l. f.before ++ l) (append_assoc (cells_of f.term) f.after back);
  place = f.place;
}

at_start : (t : Term) → IsSound t → StandsAmong (cells_of t) 0
at_start t sound = record {
  before = [];
  term = t;
  after = [];
  sound = sound;
  parts = sym (append-nil (cells_of t));
  place = refl;
}

-- after the first cell of a symbol stand its arguments, and after the first argument the others
behind_head : (s : Symbol) (ts : Terms) (at : ℕ) → StandsAmong (cells_of_all ts) at → StandsAmong (cells_of (terms.app s ts)) (suc at)
behind_head s ts at f = subst (StandsAmong (cells_of (terms.app s ts))) (omega arith) (stands_after (cell.App s.number s.arity (1 + terms.sizes ts) ∷ []) (cells_of_all ts) at f)

behind_first : (t : Term) (ts : Terms) (at : ℕ) → terms.size t ≤ at → StandsAmong (cells_of_all ts) (at - terms.size t) → StandsAmong (cells_of_all (terms.more t ts)) at
behind_first t ts at less f = subst (StandsAmong (cells_of_all (terms.more t ts))) (omega (arith, length-cells_of t)) (stands_after (cells_of t) (cells_of_all ts) (at - terms.size t) f)

mutual
  pub found : (t : Term) (at : ℕ) → IsSound t → at < terms.size t → StandsAmong (cells_of t) at
  found (terms.var x) at sound less = subst (StandsAmong (cells_of (terms.var x))) (omega arith) (at_start (terms.var x) sound)
  found (terms.app s ts) zero sound less = at_start (terms.app s ts) sound
  found (terms.app s ts) (suc at) sound less = behind_head s ts at (found_all ts at sound.1 (omega arith))

  pub found_all : (ts : Terms) (at : ℕ) → AreSound ts → at < terms.sizes ts → StandsAmong (cells_of_all ts) at
  found_all terms.none at sound less = absurd (omega arith)
  found_all (terms.more t ts) at sound less =
      elim (cases_lt at (terms.size t)) [
        | inl first ↦ stands_before (cells_of t) (cells_of_all ts) at (found t at sound.0 first)
        | inr later ↦ behind_first t ts at later (found_all ts (at - terms.size t) sound.1 (omega arith))
      ]

pub found_in : (cells : List Cell) (at : ℕ) → IsWhole cells → at < length cells → StandsAmong cells at
found_in cells at whole less =
    subst
    (λ l. StandsAmong l at)
    (sym whole.1.cells_are)
    (found whole.0 at whole.1.sound (omega (arith, ap length whole.1.cells_are, length-cells_of whole.0)))

-- what was found, as the cells after the place
pub from_place : (cells : List Cell) (at : ℕ) (f : StandsAmong cells at) → drop at cells ≡ cells_of f.term ++ f.after
from_place cells at f =
    subst
    (λ n. drop n cells ≡ cells_of f.term ++ f.after)
    f.place
    (ap (drop (length f.before)) f.parts ∙ drop-append_seam f.before (cells_of f.term ++ f.after))

pub span-found : (cells : List Cell) (at : ℕ) (d : Cell) (f : StandsAmong cells at) → span (get_or cells at d) ≡ terms.size f.term
span-found cells at d f =
    ap span (ap (λ n. get_or cells n d) (sym (add-zero at)) ∙ sym (get_or-drop at cells 0 d) ∙ ap (λ l. get_or l 0 d) (from_place cells at f))
    ∙ span-first f.term f.after d

pub ends_inside : (cells : List Cell) (at : ℕ) (f : StandsAmong cells at) → at + terms.size f.term ≤ length cells
ends_inside cells at f =
    omega (
      arith,
      ap length f.parts,
      length-append f.before (cells_of f.term ++ f.after),
      length-append (cells_of f.term) f.after,
      length-cells_of f.term,
      f.place,
    )

-- so many cells from the place on are the term that was found
pub sub-found : (cells : List Cell) (at : ℕ) (f : StandsAmong cells at) → StandsFor (take (terms.size f.term) (drop at cells)) f.term
sub-found cells at f = record {
  cells_are =
      ap (take (terms.size f.term)) (from_place cells at f)
      ∙ subst (λ n. take n (cells_of f.term ++ f.after) ≡ cells_of f.term) (length-cells_of f.term) (take-append_seam (cells_of f.term) f.after);
  sound = f.sound;
}

-- the same of the slice that begins at the place, with the number of cells that its first cell
-- tells
pub record IsCut (cells : List Cell) (at n : ℕ) : Type 0 where
  pub whole : IsWhole (take n (take (length cells - at) (drop at cells)))
  pub long : n ≤ length (take (length cells - at) (drop at cells))

pub cut_at : (cells : List Cell) (at n : ℕ) (d : Cell) → IsWhole cells → at < length cells → n ≡ span (get_or (take (length cells - at) (drop at cells)) 0 d) → IsCut cells at n
cut_at cells at n d whole less told =
    let f = found_in cells at whole less in
    let rest : take (length cells - at) (drop at cells) ≡ drop at cells = take_rest cells at in
    let size : n ≡ terms.size f.term =
    told ∙ ap (λ l. span (get_or l 0 d)) rest ∙ ap span (get_or-drop at cells 0 d ∙ ap (λ k. get_or cells k d) (add-zero at)) ∙ span-found cells at d f in
    record {
      whole = rw (rest, size) (f.term, sub-found cells at f);
      long = rw rest (omega (arith, size, length-drop at cells, ends_inside cells at f));
    }
