-- Rows of terms that grow at the end.
use Rattle.std.proofs.Common.{◌≡◌, ℕ, ◌+◌, List, [], ◌∷◌, ◌++◌, length, map, refl, sym, ◌∙◌, ap, arith, append_assoc, append-nil, length-append}
use Rattle.std.proofs.lemmas.List.{map-append}
use Rattle.si_defs.specs.Terms as terms
use Rattle.si_flat.specs.declared.Cell.{Cell}
use Rattle.si_flat.specs.declared.Cell.TheVariants as cell
use Rattle.si_flat.specs.Cells.{Term, cells_of, cells_of_all, IsWhole, join}
use Rattle.si_flat.proofs.Subterms.{length-cells_of_all}
use Rattle.si_unify.proofs.Rows.{cells-join, sound-join, count-join}
use Rattle.si_measure.specs.Rows.{Arguments, AreArguments, with_argument, under_symbol}
use Rattle.si_measure.specs.Systems.{Equation, twice, with_terms, AddsEquations}
use Rattle.si_measure.specs.declared.towers.Sides.{Sides}

-- ---- arguments
pub no_arguments : (cells : List Cell) → cells ≡ [] → AreArguments cells 0
no_arguments cells e = record { row = terms.none; cells_are = e; sound = tt; count_is = refl }

pub one_argument : (cells more all : List Cell) (n m : ℕ) → AreArguments cells n → IsWhole more → all ≡ cells ++ more → m ≡ n + 1 → AreArguments all m
one_argument cells more all n m a w e k = record {
  row = join a.row (terms.more w.0 terms.none);
  cells_are =
      e ∙ ap (λ l. l ++ more) a.cells_are
      ∙ ap (λ l. cells_of_all a.row ++ l) (w.1.cells_are ∙ sym (append-nil (cells_of w.0)))
      ∙ sym (cells-join a.row (terms.more w.0 terms.none));
  sound = sound-join a.row (terms.more w.0 terms.none) a.sound (w.1.sound, tt);
  count_is = omega (arith, count-join a.row (terms.more w.0 terms.none), a.count_is, k);
}

pub under_whole : (number : ℕ) (a : Arguments) (cells : List Cell) → AreArguments a.cells a.count → cells ≡ under_symbol number a → IsWhole cells
under_whole number a cells h e = (
  terms.app (record { number = number; arity = a.count }) h.row,
  record {
    cells_are =
        e
        ∙ ap (λ n. cell.App number a.count n ∷ a.cells) (omega (arith, ap length h.cells_are, length-cells_of_all h.row))
        ∙ ap (λ l. cell.App number a.count (1 + terms.sizes h.row) ∷ l) h.cells_are;
    sound = (h.count_is, h.sound);
  },
)

abbrev arguments : List Cell → ℕ → Arguments
arguments cells count = record { cells = cells; count = count }

-- ---- rows of terms
pub cells-row : (ts us : List Term) → cells_of_all (terms.row (ts ++ us)) ≡ cells_of_all (terms.row ts) ++ cells_of_all (terms.row us)
cells-row [] us = refl
cells-row (t ∷ ts) us = ap (λ l. cells_of t ++ l) (cells-row ts us) ∙ sym (append_assoc (cells_of t) (cells_of_all (terms.row ts)) (cells_of_all (terms.row us)))

pub with_none : (a : Arguments) → a ≡ with_terms a []
with_none a = sym (ap (λ l. arguments l (a.count + 0)) (append-nil a.cells) ∙ ap (λ n. arguments a.cells n) (omega arith))

pub with_one : (a : Arguments) (t : Term) → with_argument a (cells_of t) ≡ with_terms a (t ∷ [])
with_one a t = ap (λ l. arguments (a.cells ++ l) (a.count + 1)) (sym (append-nil (cells_of t)))

pub with_more : (a : Arguments) (ts us : List Term) → with_terms (with_terms a ts) us ≡ with_terms a (ts ++ us)
with_more a ts us =
    ap (λ l. arguments l ((a.count + length ts) + length us))
    (append_assoc a.cells (cells_of_all (terms.row ts)) (cells_of_all (terms.row us)) ∙ ap (λ l. a.cells ++ l) (sym (cells-row ts us)))
    ∙ ap (λ n. arguments (a.cells ++ cells_of_all (terms.row (ts ++ us))) n) (omega (arith, length-append ts us))

-- the term over a row that began with nothing
pub under_row : (number : ℕ) (a old : Arguments) (ts : List Term) → old ≡ record { cells = []; count = 0 } → a ≡ with_terms old ts → under_symbol number a ≡ cells_of (terms.app (record { number = number; arity = length ts }) (terms.row ts))
under_row number a old ts e h =
    ap (under_symbol number) (h ∙ ap (λ o. with_terms o ts) e ∙ ap (arguments (cells_of_all (terms.row ts))) (omega arith))
    ∙ ap (λ n. cell.App number (length ts) (1 + n) ∷ cells_of_all (terms.row ts)) (length-cells_of_all (terms.row ts))

pub twice_under : (t : Term) (cells all : List Cell) → cells ≡ cells_of t → all ≡ under_symbol 1 (record { cells = cells ++ cells; count = 2 }) → all ≡ cells_of (twice t)
twice_under t cells all e h =
    h ∙ ap (λ l. under_symbol 1 (arguments (l ++ l) 2)) e
    ∙ under_row 1 (arguments (cells_of t ++ cells_of t) 2) (arguments [] 0) (t ∷ t ∷ []) refl
    (ap (λ l. arguments (cells_of t ++ l) 2) (sym (append-nil (cells_of t))))

-- ---- equations
pub adds_none : (s : Sides) → AddsEquations s s []
adds_none s = record { left = with_none s.left; right = with_none s.right }

pub adds_one : (old new : Sides) (e : Equation) → new.left ≡ with_argument old.left (cells_of e.left) → new.right ≡ with_argument old.right (cells_of e.right) → AddsEquations old new (e ∷ [])
adds_one old new e l r = record { left = l ∙ with_one old.left e.left; right = r ∙ with_one old.right e.right }

pub adds_then : (a b c : Sides) (es fs : List Equation) → AddsEquations a b es → AddsEquations b c fs → AddsEquations a c (es ++ fs)
adds_then a b c es fs h k = record {
  left =
      k.left ∙ ap (λ o. with_terms o (map (λ e. e.left) fs)) h.left
      ∙ with_more a.left (map (λ e. e.left) es) (map (λ e. e.left) fs)
      ∙ ap (with_terms a.left) (sym (map-append (λ e. e.left) es fs));
  right =
      k.right ∙ ap (λ o. with_terms o (map (λ e. e.right) fs)) h.right
      ∙ with_more a.right (map (λ e. e.right) es) (map (λ e. e.right) fs)
      ∙ ap (with_terms a.right) (sym (map-append (λ e. e.right) es fs));
}
