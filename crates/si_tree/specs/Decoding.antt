-- Cells read back as the terms that they stand for.
use Rattle.std.specs.Prelude.{ℕ, zero, suc, List, [], ◌∷◌, map, drop}
use Rattle.si_defs.specs.Terms as terms
use Rattle.si_flat.specs.declared.Cell.{Cell}
use Rattle.si_flat.specs.declared.Cell.TheVariants as cell
use Rattle.si_flat.specs.Cells.{query, entry, ind, Term, Terms}
use Rattle.si_flat.specs.Rows.{CellPair}
use Rattle.si_legal.specs.Bindings.{Binding}

-- so many of these terms, as arguments
abbrev pub arguments_of : ℕ → List Term → Terms
arguments_of zero ts = terms.none
arguments_of (suc n) [] = terms.none
arguments_of (suc n) (t ∷ ts) = terms.more t (arguments_of n ts)

-- the terms whose cells stand here one after the other
abbrev pub terms_of : List Cell → List Term
terms_of [] = []
terms_of (cell.Query n ∷ cells) = terms.var (query n) ∷ terms_of cells
terms_of (cell.Entry n ∷ cells) = terms.var (entry n) ∷ terms_of cells
terms_of (cell.Ind n ∷ cells) = terms.var (ind n) ∷ terms_of cells
terms_of (cell.App s arity n ∷ cells) =
    terms.app (record { number = s; arity = arity }) (arguments_of arity (terms_of cells))
    ∷ drop arity (terms_of cells)

-- the first of them, and any term where there is none
abbrev pub first_term_of : List Term → Term
first_term_of [] = terms.var (query 0)
first_term_of (t ∷ ts) = t

abbrev pub term_of : List Cell → Term
term_of cells = first_term_of (terms_of cells)

abbrev pub bindings_of : List CellPair → List Binding
bindings_of bs = map (λ b. (b.0, term_of b.1)) bs
