-- What a writer does that is given a query's term piece by piece.
use Rattle.std.specs.Prelude.{◌≡◌, ℕ, ◌-◌, Bool, cond, [], ◌∷◌, ◌++◌, length, slice_set}
use Rattle.si_defs.specs.Symbols.{Symbol, Numbering, IsNumbering}
use Rattle.si_defs.specs.Substitutions.{IsAmong}
use Rattle.si_flat.specs.declared.Cell.TheVariants as cell
use Rattle.si_flat.specs.declared.Owner.TheVariants.{Query}
use Rattle.si_flat.specs.Numbered.{one_above}
use Rattle.si_flat.specs.Flattening.{WalkState, WalkPiece, entry_scheme, Flattens}

-- The piece was met and written, in the same cells alone and in every literal.
abbrev pub WritesPiece : Numbering → WalkState → WalkState → WalkPiece → Type 0
WritesPiece pairs old new piece =
    (positive : Bool) → Flattens pairs (entry_scheme Query positive) old new piece

-- a place was left for a symbol's cell, with some cell in it
pub record Opens (at : ℕ) (old new : WalkState) : Type 0 where
  pub names : new.names ≡ old.names
  pub extra : new.extra ≡ old.extra
  pub cells : new.cells ≡ old.cells ++ cell.Query 0 ∷ []
  pub place : at ≡ length old.cells

-- the cell of a symbol of the table stands in its place, before its arguments
pub record PutsSymbol (pairs : Numbering) (s : Symbol) (positive : Bool) (at : ℕ)
    (old new : WalkState) : Type 0 where
  pub names : new.names ≡ old.names
  pub extra : new.extra ≡ old.extra
  pub number : ℕ
  pub known : IsAmong pairs (s, number)
  pub numbering : IsNumbering pairs
  pub cells : new.cells ≡ slice_set old.cells at
      (cell.App (cond positive number (one_above s.side number)) s.arity
      (length old.cells - at))
