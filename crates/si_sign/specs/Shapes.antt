-- The shape of a symbol, and clashes of shapes.
use Rattle.std.specs.Prelude.{◌≡◌, List}
use Rattle.si_defs.specs.Symbols.{Symbol}
use Rattle.si_state.specs.Acceptance.{IsFirstClash}
use Rattle.si_sign.specs.declared.faults.Shape.{Shape}
use Rattle.si_sign.specs.declared.faults.Clash.{Clash}
use Rattle.si_sign.specs.declared.faults.TakeFault.{TakeFault}
use Rattle.si_sign.specs.declared.faults.TakeFault.TheVariants as take_fault

-- its side and arity
abbrev pub shape_of : Symbol → Shape
shape_of s = record { side = s.side; arity = s.arity }

-- the clash has the shapes of these symbols
abbrev pub HasShapes : Clash → Symbol → Symbol → Type 0
HasShapes c found kept = (c.found ≡ shape_of found) × (c.kept ≡ shape_of kept)

-- the first of these symbols that clashes, after so many others, is the one that is named
abbrev pub NamesFirstClash : List Symbol → List Symbol → Clash → Type 0
NamesFirstClash known own c =
    (found : Symbol) × (kept : Symbol)
    × IsFirstClash known own c.occurrence found kept × HasShapes c found kept

-- why symbols aren't taken: the first of them that clashes is named, or memory ran out
abbrev pub RefusesSymbols : List Symbol → List Symbol → TakeFault → Type 0
RefusesSymbols known own (take_fault.Clash c) = NamesFirstClash known own c
RefusesSymbols known own take_fault.Memory = Unit {0}
