-- What taking occurrences of symbols, and giving them back, makes of a signature.
use Rattle.std.specs.Prelude.{◌≡◌, ℕ, ◌+◌, List, length}
use Rattle.si_defs.specs.Symbols.{Symbol, times}
use Rattle.si_state.specs.Acceptance.{AllAgree, IsFirstClash}
use Rattle.si_state.specs.Signatures.{Signature, known_symbols, uses_of, total, KeepsNumbers}
use Rattle.si_sign.specs.Shapes.{HasShapes}
use Rattle.si_sign.specs.declared.faults.TakeFault.{TakeFault}
use Rattle.si_sign.specs.declared.faults.TakeFault.TheVariants as take_fault

-- These occurrences agree with what was in use, and are counted in addition.
pub record TakesUses (own : List Symbol) (old new : Signature) : Type 0 where
  pub agree : AllAgree (known_symbols old) own
  pub uses : (s : Symbol) → uses_of new s ≡ uses_of old s + times s own
  pub numbers : KeepsNumbers old new
  pub sum : total new ≡ total old + length own

-- These occurrences are counted no more.
pub record GivesBack (own : List Symbol) (old new : Signature) : Type 0 where
  pub uses : (s : Symbol) → uses_of new s + times s own ≡ uses_of old s
  pub numbers : KeepsNumbers old new
  pub sum : total new + length own ≡ total old

-- Why occurrences aren't taken: one clashes, and its number counts from the use with the number
-- `begin`; or memory ran out.
abbrev pub RefusesFrom : ℕ → Signature → List Symbol → TakeFault → Type 0
RefusesFrom begin old own (take_fault.Clash c) =
    (number : ℕ) × (found : Symbol) × (kept : Symbol)
    × IsFirstClash (known_symbols old) own number found kept × HasShapes c found kept
    × (begin + c.occurrence ≡ total old + number)
RefusesFrom begin old own take_fault.Memory = Unit {0}
