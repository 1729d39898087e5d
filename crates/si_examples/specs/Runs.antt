-- Whole runs.
use Rattle.std.specs.Prelude.{◌≤◌, Bool, Option, [], ◌∷◌, codes, true}
use Rattle.si_defs.specs.Bytes.{Bytes}
use Rattle.si_state.specs.Harvest.{Files}
use Rattle.si_steps.specs.Settings.{Setting}
use Rattle.si_steps.specs.Loads.{Owed, nothing}
use Rattle.si_steps.specs.Runs.{IsOutput, IsOutputTo, a_line, requests}

-- a clause is added, and found
abbrev pub AddedAndFound : Type 0
AddedAndFound = (setting : Setting) (told : Option Files) (strict : Bool) → 19 ≤ setting.limits.line
    → 1 ≤ setting.rules.entries
    → IsOutput setting told strict
    (requests [] (codes "add cnf(c,axiom,p)." ∷ codes "instances lit p" ∷ []))
    (codes "ok 1 1\nc:1 {}\nend 1\n") nothing

-- a line of white space alone has no output
abbrev pub NoOutput : Type 0
NoOutput = (setting : Setting) (told : Option Files) (strict : Bool) → 1 ≤ setting.limits.line
    → IsOutput setting told strict (a_line (codes " ") ∷ []) [] nothing

-- no output stands where there are no lines
abbrev pub NoLineNoOutput : Type 0
NoLineNoOutput = (setting : Setting) (told : Option Files) (strict : Bool) (owed : Owed)
    → IsOutput setting told strict [] (codes "ok 0 0\n") owed → ⊥

-- a strict run ends at a word that can't name a file
abbrev pub EmptyWordEnds : Type 0
EmptyWordEnds = (setting : Setting) (told : Option Files)
    → IsOutputTo setting told true (requests ([] ∷ codes "a.p" ∷ []) (codes "stats" ∷ []))
    (codes "! syntax" ∷ []) (codes "! syntax\n") nothing

-- and doesn't go on after it
abbrev pub EmptyWordGoesNotOn : Type 0
EmptyWordGoesNotOn = (setting : Setting) (told : Option Files) (output : Bytes) (owed : Owed)
    → IsOutput setting told true (requests ([] ∷ []) []) output owed → ⊥
