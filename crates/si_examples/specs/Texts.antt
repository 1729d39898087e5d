-- What texts begin with, and where.
use Rattle.std.specs.Prelude.{◌≡◌, ℕ, true, List, [], ◌∷◌, ◌++◌, replicate, codes}
use Rattle.si_defs.specs.Bytes.{Bytes}
use Rattle.si_defs.specs.Clauses.{Literal}
use Rattle.si_defs.specs.Grammar.{Item}
use Rattle.si_defs.specs.Texts.{BeginsWithItem, IsFormulaText, IsForeign, line_of}
use Rattle.si_examples.specs.Entries.{predicate}

-- a place after two line feeds is in the third line
abbrev pub ThirdLine : Type 0
ThirdLine = line_of (codes "p\n\nq") ≡ 3

-- a place before the first is in the first line
abbrev pub FirstLine : Type 0
FirstLine = line_of (codes "p") ≡ 1

-- `fof(` begins a formula of another language
abbrev pub OtherLanguage : Type 0
OtherLanguage = IsForeign (codes "fof(c,axiom,p).")

-- `cnf(` does not
abbrev pub OwnLanguage : Type 0
OwnLanguage = IsForeign (codes "cnf(c,axiom,p).") → ⊥

-- and no item begins with `fof`
abbrev pub NoForeignItem : Type 0
NoForeignItem = (item : Item) (rest : Bytes)
    → BeginsWithItem (codes "fof(c,axiom,p).") item rest → ⊥

-- `p` in this many brackets
abbrev pub bracketed_text : ℕ → Bytes
bracketed_text n = replicate n 40 ++ codes "p" ++ replicate n 41

-- is read where there are 512
abbrev pub DeepestText : Type 0
DeepestText = (n : ℕ) → n ≡ 512
    → IsFormulaText (record { positive = true; atom = predicate (codes "p") [] } ∷ [])
    (bracketed_text n)

-- and has no meaning where there are 513
abbrev pub NoDeeperText : Type 0
NoDeeperText = (n : ℕ) → n ≡ 513 → (ls : List Literal) → IsFormulaText ls (bracketed_text n) → ⊥
