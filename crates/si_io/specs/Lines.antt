-- Texts that are written line by line, of which each is one of those that are right.
use Rattle.std.specs.Prelude.{◌<◌, ℕ, List, ◌++◌, Result}
use Rattle.std.specs.List.{AllZip, concat, range_with_len}
use Rattle.si_io.specs.Shown.{SinkShown}
use Rattle.si_io.specs.Sends.{Sends}

-- each line has a text
abbrev pub HaveTexts : (line : ℕ → List ℕ → Type 0) → (count : ℕ) → Type 0
HaveTexts line count = (n : ℕ) → n < count → (text : List ℕ) × line n text

-- The texts of the lines were written, and then this one; or the sink failed at them.
abbrev pub WritesLines : {T E : Type 0} → (line : ℕ → List ℕ → Type 0) → (count : ℕ)
    → (last : List ℕ) → Result T E → (before after : SinkShown) → Type 0
WritesLines line count last result before after =
    (texts : List (List ℕ)) × AllZip line (range_with_len 0 count) texts
    × Sends result (concat texts ++ last) before after
