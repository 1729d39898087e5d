-- The text of what numbers stand for, and that it is sent.
use Rattle.std.specs.Prelude.{Result}
use Rattle.si_defs.specs.Bytes.{Bytes}
use Rattle.si_io.specs.Shown.{SinkShown}
use Rattle.si_io.specs.Sends.{Sends}

-- they stand for something
abbrev pub StandForSome : {A : Type 0} → (A → Type 0) → Type 0
StandForSome {A} Shows = (x : A) × Shows x

-- whatever they stand for, its text is sent
abbrev pub SendsText : {T E A : Type 0} → Result T E → (A → Bytes) → (A → Type 0) → SinkShown
    → SinkShown → Type 0
SendsText {A} result text Shows before after =
    (x : A) → Shows x → Sends result (text x) before after
