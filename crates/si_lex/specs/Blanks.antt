-- One blank at a place.
use Rattle.std.specs.Prelude.{◌≡◌, ℕ, ◌<◌, ◌≤◌, ◌⊎◌, ◌++◌, length, drop}
use Rattle.si_defs.specs.Bytes.{Bytes}
use Rattle.si_defs.specs.Tokens.{IsBlank, IsLineComment}

-- no blank stands at the front of the bytes
abbrev pub NoBlankAt : Bytes → Type 0
NoBlankAt bytes = (blank rest : Bytes) → IsBlank blank → bytes ≡ blank ++ rest → ⊥

-- nor a comment that no line feed closes
abbrev pub NothingBlankAt : Bytes → Type 0
NothingBlankAt bytes = NoBlankAt bytes × (IsLineComment bytes → ⊥)

-- One blank goes from a place up to another; or a comment that no line feed closes goes up to the
-- end.
pub record IsOneBlank (bytes : Bytes) (at end : ℕ) : Type 0 where
  pub from : at < end
  pub within : end ≤ length bytes
  pub blank : ((b : Bytes) × IsBlank b × (drop at bytes ≡ b ++ drop end bytes))
      ⊎ (IsLineComment (drop at bytes) × (end ≡ length bytes))
