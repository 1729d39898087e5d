-- What an engine answers to a question.
use Rattle.std.specs.Prelude.{◌≡◌, ◌↔◌, List, ◌++◌}
use Rattle.si_defs.specs.Substitutions.{IsAmong, AreDistinct}
use Rattle.si_legal.specs.declared.Posting.{Posting}

-- an engine's answers: distinct, and exactly these
pub record AreAnswers (these : Posting → Type 0) (answers : List Posting) : Type 0 where
  pub distinct : AreDistinct answers
  pub exact : (p : Posting) → IsAmong answers p ↔ these p

-- they stand after what was there
pub record AppendsAnswers (these : Posting → Type 0) (old new : List Posting) : Type 0 where
  pub answers : List Posting
  pub appended : new ≡ old ++ answers
  pub are : AreAnswers these answers
