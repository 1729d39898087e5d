-- What a draw and a rule of the generator make of a text and its state.
use Rattle.std.specs.Prelude.{◌≡◌, ℕ, ◌++◌}
use Rattle.si_defs.specs.Bytes.{Bytes}
use Rattle.si_defs.specs.Generator.{Rule, next, drawn}
use Rattle.si_sample.specs.declared.sampler.Sampler.{Sampler}

-- this number is drawn below the bound, and the text stays
pub record Draws (bound number : ℕ) (before after : Sampler) : Type 0 where
  pub value : number ≡ drawn bound after.state
  pub state : after.state ≡ next before.state
  pub text : after.text.items ≡ before.text.items

-- what is drawn by the rule stands after the text
pub record DrawsOnto (rule : Rule) (before after : Sampler) : Type 0 where
  pub piece : Bytes
  pub drawn : rule before.state piece after.state
  pub text : after.text.items ≡ before.text.items ++ piece
