-- What a session goes by from its first request to its last: what bounds it, and by which rules it
-- accepts clauses (this project's profile).
use Rattle.si_state.specs.States.{Rules, limited_to}
use Rattle.si_steps.specs.declared.limits.Limits.{Limits}

pub record Setting : Type 0 where
  pub limits : Limits
  pub rules : Rules

-- the setting of a session with these limits
abbrev pub setting_of : Limits → Setting
setting_of limits = record { limits = limits; rules = limited_to limits.entries }
