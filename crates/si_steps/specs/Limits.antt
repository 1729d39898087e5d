-- What bounds a session (this project's profile).
use Rattle.std.specs.Prelude.{◌≤◌}
use Rattle.si_defs.specs.declared.TheConstants.{MOST_OCCURRENCES}
use Rattle.si_steps.specs.declared.limits.Limits.{Limits}

-- the limits that the numbers of a session allow
pub record AllowsLimits (limits : Limits) : Type 0 where
  pub line : limits.line ≤ MOST_OCCURRENCES
  pub file : limits.file ≤ MOST_OCCURRENCES
  pub entries : limits.entries ≤ MOST_OCCURRENCES
