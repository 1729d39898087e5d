-- Which calls of a device in memory fail.
use Rattle.std.specs.Prelude.{ℕ, List, Bool, length, nat_lt, ◌==◌}
use Rattle.std.specs.List.{list_any}

-- whether the call of this number, from 1, is to fail
abbrev pub is_listed : List ℕ → ℕ → Bool
is_listed failing call = list_any (λ number. number == call) failing

-- whether any call is to fail
abbrev pub lists_any : List ℕ → Bool
lists_any failing = nat_lt 0 (length failing)
