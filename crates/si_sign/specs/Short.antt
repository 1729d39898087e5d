-- Stores whose adds find no memory at chosen calls.
use Rattle.std.proofs.Common.{refl}
use Rattle.std.specs.Prelude.{◌≡◌, ℕ, ◌+◌, ◌-◌, ◌^◌, min, Bool, nat_eq, List, Result, Err}
use Rattle.std.specs.Coded.{Coded, code_by, coded×, coded_list, coded_ℕ}
use Rattle.std.specs.List.{list_any}
use Rattle.si_defs.specs.Clauses.{Clause}
use Rattle.si_defs.specs.Codes.{clause_code}
use Rattle.si_state.specs.States.{Rules, rules_code}
use Rattle.si_sign.specs.declared.faults.Rejected.{Rejected}
use Rattle.si_sign.specs.declared.faults.AddFault.TheVariants.{Memory}

-- its rules and clauses, the numbers from 1 of the calls of `add` that fail, and how many were made
pub record Short : Type 0 where
  pub rules : Rules
  pub clauses : List Clause
  pub failing : List ℕ
  pub calls : ℕ

pub short_code : Coded Short
short_code =
    code_by ((Rules × List Clause) × (List ℕ × ℕ))
    (coded× (coded× rules_code (coded_list clause_code)) (coded× (coded_list coded_ℕ) coded_ℕ))
    (λ s. ((s.rules, s.clauses), (s.failing, s.calls)))
    (λ t. record { rules = t.0.0; clauses = t.0.1; failing = t.1.0; calls = t.1.1 }) (λ _. refl)

-- the number of the call after so many calls: it stands still at the largest `u32`
abbrev pub next_call : ℕ → ℕ
next_call calls = min (calls + 1) (2 ^ 32 - 1)

-- whether the number is one of these
abbrev pub is_among : (numbers : List ℕ) (number : ℕ) → Bool
is_among numbers number = list_any (λ n. nat_eq n number) numbers

-- The call answers want of memory.
abbrev pub FindsNoMemory : Result ℕ Rejected → Type 0
FindsNoMemory result = (r : Rejected) × (result ≡ Err r) × (r.why ≡ Memory)
