-- What is kept, and the rules by which clauses are accepted (this project's profile).
use Rattle.std.specs.Prelude.{ℕ, List, [], refl}
use Rattle.std.specs.Coded.{Coded, code_by, coded_ℕ, coded_list}
use Rattle.si_defs.specs.Clauses.{Clause}
use Rattle.si_defs.specs.Codes.{clause_code}

-- the kept clauses, in the order of acceptance
pub record State : Type 0 where
  pub clauses : List Clause

-- nothing is kept
abbrev pub empty_state : State
empty_state = record { clauses = [] }

-- the most entries of all kept clauses together
pub record Rules : Type 0 where
  pub entries : ℕ

-- the rules with this limit on entries
abbrev pub limited_to : ℕ → Rules
limited_to limit = record { entries = limit }

-- ---- codes, by which the checker tells ghost values apart
abbrev pub state_code : Coded State
state_code =
    code_by (List Clause) (coded_list clause_code) (λ s. s.clauses) (λ cs. record { clauses = cs })
    (λ _. refl)

abbrev pub rules_code : Coded Rules
rules_code = code_by ℕ coded_ℕ (λ r. r.entries) (λ n. record { entries = n }) (λ _. refl)
