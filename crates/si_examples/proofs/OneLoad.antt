-- A load that gains a clause, and one that gains none.
use Rattle.std.proofs.Common.{◌≡◌, ℕ, [], ◌∷◌, codes, refl, ap, sym, ◌∙◌, subst, arith, None, Some}
use Rattle.std.proofs.lemmas.Fmt.{decimal_digit}
use Rattle.si_defs.specs.Bytes.{Bytes}
use Rattle.si_defs.specs.Tokens.{lower, Consists}
use Rattle.si_defs.specs.declared.TokenKind.TheVariants.{Single}
use Rattle.si_state.specs.States.{Rules}
use Rattle.si_state.specs.Acceptance.{taken, misused, full}
use Rattle.si_state.specs.Harvest.{Bounds, ask, attempt, Fault, cycle, too_deep, too_many, missing, too_big, failed, foreign, malformed, rejected, Loads}
use Rattle.si_steps.specs.Commands.{Means, load}
use Rattle.si_steps.specs.Loads.{load_bounds}
use Rattle.si_steps.specs.Replies.{Reply, fault_line}
use Rattle.si_steps.specs.Steps.{loaded}
use Rattle.si_examples.specs.Harvests.{bounds, c, includes, selecting}
use Rattle.si_examples.specs.Loads.{LoadedLine, OwnIncludeOwed, NoGainWithoutFile}
use Rattle.si_examples.proofs.Differ.{first_byte, differ}
use Rattle.si_examples.proofs.Pieces.{space, word, token, consists, token_of}
use Rattle.si_examples.proofs.OneHarvest.{selected_clause, own_include, no_missing_file}

-- ---- a load of a file
abbrev line : Bytes
line = codes "load 'm'"

tokens : Consists line (lower (codes "load") ∷ token_of Single (codes "m") ∷ [])
tokens = consists (word (codes "load") ∷ space 32 ∷ token Single (codes "m") ∷ []) refl

loads : Means (load (codes "m")) line
loads = record {
  tokens = lower (codes "load") ∷ token_of Single (codes "m") ∷ [];
  consists = tokens;
  spelled = record { operands = token_of Single (codes "m") ∷ []; spelled = refl; whole = refl };
  nested = omega arith;
}

pub loaded_line : LoadedLine
loaded_line setting w within rules =
    loaded w (codes "m") loads
    (ask (codes "m") ∷ ask (codes "a") ∷ attempt c ∷ [], None, read, rw (decimal_digit 1 (omega arith)) refl, refl, refl) where
      read : Loads selecting (load_bounds setting.limits) setting.rules [] (codes "m") (ask (codes "m") ∷ ask (codes "a") ∷ attempt c ∷ []) None
      read =
          subst (λ (b : Bounds). Loads selecting b setting.rules [] (codes "m") (ask (codes "m") ∷ ask (codes "a") ∷ attempt c ∷ []) None) (sym within)
          (subst (λ (r : Rules). Loads selecting (bounds 30 2 2) r [] (codes "m") (ask (codes "m") ∷ ask (codes "a") ∷ attempt c ∷ []) None) (sym rules) selected_clause)

-- ---- a file that includes itself
pub own_include_owed : OwnIncludeOwed
own_include_owed setting within rules =
    (ask (codes "a") ∷ ask (codes "a") ∷ [], Some (cycle (codes "a")), read, refl, refl, refl) where
      read : Loads (includes (codes "a")) (load_bounds setting.limits) setting.rules [] (codes "a") (ask (codes "a") ∷ ask (codes "a") ∷ []) (Some (cycle (codes "a")))
      read =
          subst (λ (b : Bounds). Loads (includes (codes "a")) b setting.rules [] (codes "a") (ask (codes "a") ∷ ask (codes "a") ∷ []) (Some (cycle (codes "a")))) (sym within)
          (subst (λ (r : Rules). Loads (includes (codes "a")) (bounds 15 1 1) r [] (codes "a") (ask (codes "a") ∷ ask (codes "a") ∷ []) (Some (cycle (codes "a")))) (sym rules) own_include)

-- ---- the line of a fault
first_line : Reply → Bytes
first_line [] = []
first_line (one ∷ others) = one

-- it begins with `!`
fault_begins : (limit : ℕ) (fault : Fault) → first_byte (fault_line limit fault) ≡ 33
fault_begins limit (cycle file) = refl
fault_begins limit (too_deep file) = refl
fault_begins limit too_many = refl
fault_begins limit (missing file) = refl
fault_begins limit (too_big file) = refl
fault_begins limit (failed file) = refl
fault_begins limit (foreign file n) = refl
fault_begins limit (malformed file n) = refl
fault_begins limit (rejected clause taken) = refl
fault_begins limit (rejected clause (misused n found kept)) = refl
fault_begins limit (rejected clause (full n)) = refl

pub no_gain_without_file : NoGainWithoutFile
unfolding first_line
no_gain_without_file setting kept new owed (events, None, reading, said, due, behind) = no_missing_file (load_bounds setting.limits) setting.rules kept.clauses events reading
no_gain_without_file setting kept new owed (events, Some fault, reading, said, due, behind) =
    differ 111 33 refl (ap (λ r. first_byte (first_line r)) said ∙ fault_begins setting.rules.entries fault)
