-- Which of the files that a load asks for are fetched.
use Rattle.std.proofs.Common.{◌≡◌, ℕ, ◌+◌, List, [], ◌∷◌, ◌++◌, refl, sym, Some, arith}
use Rattle.si_defs.specs.Bytes.{Bytes}
use Rattle.si_state.specs.Harvest.{Files, Bounds, Event, ask, attempt, fetches, Fault, cycle, too_deep, too_many, missing, too_big, failed, foreign, malformed, rejected, MayAsk, IsBarred, IsWithheld, ReadingPoint, IsStuck}
use Rattle.si_steps.specs.Loads.{fetches_made}

pub fetches-append : (xs ys : List Event) → fetches (xs ++ ys) ≡ fetches xs + fetches ys
fetches-append [] ys = omega arith
fetches-append (ask file ∷ xs) ys = omega (arith, fetches-append xs ys)
fetches-append (attempt c ∷ xs) ys = fetches-append xs ys

one_more : (events : List Event) (file : Bytes) → fetches (events ++ ask file ∷ []) ≡ fetches events + 1
one_more events file = omega (arith, fetches-append events (ask file ∷ []))

-- ---- files that may not be asked for
module _ (bounds : Bounds) (opened : List Bytes) (made : ℕ) (file : Bytes) where
  -- a file that is barred may not be asked for
  pub barred_no_ask : (f : Fault) → IsBarred bounds opened made file f → MayAsk bounds opened made file → ⊥
  barred_no_ask (cycle n) h m = m.fresh h.1
  barred_no_ask (too_deep n) h m = absurd (omega (arith, h.2, m.shallow))
  barred_no_ask too_many h m = absurd (omega (arith, h.2, m.few))
  barred_no_ask (missing n) h m = h
  barred_no_ask (too_big n) h m = h
  barred_no_ask (failed n) h m = h
  barred_no_ask (foreign n line) h m = h
  barred_no_ask (malformed n line) h m = h
  barred_no_ask (rejected c why) h m = h

  -- so it isn't fetched
  pub made_barred : (fault : Fault) (events : List Event) → IsBarred bounds opened made file fault
      → fetches events ≡ fetches_made (events ++ ask file ∷ []) (Some fault)
  made_barred (cycle x) events h = omega (arith, one_more events file)
  made_barred (too_deep x) events h = omega (arith, one_more events file)
  made_barred too_many events h = omega (arith, one_more events file)
  made_barred (missing x) events h = absurd h
  made_barred (too_big x) events h = absurd h
  made_barred (failed x) events h = absurd h
  made_barred (foreign x n) events h = absurd h
  made_barred (malformed x n) events h = absurd h
  made_barred (rejected c why) events h = absurd h

-- ---- others
-- one that the library doesn't give is fetched
pub made_withheld : (files : Files) (bounds : Bounds) (file : Bytes) (fault : Fault) (events : List Event) → IsWithheld files bounds file fault
    → fetches events + 1 ≡ fetches_made (events ++ ask file ∷ []) (Some fault)
made_withheld files bounds file (cycle x) events h = absurd h
made_withheld files bounds file (too_deep x) events h = absurd h
made_withheld files bounds file too_many events h = absurd h
made_withheld files bounds file (missing x) events h = sym (one_more events file)
made_withheld files bounds file (too_big x) events h = sym (one_more events file)
made_withheld files bounds file (failed x) events h = sym (one_more events file)
made_withheld files bounds file (foreign x n) events h = absurd h
made_withheld files bounds file (malformed x n) events h = absurd h
made_withheld files bounds file (rejected c why) events h = absurd h

-- where no item stands, all that were asked for were fetched
pub made_stuck : (point : ReadingPoint) (fault : Fault) (events : List Event) → IsStuck point fault → fetches events ≡ fetches_made events (Some fault)
made_stuck point (cycle x) events h = absurd h
made_stuck point (too_deep x) events h = absurd h
made_stuck point too_many events h = absurd h
made_stuck point (missing x) events h = absurd h
made_stuck point (too_big x) events h = absurd h
made_stuck point (failed x) events h = absurd h
made_stuck point (foreign x n) events h = refl
made_stuck point (malformed x n) events h = refl
made_stuck point (rejected c why) events h = absurd h
