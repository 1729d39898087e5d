-- Each fetch of a load is one call of the library.
use Rattle.std.proofs.Common.{◌≡◌, ℕ, ◌+◌, ◌<◌, ◌≤◌, [], refl, sym, ap, ◌∙◌, subst, inl, inr, arith}
use Rattle.si_defs.specs.Bytes.{Bytes}
use Rattle.si_state.specs.Harvest.{Bounds, MayAsk}
use Rattle.si_steps.specs.Loads.{MayFetch}
use Rattle.si_io.specs.declared.counts.LibraryCounts.{LibraryCounts}
use Rattle.si_io.specs.declared.library.Fetched.{Fetched}
use Rattle.si_io.specs.declared.library.Fetched.TheVariants.{File, Missing, TooBig, Failed, Memory}
use Rattle.si_io.specs.Counts.{raised, raised_by, fetch_counted}
use Rattle.si_io.specs.Shown.{LibraryShown}
use Rattle.si_io.proofs.Fetching.{HasFetchCause_once, same_files}
use Rattle.si_harvest.specs.declared.reading.Reading.{Reading}
use Rattle.si_harvest.specs.Opened.{opened_names, FetchesOnce}
use Rattle.si_harvest.specs.Stepping.{FetchesOn}

one_call : (answer : Fetched) (before : LibraryCounts) → (fetch_counted answer before).calls ≡ raised before.calls
one_call File before = refl
one_call Missing before = refl
one_call TooBig before = refl
one_call Failed before = refl
one_call Memory before = refl

-- whatever a fetch answers, it is one call
pub called_once : (answer : Fetched) (before now : LibraryCounts) → now ≡ fetch_counted answer before → now.calls ≡ raised before.calls
called_once answer before now once = ap (λ (c : LibraryCounts). c.calls) once ∙ one_call answer before

-- what one fetch owes: name it in the function's `using`
pub ruleset one_fetch = (HasFetchCause_once, called_once)

-- ---- the fetches of a reading
pub fetches_none : (most : ℕ) (old new : Reading) (before now : LibraryShown) → new.fetches ≡ old.fetches → now.counts.calls ≡ before.counts.calls → FetchesOn most old new before now
fetches_none most old new before now same still = record {
  later = omega (arith, same);
  counted = λ first counted. still ∙ counted ∙ ap (λ n. raised_by n first) (sym same);
  few = λ few. omega (arith, same, few);
}

pub fetches_once : (most : ℕ) (old new : Reading) (before now : LibraryShown) → old.fetches < most → new.fetches ≡ old.fetches + 1 → now.counts.calls ≡ raised before.counts.calls
    → FetchesOn most old new before now
fetches_once most old new before now below one_more once = record {
  later = omega (arith, one_more);
  counted = λ first counted. omega (arith, one_more, once, counted);
  few = λ few. omega (arith, one_more, below);
}

-- another reading before, with the same count
pub fetches_from : (most : ℕ) (old middle new : Reading) (before now : LibraryShown) → middle.fetches ≡ old.fetches → FetchesOn most middle new before now → FetchesOn most old new before now
fetches_from most old middle new before now same h = record {
  later = omega (arith, same, h.later);
  counted = λ first counted. h.counted first (counted ∙ ap (λ n. raised_by n first) (sym same));
  few = λ few. h.few (omega (arith, same, few));
}

-- ---- a load
-- no call is made yet
pub none_counted : (made first : ℕ) → made ≡ 0 → first ≡ raised_by made first
none_counted made first none = omega (arith, none)

-- after the fetch of the first file
pub first_fetch : (bounds : Bounds) (file : Bytes) (old new : Reading) → old.files.items ≡ [] → old.fetches ≡ 0 → (old.fetches ≤ bounds.fetches → new.fetches ≤ bounds.fetches)
    → FetchesOnce bounds file old.files.items old.fetches new.fetches → MayFetch bounds file new.fetches
first_fetch bounds file old new none zero few once = record { most = few (omega (arith, zero)); none = λ never. by never once } where
  by : (MayAsk bounds [] 0 file → ⊥) → FetchesOnce bounds file old.files.items old.fetches new.fetches → new.fetches ≡ 0
  by never (inl same) = same ∙ zero
  by never (inr (may, one_more)) = absurd (never (subst (λ n. MayAsk bounds [] n file) zero (subst (λ fs. MayAsk bounds (opened_names fs) old.fetches file) none may)))

-- and after others
pub further_fetch : (bounds : Bounds) (file : Bytes) (made : ℕ) → MayAsk bounds [] 0 file → made ≤ bounds.fetches → MayFetch bounds file made
further_fetch bounds file made may few = record { most = few; none = λ never. absurd (never may) }

-- what a call that leads to at most one fetch owes: name it in the function's `using`
pub ruleset counted = (fetches_none, fetches_once, same_files)
