-- What a library counts where nothing is owed, and where two replies owe.
use Rattle.std.proofs.Common.{◌≡◌, ℕ, ◌+◌, Bool, refl, ap, ◌∙◌, arith}
use Rattle.si_steps.specs.Loads.{Owed, nothing, together}
use Rattle.si_io.specs.declared.counts.LibraryCounts.{LibraryCounts}
use Rattle.si_io.specs.Counts.{raised_by}
use Rattle.si_session.specs.Session.{behind_owed, HasCountedOwed}

pub counts_nothing : (counts : LibraryCounts) (may_fail : Bool) → HasCountedOwed may_fail nothing counts counts
counts_nothing counts may_fail = record {
  counts = λ i. record { calls = still counts.calls i; faults = still counts.faults i; misses = still counts.misses i; bigs = still counts.bigs i };
  sure = λ never. refl;
} where
  still : (count : ℕ) → count ≡ raised_by 0 count
  still count = omega arith

behind_both : (one other : Owed) (counts : LibraryCounts) → behind_owed other (behind_owed one counts) ≡ behind_owed (together one other) counts
behind_both one other counts =
    λ i. record {
      calls = both one.fetches other.fetches counts.calls i;
      faults = both one.failures other.failures counts.faults i;
      misses = both one.misses other.misses counts.misses i;
      bigs = both one.bigs other.bigs counts.bigs i;
    } where
      both : (m n count : ℕ) → raised_by n (raised_by m count) ≡ raised_by (m + n) count
      both m n count = omega arith

pub counts_then : (may_fail : Bool) (before middle now : LibraryCounts) (one other : Owed) → HasCountedOwed may_fail one before middle → HasCountedOwed may_fail other middle now
    → HasCountedOwed may_fail (together one other) before now
counts_then may_fail before middle now one other h k = record {
  counts = k.counts ∙ ap (behind_owed other) h.counts ∙ behind_both one other before;
  sure = λ never. omega (arith, h.sure never, k.sure never);
}
