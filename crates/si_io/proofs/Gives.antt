-- What one read after the other makes of what a source shows.
use Rattle.std.proofs.Common.{◌≡◌, ℕ, zero, suc, ◌<◌, List, [], ◌++◌, Ok, Err, length, Bool, true, false, ◌&&◌, nat_lt, if◌then◌else◌, refl, ap, ◌∙◌, subst, arith, append-nil, length-append}
use Rattle.std.proofs.lemmas.Bool.{ne_eqb, eq-eqb, lt-ltb}
use Rattle.si_io.specs.Content.{Takes}
use Rattle.si_io.specs.declared.counts.SourceCounts.{SourceCounts}
use Rattle.si_io.specs.declared.failed.Failed.{Failed}
use Rattle.si_io.specs.Counts.{none_of_some, empty_slices, raised, raised_by, read_counted}
use Rattle.si_io.specs.Gives.{ReadsFew, Gives}
use Rattle.si_io.specs.Shown.{SourceShown}
use Rattle.si_io.proofs.Content.{Takes_none, Takes_then}

ReadsFew_none : (a : SourceCounts) → ReadsFew a a
ReadsFew_none a = record { bytes = omega arith; ends = omega arith; faults = omega arith; calls = λ b e f. omega arith }

ReadsFew_then : (a b c : SourceCounts) → ReadsFew a b → ReadsFew b c → ReadsFew a c
ReadsFew_then a b c first next = record {
  bytes = omega (arith, first.bytes, next.bytes);
  ends = omega (arith, first.ends, next.ends);
  faults = omega (arith, first.faults, next.faults);
  calls = λ bytes ends faults. omega (
    arith,
    first.calls (omega (arith, next.bytes, bytes)) (omega (arith, next.ends, ends)) (omega (arith, next.faults, faults)),
    next.calls bytes ends faults,
  );
}

unraised : (b : Bool) (x y : ℕ) → b ≡ false → (if b then x else y) ≡ y
unraised true x y none = cc
unraised false x y none = refl

is_raised : (b : Bool) (x y : ℕ) → b ≡ true → (if b then x else y) ≡ x
is_raised true x y some = refl
is_raised false x y some = cc

-- ---- one piece after the other
pub Gives-nil : (a : SourceShown) → Gives a [] a
Gives-nil a = record { left = Takes_none a.left a.left refl; bytes = omega arith; empty = refl; few = ReadsFew_none a.counts }

pub Gives_then : (a b c : SourceShown) (bs cs : List ℕ) → Gives a bs b → Gives b cs c → Gives a (bs ++ cs) c
Gives_then a b c bs cs first next = record {
  left = Takes_then _ _ _ bs cs first.left next.left;
  bytes = omega (arith, first.bytes, next.bytes, length-append bs cs);
  empty = next.empty ∙ first.empty;
  few = ReadsFew_then _ _ _ first.few next.few;
}

-- a read that gave nothing
pub Gives_last : (a b c : SourceShown) (bs : List ℕ) → Gives a bs b → Gives b [] c → Gives a bs c
Gives_last a b c bs first next = subst (λ (l : List ℕ). Gives a l c) (append-nil bs) (Gives_then a b c bs [] first next)

-- ---- one read
-- some room is no empty slice
empty_kept : (room before now : ℕ) → 0 < room → now ≡ raised_by (empty_slices room) before → now ≡ before
empty_kept zero before now some raised = absurd (omega (arith, some))
empty_kept (suc room) before now some raised = omega (arith, raised)

module _ (a b : SourceShown) (room n : ℕ) (counted : b.counts ≡ read_counted {E = Failed} room (Ok n) a.counts) where
  -- it gave some bytes
  module _ (some : n ≡ 0 → ⊥) where
    pub ends_kept : b.counts.ends ≡ a.counts.ends
    ends_kept =
        let gave : none_of_some n room ≡ false = ap (λ t. t && nat_lt 0 room) (ne_eqb n 0 some) in
        ap (λ (k : SourceCounts). k.ends) counted ∙ unraised (none_of_some n room) _ _ gave

    pub Gives_some : (bs : List ℕ) → 0 < room → length bs ≡ n → Takes a.left bs b.left → Gives a bs b
    Gives_some bs roomy size taken =
        let calls = ap (λ (k : SourceCounts). k.calls) counted in
        let bytes = ap (λ (k : SourceCounts). k.bytes) counted in
        let faults = ap (λ (k : SourceCounts). k.faults) counted in
        record {
          left = taken;
          bytes = omega (arith, bytes, size);
          empty = empty_kept room _ _ roomy (ap (λ (k : SourceCounts). k.empty) counted);
          few = record {
            bytes = omega (arith, bytes);
            ends = omega (arith, ends_kept);
            faults = omega (arith, faults);
            calls = λ below _ _. omega (arith, bytes, calls, faults, ends_kept, some, below);
          };
        }

  -- it told the end
  module _ (none : n ≡ 0) (some : 0 < room) where
    pub ends_raised : b.counts.ends ≡ raised a.counts.ends
    ends_raised =
        let ended : none_of_some n room ≡ true = ap (λ t. t && nat_lt 0 room) (eq-eqb n 0 none) ∙ lt-ltb 0 room some in
        ap (λ (k : SourceCounts). k.ends) counted ∙ is_raised (none_of_some n room) _ _ ended

    pub Gives_end : (bs : List ℕ) → bs ≡ [] → Takes a.left bs b.left → Gives a [] b
    Gives_end bs empty taken =
        let calls = ap (λ (k : SourceCounts). k.calls) counted in
        let bytes = ap (λ (k : SourceCounts). k.bytes) counted in
        let faults = ap (λ (k : SourceCounts). k.faults) counted in
        record {
          left = subst (λ (l : List ℕ). Takes a.left l b.left) empty taken;
          bytes = omega (arith, bytes, none);
          empty = empty_kept room _ _ some (ap (λ (k : SourceCounts). k.empty) counted);
          few = record {
            bytes = omega (arith, bytes);
            ends = omega (arith, ends_raised);
            faults = omega (arith, faults);
            calls = λ _ below _. omega (arith, bytes, calls, faults, ends_raised, none, below);
          };
        }

-- it failed, and took nothing
pub Gives_failed : (a b : SourceShown) (room : ℕ) (e : Failed) → 0 < room → b.counts ≡ read_counted room (Err e) a.counts → b.left ≡ a.left → Gives a [] b
Gives_failed a b room e some counted kept =
    let calls = ap (λ (k : SourceCounts). k.calls) counted in
    let bytes = ap (λ (k : SourceCounts). k.bytes) counted in
    let ends = ap (λ (k : SourceCounts). k.ends) counted in
    let faults = ap (λ (k : SourceCounts). k.faults) counted in
    record {
      left = Takes_none a.left b.left kept;
      bytes = omega (arith, bytes);
      empty = empty_kept room _ _ some (ap (λ (k : SourceCounts). k.empty) counted);
      few = record {
        bytes = omega (arith, bytes);
        ends = omega (arith, ends);
        faults = omega (arith, faults);
        calls = λ _ _ below. omega (arith, bytes, calls, faults, ends, below);
      };
    }
