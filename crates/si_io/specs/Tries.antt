-- Calls of a device that are made again where a signal interrupts them.
use Rattle.std.specs.Prelude.{◌≡◌, ℕ, ◌+◌, ◌-◌, ◌^◌, Bool, true, false, List, Result, Ok, Err, IsTrue}
use Rattle.std.specs.IoError.{error_kind}
use Rattle.std.specs.declared.io.Error.{Error}
use Rattle.std.specs.declared.io.ErrorKind.{ErrorKind}
use Rattle.std.specs.declared.io.ErrorKind.TheVariants.{Interrupted}

-- the one kind of error that says that a signal came
abbrev pub is_interruption : ErrorKind → Bool
is_interruption Interrupted = true
is_interruption _ = false

-- whether a call has this answer because a signal came
abbrev pub is_interrupted : {T : Type 0} → Result T Error → Bool
is_interrupted (Ok value) = false
is_interrupted (Err error) = is_interruption (error_kind error)

-- so many calls, one after the other, each of which a signal interrupted
pub data Interrupts {X T : Type 0} (Call : X → Result T Error → X → Type 0)
    : ℕ → X → X → Type 0 where
  none : (x : X) → Interrupts Call 0 x x
  another : (n : ℕ) (x y z : X) (answer : Result T Error) → Interrupts Call n x y
      → Call y answer z → IsTrue (is_interrupted answer) → Interrupts Call (n + 1) x z

-- One call, after those that signals interrupted. Its answer isn't a further interruption, unless
-- 2 ^ 64 - 1 came before it.
pub record Tries {X T : Type 0} (Call : X → Result T Error → X → Type 0) (before : X)
    (answer : Result T Error) (after : X) : Type 0 where
  pub interrupts : ℕ
  pub middle : X
  pub interrupted : Interrupts Call interrupts before middle
  pub call : Call middle answer after
  pub last : IsTrue (is_interrupted answer) → interrupts ≡ 2 ^ 64 - 1

-- one call that reads, of an input and a slice
abbrev pub ReadsOnce : {D : Type 0} → (D → List ℕ → Result ℕ Error → D → List ℕ → Type 0)
    → D × List ℕ → Result ℕ Error → D × List ℕ → Type 0
ReadsOnce reads before answer after = reads before.0 before.1 answer after.0 after.1

-- A read that is made again where a signal interrupts it.
abbrev pub TriesToRead : {D : Type 0} → (D → List ℕ → Result ℕ Error → D → List ℕ → Type 0)
    → (before : D) → (slice : List ℕ) → Result ℕ Error → (after : D) → (filled : List ℕ) → Type 0
TriesToRead reads before slice answer after filled =
    Tries (ReadsOnce reads) (before, slice) answer (after, filled)

-- A write, or an opening, that is made again where a signal interrupts it.
abbrev pub TriesWith : {D T : Type 0} → (D → List ℕ → Result T Error → D → Type 0)
    → (before : D) → (bytes : List ℕ) → Result T Error → (after : D) → Type 0
TriesWith Call before bytes answer after =
    Tries (λ device. Call device bytes) before answer after
