-- What calls that signals interrupted leave of known bytes.
use Rattle.std.proofs.Common.{◌≡◌, ℕ, ◌-◌, ◌^◌, true, false, List, Option, Result, Ok, Err}
use Rattle.std.proofs.KnownBytes.{Keeps-trans}
use Rattle.std.specs.Io.KnownBytes.{Keeps, ReadConsumes, WriteAppends}
use Rattle.std.specs.declared.io.Error.{Error}
use Rattle.si_io.specs.Tries.{Interrupts, Tries, is_interrupted}

pub read_interrupted : (a b c : Option (List ℕ)) (answer : Result ℕ Error) (filled : List ℕ) → is_interrupted answer ≡ true → Keeps a b → ReadConsumes b c answer filled → Keeps a c
read_interrupted a b c (Ok n) filled signal before read = cc
read_interrupted a b c (Err e) filled signal before read = Keeps-trans a b c before read

pub write_interrupted : (a b c : Option (List ℕ)) (answer : Result ℕ Error) (bytes : List ℕ) → is_interrupted answer ≡ true → Keeps a b → WriteAppends b c answer bytes → Keeps a c
write_interrupted a b c (Ok n) bytes signal before wrote = cc
write_interrupted a b c (Err e) bytes signal before wrote = Keeps-trans a b c before wrote

-- a call that no signal interrupted
pub Tries_heard : {X T : Type 0} (Call : X → Result T Error → X → Type 0) (n : ℕ) (x y z : X) (answer : Result T Error) → Interrupts Call n x y → Call y answer z → is_interrupted answer ≡ false → Tries Call x answer z
Tries_heard Call n x y z answer before call heard = record { interrupts = n; middle = y; interrupted = before; call = call; last = λ signal. cc }

-- a last call, whatever its answer
pub Tries_last : {X T : Type 0} (Call : X → Result T Error → X → Type 0) (n : ℕ) (x y z : X) (answer : Result T Error) → Interrupts Call n x y → Call y answer z → n ≡ 2 ^ 64 - 1 → Tries Call x answer z
Tries_last Call n x y z answer before call last = record { interrupts = n; middle = y; interrupted = before; call = call; last = λ signal. last }
