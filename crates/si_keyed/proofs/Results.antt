-- Results whose facts are carried on.
use Rattle.std.proofs.Common.{◌≡◌, true, false, Option, None, Some, IsSome, IfNone, OnOk, OnErr, Result, Ok, Err, refl}
use Rattle.std.specs.Prelude.{is_err}

pub if_none : {T P : Type 0} (r : Option T) → P → IfNone r P
if_none None p = p
if_none (Some x) p = tt

-- there is something, as nothing can't be
pub some_unless : {T P : Type 0} (r : Option T) → IfNone r (P → ⊥) → P → IsSome r
some_unless None f p = absurd (f p)
some_unless (Some x) f p = refl

-- what holds at an error holds here
pub at_err : {T E : Type 0} (r : Result T E) {P : Type 0} → true ≡ is_err r → OnErr r P → P
at_err (Ok x) h p = absurd (cc)
at_err (Err e) h p = p

-- what holds where all went well holds here
pub at_ok : {T E : Type 0} (r : Result T E) {P : Type 0} → false ≡ is_err r → OnOk r P → P
at_ok (Ok x) h p = p
at_ok (Err e) h p = absurd (cc)
