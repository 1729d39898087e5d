use Rattle.std.proofs.Common.{◌≡◌, drop}
use Rattle.std.specs.Prelude.{fold}
use Rattle.si_sign.specs.Hashed.{hashed_on, text_hash}
use Rattle.si_sign.proofs.hashed.hash_of.Given as goal

abbrev pub invariant-loop-byte : goal.invariant-loop-byte
invariant-loop-byte l = fold hashed_on l.hash (drop l.byte-index l.text) ≡ text_hash l.text
