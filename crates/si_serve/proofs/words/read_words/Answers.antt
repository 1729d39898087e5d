-- Plain words are read as they say.
use Rattle.std.proofs.Common.{◌<◌, ◌≤◌, List, map, length, string_bytes, arith}
use Rattle.std.proofs.lemmas.List.{length-map}
use Rattle.clap.specs.Lexer.{usize_max}
use Rattle.si_serve.proofs.PlainWords.{plain_read}
use Rattle.si_serve.proofs.words.read_words.Goals as goal

fits : {A B : Type 0} (f : A → B) (xs : List A) → length xs < 18446744073709551616 → length (map f xs) ≤ usize_max
fits f xs small = omega (arith, length-map xs f, small)

pub returns-in-Ok-clause-plain : goal.returns-in-Ok-clause-plain
returns-in-Ok-clause-plain c = plain_read _ (fits string_bytes c.args.words.now c.well_formed.1.0.0)

pub returns-in-Err-clause-plain : goal.returns-in-Err-clause-plain
returns-in-Err-clause-plain c = plain_read _ (fits string_bytes c.args.words.now c.well_formed.1.0.0)
