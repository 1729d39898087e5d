use Rattle.std.proofs.Common.{◌∙◌, Bool, Option, false, codes, ap}
use Rattle.std.specs.Option.{option_map_or}
use Rattle.std.specs.Str.{bytes_eq}
use Rattle.si_defs.specs.Bytes.{Bytes}
use Rattle.clap.specs.Words.{found_of}
use Rattle.si_serve.proofs.Rows.{first_is}
use Rattle.si_serve.proofs.words.is_strict.Goals as goal

abbrev is_true : Option Bytes → Bool
is_true o = option_map_or (λ t. bytes_eq t (codes "true")) o false

pub returns-in-Some : goal.returns-in-Some
returns-in-Some c = c.eq.ensures ∙ ap is_true (c.in-Some.ensures ∙ first_is (found_of c.args.matches.now) (codes "strict"))

pub returns-in-None : goal.returns-in-None
returns-in-None c = ap is_true (c.in-None.ensures ∙ first_is (found_of c.args.matches.now) (codes "strict"))
