use Rattle.std.proofs.Common.{refl, arith}
use Rattle.si_lex.specs.Firsts.{mark_or_nothing}
use Rattle.si_lex.specs.declared.bytes.TheConstants.{FIRSTS}
use Rattle.si_lex.proofs.ClassLaws.{below, first_by}
use Rattle.si_lex.proofs.bytes.first_of.Goals as goal

pub returns : goal.returns
unfolding below mark_or_nothing
returns c = first_by FIRSTS c.args.byte (omega arith) refl
