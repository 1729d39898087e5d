use Rattle.std.proofs.Common.{arith}
use Rattle.si_term.specs.Meaning.{clause_of}
use Rattle.si_term.proofs.Alone.{clause_few}
use Rattle.si_forest.specs.Pairs.{two_of}
use Rattle.si_forest.proofs.ChangeLaws.{no_change, change_then}
use Rattle.si_forest.proofs.pair.Pair.add_clause.Goals as goal

pub entry_count-requires : goal.entry_count-requires
entry_count-requires g c = clause_few (clause_of c.args.clause.now) c.requires.may.sound

pub remove_clause-requires-clause-few : goal.remove_clause-requires-clause-few
remove_clause-requires-clause-few g c = omega (arith, c.in-Err.ensures.few, clause_few (clause_of c.args.clause.now) c.requires.may.sound)

pub returns-in_err-locations-clause-change : goal.returns-in_err-locations-clause-change
returns-in_err-locations-clause-change g c = no_change c.args.key (two_of c.args.self.now) c.requires.legal

pub returns-in-Err-clause-change : goal.returns-in-Err-clause-change
returns-in-Err-clause-change g c =
    change_then c.args.key (two_of c.args.self.now) (two_of c.insert_all.new.self) (two_of c.remove_clause.new.self) c.in-Err.ensures.change c.remove_clause.ensures.change
