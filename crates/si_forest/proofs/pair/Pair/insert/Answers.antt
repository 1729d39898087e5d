use Rattle.std.proofs.Common.{true, false, refl}
use Rattle.std.proofs.lemmas.Result.{on_err_weaker}
use Rattle.si_held.specs.TwoTrees.{TwoTrees}
use Rattle.si_forest.specs.OnePosting.{KeepsTree}
use Rattle.si_forest.specs.Pairs.{two_of, StayStored}
use Rattle.si_forest.proofs.TreeLaws.{stay_by}
use Rattle.si_forest.proofs.pair.Pair.insert.Goals as goal

pub returns-then-literal-clause-err : goal.returns-then-literal-clause-err
returns-then-literal-clause-err c =
    let new : TwoTrees = record { literals = c.put.new.tree; subterms = c.args.self.now.subterms } in
    let stay : KeepsTree c.args.self.now.literals c.put.new.tree → StayStored (two_of c.args.self.now) new = λ k. stay_by (two_of c.args.self.now) new true c.requires.legal k refl in
    on_err_weaker c.put.result stay c.put.ensures.err

pub returns-else-literal-clause-err : goal.returns-else-literal-clause-err
returns-else-literal-clause-err c =
    let new : TwoTrees = record { literals = c.args.self.now.literals; subterms = c.put-else-literal.new.tree } in
    let stay : KeepsTree c.args.self.now.subterms c.put-else-literal.new.tree → StayStored (two_of c.args.self.now) new = λ k. stay_by (two_of c.args.self.now) new false c.requires.legal k refl in
    on_err_weaker c.put-else-literal.result stay c.put-else-literal.ensures.err
