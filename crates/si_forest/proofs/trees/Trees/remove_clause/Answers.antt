use Rattle.std.proofs.Common.{[], subst, arith}
use Rattle.si_held.specs.TwoTrees.{RemovesClause}
use Rattle.si_forest.specs.Kept.{trees_of}
use Rattle.si_forest.specs.Notes.{notes_of}
use Rattle.si_forest.specs.Pairs.{two_of, LoseEach}
use Rattle.si_forest.proofs.ChangeLaws.{removes, none_located, noted_set}
use Rattle.si_forest.proofs.trees.Trees.remove_clause.Goals as goal

pub invariant_of-self : goal.invariant_of-self
invariant_of-self c =
    let new = two_of c.remove_clause.new.self in
    record {
      legal = c.remove_clause.ensures.change.legal;
      spans = c.clear.ensures.spans;
      noted = noted_set c.args.key [] (notes_of c.self.inside.notes) (notes_of c.clear.new.self) (trees_of c.self.inside) new c.self.invariant.noted c.remove_clause.ensures.change (none_located c.args.key new c.remove_clause.ensures.gone) (omega arith) c.clear.ensures.none.here c.clear.ensures.none.others;
    }

pub returns-clause-removes : goal.returns-clause-removes
returns-clause-removes c =
    subst (λ old. RemovesClause c.args.key old (two_of c.remove_clause.new.self)) c.self.view_is
    (removes c.args.key (trees_of c.self.inside) (two_of c.remove_clause.new.self) c.remove_clause.ensures.change c.remove_clause.ensures.gone)

pub returns-clause-each : goal.returns-clause-each
returns-clause-each c = subst (λ old. LoseEach c.args.key old (two_of c.remove_clause.new.self)) c.self.view_is c.remove_clause.ensures.each
