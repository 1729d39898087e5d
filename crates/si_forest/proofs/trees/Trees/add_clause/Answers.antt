use Rattle.std.proofs.Common.{◌≤◌, length, sym, ◌∙◌, subst, arith}
use Rattle.si_defs.specs.Entries.{entries}
use Rattle.si_defs.specs.declared.TheConstants.{MOST_OCCURRENCES}
use Rattle.si_term.specs.Meaning.{clause_of}
use Rattle.si_term.proofs.Alone.{clause_few}
use Rattle.si_term.proofs.Results.{on_err}
use Rattle.si_held.specs.TwoTrees.{AddsClause, HoldSame, IsNewKey}
use Rattle.si_forest.specs.Notes.{notes_of}
use Rattle.si_forest.specs.Pairs.{two_of}
use Rattle.si_forest.specs.Kept.{trees_of}
use Rattle.si_forest.proofs.ChangeLaws.{holds_same, located_none, noted_set}
use Rattle.si_forest.proofs.trees.Trees.add_clause.Goals as goal

pub entry_count-requires : goal.entry_count-requires
entry_count-requires g c = clause_few (clause_of c.args.clause.now) c.requires.sound

pub invariant_of-self-in_err-locations : goal.invariant_of-self-in_err-locations
invariant_of-self-in_err-locations g c =
    let new_key : IsNewKey c.args.key (trees_of c.self.inside) = subst (IsNewKey c.args.key) (sym c.self.view_is) c.requires.new_key in
    record {
      legal = c.in_err-locations.ensures.change.legal;
      spans = c.reserve.ensures.spans;
      noted = noted_set c.args.key (notes_of c.self.inside.notes c.args.key) (notes_of c.self.inside.notes) (notes_of c.reserve.new.self) (trees_of c.self.inside) (two_of c.add_clause.new.self) c.self.invariant.noted c.in_err-locations.ensures.change (located_none c.args.key (notes_of c.self.inside.notes c.args.key) (trees_of c.self.inside) (two_of c.add_clause.new.self) (c.self.invariant.noted.each c.args.key) new_key c.in_err-locations.ensures.err) (c.self.invariant.noted.few c.args.key) (c.reserve.ensures.keeps c.args.key) (λ other differs. c.reserve.ensures.keeps other);
    }

pub returns-in_err-locations-clause-err : goal.returns-in_err-locations-clause-err
returns-in_err-locations-clause-err g c =
    let new_key : IsNewKey c.args.key (trees_of c.self.inside) = subst (IsNewKey c.args.key) (sym c.self.view_is) c.requires.new_key in
    let same : HoldSame c.args.self.now (two_of c.add_clause.new.self) =
    subst (λ old. HoldSame old (two_of c.add_clause.new.self)) c.self.view_is
    (holds_same c.args.key (trees_of c.self.inside) (two_of c.add_clause.new.self) c.in_err-locations.ensures.change new_key c.in_err-locations.ensures.err) in
    on_err _ same

pub invariant_of-self-2 : goal.invariant_of-self-2
invariant_of-self-2 g c =
    let bound : length (entries (clause_of c.args.clause.now)) ≤ MOST_OCCURRENCES = clause_few (clause_of c.args.clause.now) c.requires.sound in
    let few : length c.in_ok-locations.locations.items ≤ MOST_OCCURRENCES = omega (arith, bound, c.in_ok-locations.ensures.few) in
    record {
      legal = c.in_ok-locations.ensures.change.legal;
      spans = c.set.ensures.spans;
      noted = noted_set c.args.key c.in_ok-locations.locations.items (notes_of c.self.inside.notes) (notes_of c.set.new.self) (trees_of c.self.inside) (two_of c.add_clause.new.self) c.self.invariant.noted c.in_ok-locations.ensures.change c.in_ok-locations.ensures.located few (c.set.ensures.set.here ∙ c.as_slice.ensures.value) (λ other differs. c.set.ensures.set.others other differs ∙ c.reserve.ensures.keeps other);
    }

pub returns-clause-ok : goal.returns-clause-ok
returns-clause-ok g c =
    subst (λ old. AddsClause (g.T.SymTable.pairs c.args.table.now) c.args.key (clause_of c.args.clause.now) old (two_of c.add_clause.new.self)) c.self.view_is c.in_ok-locations.ensures.adds
