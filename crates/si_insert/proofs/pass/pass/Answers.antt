use Rattle.std.proofs.Common.{subst}
use Rattle.si_flat.specs.Rows.{left_sides}
use Rattle.si_insert.specs.Passing.{IsBoundBy}
use Rattle.si_insert.proofs.PassLaws.{stand_lefts}
use Rattle.si_insert.proofs.BindLaws.{all_passed, lefts_opened}
use Rattle.si_insert.proofs.pass.pass.Goals as goal

pub returns-then-not-branch-clause-differs : goal.returns-then-not-branch-clause-differs
returns-then-not-branch-clause-differs c = λ told. c.in_ok-all_fit.ensures.differs c.if-not-branch.true

pub bind_all-requires : goal.bind_all-requires
bind_all-requires c = lefts_opened c.args.cells.now c.args.openings.now c.all_fit.new.openings c.args.node.now c.requires.can_pass.0 c.requires.can_pass.1 c.requires.can_pass.2 c.in_ok-all_fit.ensures.grows

pub returns-clause-passes : goal.returns-clause-passes
returns-clause-passes c = λ told there bs may.
    let f = c.in_ok-all_fit.ensures.fits c.if-not-branch.false there bs may in
    let bound : IsBoundBy (left_sides bs) c.all_fit.new.openings c.bind_all.new.openings = subst (λ ns. IsBoundBy ns c.all_fit.new.openings c.bind_all.new.openings) (stand_lefts c.args.node.now bs may.node_stand) c.bind_all.ensures in
    (f.0, all_passed c.args.cells.now c.args.openings.now c.all_fit.new.openings c.bind_all.new.openings c.args.node.now there bs f.0 may f.1 f.2 bound)
