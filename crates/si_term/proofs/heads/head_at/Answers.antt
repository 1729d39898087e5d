use Rattle.std.proofs.Common.{Some, IsSome, ap, sym, subst, ◌∙◌}
use Rattle.si_defs.specs.Terms.{head}
use Rattle.si_term.specs.Meaning.{clause_of}
use Rattle.si_term.proofs.EntryHeads.{has_head, head_placed}
use Rattle.si_term.proofs.heads.head_at.Goals as goal
use Rattle.si_term.proofs.Alone.{clause_few}

pub entry_at-requires-clause-few : goal.entry_at-requires-clause-few
entry_at-requires-clause-few c = clause_few (clause_of c.args.clause.now) c.requires.sound

pub head_of-requires : goal.head_of-requires
head_of-requires c =
    subst IsSome (sym (ap head c.whole.ensures))
    (has_head (clause_of c.args.clause.now) c.requires.sound c.args.number _ c.entry_at.ensures)

pub returns : goal.returns
returns c =
    head_placed (clause_of c.args.clause.now) c.args.number _ c.entry_at.ensures
    ∙ ap Some (sym (ap head c.whole.ensures) ∙ c.head_of.ensures)
