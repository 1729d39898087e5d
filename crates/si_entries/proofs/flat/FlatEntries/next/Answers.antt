use Rattle.std.proofs.Common.{subst}
use Rattle.std.proofs.lemmas.Result.{IfOk-weaker}
use Rattle.si_entries.specs.FlatWalks.{GivesSubterm}
use Rattle.si_entries.proofs.flat.FlatEntries.next.Goals as goal

pub next_literal-requires : goal.next_literal-requires
next_literal-requires g c =
    (c.requires.0, subst (GivesSubterm c.args.self.now c.next_subterm.new.self) c.if-branch.false c.in_ok-next_subterm.ensures _ c.requires.0 c.requires.1)

pub returns : goal.returns
returns g c =
    let ended = subst (GivesSubterm c.args.self.now c.next_subterm.new.self) c.if-branch.false c.in_ok-next_subterm.ensures in
    IfOk-weaker c.next_literal.result _ _ (λ o given left h. given left (ended (g.T.SymTable.pairs c.args.table.now) left h)) c.next_literal.ensures
