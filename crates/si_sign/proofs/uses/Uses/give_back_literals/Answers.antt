use Rattle.std.proofs.Common.{◌+◌, ◌≤◌, take, drop, sym, subst, ◌∙◌}
use Rattle.si_defs.specs.Symbols.{Symbol, times}
use Rattle.si_state.specs.Signatures.{uses_of}
use Rattle.si_term.specs.declared.clause.Literal.{Literal}
use Rattle.si_sign.specs.Uses.{seen}
use Rattle.si_sign.specs.Taking.{GivesBack}
use Rattle.si_sign.proofs.SoFar.{gather, gather_next, gather_all, gather_split, in_literal, in_literals, gives_first, gives_on, still_used}
use Rattle.si_sign.proofs.uses.Uses.give_back_literals.Goals as goal

pub loop-i-init : goal.loop-i-init
loop-i-init c = gives_first c.args.self.now c.requires.uses

pub give_back_term-requires-clause-used : goal.give_back_term-requires-clause-used
give_back_term-requires-clause-used c =
    let ls = c.args.literals.now in
    let i = c.loop-i.i in
    let one = c.index-literals-i.result in
    let split = in_literals ls ∙ gather_split in_literal ls i one c.loop-i-test.true c.index-literals-i.is in
    subst (λ (l : Literal). (s : Symbol) → times s (in_literal l) ≤ uses_of (seen c.loop-i.self) s) c.index-literals-i.is
    (still_used c.args.self.now c.loop-i.self (gather in_literal (take i ls)) (in_literal one) c.loop-i.invariant _ (gather in_literal (drop (i + 1) ls)) split c.requires.used)

pub loop-i-preserved : goal.loop-i-preserved
loop-i-preserved c =
    let ls = c.args.literals.now in
    let i = c.loop-i.i in
    let one = c.index-literals-i.result in
    let given = subst (λ (l : Literal). GivesBack (in_literal l) (seen c.loop-i.self) (seen c.give_back_term.new.self)) (sym c.index-literals-i.is) c.give_back_term.ensures.back in
    gives_on c.args.self.now c.loop-i.self (gather in_literal (take i ls)) (in_literal one) c.loop-i.invariant c.give_back_term.new.self _ c.give_back_term.ensures.uses given
    (gather_next in_literal ls i one c.loop-i-test.true c.index-literals-i.is)

pub returns-clause-back : goal.returns-clause-back
returns-clause-back c =
    let ls = c.args.literals.now in
    let all = gather_all in_literal ls c.loop-i.i c.loop-i-test.false ∙ sym (in_literals ls) in
    subst (λ l. GivesBack l (seen c.args.self.now) (seen c.loop-i.self)) all c.loop-i.invariant.gives
