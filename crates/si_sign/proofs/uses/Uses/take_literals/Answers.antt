use Rattle.std.proofs.Common.{◌+◌, ◌≤◌, length, take, drop, sym, subst, ◌∙◌}
use Rattle.si_term.specs.declared.clause.Literal.{Literal}
use Rattle.si_sign.specs.Uses.{seen}
use Rattle.si_sign.specs.Taking.{TakesUses, RefusesFrom}
use Rattle.si_sign.specs.declared.uses.TheConstants.{MOST_USES}
use Rattle.si_sign.proofs.SoFar.{gather, gather_next, gather_all, gather_split, in_literal, in_literals, takes_first, takes_on, leaves_room, refused, enough, put_back}
use Rattle.si_sign.proofs.uses.Uses.take_literals.Goals as goal

pub loop-i-init : goal.loop-i-init
loop-i-init c = takes_first c.args.self.now c.requires.uses

pub take_term-requires-clause-room : goal.take_term-requires-clause-room
take_term-requires-clause-room c =
    let ls = c.args.literals.now in
    let i = c.loop-i.i in
    let one = c.index-literals-i.result in
    let split = in_literals ls ∙ gather_split in_literal ls i one c.loop-i-test.true c.index-literals-i.is in
    subst (λ (l : Literal). c.loop-i.self.total + length (in_literal l) ≤ MOST_USES) c.index-literals-i.is
    (leaves_room c.args.self.now c.requires.uses c.loop-i.self (gather in_literal (take i ls)) (in_literal one) c.loop-i.invariant _ (gather in_literal (drop (i + 1) ls)) _ split c.requires.room)

pub give_back_literals-requires-clause-used : goal.give_back_literals-requires-clause-used
give_back_literals-requires-clause-used c =
    let done = take c.loop-i.i c.args.literals.now in
    enough c.args.self.now c.requires.uses c.loop-i.self (gather in_literal done) _ c.loop-i.invariant (in_literals done) c.take_term.new.self c.in-Err.ensures.err

pub returns-in-Err-clause-why : goal.returns-in-Err-clause-why
returns-in-Err-clause-why c =
    let ls = c.args.literals.now in
    let i = c.loop-i.i in
    let one = c.index-literals-i.result in
    let split = in_literals ls ∙ gather_split in_literal ls i one c.loop-i-test.true c.index-literals-i.is in
    let why = subst (λ (l : Literal). RefusesFrom c.args.begin (seen c.loop-i.self) (in_literal l) c.in-Err.fault) (sym c.index-literals-i.is) c.in-Err.ensures.why in
    refused c.args.self.now c.requires.uses c.loop-i.self (gather in_literal (take i ls)) (in_literal one) c.loop-i.invariant c.args.begin _ (gather in_literal (drop (i + 1) ls)) c.in-Err.fault split why

pub returns-in-Err-clause-err : goal.returns-in-Err-clause-err
returns-in-Err-clause-err c =
    let done = take c.loop-i.i c.args.literals.now in
    put_back c.args.self.now c.requires.uses c.loop-i.self (gather in_literal done) _ c.loop-i.invariant (in_literals done) c.take_term.new.self c.in-Err.ensures.err
    c.give_back_literals.new.self c.give_back_literals.ensures.uses c.give_back_literals.ensures.back

pub loop-i-preserved : goal.loop-i-preserved
loop-i-preserved c =
    let ls = c.args.literals.now in
    let i = c.loop-i.i in
    let one = c.index-literals-i.result in
    let taken = subst (λ (l : Literal). TakesUses (in_literal l) (seen c.loop-i.self) (seen c.take_term.new.self)) (sym c.index-literals-i.is) c.in-Ok.ensures.ok in
    takes_on c.args.self.now c.requires.uses c.loop-i.self (gather in_literal (take i ls)) (in_literal one) c.loop-i.invariant c.take_term.new.self _ c.in-Ok.ensures.uses taken
    (gather_next in_literal ls i one c.loop-i-test.true c.index-literals-i.is)

pub returns-clause-ok : goal.returns-clause-ok
returns-clause-ok c =
    let ls = c.args.literals.now in
    let all = gather_all in_literal ls c.loop-i.i c.loop-i-test.false ∙ sym (in_literals ls) in
    subst (λ l. TakesUses l (seen c.args.self.now) (seen c.loop-i.self)) all c.loop-i.invariant.takes
