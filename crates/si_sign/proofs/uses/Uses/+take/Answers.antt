use Rattle.std.proofs.Common.{◌+◌, [], ◌∷◌, ◌++◌, map, take, drop, refl, sym, ap, subst, ◌∙◌, arith, append-nil}
use Rattle.si_defs.specs.Terms.{row, size, symbols, symbols_of_all}
use Rattle.si_term.specs.Terms.{symbol_of, term_of}
use Rattle.si_term.proofs.Rows.{app-term, size-read}
use Rattle.si_sign.specs.Uses.{seen}
use Rattle.si_sign.specs.Taking.{TakesUses}
use Rattle.si_sign.proofs.SoFar.{gather, gather_next, gather_all, gather_split, in_term, in_terms, takes_first, takes_on, total_so_far, leaves_room, refused, enough, put_back}
use Rattle.si_sign.proofs.uses.Uses.+take.Goals as goal

pub take_term-returns-in-Err-clause-why : goal.take_term-returns-in-Err-clause-why
take_term-returns-in-Err-clause-why t c =
    let u = c.args.self.now in
    let own = symbol_of c.in-App.symbol ∷ [] in
    let rest = symbols_of_all (row c.in-App.arguments) in
    refused u c.requires.uses u [] own (takes_first u c.requires.uses) c.args.begin (symbols (term_of c.args.term.now)) rest c.in-Err.fault
    (ap (λ t. symbols (term_of t)) c.in-App.is) c.in-Err.ensures.why

pub take_term-take_terms-requires : goal.take_term-take_terms-requires
take_term-take_terms-requires t c =
    let u = c.args.self.now in
    let v = c.take.new.self in
    let own = symbol_of c.in-App.symbol ∷ [] in
    let is = app-term c.args.term.now c.in-App.symbol c.in-App.arguments c.as_slice.result.now c.in-App.is c.as_slice.ensures in
    let rest = symbols_of_all (row (map term_of c.as_slice.result.now)) in
    let so_far = takes_on u c.requires.uses u [] own (takes_first u c.requires.uses) v own c.in-Ok.ensures.uses c.in-Ok.ensures.ok refl in (
      omega (arith, ap size is),
      (
        c.in-Ok.ensures.uses,
        (
          omega (arith, c.requires.begun, total_so_far u c.requires.uses v own rest so_far),
          leaves_room u c.requires.uses v own rest so_far (symbols (term_of c.args.term.now)) [] _ (ap symbols is ∙ sym (append-nil (own ++ rest))) c.requires.room,
        ),
      ),
    )

pub take_term-returns-in-Var-clause-ok : goal.take_term-returns-in-Var-clause-ok
take_term-returns-in-Var-clause-ok t c =
    subst (λ t. TakesUses (symbols (term_of t)) (seen c.args.self.now) (seen c.args.self.now)) (sym c.in-Var.is) (takes_first c.args.self.now c.requires.uses).takes

pub take_term-returns-in-Ok-take_terms-clause-ok :
    goal.take_term-returns-in-Ok-take_terms-clause-ok
take_term-returns-in-Ok-take_terms-clause-ok t c =
    let u = c.args.self.now in
    let v = c.take.new.self in
    let own = symbol_of c.in-App.symbol ∷ [] in
    let is = app-term c.args.term.now c.in-App.symbol c.in-App.arguments c.as_slice.result.now c.in-App.is c.as_slice.ensures in
    let rest = symbols_of_all (row (map term_of c.as_slice.result.now)) in
    let so_far = takes_on u c.requires.uses u [] own (takes_first u c.requires.uses) v own c.in-Ok.ensures.uses c.in-Ok.ensures.ok refl in
    (takes_on u c.requires.uses v own rest so_far c.take_terms.new.self (symbols (term_of c.args.term.now)) c.in-Ok-take_terms.ensures.uses c.in-Ok-take_terms.ensures.ok (ap symbols is)).takes

pub take_term-returns-in-Err-take_terms-clause-why :
    goal.take_term-returns-in-Err-take_terms-clause-why
take_term-returns-in-Err-take_terms-clause-why t c =
    let u = c.args.self.now in
    let v = c.take.new.self in
    let own = symbol_of c.in-App.symbol ∷ [] in
    let is = app-term c.args.term.now c.in-App.symbol c.in-App.arguments c.as_slice.result.now c.in-App.is c.as_slice.ensures in
    let rest = symbols_of_all (row (map term_of c.as_slice.result.now)) in
    let so_far = takes_on u c.requires.uses u [] own (takes_first u c.requires.uses) v own c.in-Ok.ensures.uses c.in-Ok.ensures.ok refl in
    refused u c.requires.uses v own rest so_far c.args.begin (symbols (term_of c.args.term.now)) [] c.in-Err-take_terms.fault
    (ap symbols is ∙ sym (append-nil (own ++ rest))) c.in-Err-take_terms.ensures.why

pub take_term-returns-in-Err-take_terms-clause-err :
    goal.take_term-returns-in-Err-take_terms-clause-err
take_term-returns-in-Err-take_terms-clause-err t c =
    let u = c.args.self.now in
    let v = c.take.new.self in
    let own = symbol_of c.in-App.symbol ∷ [] in
    let so_far = takes_on u c.requires.uses u [] own (takes_first u c.requires.uses) v own c.in-Ok.ensures.uses c.in-Ok.ensures.ok refl in
    put_back u c.requires.uses v own own so_far refl c.take_terms.new.self c.in-Err-take_terms.ensures.err c.give_back.new.self c.give_back.ensures.uses c.give_back.ensures.back

pub take_terms-loop-i-init : goal.take_terms-loop-i-init
take_terms-loop-i-init t c = takes_first c.args.self.now c.requires.uses

pub take_terms-take_term-requires : goal.take_terms-take_term-requires
take_terms-take_term-requires t c =
    let u = c.args.self.now in
    let ts = c.args.terms.now in
    let i = c.loop-i.i in
    let one = c.index-terms-i.result in
    let own = gather in_term (take i ts) in
    let split = in_terms ts ∙ gather_split in_term ts i one c.loop-i-test.true c.index-terms-i.is in (
      omega (arith, size-read ts i one c.loop-i-test.true c.index-terms-i.is),
      (
        c.loop-i.invariant.uses,
        (
          omega (arith, c.requires.begun, total_so_far u c.requires.uses c.loop-i.self own (in_term one) c.loop-i.invariant),
          leaves_room u c.requires.uses c.loop-i.self own (in_term one) c.loop-i.invariant _ (gather in_term (drop (i + 1) ts)) _ split c.requires.room,
        ),
      ),
    )

pub take_terms-give_back_terms-requires-clause-used :
    goal.take_terms-give_back_terms-requires-clause-used
take_terms-give_back_terms-requires-clause-used t c =
    let done = take c.loop-i.i c.args.terms.now in
    enough c.args.self.now c.requires.uses c.loop-i.self (gather in_term done) _ c.loop-i.invariant (in_terms done) c.take_term.new.self c.in-Err.ensures.err

pub take_terms-returns-in-Err-clause-why : goal.take_terms-returns-in-Err-clause-why
take_terms-returns-in-Err-clause-why t c =
    let ts = c.args.terms.now in
    let i = c.loop-i.i in
    let one = c.index-terms-i.result in
    let split = in_terms ts ∙ gather_split in_term ts i one c.loop-i-test.true c.index-terms-i.is in
    refused c.args.self.now c.requires.uses c.loop-i.self (gather in_term (take i ts)) (in_term one) c.loop-i.invariant c.args.begin _ (gather in_term (drop (i + 1) ts)) c.in-Err.fault split c.in-Err.ensures.why

pub take_terms-returns-in-Err-clause-err : goal.take_terms-returns-in-Err-clause-err
take_terms-returns-in-Err-clause-err t c =
    let done = take c.loop-i.i c.args.terms.now in
    put_back c.args.self.now c.requires.uses c.loop-i.self (gather in_term done) _ c.loop-i.invariant (in_terms done) c.take_term.new.self c.in-Err.ensures.err
    c.give_back_terms.new.self c.give_back_terms.ensures.uses c.give_back_terms.ensures.back

pub take_terms-loop-i-preserved : goal.take_terms-loop-i-preserved
take_terms-loop-i-preserved t c =
    let ts = c.args.terms.now in
    let i = c.loop-i.i in
    let one = c.index-terms-i.result in
    takes_on c.args.self.now c.requires.uses c.loop-i.self (gather in_term (take i ts)) (in_term one) c.loop-i.invariant c.take_term.new.self _ c.in-Ok.ensures.uses c.in-Ok.ensures.ok
    (gather_next in_term ts i one c.loop-i-test.true c.index-terms-i.is)

pub take_terms-returns-clause-uses : goal.take_terms-returns-clause-uses
take_terms-returns-clause-uses t c = c.loop-i.invariant.uses

pub take_terms-returns-clause-ok : goal.take_terms-returns-clause-ok
take_terms-returns-clause-ok t c =
    let ts = c.args.terms.now in
    let all = gather_all in_term ts c.loop-i.i c.loop-i-test.false ∙ sym (in_terms ts) in
    subst (λ l. TakesUses l (seen c.args.self.now) (seen c.loop-i.self)) all c.loop-i.invariant.takes
