use Rattle.std.proofs.Common.{◌+◌, [], ◌∷◌, ◌++◌, map, take, drop, refl, sym, ap, subst, ◌∙◌, arith, append-nil}
use Rattle.si_defs.specs.Symbols.{Symbol, times}
use Rattle.si_defs.specs.Terms.{row, size, symbols, symbols_of_all}
use Rattle.si_term.specs.Terms.{symbol_of, term_of}
use Rattle.si_term.proofs.Rows.{app-term, size-read}
use Rattle.si_sign.specs.Uses.{seen}
use Rattle.si_sign.specs.Taking.{GivesBack}
use Rattle.si_sign.proofs.UsesOf.{times_append}
use Rattle.si_sign.proofs.StepLaws.{times_one}
use Rattle.si_sign.proofs.SoFar.{gather, gather_next, gather_all, gather_split, in_term, in_terms, gives_first, gives_on, still_used}
use Rattle.si_sign.proofs.uses.Uses.+give.Goals as goal

pub give_back_term-give_back-requires-clause-used : goal.give_back_term-give_back-requires-clause-used
give_back_term-give_back-requires-clause-used t c =
    let s : Symbol = symbol_of c.in-App.symbol in
    let all = ap (λ t. times s (symbols (term_of t))) c.in-App.is in
    omega (arith, c.requires.used s, all, times_append s (s ∷ []) (symbols_of_all (row c.in-App.arguments)), times_one s s refl)

pub give_back_term-give_back_terms-requires : goal.give_back_term-give_back_terms-requires
give_back_term-give_back_terms-requires t c =
    let u = c.args.self.now in
    let v = c.give_back.new.self in
    let own = symbol_of c.in-App.symbol ∷ [] in
    let is = app-term c.args.term.now c.in-App.symbol c.in-App.arguments c.as_slice.result.now c.in-App.is c.as_slice.ensures in
    let rest = symbols_of_all (row (map term_of c.as_slice.result.now)) in
    let so_far = gives_on u u [] own (gives_first u c.requires.uses) v own c.give_back.ensures.uses c.give_back.ensures.back refl in (
      omega (arith, ap size is),
      (
        c.give_back.ensures.uses,
        still_used u v own rest so_far (symbols (term_of c.args.term.now)) [] (ap symbols is ∙ sym (append-nil (own ++ rest))) c.requires.used,
      ),
    )

pub give_back_term-returns-in-Var-clause-back : goal.give_back_term-returns-in-Var-clause-back
give_back_term-returns-in-Var-clause-back t c =
    subst (λ t. GivesBack (symbols (term_of t)) (seen c.args.self.now) (seen c.args.self.now)) (sym c.in-Var.is) (gives_first c.args.self.now c.requires.uses).gives

pub give_back_term-returns-in-App-clause-back : goal.give_back_term-returns-in-App-clause-back
give_back_term-returns-in-App-clause-back t c =
    let u = c.args.self.now in
    let v = c.give_back.new.self in
    let own = symbol_of c.in-App.symbol ∷ [] in
    let is = app-term c.args.term.now c.in-App.symbol c.in-App.arguments c.as_slice.result.now c.in-App.is c.as_slice.ensures in
    let rest = symbols_of_all (row (map term_of c.as_slice.result.now)) in
    let so_far = gives_on u u [] own (gives_first u c.requires.uses) v own c.give_back.ensures.uses c.give_back.ensures.back refl in
    (gives_on u v own rest so_far c.give_back_terms.new.self (symbols (term_of c.args.term.now)) c.give_back_terms.ensures.uses c.give_back_terms.ensures.back (ap symbols is)).gives

pub give_back_terms-loop-i-init : goal.give_back_terms-loop-i-init
give_back_terms-loop-i-init t c = gives_first c.args.self.now c.requires.uses

pub give_back_terms-give_back_term-requires : goal.give_back_terms-give_back_term-requires
give_back_terms-give_back_term-requires t c =
    let ts = c.args.terms.now in
    let i = c.loop-i.i in
    let one = c.index-terms-i.result in
    let split = in_terms ts ∙ gather_split in_term ts i one c.loop-i-test.true c.index-terms-i.is in (
      omega (arith, size-read ts i one c.loop-i-test.true c.index-terms-i.is),
      (
        c.loop-i.invariant.uses,
        still_used c.args.self.now c.loop-i.self (gather in_term (take i ts)) (in_term one) c.loop-i.invariant _ (gather in_term (drop (i + 1) ts)) split c.requires.used,
      ),
    )

pub give_back_terms-loop-i-preserved : goal.give_back_terms-loop-i-preserved
give_back_terms-loop-i-preserved t c =
    let ts = c.args.terms.now in
    let i = c.loop-i.i in
    let one = c.index-terms-i.result in
    gives_on c.args.self.now c.loop-i.self (gather in_term (take i ts)) (in_term one) c.loop-i.invariant c.give_back_term.new.self _ c.give_back_term.ensures.uses c.give_back_term.ensures.back
    (gather_next in_term ts i one c.loop-i-test.true c.index-terms-i.is)

pub give_back_terms-returns-clause-uses : goal.give_back_terms-returns-clause-uses
give_back_terms-returns-clause-uses t c = c.loop-i.invariant.uses

pub give_back_terms-returns-clause-back : goal.give_back_terms-returns-clause-back
give_back_terms-returns-clause-back t c =
    let ts = c.args.terms.now in
    let all = gather_all in_term ts c.loop-i.i c.loop-i-test.false ∙ sym (in_terms ts) in
    subst (λ l. GivesBack l (seen c.args.self.now) (seen c.loop-i.self)) all c.loop-i.invariant.gives
