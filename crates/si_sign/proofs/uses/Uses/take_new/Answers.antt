use Rattle.std.proofs.Common.{◌≡◌, ◌+◌, Some, None, refl, sym, ap, ◌∙◌}
use Rattle.slab.specs.Slab.{get}
use Rattle.si_defs.specs.Symbols.{Symbol}
use Rattle.si_term.specs.Terms.{symbol_of}
use Rattle.si_sign.specs.declared.uses.CountedSymbol.{CountedSymbol}
use Rattle.si_sign.specs.declared.uses.Uses.{Uses}
use Rattle.si_sign.proofs.ChangeLaws.{changed}
use Rattle.si_sign.proofs.StepLaws.{unmoved, admitted, first_use, takes_step, agrees_new}
use Rattle.si_sign.proofs.uses.Uses.take_new.Goals as goal

pub returns-in_err-reserve-clause-uses : goal.returns-in_err-reserve-clause-uses
returns-in_err-reserve-clause-uses c =
    let t = c.args.self.now in
    let v : Uses = record { keys = t.keys; slots = c.reserve.new.self; total = t.total; recent = tt } in
    unmoved t v c.requires.uses (record { hashed = λ x. refl; others = λ l x. refl }) (ap (λ r. r.slots) c.in_err-reserve.ensures.rest_kept) refl

pub returns-in_err-insert-clause-uses : goal.returns-in_err-insert-clause-uses
returns-in_err-insert-clause-uses c =
    let t = c.args.self.now in
    let v : Uses = record { keys = c.insert.new.self; slots = c.reserve.new.self; total = t.total; recent = tt } in
    unmoved t v c.requires.uses c.in_err-insert.ensures.err (ap (λ r. r.slots) c.in_ok-reserve.ensures.rest_kept) refl

pub returns-clause-uses : goal.returns-clause-uses
returns-clause-uses c =
    let t = c.args.self.now in
    let s : Symbol = symbol_of c.args.symbol.now in
    let key = c.vacant_key-key.result in
    let d : CountedSymbol = record { sym = c.in_ok-sym.sym; uses = 1 } in
    let v : Uses = record { keys = c.insert.new.self; slots = c.insert_reserved.new.self; total = t.total + 1; recent = tt } in
    let rest = c.in_ok-reserve.ensures.rest_kept in
    let key_is : c.insert_reserved.result ≡ key = c.insert_reserved.ensures.key ∙ ap (λ r. r.vacant_key) rest ∙ sym c.vacant_key-key.ensures.value in
    let is = ap symbol_of c.in_ok-sym.ensures in
    let here = ap (get v.slots) (sym key_is) ∙ c.insert_reserved.ensures.updates.changed in
    let change = admitted t v c.requires.uses s key d is refl c.requires.none c.vacant_key-key.ensures.vacant c.if-key-ge-MOST_USES.false c.in_ok-insert.ensures.ok here
    (λ j apart. c.insert_reserved.ensures.updates.others j (λ e. apart (e ∙ key_is)) ∙ ap (λ r. get r j) rest) refl c.requires.room in
    changed t v s.kind s.text key c.requires.uses change

pub returns-clause-ok : goal.returns-clause-ok
returns-clause-ok c =
    let t = c.args.self.now in
    let s : Symbol = symbol_of c.args.symbol.now in
    let key = c.vacant_key-key.result in
    let d : CountedSymbol = record { sym = c.in_ok-sym.sym; uses = 1 } in
    let v : Uses = record { keys = c.insert.new.self; slots = c.insert_reserved.new.self; total = t.total + 1; recent = tt } in
    let rest = c.in_ok-reserve.ensures.rest_kept in
    let key_is : c.insert_reserved.result ≡ key = c.insert_reserved.ensures.key ∙ ap (λ r. r.vacant_key) rest ∙ sym c.vacant_key-key.ensures.value in
    let is = ap symbol_of c.in_ok-sym.ensures in
    let here = ap (get v.slots) (sym key_is) ∙ c.insert_reserved.ensures.updates.changed in
    let change = admitted t v c.requires.uses s key d is refl c.requires.none c.vacant_key-key.ensures.vacant c.if-key-ge-MOST_USES.false c.in_ok-insert.ensures.ok here
    (λ j apart. c.insert_reserved.ensures.updates.others j (λ e. apart (e ∙ key_is)) ∙ ap (λ r. get r j) rest) refl c.requires.room in
    takes_step t v s key None (Some d) c.requires.uses change c.vacant_key-key.ensures.vacant here (first_use s d is refl) refl (agrees_new t c.requires.uses s c.requires.none)
