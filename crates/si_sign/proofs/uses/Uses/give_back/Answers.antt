use Rattle.std.proofs.Common.{◌≡◌, ◌-◌, ◌<◌, ◌≤◌, Some, None, refl, sym, ap, ◌∙◌, arith}
use Rattle.std.proofs.lemmas.Option.{same_Some}
use Rattle.si_defs.specs.Symbols.{Symbol}
use Rattle.si_term.specs.Terms.{symbol_of}
use Rattle.si_sign.specs.Uses.{key_in}
use Rattle.si_sign.specs.Uses.{seen}
use Rattle.si_sign.specs.declared.uses.CountedSymbol.{CountedSymbol}
use Rattle.si_sign.specs.declared.uses.Uses.{Uses}
use Rattle.si_sign.proofs.ChangeLaws.{changed}
use Rattle.si_sign.proofs.StepLaws.{used_slot, uses_total, slot_symbol, recounted, recounted_there, removed, another_use, first_use, gives_step}
use Rattle.si_sign.proofs.uses.Uses.give_back.Goals as goal

pub unreachable-requires : goal.unreachable-requires
unreachable-requires c =
    let t = c.args.self.now in
    let s : Symbol = symbol_of c.args.symbol.now in
    let u = used_slot t c.requires.uses s c.requires.used in
    let clash : None ≡ Some u.slot = sym c.in_default.is ∙ c.find.ensures ∙ u.known in
    cc

pub overflow_sub-self : goal.overflow_sub-self
overflow_sub-self c =
    let t = c.args.self.now in
    let s : Symbol = symbol_of c.args.symbol.now in
    omega (arith, uses_total (seen t) s, c.requires.used, c.requires.uses.counted)

pub returns-then-index-gt1-clause-uses : goal.returns-then-index-gt1-clause-uses
returns-then-index-gt1-clause-uses c =
    let t = c.args.self.now in
    let s : Symbol = symbol_of c.args.symbol.now in
    let key = c.in-Some.key in
    let known : key_in t s.kind s.text ≡ Some key = sym c.find.ensures ∙ c.in-Some.is in
    let w = c.index_mut.result.now in
    let there = c.index_mut.ensures.value in
    let d : CountedSymbol = record { sym = w.sym; uses = w.uses - 1 } in
    let same = ap (λ (x : CountedSymbol). x.uses) (same_Some c.index.result.now w (sym c.index.ensures ∙ there)) in
    let two : 1 < w.uses = omega (arith, same, c.if-index-gt1.true) in
    let positive : 1 ≤ t.total = omega (arith, uses_total (seen t) s, c.requires.used, c.requires.uses.counted) in
    let change = recounted t c.requires.uses s key w d (t.total - 1) known there refl (omega arith) (omega arith) (omega (arith, c.requires.uses.few)) in
    changed t _ s.kind s.text key c.requires.uses change

pub returns-then-index-gt1-clause-back : goal.returns-then-index-gt1-clause-back
returns-then-index-gt1-clause-back c =
    let t = c.args.self.now in
    let s : Symbol = symbol_of c.args.symbol.now in
    let key = c.in-Some.key in
    let known : key_in t s.kind s.text ≡ Some key = sym c.find.ensures ∙ c.in-Some.is in
    let w = c.index_mut.result.now in
    let there = c.index_mut.ensures.value in
    let d : CountedSymbol = record { sym = w.sym; uses = w.uses - 1 } in
    let same = ap (λ (x : CountedSymbol). x.uses) (same_Some c.index.result.now w (sym c.index.ensures ∙ there)) in
    let two : 1 < w.uses = omega (arith, same, c.if-index-gt1.true) in
    let positive : 1 ≤ t.total = omega (arith, uses_total (seen t) s, c.requires.used, c.requires.uses.counted) in
    let change = recounted t c.requires.uses s key w d (t.total - 1) known there refl (omega arith) (omega arith) (omega (arith, c.requires.uses.few)) in
    let is = slot_symbol t c.requires.uses s key w c.requires.used known there in
    gives_step t _ s key (Some w) (Some d) c.requires.uses change there (recounted_there t key w d (t.total - 1) there)
    (another_use s d w is is (omega arith)) (omega arith)

pub returns-clause-uses : goal.returns-clause-uses
returns-clause-uses c =
    let t = c.args.self.now in
    let s : Symbol = symbol_of c.args.symbol.now in
    let key = c.in-Some.key in
    let known : key_in t s.kind s.text ≡ Some key = sym c.find.ensures ∙ c.in-Some.is in
    let w = c.index.result.now in
    let there = c.index.ensures in
    let v : Uses = record { keys = c.remove.new.self; slots = c.remove-counted.new.self; total = t.total - 1; recent = tt } in
    let one : w.uses ≡ 1 = omega (arith, c.if-index-gt1.false, c.requires.uses.used key w there) in
    let positive : 1 ≤ t.total = omega (arith, uses_total (seen t) s, c.requires.used, c.requires.uses.counted) in
    let gone = c.remove-counted.ensures.updates.changed in
    let change = removed t v c.requires.uses s key w known there one c.remove.ensures gone c.remove-counted.ensures.updates.others (omega arith) in
    changed t v s.kind s.text key c.requires.uses change

pub returns-clause-back : goal.returns-clause-back
returns-clause-back c =
    let t = c.args.self.now in
    let s : Symbol = symbol_of c.args.symbol.now in
    let key = c.in-Some.key in
    let known : key_in t s.kind s.text ≡ Some key = sym c.find.ensures ∙ c.in-Some.is in
    let w = c.index.result.now in
    let there = c.index.ensures in
    let v : Uses = record { keys = c.remove.new.self; slots = c.remove-counted.new.self; total = t.total - 1; recent = tt } in
    let one : w.uses ≡ 1 = omega (arith, c.if-index-gt1.false, c.requires.uses.used key w there) in
    let positive : 1 ≤ t.total = omega (arith, uses_total (seen t) s, c.requires.used, c.requires.uses.counted) in
    let gone = c.remove-counted.ensures.updates.changed in
    let change = removed t v c.requires.uses s key w known there one c.remove.ensures gone c.remove-counted.ensures.updates.others (omega arith) in
    let is = slot_symbol t c.requires.uses s key w c.requires.used known there in
    gives_step t v s key (Some w) None c.requires.uses change there gone (first_use s w is one) (omega arith)
