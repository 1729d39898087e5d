use Rattle.std.proofs.Common.{map, get_or, refl, sym, subst}
use Rattle.std.proofs.lemmas.List.{drop_more, drop_all}
use Rattle.si_term.specs.Meaning.{literal_of}
use Rattle.si_index.specs.Subsuming.{IsMapIn, TriesSlots}
use Rattle.si_index.proofs.HoldingLaws.{passed_over}
use Rattle.si_index.proofs.subsuming.Comparison.try_slots.Goals as goal

pub loop-i-init : goal.loop-i-init
loop-i-init c =
    let maps = IsMapIn c.args.self.now.direction (map literal_of c.args.self.now.formula.now) in
    λ new h. subst (λ l. TriesSlots maps c.args.places.now c.args.slots.now l new) c.new-mappeds.ensures h

pub loop-i-preserved-then-rules_out : goal.loop-i-preserved-then-rules_out
loop-i-preserved-then-rules_out c =
    let maps = IsMapIn c.args.self.now.direction (map literal_of c.args.self.now.formula.now) in
    let i = c.loop-i.i in
    let out = passed_over maps c.args.places.now c.args.holders.now (get_or c.args.slots.now i 0) c.loop-i.mappeds c.requires.spares (c.rules_out.ensures.0 c.if-rules_out.true) in
    λ new rest.
    c.loop-i.invariant new
    (subst (λ qs. TriesSlots maps c.args.places.now qs c.loop-i.mappeds new) (sym (drop_more c.args.slots.now i 0 c.loop-i-test.true)) (c.loop-i.mappeds, out, rest))

pub loop-i-preserved : goal.loop-i-preserved
loop-i-preserved c =
    let maps = IsMapIn c.args.self.now.direction (map literal_of c.args.self.now.formula.now) in
    let slots = c.args.slots.now in
    let i = c.loop-i.i in
    let split = drop_more slots i 0 c.loop-i-test.true in
    λ new rest.
    c.loop-i.invariant new
    (subst (λ qs. TriesSlots maps c.args.places.now qs c.loop-i.mappeds new) (sym split) (c.try_slot.new.mappeds, c.in_ok-try_slot.ensures, rest))

pub returns : goal.returns
returns c =
    let maps = IsMapIn c.args.self.now.direction (map literal_of c.args.self.now.formula.now) in
    c.loop-i.invariant c.loop-i.mappeds
    (subst (λ qs. TriesSlots maps c.args.places.now qs c.loop-i.mappeds c.loop-i.mappeds) (sym (drop_all c.loop-i.i c.args.slots.now c.loop-i-test.false)) refl)
