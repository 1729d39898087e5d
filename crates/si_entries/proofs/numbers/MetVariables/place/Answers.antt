use Rattle.std.proofs.Common.{◌≡◌, ◌∙◌, ℕ, List, sym, subst}
use Rattle.si_entries.specs.Numbers.{AreAt}
use Rattle.si_entries.proofs.NumberLaws.{not_led, led_past, led_elsewhere, led_there}
use Rattle.si_entries.proofs.numbers.MetVariables.place.Goals as goal

-- the table and the list, as they were read
seen : (places ns places_seen ns_seen : List ℕ) → AreAt places 0 ns → places_seen ≡ places → ns_seen ≡ ns → AreAt places_seen 0 ns_seen
seen places ns places_seen ns_seen h table list = rw (table, list) h

pub returns-in_err-place : goal.returns-in_err-place
returns-in_err-place c =
    let h = subst (λ l. AreAt l 0 c.self.inside.met.items) (sym c.deref.ensures.value) c.self.invariant in
    let lacked = not_led c.deref.result.now c.self.inside.met.items c.args.variable h c.in_err-place.ensures.lookup.3 in
    rw (c.from_residual.ensures, sym c.self.view_is) lacked

pub returns-in_err-other : goal.returns-in_err-other
returns-in_err-other c =
    let h = seen c.self.inside.places.items c.self.inside.met.items c.deref.result.now c.deref-2.result.now c.self.invariant c.deref.ensures.value c.deref-2.ensures.value in
    let led = c.in_ok-place.ensures.lookup in
    let lacked = led_past c.deref.result.now c.deref-2.result.now c.args.variable h c.in_ok-place.field-0.now led.3.0 led.1 c.in_err-other.ensures.lookup.3 in
    rw (c.from_residual-in_err-other.ensures, sym c.self.view_is, sym c.deref-2.ensures.value) lacked

pub returns-then-other-variable : goal.returns-then-other-variable
returns-then-other-variable c =
    let h = seen c.self.inside.places.items c.self.inside.met.items c.deref.result.now c.deref-2.result.now c.self.invariant c.deref.ensures.value c.deref-2.ensures.value in
    let led = c.in_ok-place.ensures.lookup in
    let item = c.in_ok-other.ensures.lookup in
    let there = led_there c.deref.result.now c.deref-2.result.now c.args.variable h c.in_ok-place.field-0.now led.3.0 led.1 item.3.0 (sym c.if-other-variable.true ∙ item.3.1 c.args.variable) in
    rw (sym c.self.view_is, sym c.deref-2.ensures.value) there

pub returns : goal.returns
returns c =
    let h = seen c.self.inside.places.items c.self.inside.met.items c.deref.result.now c.deref-2.result.now c.self.invariant c.deref.ensures.value c.deref-2.ensures.value in
    let led = c.in_ok-place.ensures.lookup in
    let item = c.in_ok-other.ensures.lookup in
    let lacked = led_elsewhere c.deref.result.now c.deref-2.result.now c.args.variable h c.in_ok-place.field-0.now led.3.0 led.1 c.in_ok-other.field-0.now item.3.0 item.1 c.if-other-variable.false in
    rw (sym c.self.view_is, sym c.deref-2.ensures.value) lacked
