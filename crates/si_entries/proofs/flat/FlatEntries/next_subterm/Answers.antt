use Rattle.std.proofs.Common.{◌+◌, ◌<◌, ◌∙◌, inl, inr, length, sym, ap, subst, arith, refl}
use Rattle.std.proofs.lemmas.Bool.{cases_lt}
use Rattle.si_flat.specs.Cells.{IsWhole}
use Rattle.si_entries.proofs.FlatLaws.{literal_ended, subterm_given}
use Rattle.si_entries.proofs.flat.FlatEntries.next_subterm.Goals as goal

pub next_symbol-at-requires : goal.next_symbol-at-requires
next_symbol-at-requires c = omega (arith, c.requires.1.1.terms_left.within, ap length c.cells-cells.ensures)

pub returns-then-at-cells : goal.returns-then-at-cells
returns-then-at-cells c numbers left h =
    let s = c.args.self.now in
    let same = c.cells-cells.ensures in
    literal_ended numbers s left h c.next_symbol-at.result
    (omega (arith, c.next_symbol-at.ensures.within, ap length same))
    (rw (sym same) c.next_symbol-at.ensures.symbol)
    s refl (c.if-at-cells.true ∙ ap length same)

pub sub-requires-clause-whole : goal.sub-requires-clause-whole
sub-requires-clause-whole c =
    let same = c.cells-cells.ensures in
    let some : 0 < length c.args.self.now.literal.cells =
    elim (cases_lt 0 (length c.args.self.now.literal.cells)) [
      | inl less ↦ less
      | inr none ↦ absurd (c.if-at-cells.false (omega (arith, none, c.next_symbol-at.ensures.within, ap length same)))
    ] in
    subst IsWhole (sym same) (c.requires.1.1.terms_left.whole some)

pub returns : goal.returns
returns c numbers left h =
    let s = c.args.self.now in
    let same = c.cells-cells.ensures in
    subterm_given numbers s left h c.next_symbol-at.result
    (omega (arith, c.next_symbol-at.ensures.within, ap length same))
    (rw (sym same) c.next_symbol-at.ensures.symbol)
    (record { literals = s.literals; literal = s.literal; at = c.next_symbol-at.result + 1; met = c.write_anew.new.met; cells = c.write_anew.new.cells })
    c.sub.result.now
    (λ end. c.if-at-cells.false (end ∙ ap length (sym same)))
    c.sub.ensures.whole
    (rw (sym same) c.sub.ensures.place)
    c.in_ok-write_anew.ensures refl refl refl
