use Rattle.std.proofs.Common.{◌-◌, [], ◌∷◌, length, reverse, refl, sym, ◌∙◌, ap, subst, arith, length-append}
use Rattle.std.proofs.lemmas.List.{reverse-append}
use Rattle.std.proofs.lemmas.Result.{IfOk-weaker}
use Rattle.si_flat.proofs.Subterms.{some_cell}
use Rattle.si_form.specs.Classes.{AreTermsFrom}
use Rattle.si_form.proofs.CellNumbering.{row_begins, row_before, numbering_begins, numbering_more, numbering_ends}
use Rattle.si_form.proofs.classes.class_of.Goals as goal

pub loop-at-init : goal.loop-at-init
loop-at-init c = record {
  within = omega arith;
  some = some_cell c.args.cells.now c.requires.whole;
  row = row_begins c.args.cells.now _ _ (omega arith) (ap (λ l. length l) c.new-numbers.ensures.items);
  numbering = numbering_begins _ _ _ c.args.cells.now _ _ (omega arith) (ap reverse c.new-numbers.ensures.items);
}

pub number_of-requires-clause-enough : goal.number_of-requires-clause-enough
number_of-requires-clause-enough c =
    (row_before c.args.cells.now (c.loop-at.at - 1) c.loop-at.at _ _ c.requires.whole (omega (arith, c.loop-at-test.true)) (omega (arith, c.loop-at-test.true, c.loop-at.invariant.within)) refl c.loop-at.invariant.row).enough

pub loop-at-preserved : goal.loop-at-preserved
loop-at-preserved c = record {
  within = omega (arith, c.loop-at.invariant.within);
  some = omega (arith, c.loop-at-test.true);
  row =
      let before = row_before c.args.cells.now (c.loop-at.at - 1) c.loop-at.at _ _ c.requires.whole (omega (arith, c.loop-at-test.true)) (omega (arith, c.loop-at-test.true, c.loop-at.invariant.within)) refl c.loop-at.invariant.row in
      let longer = ap (λ l. length l) c.in_ok-push.ensures.items ∙ length-append c.number_of.new.numbers.items (c.in_ok-number.number ∷ []) in
      subst (AreTermsFrom c.args.cells.now (c.loop-at.at - 1)) (sym longer) (before.more (length c.number_of.new.numbers.items) c.in_ok-number.ensures.taken);
  numbering =
      numbering_more _ _ _ _ _ c.args.cells.now (c.loop-at.at - 1) c.loop-at.at _ _ _ _ _ (omega (arith, c.loop-at-test.true)) (omega (arith, c.loop-at-test.true, c.loop-at.invariant.within)) c.requires.range refl
      c.loop-at.invariant.numbering c.in_ok-number.ensures.numbered (ap reverse c.in_ok-push.ensures.items ∙ reverse-append c.number_of.new.numbers.items (c.in_ok-number.number ∷ []));
}

pub number_of-requires-2-clause-enough : goal.number_of-requires-2-clause-enough
number_of-requires-2-clause-enough c =
    (row_before c.args.cells.now 0 c.loop-at.at _ _ c.requires.whole (omega (arith, c.loop-at-test.false, c.loop-at.invariant.some)) (some_cell c.args.cells.now c.requires.whole) refl c.loop-at.invariant.row).enough

pub returns : goal.returns
returns c =
    IfOk-weaker c.number_of-2.result _ _ (λ n h. numbering_ends _ _ _ _ _ c.args.cells.now c.loop-at.at n _ _ _ (omega (arith, c.loop-at-test.false, c.loop-at.invariant.some)) (some_cell c.args.cells.now c.requires.whole) c.requires.range refl c.loop-at.invariant.numbering h) c.number_of-2.ensures.numbered
