use Rattle.std.proofs.Common.{◌≡◌, true, false, List, [], get_or, refl, sym, ◌∙◌, subst, arith}
use Rattle.std.proofs.lemmas.List.{take_all, take_more}
use Rattle.std.specs.List.{AllByRecursion}
use Rattle.std.specs.Borrow.{Bor}
use Rattle.si_defs.proofs.ListLaws.{all_append, all_get}
use Rattle.si_flat.specs.declared.Cell.{Cell}
use Rattle.si_flat.proofs.Subterms.{some_cell}
use Rattle.si_subsume.specs.Search.{Slices}
use Rattle.si_subsume.specs.Heads.{slice_head, HasTargetByHead}
use Rattle.si_subsume.proofs.Unequal.{term_read}
use Rattle.si_subsume.proofs.HeadLaws.{target_there, no_target}
use Rattle.si_subsume.proofs.search.each_has_target.Goals as goal

abbrev none : Bor (List Cell)
none = record { ref_ptr = (0, 0); now = [] }

abbrev Has : Slices → Bor (List Cell) → Type 0
Has targets literal = HasTargetByHead targets (slice_head literal)

pub bounds-literal-0 : goal.bounds-literal-0
bounds-literal-0 c = some_cell _ (term_read c.args.task.now.slots c.args.task.now.literals.now c.loop-i.i none c.requires.searchable.literals c.loop-i-test.true).whole

pub loop-i-preserved : goal.loop-i-preserved
loop-i-preserved c =
    let literals = c.args.task.now.literals.now in
    let targets = c.args.task.now.targets.now in
    let literal = get_or literals c.loop-i.i none in
    let has : HasTargetByHead targets (slice_head literal) = target_there targets (slice_head literal) (λ e. c.if-first-end.false (c.first.ensures ∙ c.requires.searchable.index.first _ ∙ e)) in
    subst (AllByRecursion (Has targets)) (sym (take_more literals c.loop-i.i none c.loop-i-test.true))
    (all_append (Has targets) _ _ c.loop-i.invariant (has, tt))

pub returns-then-first-end : goal.returns-then-first-end
returns-then-first-end c = (
  λ t. let bad : false ≡ true = t in cc,
  λ all.
      absurd
      (no_target c.args.task.now.targets.now _ (sym (c.requires.searchable.index.first _) ∙ sym c.first.ensures ∙ c.if-first-end.true)
      (all_get (Has c.args.task.now.targets.now) c.args.task.now.literals.now c.loop-i.i none all c.loop-i-test.true)),
)

pub returns : goal.returns
returns c = (
  λ t. subst (AllByRecursion (Has c.args.task.now.targets.now)) (take_all c.loop-i.i c.args.task.now.literals.now (omega (arith, c.loop-i-test.false))) c.loop-i.invariant,
  λ all. refl,
)
