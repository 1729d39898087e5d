use Rattle.std.proofs.Common.{sym, subst}
use Rattle.std.specs.List.{AllByRecursion}
use Rattle.si_defs.specs.Substitutions.{AreDistinct}
use Rattle.si_defs.proofs.ListLaws.{all_weaker}
use Rattle.si_term.specs.Meaning.{literal_of}
use Rattle.si_legal.specs.declared.Posting.{Posting}
use Rattle.si_keyed.specs.Keyed.{HasKey}
use Rattle.si_keyed.specs.Placed.{placed_items}
use Rattle.si_index.specs.Holding.{MarksAll}
use Rattle.si_index.proofs.HoldingLaws.{marks_spare}
use Rattle.si_index.proofs.SlotLaws.{is_placed}
use Rattle.si_index.proofs.holding.Holders.of.Goals as goal

pub marks_of-requires-clause-keyed : goal.marks_of-requires-clause-keyed
marks_of-requires-clause-keyed c =
    subst (AllByRecursion (λ (p : Posting). HasKey (placed_items c.args.places.now) p.clause)) (sym c.as_slice.ensures.value)
    (all_weaker _ (λ (p : Posting). HasKey (placed_items c.args.places.now) p.clause) c.in_ok-postings.postings.items (λ p a. is_placed c.args.index.now c.args.places.now p.clause c.requires.places a) c.in_ok-postings.ensures.keyed)

pub marks_of-requires-clause-distinct : goal.marks_of-requires-clause-distinct
marks_of-requires-clause-distinct c = subst AreDistinct (sym c.requires.places.keys) c.in_ok-postings.ensures.distinct

pub returns : goal.returns
returns c =
    marks_spare c.args.index.now c.args.places.now (literal_of c.args.literal.now) c.in_ok-postings.postings.items (record { marks = c.in_ok-marks.marks }) c.requires.places c.in_ok-postings.ensures.all
    (subst (λ ps. MarksAll c.args.places.now ps c.in_ok-marks.marks.items) c.as_slice.ensures.value c.in_ok-marks.ensures)
