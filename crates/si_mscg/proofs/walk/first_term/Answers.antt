use Rattle.std.proofs.Common.{◌≡◌, length, take, sym, ap, ◌∙◌, arith, length-append}
use Rattle.std.specs.Prelude.{get_or}
use Rattle.std.proofs.Math.Seq.{take-append_seam}
use Rattle.si_defs.specs.Terms as terms
use Rattle.si_defs.proofs.TermLaws.{size_some}
use Rattle.si_flat.specs.declared.Cell.TheVariants as cell
use Rattle.si_flat.specs.Cells.{cells_of, span}
use Rattle.si_flat.proofs.Subterms.{length-cells_of, span-first}
use Rattle.si_mscg.proofs.walk.first_term.Goals as goal

pub bounds-cells-0 : goal.bounds-cells-0
bounds-cells-0 c = omega (arith, ap length c.requires.parts, length-append (cells_of c.requires.term) c.requires.rest, length-cells_of c.requires.term, size_some c.requires.term)

pub split_at-requires : goal.split_at-requires
split_at-requires c =
    let told : c.span.result ≡ terms.size c.requires.term = c.span.ensures ∙ ap (λ l. span (get_or l 0 (cell.App 0 0 0))) c.requires.parts ∙ span-first c.requires.term c.requires.rest (cell.App 0 0 0) in
    omega (arith, told, ap length c.requires.parts, length-append (cells_of c.requires.term) c.requires.rest, length-cells_of c.requires.term)

pub returns-clause-whole : goal.returns-clause-whole
returns-clause-whole c =
    let told : c.span.result ≡ length (cells_of c.requires.term) = c.span.ensures ∙ ap (λ l. span (get_or l 0 (cell.App 0 0 0))) c.requires.parts ∙ span-first c.requires.term c.requires.rest (cell.App 0 0 0) ∙ sym (length-cells_of c.requires.term) in (
      c.requires.term,
      record {
        cells_are = c.split_at.ensures.front ∙ (λ i. take (told i) (c.requires.parts i)) ∙ take-append_seam (cells_of c.requires.term) c.requires.rest;
        sound = c.requires.sound;
      },
    )
