use Rattle.std.proofs.Common.{◌++◌, ◌∷◌, [], ap, ◌∙◌}
use Rattle.si_defs.specs.Terms as terms
use Rattle.si_flat.specs.declared.Cell.TheVariants.{Query}
use Rattle.si_flat.specs.Cells.{query}
use Rattle.si_flat.proofs.FlatMadeWithGlobal.made_with.Goals as goal

pub invariant_of-result : goal.invariant_of-result
invariant_of-result c = (
  terms.var (query 0),
  record {
    cells_are = c.push_reserved.ensures.items ∙ ap (λ l. l ++ Query 0 ∷ []) c.new-cells.ensures.items;
    sound = tt;
  },
)
