use Rattle.std.proofs.Common.{sym, subst}
use Rattle.si_flat.specs.Cells.{Term}
use Rattle.si_legal.specs.Trees.{StandsIn}
use Rattle.si_legal.specs.StoredSets.{IsUnder}
use Rattle.si_held.specs.TwoTrees.{tree_for}
use Rattle.si_forest.specs.Kept.{trees_of}
use Rattle.si_forest.specs.Notes.{notes_of}
use Rattle.si_forest.proofs.PlaceLaws.{is_inside, noted_leaf}
use Rattle.si_forest.proofs.trees.Trees.leaf_of.Goals as goal

pub bounds-get-posting : goal.bounds-get-posting
bounds-get-posting c =
    is_inside (notes_of c.self.inside.notes) (trees_of c.self.inside) c.args.literal c.args.posting c.self.invariant.noted
    (subst (λ trees. (t : Term) × IsUnder (tree_for c.args.literal trees) t c.args.posting) (sym c.self.view_is) c.requires)
    c.get.result.now c.get.ensures

pub returns : goal.returns
returns c =
    subst (λ trees. (t : Term) × StandsIn (tree_for c.args.literal trees) c.leaf.result t c.args.posting) c.self.view_is
    (subst (λ n. (t : Term) × StandsIn (tree_for c.args.literal (trees_of c.self.inside)) n t c.args.posting) (sym c.leaf.ensures)
    (noted_leaf (notes_of c.self.inside.notes) (trees_of c.self.inside) c.args.literal c.args.posting c.self.invariant.noted
    (subst (λ trees. (t : Term) × IsUnder (tree_for c.args.literal trees) t c.args.posting) (sym c.self.view_is) c.requires)
    c.get.result.now c.get.ensures c.index-get-posting.result c.index-get-posting.is))
