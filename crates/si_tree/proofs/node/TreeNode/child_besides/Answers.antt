use Rattle.std.proofs.Common.{◌∷◌, [], length, sym, ◌∙◌, ap, subst}
use Rattle.std.specs.Prelude.{IsPermutation}
use Rattle.std.proofs.lemmas.List.Sorted.{length_permutation}
use Rattle.si_tree.specs.Reading.{children_of}
use Rattle.si_tree.proofs.node.TreeNode.child_besides.Goals as goal

pub besides-requires : goal.besides-requires
besides-requires c =
    let h = c.requires.1 in
    ap length (c.children.ensures ∙ ap children_of h.2) ∙ length_permutation (c.args.child ∷ c.requires.0 ∷ []) h.1 h.3

pub returns : goal.returns
returns c other h =
    c.besides.ensures other (subst (IsPermutation (c.args.child ∷ other ∷ [])) (sym (c.children.ensures ∙ ap children_of h.2)) h.3)
