use Rattle.std.proofs.Common.{◌≡◌, true, false, sym, ◌∙◌}
use Rattle.std.proofs.lemmas.Bool.{eq-eqb, eqb-true}
use Rattle.si_tree.proofs.BesidesLaws.{first_is, second_is}
use Rattle.si_tree.proofs.node.besides.Goals as goal

pub returns-then-eq : goal.returns-then-eq
returns-then-eq c other perm =
    c.index-children-1.is
    ∙ second_is c.args.children.now c.args.child other c.index-children-0.result _ c.requires (sym c.index-children-0.is ∙ eqb-true _ _ (sym c.eq.ensures ∙ c.if-eq.true)) perm

pub returns-else-eq : goal.returns-else-eq
returns-else-eq c other perm =
    c.index-children-0-else-eq.is
    ∙ first_is c.args.children.now c.args.child other c.index-children-0.result _ c.requires
    (λ e. differ (sym (eq-eqb _ _ (c.index-children-0.is ∙ e)) ∙ sym c.eq.ensures ∙ c.if-eq.false)) perm where
      differ : true ≡ false → ⊥
      differ e = cc
