use Rattle.std.proofs.Common.{◌∷◌, ◌++◌, [], ap, sym, ◌∙◌, subst}
use Rattle.si_defs.specs.Substitutions.{IsAmong, AreDistinct}
use Rattle.si_flat.specs.Rows.{left_sides, pairs_of}
use Rattle.si_flat.proofs.RowLaws.{row_pushed, pairs_pushed, lefts_pushed}
use Rattle.si_flat.proofs.bindings.Bindings.push.Goals as goal

pub invariant_of-self-2 : goal.invariant_of-self-2
invariant_of-self-2 c =
    let row = row_pushed c.self.inside.cells.items c.append_pair.new.cells.items c.args.right.now c.args.left c.self.invariant.0 c.requires.whole c.in_ok-append_pair.ensures.ok in
    let pairs = pairs_pushed c.self.inside.cells.items c.append_pair.new.cells.items c.args.right.now c.args.left c.self.invariant.0 c.requires.whole c.in_ok-append_pair.ensures.ok in (
      row,
      subst (λ l. AreDistinct (left_sides l)) (sym pairs) (lefts_pushed (pairs_of c.self.inside.cells.items) (c.args.left, c.args.right.now) c.self.invariant.1 (subst (λ l. IsAmong (left_sides l) c.args.left → ⊥) (sym c.self.view_is) c.requires.new)),
    )

pub returns-clause-ok : goal.returns-clause-ok
returns-clause-ok c =
    pairs_pushed c.self.inside.cells.items c.append_pair.new.cells.items c.args.right.now c.args.left c.self.invariant.0 c.requires.whole c.in_ok-append_pair.ensures.ok
    ∙ ap (λ l. l ++ (c.args.left, c.args.right.now) ∷ []) c.self.view_is
