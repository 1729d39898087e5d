use Rattle.std.proofs.Common.{◌∙◌, [], ◌∷◌, ◌++◌, subst}
use Rattle.si_defs.specs.Substitutions.{IsAmong}
use Rattle.si_flat.specs.Rows.{left_sides}
use Rattle.si_mscg.proofs.walk.Walk.leave.Goals as goal

pub push-requires-clause-new : goal.push-requires-clause-new
push-requires-clause-new c = λ a. c.requires.unbound (subst (IsAmong (left_sides c.args.self.now.split.rest_node)) c.left.ensures a)

pub push-requires-clause-whole : goal.push-requires-clause-whole
push-requires-clause-whole c = c.right.ensures.whole

pub push-requires-2-clause-new : goal.push-requires-2-clause-new
push-requires-2-clause-new c = λ a. c.requires.new_unbound (subst (IsAmong (left_sides c.args.self.now.split.rest_new)) c.left-2.ensures a)

pub push-requires-2-clause-whole : goal.push-requires-2-clause-whole
push-requires-2-clause-whole c = c.right-2.ensures.whole

pub returns : goal.returns
returns c =
    let old = c.args.self.now in
    λ i. record {
      draft = old.draft.items;
      common = old.split.common;
      node = (c.in_ok-push.ensures.ok ∙ (λ j. old.split.rest_node ++ (c.left.ensures j, c.right.ensures.cells j) ∷ [])) i;
      new = (c.in_ok-push-2.ensures.ok ∙ (λ j. old.split.rest_new ++ (c.left-2.ensures j, c.right-2.ensures.cells j) ∷ [])) i;
      next = old.next;
    }
